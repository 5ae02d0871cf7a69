use Rattle.std.proofs.Common.{◌≡◌, ℕ, ◌+◌, ◌≤◌, List, length, take, drop, get_or, sym, ◌∙◌, ap, arith}
use Rattle.std.specs.Int.{w64, from_be_bytes}
use Rattle.slots.proofs.Texts.{front_number, front_gate, long, size_is, holds_from}
use Rattle.slots.proofs.heads.head_in.Goals as goal

pub returns-then-end-size : goal.returns-then-end-size
returns-then-end-size c file end front position body holds =
    let size : from_be_bytes w64 (take 8 (drop 9 file)) ≡ c.number_in-size.result =
    sym (c.number_in-size.ensures.number ∙ ap (λ (l : List ℕ). from_be_bytes w64 (take 8 (drop 9 l))) front ∙ ap (from_be_bytes w64) (front_number 9 8 file (omega arith))) in
    omega (arith, c.if-end-size.true, c.requires, end, long holds, sym (size_is holds) ∙ size)

pub returns : goal.returns
returns c file end front =
    let size = c.number_in-size.result in
    let fits : 17 + size ≤ length file = omega (arith, c.if-end-size.false, c.requires, end) in (
      fits,
      holds_from c.number_in.result size file
          (sym (front_gate file) ∙ ap (λ (l : List ℕ). get_or l 0 0) (sym front) ∙ c.if-front-ne-OPEN.false)
          (c.number_in.ensures.bytes ∙ ap (λ (l : List ℕ). take 8 (drop 1 l)) front ∙ front_number 1 8 file (omega arith))
          (c.number_in-size.ensures.bytes ∙ ap (λ (l : List ℕ). take 8 (drop 9 l)) front ∙ front_number 9 8 file (omega arith))
          fits c.number_in.type_inv c.number_in-size.type_inv,
    )
