use Rattle.std.proofs.Common.{◌≡◌, ◌≤◌, rules, arith, subst, refl, inr, ⊎_elim, List, ℕ, length}
use Rattle.std.proofs.lemmas.Bool.{false≢true}
use Rattle.disk_core.specs.Files.{Covers}
use Rattle.disk_core.proofs.Steps.{covers_at, none_covers}
use Rattle.disk_core.proofs.pending.Pending.is_pending.Goals as goal

pub returns-then-at-range : goal.returns-then-at-range
returns-then-at-range c =
    let covers = subst (λ (ranges : List (ℕ × ℕ)). Covers ranges c.args.at) c.deref-range-items.ensures.value
    (covers_at c.deref-range-items.result.now c.loop-range.range-index c.args.at (0, 0) c.loop-range-test.true c.if-range-at.true
    (omega (arith, c.if-range-at.true, c.if-at-range.true))) in
    (λ _. inr covers, λ _. refl)

pub returns : goal.returns
returns c =
    let count : c.len.result ≡ length c.args.self.now.synced.items = search rules in
    let all : length c.args.self.now.written.items ≤ c.loop-range.range-index = search rules in (
      λ no. absurd (false≢true no),
      λ pending. ⊎_elim (λ past. absurd (omega (arith, past, count, c.if-at-len.false)))
          (λ covers. absurd (none_covers c.args.self.now.written.items c.args.at (λ k lt. c.loop-range.invariant k (omega (arith, lt, all))) covers))
          pending,
    )
