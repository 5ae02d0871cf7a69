use Rattle.std.proofs.Common.{◌≡◌, ◌+◌, ◌-◌, ◌≤◌, ℕ, List, ◌++◌, take, drop, length, sym, ap, ◌∙◌, subst, arith, length-drop, take-append-drop}
use Rattle.std.proofs.lemmas.List.{length-take-le, take_all}
use Rattle.std.proofs.Math.Seq.{take-append-add}
use Rattle.std.proofs.KnownBytes.{Appends-trans}
use Rattle.std.specs.Io.KnownBytes.{Appends}
use Rattle.http_front.proofs.writer_replies.put_all.Goals as goal

take_parts : (d n : ℕ) (xs : List ℕ) → d ≤ length xs → take (d + n) xs ≡ take d xs ++ take n (drop d xs)
take_parts d n xs le =
    ap (take (d + n)) (sym (take-append-drop d xs)) ∙ ap (λ (k : ℕ). take (k + n) (take d xs ++ drop d xs)) (sym (length-take-le d xs le)) ∙ take-append-add (take d xs) (drop d xs) n

pub loop-done-preserved : goal.loop-done-preserved
loop-done-preserved g c =
    let d = c.loop-done.done in
    let n = c.in-Ok.count in
    let bytes = c.args.bytes.now in
    let contents = g.W.Write.contents in
    record {
      inside = omega (arith, c.loop-done.invariant.inside, c.in-Ok.ensures.bound, length-drop d bytes);
      said = subst (Appends (contents c.args.writer.now) (contents c.write_retrying.new.writer)) (sym (take_parts d n bytes c.loop-done.invariant.inside))
          (Appends-trans (contents c.args.writer.now) (contents c.loop-done.writer) (contents c.write_retrying.new.writer) (take d bytes) (take n (drop d bytes)) c.loop-done.invariant.said
          (subst (λ (t : List ℕ). Appends (contents c.loop-done.writer) (contents c.write_retrying.new.writer) (take n t))
          (take_all (length bytes - d) (drop d bytes) (omega (arith, length-drop d bytes)))
          c.in-Ok.ensures.bytes));
    }
