use Rattle.std.proofs.Common.{ℕ, ◌≤◌, List, sym, subst, arith}
use Rattle.std.specs.List.{AllByRecursion}
use Rattle.std.specs.Map.Iter.{deref_pair}
use Rattle.std.proofs.lemmas.Map.Iter.{rest_more, rest_all}
use Rattle.uploads.specs.declared.part.Part.{Part}
use Rattle.bucket_account.proofs.dropping.first_put.Goals as goal

pub loop-part-preserved-then-ms : goal.loop-part-preserved-then-ms
loop-part-preserved-then-ms c =
    let more = rest_more deref_pair c.loop-part.part-iterator c.next.new.self c.next.result (c.in-Some.field-0-0, c.in-Some.part) c.in-Some.is c.next.ensures.steps in
    record {
      by = omega arith;
      left = λ x le rest. c.loop-part.invariant.left x (omega (arith, le)) (subst (λ (l : List (ℕ × Part)). AllByRecursion (λ (p : ℕ × Part). x ≤ p.1.put) l) (sym more) (le, rest));
    }

pub loop-part-preserved : goal.loop-part-preserved
loop-part-preserved c =
    let more = rest_more deref_pair c.loop-part.part-iterator c.next.new.self c.next.result (c.in-Some.field-0-0, c.in-Some.part) c.in-Some.is c.next.ensures.steps in
    record {
      by = omega arith;
      left = λ x le rest. c.loop-part.invariant.left x le (subst (λ (l : List (ℕ × Part)). AllByRecursion (λ (p : ℕ × Part). x ≤ p.1.put) l) (sym more) (omega (arith, le), rest));
    }

pub returns-clause-parts : goal.returns-clause-parts
returns-clause-parts c =
    let none = rest_all deref_pair c.loop-part.part-iterator c.next.new.self c.next.result c.in-None.is c.next.ensures.steps in
    c.loop-part.invariant.left c.loop-part.first (omega arith) (subst (λ (l : List (ℕ × Part)). AllByRecursion (λ (p : ℕ × Part). c.loop-part.first ≤ p.1.put) l) (sym none) tt)
