use Rattle.std.proofs.Common.{ℕ, ◌≤◌}
use Rattle.std.specs.List.{AllByRecursion}
use Rattle.uploads.specs.declared.part.Part.{Part}
use Rattle.bucket_account.proofs.dropping.first_put.Given as goal

abbrev pub invariant-loop-part : goal.invariant-loop-part
invariant-loop-part l = record {
  by : l.first ≤ l.fn.at;
  left : (x : ℕ) → x ≤ l.first → AllByRecursion (λ (p : ℕ × Part). x ≤ p.1.put) l.part-iterator → AllByRecursion (λ (p : ℕ × Part). x ≤ p.1.put) l.upload.parts;
}
