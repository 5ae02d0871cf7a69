use Rattle.std.proofs.Common.{◌≡◌, ◌⊎◌, ◌<◌, ◌≤◌, List, ℕ, length}
use Rattle.http_text.specs.Pieces.{rest_text, Begins}
use Rattle.http_text.proofs.pieces.put_some.Given as goal

-- what is written and what is left are the whole; none was taken yet, or fewer are left
abbrev pub invariant-versions : goal.invariant-versions
invariant-versions l = record {
  text : (whole : List ℕ) → Begins l.initial.room l.initial.at 102_000 (rest_text l.initial.left) whole → Begins l.room l.at 127_000 (rest_text l.left) whole;
  fewer : ((l.at ≡ l.initial.at) × (l.left ≡ l.initial.left)) ⊎ (length l.left < length l.initial.left);
  within : length l.left ≤ length l.initial.left;
}

abbrev pub decreases-versions : goal.decreases-versions
decreases-versions l = length l.left
