use Rattle.std.proofs.Common.{◌+◌, ◌<◌, ◌≤◌, ℕ, get_or}
use Rattle.disk_core.proofs.pending.Pending.is_pending.Given as goal

-- none of the ranges so far has the place
abbrev pub invariant-loop-range : goal.invariant-loop-range
invariant-loop-range l =
    (k : ℕ) → k < l.range-index → (get_or l.self.written.items k (0, 0)).0 ≤ l.at
    → l.at < (get_or l.self.written.items k (0, 0)).0 + (get_or l.self.written.items k (0, 0)).1 → ⊥
