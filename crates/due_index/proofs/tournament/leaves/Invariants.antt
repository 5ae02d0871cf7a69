use Rattle.std.proofs.Common.{◌≡◌, ℕ, ◌+◌, ◌*◌, ◌<◌, length, get_or}
use Rattle.due_index.specs.Tournament.{IsExact}
use Rattle.due_index.specs.declared.tournament.Node.{Node}
use Rattle.due_index.proofs.tournament.leaves.Given as goal

abbrev pub invariant-loop-i : goal.invariant-loop-i
invariant-loop-i l = record {
  size : length l.nodes.items ≡ 2 * l.half;
  leaves : (k : ℕ) (d : Node) → k < l.i → (get_or l.nodes.items (l.half + k) d).slot ≡ k;
  exact : (k : ℕ) (d : Node) → k < l.i → IsExact l.slots (get_or l.nodes.items (l.half + k) d);
}
