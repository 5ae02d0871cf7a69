-- A tournament over slots: a complete tree in which each node has the first action of the slots below it.
use Rattle.std.specs.Prelude.{◌≡◌, ℕ, ◌+◌, ◌-◌, ◌*◌, ◌/◌, ◌^◌, ◌<◌, ◌≤◌, Bool, true, false, zero, suc, List, length, Option, Some, None, slice_index_or}
use Rattle.due_core.specs.Choice.{comes_before, kind_place}
use Rattle.due_core.specs.declared.action.Candidate.{Candidate}
use Rattle.due_index.specs.Queue.{slot_at}
use Rattle.due_index.specs.declared.tournament.Node.{Node}

-- the moment and the kind of a slot's action, as one number; an empty slot has the greatest number
abbrev pub order_of : Option Candidate → ℕ
order_of None = 2 ^ 64 - 1
order_of (Some candidate) = candidate.action.since * 4 + kind_place candidate.action.kind

-- the first slot's action comes before the second's; an empty slot comes after all others
abbrev pub is_sooner : Option Candidate → Option Candidate → Bool
is_sooner None other = false
is_sooner (Some candidate) None = true
is_sooner (Some candidate) (Some other) = comes_before candidate other

-- the content of a node's slot
abbrev pub won_by : List (Option Candidate) → Node → Option Candidate
won_by slots node = slot_at node.slot slots

-- the node has the order of the content of its slot
abbrev pub IsExact : List (Option Candidate) → Node → Type 0
IsExact slots node = node.order ≡ order_of (won_by slots node)

-- the other node's action does not come before this one's
abbrev pub IsNotAfter : List (Option Candidate) → Node → Node → Type 0
IsNotAfter slots node other = is_sooner (won_by slots other) (won_by slots node) ≡ false

-- the action of node i is the first of those of the nodes 2 i and 2 i + 1
abbrev pub IsWinner : List (Option Candidate) → List Node → ℕ → Type 0
IsWinner slots nodes i = (d : Node) → IsNotAfter slots (slice_index_or nodes i d) (slice_index_or nodes (2 * i) d)
    × IsNotAfter slots (slice_index_or nodes i d) (slice_index_or nodes (2 * i + 1) d)

-- the node that is this many levels above node i
abbrev pub halved : ℕ → ℕ → ℕ
halved zero i = i
halved (suc m) i = halved m (i / 2)

-- node k is node i, or is above it
abbrev pub IsOnPath : ℕ → ℕ → Type 0
IsOnPath k i = (m : ℕ) × (k ≡ halved m i)

-- the nodes are the tournament of the slots. Half of them are leaves: one for each slot, and spare ones. The root is
-- node 1.
pub record IsTournament (slots : List (Option Candidate)) (nodes : List Node) : Type 0 where
  pub half : ℕ
  pub size : length nodes ≡ 2 * half
  pub fits : length slots ≤ half
  pub leaves : (i : ℕ) (d : Node) → i < half → (slice_index_or nodes (half + i) d).slot ≡ i
  pub exact : (i : ℕ) (d : Node) → 1 ≤ i → i < 2 * half → IsExact slots (slice_index_or nodes i d)
  pub winners : (i : ℕ) → 1 ≤ i → i < half → IsWinner slots nodes i
  pub below : (i : ℕ) (d : Node) → 1 ≤ i → i < 2 * half → IsOnPath i (half + (slice_index_or nodes i d).slot)

-- the same, except for this node and the nodes above it
pub record IsTournamentOff (slots : List (Option Candidate)) (nodes : List Node) (at : ℕ) : Type 0 where
  pub half : ℕ
  pub size : length nodes ≡ 2 * half
  pub fits : length slots ≤ half
  pub leaves : (i : ℕ) (d : Node) → i < half → (slice_index_or nodes (half + i) d).slot ≡ i
  pub exact : (i : ℕ) (d : Node) → 1 ≤ i → i < 2 * half → (IsOnPath i at → ⊥) → IsExact slots (slice_index_or nodes i d)
  pub winners : (i : ℕ) → 1 ≤ i → i < half → (IsOnPath i at → ⊥) → IsWinner slots nodes i
  pub below : (i : ℕ) (d : Node) → 1 ≤ i → i < 2 * half → IsOnPath i (half + (slice_index_or nodes i d).slot)

-- half of the nodes are leaves: one for each slot, and spare ones
pub record HasLeaves (slots : List (Option Candidate)) (nodes : List Node) (half : ℕ) : Type 0 where
  pub size : length nodes ≡ 2 * half
  pub leaves : (i : ℕ) (d : Node) → i < half → (slice_index_or nodes (half + i) d).slot ≡ i
  pub exact : (i : ℕ) (d : Node) → i < half → IsExact slots (slice_index_or nodes (half + i) d)
