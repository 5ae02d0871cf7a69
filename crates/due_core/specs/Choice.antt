-- Which candidate comes first (S3 User Guide, "Examples of S3 Lifecycle configurations": conflicting lifecycle rules).
use Rattle.std.specs.Prelude.{◌≡◌, ℕ, Bool, List, [], ◌∷◌, map, Option, Some, None, option_map, Contains, All, false}
use Rattle.std.specs.declared.cmp.Ordering.{Ordering}
use Rattle.std.specs.Ordering.{nat_cmp, ordering_then, is_lt}
use Rattle.std.specs.List.{best_of}
use Rattle.std.specs.List.Sorted.{IsPermutation, IsSortedBy, IsStableBy}
use Rattle.office_base.specs.Maps.{bytes_cmp}
use Rattle.class_rules.specs.Classes.{rank_of}
use Rattle.due_core.specs.Buckets.{BucketRecord}
use Rattle.due_core.specs.Candidates.{candidates}
use Rattle.due_core.specs.declared.action.ActionKind.{ActionKind}
use Rattle.due_core.specs.declared.action.ActionKind.TheVariants.{Remove, Transition, Marker, Abort}
use Rattle.due_core.specs.declared.action.Action.{Action}
use Rattle.due_core.specs.declared.action.Candidate.{Candidate}

-- the place of a kind: permanent deletions first, then transitions, delete markers, and aborts last (own)
abbrev pub kind_place : ActionKind → ℕ
kind_place Remove = 0
kind_place (Transition to) = 1
kind_place Marker = 2
kind_place Abort = 3

-- the rank of the class to which an action moves; 0 for other kinds
abbrev pub coldness : ActionKind → ℕ
coldness (Transition to) = rank_of to
coldness kind = 0

-- the order of candidates: by moment; then kind; key; older version or lower upload number; colder class; place of the
-- rule (own: the whole order)
abbrev pub precedence : Candidate → Candidate → Ordering
precedence a b =
    ordering_then (nat_cmp a.action.since b.action.since)
    (ordering_then (nat_cmp (kind_place a.action.kind) (kind_place b.action.kind))
    (ordering_then (bytes_cmp a.action.key b.action.key)
    (ordering_then (nat_cmp a.age b.age)
    (ordering_then (nat_cmp (coldness b.action.kind) (coldness a.action.kind))
    (nat_cmp a.action.rule b.action.rule)))))

-- the first candidate is strictly before the second
abbrev pub comes_before : Candidate → Candidate → Bool
comes_before a b = is_lt (precedence a b)

-- the first item of a list by an order; none of an empty list
abbrev pub least : {X : Type 0} → (X → X → Bool) → List X → Option X
least before [] = None
least before (x ∷ xs) = Some (best_of before x xs)

-- the item is in the list, and none comes before it; no item means that the list is empty
abbrev pub IsLeast : {X : Type 0} → (X → X → Bool) → List X → Option X → Type 0
IsLeast before xs None = xs ≡ []
IsLeast {X} before xs (Some x) = Contains xs x × All (λ y. before y x ≡ false) xs

-- the action that the next run of a bucket's rules does at a moment; none if no action has come
unfoldable pub choice : BucketRecord → ℕ → Option Action
choice bucket t = option_map (λ candidate. candidate.action) (least comes_before (candidates bucket t))

-- the second list has the same candidates as the first, in order; two that are equal in the order stay as in the first
-- list
pub record IsInOrder (found ordered : List Candidate) : Type 0 where
  pub same : IsPermutation found ordered
  pub sorted : IsSortedBy comes_before ordered
  pub stable : IsStableBy comes_before found ordered

-- queue has the actions of the candidates, in their order
pub record IsQueue (found : List Candidate) (queue : List Action) : Type 0 where
  pub ordered : List Candidate
  pub in_order : IsInOrder found ordered
  pub actions : queue ≡ map (λ candidate. candidate.action) ordered
