-- What holds between any two steps, whatever thread makes them.
use Rattle.std.specs.Prelude.{◌≡◌, ◌≢◌, ◌⊎◌, ℕ, ◌+◌, ◌%◌, ◌^◌, ◌<◌, ◌≤◌, List, [], ◌∷◌, length, All, Contains, Option, Some, None, true}
use Rattle.std.specs.Prelude.{false}
use mathlib.Core.List.{IsPrefix}
use mathlib.Core.Option.{some, none}
use lib.ListN.{get_elem?}
use Rattle.atomic_table.specs.Table.{State}
use Rattle.turn_core.specs.declared.view.TurnCall.{TurnCall}
use Rattle.turn_core.specs.declared.view.Kept.{Kept}
use Rattle.turn_core.specs.declared.view.View.{View}
use Rattle.turn_core.specs.Calls.{calls_under}
use Rattle.turn_core.specs.Views.{all_shares, HasMade, Owns, Counted, StandsSince, numbers}

-- the sum of f over a list
abbrev pub sum_of : {V : Type 0} → (V → ℕ) → List V → ℕ
sum_of f [] = 0
sum_of f (x ∷ xs) = f x + sum_of f xs

-- how many tickets it is, 0 or 1
abbrev pub has : Option ℕ → ℕ
has None = 0
has (Some t) = 1

-- no number is in both lists
abbrev pub Disjoint : List ℕ → List ℕ → Type 0
Disjoint xs ys = All (λ x. All (λ y. x ≢ y) ys) xs

module _ {T A S : Type 0} where
  -- how many tickets the pass has
  abbrev pub out : View T A S → ℕ
  out v = has v.ticket

  -- the share of the pass
  abbrev pub share : View T A S → ℕ
  share v = v.share

  -- some pass has the ticket
  abbrev pub IsOut : List (View T A S) → ℕ → Type 0
  IsOut views t = (by : ℕ) × (v : View T A S) × (get_elem? views by ≡ some v) × (v.ticket ≡ Some t)

  -- under the pass's number, and the numbers that it met, the whole list has only the calls that the pass has seen;
  -- under numbers that it has not given out, the list has none
  pub record Named (log : List (TurnCall A S)) (v : View T A S) : Type 0 where
    pub stride : 0 < v.stride
    pub counted : Counted v
    pub own : calls_under v.number log ≡ v.made
    pub unused : (number : ℕ) → Owns v number → number ≢ v.number → calls_under number log ≡ []
    pub met : All (HasMade log) v.met

  -- some pass that is not spent knows the calls under the number
  abbrev pub IsKnown : List (View T A S) → ℕ → Type 0
  IsKnown views number =
      (by : ℕ) × (v : View T A S) × (get_elem? views by ≡ some v) × (0 < v.share) × Contains (numbers v) number

  -- no two passes have the same number; a number that was met is no pass's any more, and only one pass met it; each
  -- call of the whole list was made under a number that a pass has or met
  pub record Numbered (log : List (TurnCall A S)) (views : List (View T A S)) : Type 0 where
    pub named : (by : ℕ) (v : View T A S) → get_elem? views by ≡ some v → 0 < v.share → Named log v
    pub apart : (i j : ℕ) (v w : View T A S) (number : ℕ) → get_elem? views i ≡ some v → get_elem? views j ≡ some w
        → 0 < v.share → 0 < w.share → Owns v number → Owns w number → i ≡ j
    pub gone : (i j : ℕ) (v w : View T A S) → get_elem? views i ≡ some v → get_elem? views j ≡ some w → 0 < v.share
        → 0 < w.share → All (λ m. Owns w m.number → ⊥) v.met
    pub once : (i j : ℕ) (v w : View T A S) → i ≢ j → get_elem? views i ≡ some v → get_elem? views j ≡ some w
        → 0 < v.share → 0 < w.share → Disjoint (numbers v) (numbers w)
    pub known : All (λ c. IsKnown views c.by) log

module _ {T A S : Type 0} (stands : T → T → List (A × S) → Type 0) where
  -- what is true of each pass: its list begins the whole one, its ticket is among those that are out, and if it is
  -- served, its turn is now and it has seen all calls
  pub record Fits (opening : T) (log : List (TurnCall A S)) (drawn : ℕ) (v : View T A S) : Type 0 where
    pub same : 0 < v.share → v.opening ≡ Some opening
    pub prefix : IsPrefix v.seen log
    pub older : IsPrefix v.older v.seen
    pub in_turn : (t : ℕ) → v.ticket ≡ Some t → (length log ≤ t) × (t < drawn)
    pub first : v.served ≡ true → (v.ticket ≡ Some (length log)) × (v.seen ≡ log)
    pub whole : has v.ticket ≤ v.share

  -- the value is in the slot and stands for the whole list, and no pass is served
  abbrev pub AtHome : T → List (TurnCall A S) → State (Option (Kept T A S)) (View T A S) → Type 0
  AtHome first log s =
      (k : Kept T A S) × (s.homes ≡ some (Some k) ∷ []) × StandsSince stands (Some first) k.value log
      × ((by : ℕ) (v : View T A S) → get_elem? s.views by ≡ some v → v.served ≡ false)

  -- a pass that is served has taken the value out
  abbrev pub Away : State (Option (Kept T A S)) (View T A S) → Type 0
  Away s = (s.homes ≡ none ∷ []) × ((by : ℕ) × (v : View T A S) × (get_elem? s.views by ≡ some v) × (v.served ≡ true))

  -- the tickets that are out are the numbers from the one that is served up to, but not including, the next one to be
  -- drawn. Each is with one pass. The list has as many calls as tickets were served.
  pub record InTurn (first : T) (log : List (TurnCall A S)) (drawn : ℕ) (s : State (Option (Kept T A S)) (View T A S))
      : Type 0 where
    pub words : s.words ≡ (drawn % 2 ^ 64) ∷ (length log % 2 ^ 64) ∷ []
    pub each : (by : ℕ) (v : View T A S) → get_elem? s.views by ≡ some v → Fits first log drawn v
    pub alone : (i j : ℕ) (v w : View T A S) (t : ℕ) → get_elem? s.views i ≡ some v → get_elem? s.views j ≡ some w
        → v.ticket ≡ Some t → w.ticket ≡ Some t → i ≡ j
    pub held : (t : ℕ) → length log ≤ t → t < drawn → IsOut s.views t
    pub tickets : sum_of out s.views + length log ≡ drawn
    pub shares : sum_of share s.views ≡ all_shares
    pub place : AtHome first log s ⊎ Away s
    -- some pass that is not spent has seen all
    pub whole : (by : ℕ) × (v : View T A S) × (get_elem? s.views by ≡ some v) × (0 < v.share) × (v.seen ≡ log)

  -- there is one list of calls, under which the passes are in turn and have their numbers
  abbrev pub OneList : T → State (Option (Kept T A S)) (View T A S) → Type 0
  OneList first s = (log : List (TurnCall A S)) × (drawn : ℕ) × InTurn first log drawn s × Numbered log s.views
