-- What the pass that makes a step knows after it, for each kind of step.
use Rattle.std.specs.Prelude.{◌≡◌, ◌≢◌, ℕ, ◌%◌, ◌^◌, List, [], ◌∷◌, ◌++◌, Option, Some, None, true, false}
use mathlib.Core.List.{IsPrefix}
use Rattle.atomic_table.specs.Table.{Me, Step}
use Rattle.turn_core.specs.declared.view.LastCall.{LastCall}
use Rattle.turn_core.specs.declared.view.Kept.{Kept}
use Rattle.turn_core.specs.declared.view.View.{View}
use Rattle.turn_core.specs.Views.{Counted, IsWhole, StandsSince, all_shares, next_call}

-- what a pass knows, and the slot if it has taken it
abbrev pub Place : Type 0 → Type 0 → Type 0 → Type 0
Place T A S = Me (Option (Kept T A S)) (View T A S)

module _ {T A S : Type 0} where
  -- draw: the pass has the ticket whose number was found
  abbrev pub Draws : Step (Option (Kept T A S)) → Place T A S → ℕ → Place T A S → Type 0
  Draws st m found m' = (t : ℕ) × (found ≡ t % 2 ^ 64) × (m'.0 ≡ record m.0 { ticket = Some t }) × (m'.1 ≡ m.1)

  -- after its call the pass has seen it, and is at rest
  abbrev pub moved : View T A S → LastCall A S → View T A S
  moved v d =
      let call = next_call v d.ask.value d.say.value in
      record v { seen = v.seen ++ call ∷ []; made = v.made ++ call ∷ []; ticket = None; served = false }

  -- the call is the last one of the list, the value was given back, and the calls under the pass's numbers are those
  -- that were made
  abbrev pub Moved : Place T A S → LastCall A S → Place T A S → Type 0
  Moved m d m' = (m' ≡ (moved m.0 d, [])) × Counted m'.0

  -- move: the call that the slot records is the last one of the list, and the value is given back
  abbrev pub GivesBack : Step (Option (Kept T A S)) → Place T A S → ℕ → Place T A S → Type 0
  GivesBack st m found m' =
      (k : Kept T A S) (d : LastCall A S) → m.1 ≡ (0, Some k) ∷ [] → k.last ≡ Some d → Moved m d m'

  -- nothing changed. The shorter of the lists of a meeting begins the longer. The calls under the pass's numbers are
  -- those that were made. If the pass has every share, it knows all calls.
  abbrev pub Learned : Place T A S → Place T A S → Type 0
  Learned m m' = IsPrefix m.0.older m.0.seen × Counted m.0 × (m.0.share ≡ all_shares → IsWhole m.0) × (m' ≡ m)

  -- look after a split or a meeting
  abbrev pub Learns : Step (Option (Kept T A S)) → Place T A S → ℕ → Place T A S → Type 0
  Learns st m found m' = Learned m m'

module _ {T A S : Type 0} (stands : T → T → List (A × S) → Type 0) where
  -- the pass is served: it has taken the value, which stands for a list, and has seen all calls
  abbrev pub Served : Place T A S → Place T A S → Type 0
  Served m m' =
      (k : Kept T A S) × (m'.1 ≡ (0, Some k) ∷ []) × StandsSince stands m.0.opening k.value m'.0.seen
      × IsPrefix m.0.seen m'.0.seen
      × (m'.0 ≡ record m.0 { seen = m'.0.seen; served = true })

  -- look: if the number found is that of the pass's ticket, the pass is served; else nothing changed
  abbrev pub Looks : Step (Option (Kept T A S)) → Place T A S → ℕ → Place T A S → Type 0
  Looks st m found m' =
      (t : ℕ) → m.0.ticket ≡ Some t → (found ≡ t % 2 ^ 64 → Served m m') × (found ≢ t % 2 ^ 64 → m' ≡ m)
