-- What a pass knows: at the beginning, after a turn, after a split and after a meeting.
use Rattle.std.specs.Prelude.{◌≡◌, ◌≢◌, ℕ, ◌+◌, ◌*◌, ◌-◌, ◌<◌, List, [], ◌∷◌, ◌++◌, length, map, All, AllPairs, Contains, Option, Some}
use Rattle.std.specs.Prelude.{None, false}
use mathlib.Core.List.{IsPrefix}
use Rattle.atomic_table.specs.Table.{Me}
use Rattle.turn_core.specs.declared.view.TurnCall.{TurnCall}
use Rattle.turn_core.specs.declared.view.Kept.{Kept}
use Rattle.turn_core.specs.declared.view.Met.{Met}
use Rattle.turn_core.specs.declared.view.View.{View}
use Rattle.turn_core.specs.Calls.{plain, calls_under, longer, shorter}

-- the shares of all passes together
abbrev pub all_shares : ℕ
all_shares = 4_294_967_295

module _ {A S : Type 0} where
  -- the list has under this number the calls that were made under it, each once and in order
  abbrev pub HasMade : List (TurnCall A S) → Met A S → Type 0
  HasMade list m = calls_under m.number list ≡ m.made

module _ {T A S : Type 0} where
  -- the first pass, which may give out every number
  abbrev pub newcomer : T → View T A S
  newcomer first =
      record {
        opening = Some first;
        number = 0;
        stride = 1;
        seen = [];
        older = [];
        made = [];
        met = [];
        share = all_shares;
        ticket = None;
        served = false;
      }

  -- what is left of a pass that another took in
  abbrev pub spent : View T A S
  spent = record {
    opening = None;
    number = 0;
    stride = 0;
    seen = [];
    older = [];
    made = [];
    met = [];
    share = 0;
    ticket = None;
    served = false;
  }

  -- a pass that split another off: it has one share less, and every second number of its own is the other's
  abbrev pub left : View T A S → View T A S
  left v = record v { stride = 2 * v.stride; share = v.share - 1 }

  -- the pass that was split off: it has seen as much, and made and met nothing
  abbrev pub right : View T A S → View T A S
  right v = record v { number = v.number + v.stride; stride = 2 * v.stride; made = []; met = []; share = 1 }

  -- a pass that met another
  abbrev pub both : View T A S → View T A S → View T A S
  both v w =
      record v {
        seen = longer v.seen w.seen;
        older = shorter v.seen w.seen;
        met = v.met ++ record { number = w.number; made = w.made } ∷ w.met;
        share = v.share + w.share;
      }

  -- the numbers that a pass has and may give out: its own, and further ones in steps of its stride
  abbrev pub Owns : View T A S → ℕ → Type 0
  Owns v number = (k : ℕ) × (number ≡ v.number + k * v.stride)

  -- the numbers under which the pass knows all calls: its own, and those that it met
  abbrev pub numbers : View T A S → List ℕ
  numbers v = v.number ∷ map (λ m. m.number) v.met

  -- the call that the pass makes now
  abbrev pub next_call : View T A S → A → S → TurnCall A S
  next_call v ask say = record { by = v.number; nth = length v.made; ask = ask; say = say }

  -- the calls in the list under the pass's number are those that it made, and under each number that it met
  -- those that were made under that one, each once and in order; no two of these numbers are the same
  pub record Counted (v : View T A S) : Type 0 where
    pub own : calls_under v.number v.seen ≡ v.made
    pub met : All (HasMade v.seen) v.met
    pub distinct : AllPairs (λ x y. x ≢ y) (numbers v)

  -- each call of the list was made under one of the numbers whose calls the pass knows
  abbrev pub IsWhole : View T A S → Type 0
  IsWhole v = All (λ c. Contains (numbers v) c.by) v.seen

  -- v made this call, and is then w: its list begins with what it had seen and ends with the call
  pub record Called (v : View T A S) (ask : A) (say : S) (w : View T A S) : Type 0 where
    pub list : (between : List (TurnCall A S)) × (w.seen ≡ v.seen ++ between ++ next_call v ask say ∷ [])
    pub made : w.made ≡ v.made ++ next_call v ask say ∷ []
    pub others : w ≡ record v { seen = w.seen; made = w.made }

  -- v has met w, and is then u: it has the longer of both lists, which begins with the shorter
  pub record Joined (v w u : View T A S) : Type 0 where
    pub both : u ≡ both v w
    pub begins : IsPrefix v.seen u.seen
    pub begins_too : IsPrefix w.seen u.seen

  -- between two calls: no slot, no ticket, not served, and not spent
  abbrev pub AtRest : Me (Option (Kept T A S)) (View T A S) → Type 0
  AtRest m = (m.1 ≡ []) × (m.0.ticket ≡ None) × (m.0.served ≡ false) × (0 < m.0.share)

module _ {T A S : Type 0} (stands : T → T → List (A × S) → Type 0) where
  -- there was an opening, and since then the value stands for these calls
  abbrev pub StandsSince : Option T → T → List (TurnCall A S) → Type 0
  StandsSince opening value calls = (first : T) × (opening ≡ Some first) × stands first value (plain calls)

module _ {T A S : Type 0} (lawful : T → List (A × S) → Type 0) where
  -- there was an opening, and the calls that the pass has seen are lawful for it
  abbrev pub IsLawful : View T A S → Type 0
  IsLawful v = (first : T) × (v.opening ≡ Some first) × lawful first (plain v.seen)
