-- A keeper over a table of SQLite, as its callers see it.
use Rattle.std.specs.Prelude.{ℕ, Bool, true, false, List, Option, None, refl}
use Rattle.std.specs.Coded.{Coded, code_by, coded×, coded_bool, coded_list, coded_option, coded_ℕ}
use Rattle.sqlite_value.specs.Order.{Row}
use Rattle.sqlite_value.specs.contracts.row.Row.{the_row}
use Rattle.bill_keeper.specs.declared.places.Place.{Place}
use Rattle.bill_keeper.specs.declared.places.Place.TheVariants.{Handed, Own}

-- whether it was made over a connection that was handed in, the rows that it shows, and how often it failed
pub record KeeperView : Type 0 where
  pub is_over : Bool
  pub rows : Option (List Row)
  pub faults : ℕ

-- the code that tells two of these views apart
pub keeper_code : Coded KeeperView
keeper_code =
    code_by (Bool × (Option (List Row) × ℕ))
    (coded× coded_bool (coded× (coded_option (coded_list the_row.coded)) coded_ℕ))
    (λ v. (v.is_over, (v.rows, v.faults)))
    (λ p. record { is_over = p.0; rows = p.1.0; faults = p.1.1 })
    (λ _. refl)

-- the table is in a connection that was handed in
abbrev pub is_handed : {H O : Type 0} → Place H O → Bool
is_handed (Handed it) = true
is_handed (Own it) = false

-- the rows that a handed-in connection shows; a file of the keeper's own shows none
abbrev pub told_by : {H O : Type 0} → Place H O → (H → Option (List Row)) → Option (List Row)
told_by (Handed it) tell = tell it
told_by (Own it) tell = None
