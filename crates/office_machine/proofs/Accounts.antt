-- Accounts in memory and the plain office's side by side.
use Rattle.std.proofs.Common.{◌≡◌, ℕ, suc, List, [], ◌∷◌, length, refl, ap, sym, ◌∙◌, Bool, true, false, cond, subst}
use Rattle.std.specs.Prelude.{Option, Some, None}
use Rattle.std.specs.declared.cmp.Ordering.{Ordering}
use Rattle.std.specs.declared.cmp.Ordering.TheVariants.{Less, Equal, Greater}
use Rattle.std.specs.Ordering.{match_ordering}
use Rattle.std.specs.Map.{set_value}
use Rattle.std.specs.BTreeMap.{is_at}
use Rattle.std.proofs.lemmas.Map.Steps.{set_value_same}
use Rattle.office_base.specs.Maps.{bytes_cmp, at_name, with_name, Rises}
use Rattle.plain_office.specs.Office.{Account}
use Rattle.bucket_account.specs.Counting.{AccountRecord}
use Rattle.bucket_account.specs.Standing.{StandsForAccount}
use Rattle.bucket_account.proofs.SetAt.{set_is_with}
use Rattle.office_machine.specs.Standing.{StandsForEntry, StandForAccounts}

-- ---- side by side

abbrev pub StandsForOption : Option AccountRecord → Option Account → Type 0
StandsForOption None None = Unit {0}
StandsForOption None (Some account) = ⊥
StandsForOption (Some records) None = ⊥
StandsForOption (Some records) (Some account) = StandsForAccount records account

pub stand_length : (buckets : List (List ℕ × AccountRecord)) (accounts : List (List ℕ × Account)) → StandForAccounts buckets accounts → length buckets ≡ length accounts
stand_length [] [] h = refl
stand_length [] (account ∷ accounts) h = absurd h
stand_length (records ∷ buckets) [] h = absurd h
stand_length (records ∷ buckets) (account ∷ accounts) h = ap (λ (n : ℕ). suc n) (stand_length buckets accounts h.1)

module _ (name : List ℕ) where
  stand_pick : (here : Bool) (records : AccountRecord) (account : Account) (o : Option AccountRecord) (p : Option Account) → StandsForAccount records account → StandsForOption o p
      → StandsForOption (cond here (Some records) o) (cond here (Some account) p)
  stand_pick true records account o p h more = h
  stand_pick false records account o p h more = more

  -- what stands under a name
  pub stand_at : (buckets : List (List ℕ × AccountRecord)) (accounts : List (List ℕ × Account)) → StandForAccounts buckets accounts → StandsForOption (at_name name buckets) (at_name name accounts)
  stand_at [] [] h = tt
  stand_at [] (account ∷ accounts) h = absurd h
  stand_at (records ∷ buckets) [] h = absurd h
  stand_at (records ∷ buckets) (account ∷ accounts) h =
      subst (λ (n : List ℕ). StandsForOption (cond (is_at (bytes_cmp name) n) (Some records.1) (at_name name buckets)) (at_name name (account ∷ accounts))) (sym h.0.name)
      (stand_pick (is_at (bytes_cmp name) account.0) records.1 account.1 (at_name name buckets) (at_name name accounts) h.0.account (stand_at buckets accounts h.1))

  module _ (written : AccountRecord) (plain : Account) (same : StandsForAccount written plain) where
    with_pick : (o : Ordering) (records : List ℕ × AccountRecord) (account : List ℕ × Account)
        (buckets rest : List (List ℕ × AccountRecord)) (accounts others : List (List ℕ × Account))
        → StandsForEntry records account → StandForAccounts buckets accounts → StandForAccounts rest others
        → StandForAccounts
        (match_ordering o ((name, written) ∷ records ∷ buckets) ((records.0, written) ∷ buckets) (records ∷ rest))
        (match_ordering o ((name, plain) ∷ account ∷ accounts) ((account.0, plain) ∷ accounts) (account ∷ others))
    with_pick Less records account buckets rest accounts others h all more = (record { name = refl; account = same }, (h, all))
    with_pick Equal records account buckets rest accounts others h all more = (record { name = h.name; account = same }, all)
    with_pick Greater records account buckets rest accounts others h all more = (h, more)

    -- one written under a name on both sides
    pub stand_with : (buckets : List (List ℕ × AccountRecord)) (accounts : List (List ℕ × Account))
        → StandForAccounts buckets accounts
        → StandForAccounts (with_name name written buckets) (with_name name plain accounts)
    stand_with [] [] h = (record { name = refl; account = same }, tt)
    stand_with [] (account ∷ accounts) h = absurd h
    stand_with (records ∷ buckets) [] h = absurd h
    stand_with (records ∷ buckets) (account ∷ accounts) h =
        subst (λ (n : List ℕ). StandForAccounts (match_ordering (bytes_cmp name n) ((name, written) ∷ records ∷ buckets)
        ((records.0, written) ∷ buckets) (records ∷ with_name name written buckets))
        (with_name name plain (account ∷ accounts))) (sym h.0.name)
        (with_pick (bytes_cmp name account.0) records account buckets (with_name name written buckets) accounts (with_name name plain accounts) h.0 h.1 (stand_with buckets accounts h.1))

    set_pick : (here : Bool) (records : List ℕ × AccountRecord) (account : List ℕ × Account)
        (buckets rest : List (List ℕ × AccountRecord)) (accounts others : List (List ℕ × Account))
        → StandsForEntry records account → StandForAccounts buckets accounts → StandForAccounts rest others
        → StandForAccounts (cond here ((records.0, written) ∷ buckets) (records ∷ rest)) (cond here ((account.0, plain) ∷ accounts) (account ∷ others))
    set_pick true records account buckets rest accounts others h all more = (record { name = h.name; account = same }, all)
    set_pick false records account buckets rest accounts others h all more = (h, more)

    stand_places : (buckets : List (List ℕ × AccountRecord)) (accounts : List (List ℕ × Account))
        → StandForAccounts buckets accounts
        → StandForAccounts (set_value (is_at (bytes_cmp name)) buckets written)
        (set_value (is_at (bytes_cmp name)) accounts plain)
    stand_places [] [] h = tt
    stand_places [] (account ∷ accounts) h = absurd h
    stand_places (records ∷ buckets) [] h = absurd h
    stand_places (records ∷ buckets) (account ∷ accounts) h =
        subst (λ (n : List ℕ). StandForAccounts (cond (is_at (bytes_cmp name) n) ((records.0, written) ∷ buckets)
        (records ∷ set_value (is_at (bytes_cmp name)) buckets written))
        (set_value (is_at (bytes_cmp name)) (account ∷ accounts) plain)) (sym h.0.name)
        (set_pick (is_at (bytes_cmp name) account.0) records account buckets
        (set_value (is_at (bytes_cmp name)) buckets written) accounts
        (set_value (is_at (bytes_cmp name)) accounts plain) h.0 h.1 (stand_places buckets accounts h.1))

    -- one set in its place, and written under the name that is there
    pub stand_set : (buckets : List (List ℕ × AccountRecord)) (accounts : List (List ℕ × Account)) (old : Account)
        → StandForAccounts buckets accounts → Rises bytes_cmp accounts → at_name name accounts ≡ Some old
        → StandForAccounts (set_value (is_at (bytes_cmp name)) buckets written) (with_name name plain accounts)
    stand_set buckets accounts old h rises is =
        subst (λ (l : List (List ℕ × Account)). StandForAccounts (set_value (is_at (bytes_cmp name)) buckets written) l)
        (set_is_with name plain old accounts rises is) (stand_places buckets accounts h)

    -- one set in its place that stands for what is there
    pub stand_one : (buckets : List (List ℕ × AccountRecord)) (accounts : List (List ℕ × Account)) → StandForAccounts buckets accounts → Rises bytes_cmp accounts → at_name name accounts ≡ Some plain
        → StandForAccounts (set_value (is_at (bytes_cmp name)) buckets written) accounts
    stand_one buckets accounts h rises is =
        subst (λ (l : List (List ℕ × Account)). StandForAccounts (set_value (is_at (bytes_cmp name)) buckets written) l)
        (sym (set_is_with name plain plain accounts rises is) ∙ set_value_same (is_at (bytes_cmp name)) accounts plain is)
        (stand_set buckets accounts plain h rises is)
