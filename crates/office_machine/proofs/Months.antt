-- The closing of months, by what the office has.
use Rattle.std.proofs.Common.{◌≡◌, ℕ, ◌<◌, ◌≤◌, List, [], ◌∷◌, ◌++◌, map, refl, ap, ◌∙◌, arith}
use Rattle.std.specs.Prelude.{Option, Some, None, Ok, Err}
use Rattle.moments.specs.Months.{months, month_end}
use Rattle.moments.specs.Time.{end_of_time}
use Rattle.moments.proofs.Calendar.{first_day_small}
use Rattle.tariff.specs.Prices.{Prices}
use Rattle.due_core.specs.declared.action.Action.{Action}
use Rattle.plain_office.specs.Office.{Office, Account}
use Rattle.plain_office.specs.Step.{due_before, unless_due, close, accepted, settled, outcome, step}
use Rattle.office_types.specs.declared.command.Command.TheVariants as command
use Rattle.office_types.specs.declared.reply.Reply.TheVariants as reply
use Rattle.office_types.specs.declared.refusal.Refusal.{Refusal}
use Rattle.office_types.specs.declared.refusal.Refusal.TheVariants.{DueActions}
use Rattle.bucket_account.specs.Counting.{AccountRecord}
use Rattle.office_machine.specs.Closing.{closing_with, unbooked, first_due, due_refusal}
use Rattle.office_machine.specs.Standing.{StandForAccounts}

pub month_fits : (month : ℕ) → month < months → month_end month ≤ end_of_time
month_fits month among = let small = first_day_small month among in omega (arith, small)

-- ---- what is due before a moment

module _ (t end : ℕ) where
  head_same : (name other : List ℕ) (a b : Account) (xs ys : List (List ℕ × Account)) → name ≡ other → a.bucket ≡ b.bucket → due_before t end xs ≡ due_before t end ys
      → due_before t end ((name, a) ∷ xs) ≡ due_before t end ((other, b) ∷ ys)
  head_same name other a b xs ys named bucket rest = rw (named, bucket, rest) refl

  -- the records in memory tell it too
  pub due_same : (buckets : List (List ℕ × AccountRecord)) (accounts : List (List ℕ × Account)) → StandForAccounts buckets accounts → first_due t end buckets ≡ due_before t end accounts
  due_same [] [] h = refl
  due_same [] (account ∷ accounts) h = absurd h
  due_same (records ∷ buckets) [] h = absurd h
  due_same (records ∷ buckets) (account ∷ accounts) h =
      head_same records.0 account.0 (unbooked records).1 account.1 (map unbooked buckets) accounts h.0.name h.0.account.bucket (due_same buckets accounts h.1)

-- what it is refused for comes from the first that is due
pub due_of : (o : Option (List ℕ × Action)) (refusal : Refusal) → due_refusal o ≡ Some refusal → (due : List ℕ × Action) × (o ≡ Some due) × (DueActions due.0 due.1.key due.1.target ≡ refusal)
due_of None refusal is = absurd cc
due_of (Some due) refusal is = (due, refl, some_same is) where
  some_same : {a b : Refusal} → Some a ≡ Some b → a ≡ b
  some_same h = cc

pub none_due : (o : Option (List ℕ × Action)) → due_refusal o ≡ None → o ≡ None
none_due None is = refl
none_due (Some due) is = absurd cc

-- ---- a step

module _ (t month : ℕ) (p : Office) where
  abbrev pub closed_office : Prices → Office
  closed_office tariff = record p { closed = p.closed ++ (month, tariff) ∷ [] }

  pub close_refused : (refusal : Refusal) → close t month p ≡ closing_with t month p (Err refusal) → step t (command.Close month) p ≡ (p, Err refusal)
  unfolding step outcome
  close_refused refusal is = ap (settled t p) is

  module _ (tariff : Prices) (is : close t month p ≡ closing_with t month p (Ok tariff)) where
    pub close_due : (due : List ℕ × Action) → due_before t (month_end month) p.accounts ≡ Some due → step t (command.Close month) p ≡ (p, Err (DueActions due.0 due.1.key due.1.target))
    unfolding step outcome
    close_due due first = ap (settled t p) (is ∙ ap (λ (o : Option (List ℕ × Action)). unless_due o (closed_office tariff, reply.Closed month)) first)

    pub close_done : due_before t (month_end month) p.accounts ≡ None → step t (command.Close month) p ≡ (accepted t (closed_office tariff), Ok (reply.Closed month))
    unfolding step outcome
    close_done none = ap (settled t p) (is ∙ ap (λ (o : Option (List ℕ × Action)). unless_due o (closed_office tariff, reply.Closed month)) none)
