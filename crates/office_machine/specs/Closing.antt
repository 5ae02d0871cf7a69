-- What the parts of closing a month return, in the words of the plain office.
use Rattle.std.specs.Prelude.{ℕ, List, [], ◌∷◌, ◌++◌, map, Option, option_map, Result}
use Rattle.moments.specs.Months.{month_end}
use Rattle.office_base.specs.Results.{◌>>=◌}
use Rattle.tariff.specs.Prices.{Prices}
use Rattle.due_core.specs.declared.action.Action.{Action}
use Rattle.plain_office.specs.Office.{Office, Account, empty_books}
use Rattle.plain_office.specs.Step.{Outcome, due_before, unless_due}
use Rattle.office_types.specs.declared.reply.Reply.TheVariants.{Closed}
use Rattle.office_types.specs.declared.refusal.Refusal.{Refusal}
use Rattle.office_types.specs.declared.refusal.Refusal.TheVariants.{DueActions}
use Rattle.bucket_account.specs.Counting.{AccountRecord}

-- what closing answers once its first tests have given the prices, or a refusal
abbrev pub closing_with : ℕ → ℕ → Office → Result Prices Refusal → Outcome
closing_with t month office prices = prices >>= λ tariff.
    unless_due (due_before t (month_end month) office.accounts)
    (record office { closed = office.closed ++ (month, tariff) ∷ [] }, Closed month)

-- a bucket's records with no books
abbrev pub unbooked : List ℕ × AccountRecord → List ℕ × Account
unbooked entry = (entry.0, record { bucket = entry.1.bucket; books = empty_books })

-- the first bucket in memory whose choice at t stands before the end
abbrev pub first_due : ℕ → ℕ → List (List ℕ × AccountRecord) → Option (List ℕ × Action)
first_due t end accounts = due_before t end (map unbooked accounts)

-- the refusal of a Close for what is due
abbrev pub due_refusal : Option (List ℕ × Action) → Option Refusal
due_refusal due = option_map (λ first. DueActions first.0 first.1.key first.1.target) due
