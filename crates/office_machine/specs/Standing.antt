-- What the office in memory stands for. The plain office has lists; this one keeps records, totals and counts.
use Rattle.std.specs.Prelude.{◌≡◌, ◌⊎◌, ℕ, ◌+◌, List, [], ◌∷◌, Option, Result, Err, if◌then◌else◌}
use Rattle.std.specs.List.{AllByRecursion}
use Rattle.tariff.specs.Prices.{Prices}
use Rattle.plain_office.specs.Office.{Office, Account}
use Rattle.plain_office.specs.Counts.{count_of}
use Rattle.plain_office.specs.Orderly.{IsOrderly}
use Rattle.plain_office.specs.Step.{is_accepted}
use Rattle.office_types.specs.declared.reply.Reply.{Reply}
use Rattle.office_types.specs.declared.refusal.Refusal.{Refusal}
use Rattle.office_types.specs.declared.refusal.Refusal.TheVariants.{NoMemory}
use Rattle.office_types.specs.declared.refusal.What.{What}
use Rattle.bucket_account.specs.declared.counts.Counts.{Counts}
use Rattle.bucket_account.specs.Counting.{amount, AccountRecord, IsWithinBy}
use Rattle.bucket_account.specs.Standing.{StandsForAccount}

-- what contracts see of an office: the moment of the last accepted command, the tariffs by their first months, the month
-- of the first accepted command, the closed months, the buckets in byte order of their names, the running counts, and
-- how many commands were accepted
pub record Records : Type 0 where
  pub last : Option ℕ
  pub tariffs : List Prices
  pub first_month : Option ℕ
  pub closed : List (ℕ × Prices)
  pub accounts : List (List ℕ × AccountRecord)
  pub counts : Counts
  pub accepted : ℕ

-- both have the same name, and the bucket stands for the account
pub record StandsForEntry (records : List ℕ × AccountRecord) (entry : List ℕ × Account) : Type 0 where
  pub name : records.0 ≡ entry.0
  pub account : StandsForAccount records.1 entry.1

-- the buckets stand for the accounts one by one: as many, and in the same order
abbrev pub StandForAccounts : List (List ℕ × AccountRecord) → List (List ℕ × Account) → Type 0
StandForAccounts [] [] = Unit {0}
StandForAccounts [] (account ∷ accounts) = ⊥
StandForAccounts (records ∷ others) [] = ⊥
StandForAccounts (records ∷ others) (account ∷ accounts) =
    StandsForEntry records account × StandForAccounts others accounts

-- the office in memory stands for the plain office, which is orderly: the same records, meters that stand for the
-- books, and running counts that are the counts
pub record StandsForOffice (records : Records) (office : Office) : Type 0 where
  pub orderly : IsOrderly office
  pub last : records.last ≡ office.last
  pub tariffs : records.tariffs ≡ office.tariffs
  pub first_month : records.first_month ≡ office.first_month
  pub closed : records.closed ≡ office.closed
  pub accounts : StandForAccounts records.accounts office.accounts
  pub counts : (what : What) → amount what records.counts ≡ count_of what office

-- there is a plain office that it stands for, and each bucket has room for what later commands book and number
pub record IsOfAnOffice (records : Records) : Type 0 where
  pub office : Office
  pub stands : StandsForOffice records office
  pub room : AllByRecursion (λ account. IsWithinBy records.accepted account.1) records.accounts

-- the answer is the expected one, and the office in memory stands for the office expected; or memory ran out, and it
-- stands for the one before
abbrev pub Does : Office × Result Reply Refusal → Office → Records → Result Reply Refusal → Type 0
Does expected before after result =
    ((result ≡ expected.1) × StandsForOffice after expected.0)
    ⊎ ((result ≡ Err NoMemory) × StandsForOffice after before)

-- the number of accepted commands after an answer
abbrev pub accepted_after : Result Reply Refusal → ℕ → ℕ
accepted_after result count = if is_accepted result then count + 1 else count
