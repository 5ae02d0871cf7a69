-- Worked examples of months, computed: usage, early quantities, closing and costs.
use Rattle.std.specs.Prelude.{◌≡◌, ℕ, zero, suc, ◌+◌, ◌*◌, List, [], ◌∷◌, refl, codes, Some, None, option_map, Ok, Err}
use Rattle.moments.specs.Time.{day}
use Rattle.class_rules.specs.declared.class.Class.TheVariants as class
use Rattle.office_base.specs.declared.version_id.VersionId.TheVariants as id
use Rattle.tariff.specs.Prices.{Prices, one_tier}
use Rattle.tariff.specs.declared.tiers.Tier.{Tier}
use Rattle.due_core.specs.declared.action.ActionKind.TheVariants as action
use Rattle.due_core.specs.declared.action.Target.TheVariants as target
use Rattle.accrual.specs.Meters.{early_quantity}
use Rattle.office_types.specs.declared.command.Command.TheVariants as command
use Rattle.office_types.specs.declared.command.Query.TheVariants as query
use Rattle.office_types.specs.declared.command.Entry.{Entry}
use Rattle.office_types.specs.declared.reply.LineKind.{LineKind}
use Rattle.office_types.specs.declared.reply.LineKind.TheVariants as line
use Rattle.office_types.specs.declared.reply.Reply.TheVariants as reply
use Rattle.office_types.specs.declared.reply.Price.TheVariants.{One, Tiered}
use Rattle.office_types.specs.declared.reply.ReportLine.{ReportLine}
use Rattle.office_types.specs.declared.refusal.Refusal.TheVariants as refusal
use Rattle.office_types.specs.declared.refusal.What.TheVariants as what
use Rattle.office_types.specs.Entries.{entry_at}
use Rattle.plain_office.specs.Office.{Office, empty_office}
use Rattle.plain_office.specs.Charges.{in_force}
use Rattle.plain_office.specs.Answers.{answer}
use Rattle.plain_office.specs.Run.{run}
use Rattle.plain_office.proofs.Examples.{to_compute, after, answers, new_year, january, logs, a, put, rules_of, book_in, two_puts}
use Rattle.plain_office.proofs.LifecycleExamples.{expires}

-- 2024-02-01 00:00 UTC, at which January is over
abbrev february_begins : ℕ
february_begins = 1_706_745_600_000

-- storage in STANDARD in these tiers from a month on, all else for nothing
abbrev tiered : ℕ → List Tier → Prices
tiered from tiers = record {
  from = from;
  storage = tiers ∷ one_tier 0 ∷ one_tier 0 ∷ one_tier 0 ∷ one_tier 0 ∷ one_tier 0 ∷ [];
  transition = 0 ∷ 0 ∷ 0 ∷ 0 ∷ 0 ∷ [];
}

-- storage in STANDARD at this price at all times, all else for nothing
abbrev priced : ℕ → Prices
priced price = tiered 0 (one_tier price)

-- ---- meters

-- 1,000 bytes for a day, and 2,000 for another
two_days : option_map (answer (new_year + 2 * day) (query.Meters logs january)) (run two_puts)
    ≡ Some (Ok (reply.MetersShown logs january (
    record { class = class.Standard; byte_ms = 259_200_000_000; early_byte_ms = 0; moves = 0 }
    ∷ record { class = class.StandardIa; byte_ms = 0; early_byte_ms = 0; moves = 0 }
    ∷ record { class = class.OnezoneIa; byte_ms = 0; early_byte_ms = 0; moves = 0 }
    ∷ record { class = class.GlacierIr; byte_ms = 0; early_byte_ms = 0; moves = 0 }
    ∷ record { class = class.Glacier; byte_ms = 0; early_byte_ms = 0; moves = 0 }
    ∷ record { class = class.DeepArchive; byte_ms = 0; early_byte_ms = 0; moves = 0 } ∷ [])))
unfolding to_compute
two_days = refl

-- an object of 100 bytes in STANDARD_IA is billed as 131,072; deleted after 10 of 30 days it owes the other 20
abbrev kept_for : ℕ → Office
kept_for days = after empty_office
    (entry_at new_year (command.CreateBucket logs) ∷ entry_at new_year (put 100 class.StandardIa)
    ∷ entry_at (new_year + days * day) (command.Delete logs a) ∷ [])

gone_after_ten_days : early_quantity january class.StandardIa (book_in (kept_for 10)) ≡ 226_492_416_000_000
unfolding to_compute
gone_after_ten_days = refl

gone_after_thirty_days : early_quantity january class.StandardIa (book_in (kept_for 30)) ≡ 0
unfolding to_compute
gone_after_thirty_days = refl

-- ---- closing

abbrev closing : Office
closing = after empty_office (
    entry_at new_year (command.CreateBucket logs) ∷ entry_at new_year (command.SetTariff (priced 23_000))
    ∷ entry_at new_year (command.SetRules logs (rules_of (expires (codes "e") 9 ∷ [])))
    ∷ entry_at new_year (put 1_000 class.Standard) ∷ [])

-- a month is closed once it is over and all that was due in it is done, once, and in order
closes_in_order : answers closing (
    entry_at 1_706_745_599_999 (command.Close january) ∷ entry_at february_begins (command.Close january)
    ∷ entry_at february_begins (command.Act logs)
    ∷ entry_at february_begins (command.Close january) ∷ entry_at february_begins (command.Close january)
    ∷ entry_at 1_711_929_600_000 (command.Close 650) ∷ [])
    ≡ Err (refusal.MonthNotOver february_begins) ∷ Err (refusal.DueActions logs a (target.Version id.Null))
    ∷ Ok (reply.Chosen action.Remove a (target.Version id.Null) (codes "e") (new_year + 9 * day) None)
    ∷ Ok (reply.Closed january) ∷ Err refusal.AlreadyClosed ∷ Err (refusal.EarlierMonthOpen 649) ∷ []
unfolding to_compute
closes_in_order = refl

-- without a tariff it is not closed; where nothing was accepted yet, every month that is over counts as closed
not_without_prices : answers empty_office
    (entry_at february_begins (command.Close january) ∷ entry_at new_year (command.CreateBucket logs)
    ∷ entry_at february_begins (command.Close january) ∷ [])
    ≡ Err refusal.AlreadyClosed ∷ Ok (reply.BucketMade logs) ∷ Err refusal.NoTariff ∷ []
unfolding to_compute
not_without_prices = refl

-- ---- reports

-- a GiB for a whole month costs the price of a GiB-month; a closed month keeps its prices
abbrev a_gib : List Entry
a_gib = entry_at new_year (command.SetTariff (priced 23_000)) ∷ entry_at new_year (command.CreateBucket logs)
    ∷ entry_at new_year (put 1_073_741_824 class.Standard) ∷ []

abbrev new_prices : List Entry
new_prices = entry_at february_begins (command.Close january) ∷ entry_at february_begins (command.SetTariff (priced 24_000)) ∷ []

abbrev gib_line : ReportLine
gib_line = record {
  bucket = logs;
  kind = line.Storage;
  class = class.Standard;
  quantity = 2_875_910_101_401_600_000;
  price = One 23_000;
  charge = 23_000;
}

reported : answer february_begins (query.Report january) (after empty_office a_gib)
    ≡ Ok (reply.Report (gib_line ∷ []))
unfolding to_compute
reported = refl

kept_prices : answer february_begins (query.Report january) (after (after empty_office a_gib) new_prices)
    ≡ Ok (reply.Report (gib_line ∷ []))
unfolding to_compute
kept_prices = refl

prices_now : answer february_begins query.Tariff (after (after empty_office a_gib) new_prices)
    ≡ Ok (reply.TariffShown (priced 24_000 ∷ []))
unfolding to_compute
prices_now = refl

-- no prices, no report
no_prices : answer new_year (query.Report january) empty_office ≡ Err refusal.NoTariff
unfolding to_compute
no_prices = refl

-- ---- tiers

-- the first GiB-month at 23,000, all others at 20,000
abbrev two_prices : List Tier
two_prices = record { upto = Some 1; price = 23_000 } ∷ record { upto = None; price = 20_000 } ∷ []

-- an object of this many bytes for the whole of January, with tiers from a month on
abbrev in_tiers : ℕ → ℕ → Office
in_tiers from size = after empty_office
    (entry_at new_year (command.SetTariff (tiered from two_prices)) ∷ entry_at new_year (command.CreateBucket logs)
    ∷ entry_at new_year (put size class.Standard) ∷ [])

abbrev tiered_line : ℕ → ℕ → ReportLine
tiered_line quantity charge = record {
  bucket = logs;
  kind = line.Storage;
  class = class.Standard;
  quantity = quantity;
  price = Tiered;
  charge = charge;
}

-- three GiB: one at the first price, two at the second; half a GiB at the first
three_gib : answer february_begins (query.Report january) (in_tiers january 3_221_225_472)
    ≡ Ok (reply.Report (tiered_line 8_627_730_304_204_800_000 63_000 ∷ []))
unfolding to_compute
three_gib = refl

half_a_gib : answer february_begins (query.Report january) (in_tiers january 536_870_912)
    ≡ Ok (reply.Report (tiered_line 1_437_955_050_700_800_000 11_500 ∷ []))
unfolding to_compute
half_a_gib = refl

-- an early quantity goes through the tiers from the first on, and not from where storage stopped: 6 GiB in STANDARD_IA
-- that are deleted after half of 30 days of January have stored 2.9 GiB-months, and owe as many
abbrev early_tiers : Prices
early_tiers = record {
  from = january;
  storage = one_tier 0 ∷ two_prices ∷ one_tier 0 ∷ one_tier 0 ∷ one_tier 0 ∷ one_tier 0 ∷ [];
  transition = 0 ∷ 0 ∷ 0 ∷ 0 ∷ 0 ∷ [];
}

abbrev infrequent_line : LineKind → ReportLine
infrequent_line kind = record {
  bucket = logs;
  kind = kind;
  class = class.StandardIa;
  quantity = 8_349_416_423_424_000_000;
  price = Tiered;
  charge = 61_064;
}

early_from_the_first_tier : answer february_begins (query.Report january) (after empty_office
    (entry_at new_year (command.SetTariff early_tiers) ∷ entry_at new_year (command.CreateBucket logs)
    ∷ entry_at new_year (put 6_442_450_944 class.StandardIa)
    ∷ entry_at (new_year + 15 * day) (command.Delete logs a) ∷ []))
    ≡ Ok (reply.Report (infrequent_line line.Storage ∷ infrequent_line line.Early ∷ []))
unfolding to_compute
early_from_the_first_tier = refl

-- ---- tariffs from a month on

abbrev march : ℕ
march = 650

-- from January on and from March on: February has the first, and December none
abbrev two_tariffs : Office
two_tariffs = after empty_office
    (entry_at new_year (command.SetTariff (tiered march (one_tier 24_000)))
    ∷ entry_at new_year (command.SetTariff (tiered january (one_tier 23_000))) ∷ [])

by_first_months : answer new_year query.Tariff two_tariffs
    ≡ Ok (reply.TariffShown (tiered january (one_tier 23_000) ∷ tiered march (one_tier 24_000) ∷ []))
unfolding to_compute
by_first_months = refl

in_february : in_force 649 two_tariffs.tariffs ≡ Some (tiered january (one_tier 23_000))
unfolding to_compute
in_february = refl

from_march_on : in_force march two_tariffs.tariffs ≡ Some (tiered march (one_tier 24_000))
unfolding to_compute
from_march_on = refl

none_before : answer new_year (query.Report 647) two_tariffs ≡ Err refusal.NoTariff
unfolding to_compute
none_before = refl

-- of two with the same first month the later one holds
set_again : answer new_year query.Tariff (after two_tariffs (entry_at new_year (command.SetTariff (tiered january (one_tier 25_000))) ∷ []))
    ≡ Ok (reply.TariffShown (tiered january (one_tier 25_000) ∷ tiered march (one_tier 24_000) ∷ []))
unfolding to_compute
set_again = refl

-- a month is closed with the tariff in force in it, which it keeps
abbrev closed_with : ℕ → List Entry
closed_with price = entry_at february_begins (command.Close january) ∷ entry_at february_begins (command.SetTariff (tiered january (one_tier price))) ∷ []

closed_keeps : (after two_tariffs (closed_with 26_000)).closed ≡ (january, tiered january (one_tier 23_000)) ∷ []
unfolding to_compute
closed_keeps = refl

-- there is no close without a tariff in force
abbrev from_march : Office
from_march = after empty_office (entry_at new_year (command.SetTariff (tiered march (one_tier 24_000))) ∷ [])

not_in_force : answers from_march (entry_at february_begins (command.Close january) ∷ []) ≡ Err refusal.NoTariff ∷ []
unfolding to_compute
not_in_force = refl

-- ---- the limit

abbrev tariffs_from : ℕ → List Entry
tariffs_from n = entries n where
  entries : ℕ → List Entry
  entries zero = []
  entries (suc n) = entry_at new_year (command.SetTariff (tiered n (one_tier 1))) ∷ entries n

a_hundred : answers (after empty_office (tariffs_from 100))
    (entry_at new_year (command.SetTariff (tiered 100 (one_tier 1))) ∷ entry_at new_year (command.SetTariff (tiered 99 (one_tier 2))) ∷ [])
    ≡ Err (refusal.Full what.Tariffs 100) ∷ Ok reply.TariffSet ∷ []
unfolding to_compute
a_hundred = refl
