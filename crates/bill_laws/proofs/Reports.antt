-- How long a report is, and how many buckets it names.
use Rattle.std.proofs.Common.{◌≡◌, ℕ, ◌*◌, ◌≤◌, ◌<◌, ◌^◌, List, [], ◌∷◌, length, length-append, refl, ap, subst, Option, Some, None, arith, flat_map}
use Rattle.std.specs.Prelude.{Result, Ok}
use Rattle.std.specs.Option.{ok_or}
use Rattle.std.specs.List.{AllByRecursion}
use Rattle.class_rules.specs.Classes.{all_classes}
use Rattle.class_rules.specs.declared.class.Class.{Class}
use Rattle.office_base.specs.Results.{◌>>=◌}
use Rattle.tariff.specs.Prices.{Prices}
use Rattle.accrual.specs.Books.{Book}
use Rattle.office_types.specs.declared.command.Query.TheVariants as query
use Rattle.office_types.specs.declared.reply.ClassMeters.{ClassMeters}
use Rattle.office_types.specs.declared.reply.LineKind.TheVariants.{Storage, Early}
use Rattle.office_types.specs.declared.reply.Reply.{Reply}
use Rattle.office_types.specs.declared.reply.Reply.TheVariants.{Report}
use Rattle.office_types.specs.declared.reply.ReportLine.{ReportLine}
use Rattle.office_types.specs.declared.refusal.Refusal.{Refusal}
use Rattle.office_types.specs.declared.refusal.Refusal.TheVariants.{NoTariff}
use Rattle.plain_office.specs.Office.{Office, Account, book_of}
use Rattle.plain_office.specs.Counts.{count_of}
use Rattle.plain_office.specs.Charges.{storage_line, transition_line, class_meters, class_lines, has_quantity, report_lines, tariff_for}
use Rattle.plain_office.specs.Orderly.{IsOrderly}
use Rattle.plain_office.specs.Answers.{answer}
use Rattle.office_laws.proofs.Lists.{every, every_filter, every_flat_map, length_filtered}
use Rattle.bill_posting.specs.Bills.{bills_of}
use Rattle.bill_posting.proofs.Groups.{few_bills}

module _ {X Y : Type 0} (f : X → List Y) where
  -- lists joined, each of at most 3 elements
  threes : ((x : X) → length (f x) ≤ 3) → (xs : List X) → length (flat_map f xs) ≤ length xs * 3
  threes le [] = omega arith
  threes le (x ∷ xs) = omega (arith, threes le xs, le x, length-append (f x) (flat_map f xs))

  -- or of at most 18
  eighteens : ((x : X) → length (f x) ≤ 18) → (xs : List X) → length (flat_map f xs) ≤ length xs * 18
  eighteens le [] = omega arith
  eighteens le (x ∷ xs) = omega (arith, eighteens le xs, le x, length-append (f x) (flat_map f xs))

module _ (tariff : Prices) (month t : ℕ) where
  -- the lines of a bucket
  abbrev account_lines : List ℕ × Account → List ReportLine
  account_lines account = flat_map (class_lines tariff month t account.0 (book_of account.1.books)) all_classes

  -- the lines of a class, with those that have no quantity
  abbrev all_lines : List ℕ → ClassMeters → List ReportLine
  all_lines name used =
      storage_line Storage tariff month name used.class used.byte_ms
      ∷ storage_line Early tariff month name used.class used.early_byte_ms
      ∷ transition_line tariff name used.class used.moves
      ∷ []

  most_class_lines : (name : List ℕ) (book : Book) (class : Class) → length (class_lines tariff month t name book class) ≤ 3
  most_class_lines name book class = length_filtered has_quantity (all_lines name (class_meters month t book class))

  most_account_lines : (account : List ℕ × Account) → length (account_lines account) ≤ 18
  most_account_lines account =
      threes (class_lines tariff month t account.0 (book_of account.1.books)) (most_class_lines account.0 (book_of account.1.books)) all_classes

  own_class_lines : (name : List ℕ) (book : Book) (class : Class)
      → AllByRecursion (λ (line : ReportLine). line.bucket ≡ name) (class_lines tariff month t name book class)
  own_class_lines name book class =
      every_filter (λ (line : ReportLine). line.bucket ≡ name) has_quantity (all_lines name (class_meters month t book class)) (refl, (refl, (refl, tt)))

  own_lines : (account : List ℕ × Account) → AllByRecursion (λ (line : ReportLine). line.bucket ≡ account.0) (account_lines account)
  own_lines account =
      every_flat_map (λ (class : Class). Unit {0}) (λ (line : ReportLine). line.bucket ≡ account.0) (class_lines tariff month t account.0 (book_of account.1.books))
      (λ class _. own_class_lines account.0 (book_of account.1.books) class)
      all_classes (every (λ (class : Class). Unit {0}) (λ class. tt) all_classes)

  most_lines : (p : Office) → length p.accounts ≤ 1_000 → length (report_lines tariff month t p) < 2 ^ 32
  unfolding report_lines
  most_lines p few = let m = eighteens account_lines most_account_lines p.accounts in omega (arith, m, few)

  most_buckets : (p : Office) → length p.accounts ≤ 1_000 → length (bills_of (report_lines tariff month t p)) ≤ 1_000
  unfolding report_lines
  most_buckets p few = let m = few_bills (λ (account : List ℕ × Account). account.0) account_lines own_lines p.accounts in omega (arith, m, few)

few_accounts : (p : Office) → IsOrderly p → length p.accounts ≤ 1_000
unfolding count_of
few_accounts p orderly = orderly.records.counts.0

-- the lines of an answer that is a report
abbrev lines_in : Result Reply Refusal → List ReportLine
lines_in (Ok (Report lines)) = lines
lines_in other = []

module _ (t month : ℕ) (p : Office) (P : List ReportLine → Type 0) (all : (tariff : Prices) → P (report_lines tariff month t p)) where
  of_tariff : (o : Option Prices) (lines : List ReportLine)
      → (ok_or o NoTariff >>= λ tariff. Ok (Report (report_lines tariff month t p))) ≡ Ok (Report lines) → P lines
  of_tariff None lines is = absurd cc
  of_tariff (Some tariff) lines is = subst P (ap lines_in is) (all tariff)

  of_report : (lines : List ReportLine) → answer t (query.Report month) p ≡ Ok (Report lines) → P lines
  unfolding answer
  of_report lines is = of_tariff (tariff_for month p) lines is

pub few_lines : (t month : ℕ) (p : Office) (lines : List ReportLine) → IsOrderly p → answer t (query.Report month) p ≡ Ok (Report lines) → length lines < 2 ^ 32
few_lines t month p lines orderly is =
    of_report t month p (λ (lines : List ReportLine). length lines < 2 ^ 32) (λ tariff. most_lines tariff month t p (few_accounts p orderly)) lines is

pub few_buckets : (t month : ℕ) (p : Office) (lines : List ReportLine) → IsOrderly p → answer t (query.Report month) p ≡ Ok (Report lines) → length (bills_of lines) ≤ 1_000
few_buckets t month p lines orderly is =
    of_report t month p (λ (lines : List ReportLine). length (bills_of lines) ≤ 1_000) (λ tariff. most_buckets tariff month t p (few_accounts p orderly)) lines is
