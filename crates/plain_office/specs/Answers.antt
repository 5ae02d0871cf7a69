-- The replies to queries.
use Rattle.std.specs.Prelude.{ℕ, List, map, length, Option, Some, None, Result, Ok}
use Rattle.std.specs.Option.{ok_or}
use Rattle.class_rules.specs.Classes.{all_classes}
use Rattle.office_base.specs.Maps.{at_name, at_number}
use Rattle.office_base.specs.Results.{◌>>=◌}
use Rattle.rules_core.specs.Configurations.{Configuration}
use Rattle.rules_core.specs.Matching.{is_empty}
use Rattle.tariff.specs.Prices.{Prices}
use Rattle.due_core.specs.Buckets.{BucketRecord}
use Rattle.due_core.specs.Choice.{choice}
use Rattle.due_core.specs.declared.action.Action.{Action}
use Rattle.office_types.specs.declared.command.Query.{Query}
use Rattle.office_types.specs.declared.command.Query.TheVariants as query
use Rattle.office_types.specs.declared.reply.Reply.{Reply}
use Rattle.office_types.specs.declared.reply.Reply.TheVariants.{NothingDue, BucketShown, RulesShown, StackShown, UploadShown, MetersShown}
use Rattle.office_types.specs.declared.reply.Reply.TheVariants.{TariffShown, Report}
use Rattle.office_types.specs.declared.refusal.Refusal.{Refusal}
use Rattle.office_types.specs.declared.refusal.Refusal.TheVariants.{NoRules, NoSuchKey, NoSuchUpload, NoTariff}
use Rattle.plain_office.specs.Office.{Office, Account, book_of}
use Rattle.plain_office.specs.Counts.{version_count}
use Rattle.plain_office.specs.Charges.{tariff_for, report_lines}
pub use Rattle.plain_office.specs.Charges.{class_meters}
use Rattle.plain_office.specs.Step.{account_at, refuse_if, shown_action}

-- ---- what a bucket shows

-- the number of rules of a configuration; 0 without one
abbrev pub rule_count : Option Configuration → ℕ
rule_count None = 0
rule_count (Some rules) = length rules.rules

-- the reply with a bucket's versioning and the numbers of its rules, uploads and versions
abbrev pub bucket_shown : List ℕ → Account → Reply
bucket_shown name account =
    let bucket = account.bucket in
    BucketShown name (rule_count bucket.rules) (length bucket.uploads) bucket.versioning (version_count bucket)

-- the reply with a bucket's lifecycle configuration; refused if it has none
abbrev pub rules_told : BucketRecord → Result Reply Refusal
rules_told bucket = ok_or bucket.rules NoRules >>= λ rules. Ok (RulesShown rules)

-- the reply with the versions of a key; refused if it has none
abbrev pub stack_told : List ℕ → BucketRecord → Result Reply Refusal
stack_told key bucket = ok_or (at_name key bucket.stacks) NoSuchKey >>= λ stack. Ok (StackShown key stack)

-- the reply with an upload and its parts; refused if there is no such upload
abbrev pub upload_told : ℕ → BucketRecord → Result Reply Refusal
upload_told number bucket =
    ok_or (at_number number bucket.uploads) NoSuchUpload >>= λ upload. Ok (UploadShown number upload)

-- the reply with the action that an act at the moment would do
abbrev pub due_shown : ℕ → BucketRecord → Reply
due_shown t bucket = shown (choice bucket t) where
  shown : Option Action → Reply
  shown None = NothingDue
  shown (Some action) = shown_action action None bucket

-- the same reply as a result; it is never refused
abbrev pub due_told : ℕ → BucketRecord → Result Reply Refusal
due_told t bucket = Ok (due_shown t bucket)

-- ---- what the office shows

-- the reply with the tariffs, by their first months; refused if there are none
abbrev pub tariffs_told : List Prices → Result Reply Refusal
tariffs_told tariffs = refuse_if (is_empty tariffs) NoTariff (TariffShown tariffs)

-- the reply to a query at this moment; the moment must not be before the last one
unfoldable pub answer : ℕ → Query → Office → Result Reply Refusal
answer t (query.Bucket name) office = do
  account ← account_at name office
  Ok (bucket_shown name account)
answer t (query.Rules name) office = do
  account ← account_at name office
  rules_told account.bucket
answer t (query.Stack name key) office = do
  account ← account_at name office
  stack_told key account.bucket
answer t (query.Upload name number) office = do
  account ← account_at name office
  upload_told number account.bucket
answer t (query.Due name) office = do
  account ← account_at name office
  due_told t account.bucket
answer t (query.Meters name month) office = do
  account ← account_at name office
  Ok (MetersShown name month (map (class_meters month t (book_of account.books)) all_classes))
answer t query.Tariff office = tariffs_told office.tariffs
answer t (query.Report month) office = do
  tariff ← ok_or (tariff_for month office) NoTariff
  Ok (Report (report_lines tariff month t office))
