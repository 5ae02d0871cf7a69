-- Meanings computed on examples.
use Rattle.std.proofs.Common.{ap}
use Rattle.std.specs.Prelude.{◌≡◌, ℕ, Bool, true, false, if◌then◌else◌, List, [], Some, None, Result, Ok, Err, codes, refl}
use Rattle.office_base.specs.Keys.{is_key}
use Rattle.office_base.specs.Names.{is_bucket_name}
use Rattle.office_base.specs.declared.version_id.VersionId.TheVariants.{Null, Number}
use Rattle.class_rules.specs.declared.class.Class.TheVariants.{Glacier}
use Rattle.moments.specs.Dates.{is_month, begins_with_month}
use Rattle.moments.specs.Months.{month_number}
use Rattle.rules_core.specs.Configurations.{Configuration}
use Rattle.rules_core.specs.declared.flaw.RuleFlaw.TheVariants.{NoAction}
use Rattle.rules_json.specs.declared.fault.RulesFault.TheVariants as faults
use Rattle.office_types.specs.declared.command.Ask.TheVariants.{Command, Query}
use Rattle.office_types.specs.declared.command.Command.TheVariants.{CreateBucket, SetVersioning, DropRules, Complete, Abort, PutPart, Act, SetTariff, Close}
use Rattle.office_types.specs.declared.command.Query.TheVariants.{Bucket, Rules, Upload, Due, Meters, Tariff, Report}
use Rattle.tariff.specs.declared.fault.TariffTable.TheVariants.{Transition}
use Rattle.tariff.specs.Faults.{TariffFlaw}
use Rattle.tariff.specs.Faults as prices
use Rattle.tariff.specs.Prices.{Prices}
use Rattle.tariff.specs.Reading.{tariff_of}
use Rattle.http_bodies.specs.Flaws.{BodyFlaw, bad_body}
use Rattle.http_bodies.specs.Multipart.{part_of}
use Rattle.http_bodies.specs.Settings.{versioning_of}
use Rattle.http_routes.specs.Spelled.{key_of}
use Rattle.http_routes.specs.Targets as targets
use Rattle.http_asks.specs.Meaning.{Meant, asks, refuses, not_a_month, bad_bucket_name, bad_key, no_such_version, no_such_upload, bad_part, in_body, in_rules, in_tariff}
use Rattle.http_asks.specs.Meaning.{bad_method, method_of, by_object_key, by_body, by_rules, by_tariff, meant_of, bucket_meant, versioning_meant, lifecycle_meant, object_meant}
use Rattle.http_asks.specs.Meaning.{version_meant, upload_meant, part_meant, act_meant, due_meant, meters_meant, tariff_meant, close_meant, report_meant}
use Rattle.http_asks.specs.declared.method.Method.TheVariants as methods
use Rattle.http_asks.specs.Numbers.{number_in, version_in, part_in}

-- ---- numbers and ids

first_number : number_in (codes "1") ≡ Some 1
unfolding number_in
first_number = refl

largest_number : number_in (codes "18446744073709551615") ≡ Some 18446744073709551615
unfolding number_in
largest_number = refl

past_64_bits : number_in (codes "18446744073709551616") ≡ None
unfolding number_in
past_64_bits = refl

no_zero : number_in (codes "0") ≡ None
unfolding number_in
no_zero = refl

leading_zero : number_in (codes "01") ≡ None
unfolding number_in
leading_zero = refl

with_a_sign : number_in (codes "+1") ≡ None
unfolding number_in
with_a_sign = refl

null_version : version_in (codes "null") ≡ Some Null
unfolding version_in number_in
null_version = refl

numbered_version : version_in (codes "12") ≡ Some (Number 12)
unfolding version_in number_in
numbered_version = refl

zeros_before_a_part : part_in (codes "00001") ≡ Some 1
unfolding part_in
zeros_before_a_part = refl

-- which parts an upload has is not asked here
no_part : part_in (codes "0") ≡ Some 0
unfolding part_in
no_part = refl

six_digits : part_in (codes "000001") ≡ None
unfolding part_in
six_digits = refl

part_with_a_sign : part_in (codes "+1") ≡ None
unfolding part_in
part_with_a_sign = refl

-- ---- buckets

-- a bucket is made, whatever the body
makes : meant_of (targets.bucket (codes "logs")) methods.Put (codes "[") ≡ asks (Command (CreateBucket (codes "logs")))
unfolding bucket_meant is_bucket_name
makes = refl

asks_for : meant_of (targets.bucket (codes "logs")) methods.Get [] ≡ asks (Query (Bucket (codes "logs")))
unfolding bucket_meant is_bucket_name
asks_for = refl

-- methods are compared as they stand
upper_case : method_of (codes "PUT") ≡ methods.Put
unfolding method_of
upper_case = refl

lower_case : method_of (codes "put") ≡ methods.Other
unfolding method_of
lower_case = refl

cut_off : method_of (codes "DELET") ≡ methods.Other
unfolding method_of
cut_off = refl

no_patch : meant_of (targets.bucket (codes "logs")) methods.Other [] ≡ refuses bad_method
unfolding bucket_meant
no_patch = refl

short_name : meant_of (targets.bucket (codes "lo")) methods.Put [] ≡ refuses bad_bucket_name
unfolding bucket_meant is_bucket_name
short_name = refl

-- a method that is not served comes before a bad name
another_method : meant_of (targets.bucket (codes "lo")) methods.Delete [] ≡ refuses bad_method
unfolding bucket_meant is_bucket_name
another_method = refl

-- versioning is set as the body says
sets : (body : List ℕ) (enabled : Bool) → versioning_of body ≡ Ok enabled → meant_of (targets.versioning (codes "logs")) methods.Put body ≡ asks (Command (SetVersioning (codes "logs") enabled))
unfolding versioning_meant is_bucket_name
sets body enabled is = ap (λ (said : Result Bool BodyFlaw). by_body said (λ e. asks (Command (SetVersioning (codes "logs") e)))) is

no_status : (body : List ℕ) → versioning_of body ≡ Err (bad_body (codes "Status")) → meant_of (targets.versioning (codes "logs")) methods.Put body ≡ refuses (in_body (bad_body (codes "Status")))
unfolding versioning_meant is_bucket_name
no_status body is = ap (λ (said : Result Bool BodyFlaw). by_body said (λ e. asks (Command (SetVersioning (codes "logs") e)))) is

acts : meant_of (targets.act (codes "logs")) methods.Post [] ≡ asks (Command (Act (codes "logs")))
unfolding act_meant is_bucket_name
acts = refl

shows_due : meant_of (targets.due (codes "logs")) methods.Get [] ≡ asks (Query (Due (codes "logs")))
unfolding due_meant is_bucket_name
shows_due = refl

-- ---- lifecycle configurations

drops : meant_of (targets.lifecycle (codes "logs")) methods.Delete [] ≡ asks (Command (DropRules (codes "logs")))
unfolding lifecycle_meant is_bucket_name
drops = refl

shows_rules : meant_of (targets.lifecycle (codes "logs")) methods.Get [] ≡ asks (Query (Rules (codes "logs")))
unfolding lifecycle_meant is_bucket_name
shows_rules = refl

name_before_rules : meant_of (targets.lifecycle (codes "lo")) methods.Put [] ≡ refuses bad_bucket_name
unfolding lifecycle_meant is_bucket_name
name_before_rules = refl

flaw_told : (meant : Configuration → Meant) → by_rules (Err (faults.Flaw NoAction 2)) meant ≡ refuses (in_rules (faults.Flaw NoAction 2))
flaw_told meant = refl

no_json : (meant : Configuration → Meant) → by_rules (Err faults.NotJson) meant ≡ refuses (in_rules faults.NotJson)
no_json meant = refl

-- ---- objects

-- the key is what the part spells
keyed : (part : List ℕ) (meant : List ℕ → Meant) → is_key (key_of part) ≡ true → by_object_key part meant ≡ meant (key_of part)
keyed part meant is = ap (λ (b : Bool). if b then meant (key_of part) else refuses bad_key) is

not_keyed : (part : List ℕ) (meant : List ℕ → Meant) → is_key (key_of part) ≡ false → by_object_key part meant ≡ refuses bad_key
not_keyed part meant is = ap (λ (b : Bool). if b then meant (key_of part) else refuses bad_key) is

-- a bad name comes before a bad key, and that before a bad body
name_first : meant_of (targets.object (codes "lo") (codes "%ff")) methods.Put (codes "[]") ≡ refuses bad_bucket_name
unfolding object_meant is_bucket_name
name_first = refl

-- parts of the path go from left to right: a name, an id, a key
name_before_id : meant_of (targets.version (codes "lo") (codes "01") (codes "%ff")) methods.Delete [] ≡ refuses bad_bucket_name
unfolding version_meant is_bucket_name
name_before_id = refl

id_before_key : meant_of (targets.version (codes "logs") (codes "01") (codes "%ff")) methods.Delete [] ≡ refuses no_such_version
unfolding version_meant is_bucket_name version_in number_in
id_before_key = refl

-- the tariff is not removed
no_tariff_removed : meant_of targets.tariff methods.Delete [] ≡ refuses bad_method
unfolding tariff_meant
no_tariff_removed = refl

-- a version is not asked for by itself
no_version_read : meant_of (targets.version (codes "logs") (codes "1") (codes "a")) methods.Get [] ≡ refuses bad_method
unfolding version_meant
no_version_read = refl

-- ---- uploads

shows_upload : meant_of (targets.upload (codes "logs") (codes "7")) methods.Get [] ≡ asks (Query (Upload (codes "logs") 7))
unfolding upload_meant is_bucket_name number_in
shows_upload = refl

completes : meant_of (targets.upload (codes "logs") (codes "7")) methods.Post [] ≡ asks (Command (Complete (codes "logs") 7))
unfolding upload_meant is_bucket_name number_in
completes = refl

aborts : meant_of (targets.upload (codes "logs") (codes "7")) methods.Delete [] ≡ asks (Command (Abort (codes "logs") 7))
unfolding upload_meant is_bucket_name number_in
aborts = refl

-- the null version is no upload
null_upload : meant_of (targets.upload (codes "logs") (codes "null")) methods.Get [] ≡ refuses no_such_upload
unfolding upload_meant is_bucket_name number_in
null_upload = refl

puts_part : (body : List ℕ) (size : ℕ) → part_of body ≡ Ok size
    → meant_of (targets.part (codes "logs") (codes "7") (codes "00002")) methods.Put body
    ≡ asks (Command (PutPart (codes "logs") 7 2 size))
unfolding part_meant is_bucket_name number_in part_in
puts_part body size is = ap (λ (said : Result ℕ BodyFlaw). by_body said (λ n. asks (Command (PutPart (codes "logs") 7 2 n)))) is

upload_before_part : meant_of (targets.part (codes "logs") (codes "0") (codes "x")) methods.Put (codes "[]") ≡ refuses no_such_upload
unfolding part_meant is_bucket_name number_in
upload_before_part = refl

part_before_body : meant_of (targets.part (codes "logs") (codes "7") (codes "x")) methods.Put (codes "[]") ≡ refuses bad_part
unfolding part_meant is_bucket_name number_in part_in
part_before_body = refl

-- ---- meters, months and prices

a_month : meant_of (targets.meters (codes "logs") (codes "2024-02")) methods.Get [] ≡ asks (Query (Meters (codes "logs") (month_number 2024 2)))
unfolding meters_meant is_bucket_name is_month begins_with_month
a_month = refl

no_month : meant_of (targets.meters (codes "logs") (codes "2024-13")) methods.Get [] ≡ refuses not_a_month
unfolding meters_meant is_bucket_name is_month begins_with_month
no_month = refl

-- a bad name comes before a text that is no month
name_before_month : meant_of (targets.meters (codes "lo") (codes "2024-13")) methods.Get [] ≡ refuses bad_bucket_name
unfolding meters_meant is_bucket_name is_month begins_with_month
name_before_month = refl

-- a tariff is set as the body says
sets_prices : (body : List ℕ) (said : Prices) → tariff_of body ≡ Ok said → meant_of targets.tariff methods.Put body ≡ asks (Command (SetTariff said))
unfolding tariff_meant
sets_prices body said is = ap (λ (read : Result Prices TariffFlaw). by_tariff read (λ t. asks (Command (SetTariff t)))) is

no_price : (body : List ℕ) → tariff_of body ≡ Err (prices.missing_class Transition Glacier) → meant_of targets.tariff methods.Put body ≡ refuses (in_tariff (prices.missing_class Transition Glacier))
unfolding tariff_meant
no_price body is = ap (λ (said : Result Prices TariffFlaw). by_tariff said (λ t. asks (Command (SetTariff t)))) is

-- a body is passed over where none is wanted
shows_prices : meant_of targets.tariff methods.Get (codes "[") ≡ asks (Query Tariff)
unfolding tariff_meant
shows_prices = refl

closes : meant_of (targets.close (codes "2024-02")) methods.Post [] ≡ asks (Command (Close (month_number 2024 2)))
unfolding close_meant is_month begins_with_month
closes = refl

no_month_to_close : meant_of (targets.close (codes "2024-2")) methods.Post [] ≡ refuses not_a_month
unfolding close_meant is_month begins_with_month
no_month_to_close = refl

-- a method that is not served comes before a text that is no month
no_close_shown : meant_of (targets.close (codes "2024-2")) methods.Get [] ≡ refuses bad_method
unfolding close_meant
no_close_shown = refl

reports : meant_of (targets.report (codes "1970-01")) methods.Get [] ≡ asks (Query (Report (month_number 1970 1)))
unfolding report_meant is_month begins_with_month
reports = refl
