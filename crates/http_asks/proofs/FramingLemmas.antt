-- What a request means is no refusal of its framing.
use Rattle.std.proofs.Common.{◌≡◌, ℕ, Bool, true, false, List, [], ◌∷◌, refl, ap, ◌∙◌, Option, Some, None, Result, Ok, Err, inl, inr}
use Rattle.std.specs.Prelude.{if◌then◌else◌}
use Rattle.office_base.specs.Keys.{is_key}
use Rattle.office_base.specs.Names.{is_bucket_name}
use Rattle.moments.specs.Dates.{is_month}
use Rattle.rules_core.specs.Configurations.{Configuration}
use Rattle.rules_json.specs.Reading.{rules_of}
use Rattle.rules_json.specs.declared.fault.RulesFault.{RulesFault}
use Rattle.tariff.specs.Faults.{TariffFlaw}
use Rattle.tariff.specs.Prices.{Prices}
use Rattle.tariff.specs.Reading.{tariff_of}
use Rattle.http_bodies.specs.Flaws.{BodyFlaw}
use Rattle.http_bodies.specs.Multipart.{upload_said, part_of}
use Rattle.http_bodies.specs.Puts.{put_of}
use Rattle.http_bodies.specs.Settings.{versioning_of, tagging_of}
use Rattle.http_routes.specs.Spelled.{key_of}
use Rattle.http_routes.specs.Targets.{Resource}
use Rattle.http_routes.specs.Targets as targets
use Rattle.httparse.specs.Grammar.{Field, field_value}
use Rattle.office_types.specs.Tokens.{is_token, takes_token}
use Rattle.office_types.specs.declared.command.Ask.TheVariants as ask
use Rattle.office_types.specs.declared.command.Command.{Command}
use Rattle.http_wire.specs.declared.framing.FramingRefusal.{FramingRefusal}
use Rattle.http_asks.specs.declared.method.Method.{Method}
use Rattle.http_asks.specs.declared.method.Method.TheVariants as methods
use Rattle.http_asks.specs.Meaning.{Refused, in_framing, no_such_version, no_such_upload, bad_part, Meant, asks, refuses, method_of, Means, MeansWith, with_fields, with_value, meant_of}
use Rattle.http_asks.specs.Meaning.{by_part, by_body, by_rules, by_tariff, bucket_meant, versioning_meant, lifecycle_meant, object_meant, version_meant, tags_meant}
use Rattle.http_asks.specs.Meaning.{uploads_meant, upload_meant, part_meant, act_meant, due_meant, meters_meant, tariff_meant, close_meant, report_meant}
use Rattle.http_asks.specs.Numbers.{number_in, version_in, part_in}

-- a refusal of the framing
abbrev is_framing : Meant → Bool
is_framing (refuses (in_framing bad)) = true
is_framing other = false

-- ---- what is one of two, or of what is read, is none if each of them is none

if_none : (b : Bool) (x y : Meant) → is_framing x ≡ false → is_framing y ≡ false → is_framing (if b then x else y) ≡ false
if_none true x y one other = one
if_none false x y one other = other

part_none : {T : Type 0} (o : Option T) (r : Refused) (meant : T → Meant) → is_framing (refuses r) ≡ false → ((x : T) → is_framing (meant x) ≡ false) → is_framing (by_part o r meant) ≡ false
part_none None r meant one other = one
part_none (Some x) r meant one other = other x

body_none : {T : Type 0} (said : Result T BodyFlaw) (meant : T → Meant) → ((x : T) → is_framing (meant x) ≡ false) → is_framing (by_body said meant) ≡ false
body_none (Ok x) meant each = each x
body_none (Err flaw) meant each = refl

rules_none : (said : Result Configuration RulesFault) (meant : Configuration → Meant) → ((x : Configuration) → is_framing (meant x) ≡ false) → is_framing (by_rules said meant) ≡ false
rules_none (Ok x) meant each = each x
rules_none (Err fault) meant each = refl

tariff_none : (said : Result Prices TariffFlaw) (meant : Prices → Meant) → ((x : Prices) → is_framing (meant x) ≡ false) → is_framing (by_tariff said meant) ≡ false
tariff_none (Ok x) meant each = each x
tariff_none (Err flaw) meant each = refl

-- ---- what a method asks of a resource

meant_none : (r : Resource) (m : Method) (body : List ℕ) → is_framing (meant_of r m body) ≡ false
unfolding bucket_meant versioning_meant lifecycle_meant object_meant version_meant tags_meant uploads_meant upload_meant part_meant act_meant due_meant meters_meant tariff_meant close_meant report_meant
meant_none (targets.bucket name) methods.Put body = if_none (is_bucket_name name) _ _ refl refl
meant_none (targets.bucket name) methods.Get body = if_none (is_bucket_name name) _ _ refl refl
meant_none (targets.versioning name) methods.Put body = if_none (is_bucket_name name) _ _ (body_none (versioning_of body) _ (λ x. refl)) refl
meant_none (targets.lifecycle name) methods.Put body = if_none (is_bucket_name name) _ _ (rules_none (rules_of body) _ (λ x. refl)) refl
meant_none (targets.lifecycle name) methods.Get body = if_none (is_bucket_name name) _ _ refl refl
meant_none (targets.lifecycle name) methods.Delete body = if_none (is_bucket_name name) _ _ refl refl
meant_none (targets.object name part) methods.Put body = if_none (is_bucket_name name) _ _ (if_none (is_key (key_of part)) _ _ (body_none (put_of body) _ (λ x. refl)) refl) refl
meant_none (targets.object name part) methods.Get body = if_none (is_bucket_name name) _ _ (if_none (is_key (key_of part)) _ _ refl refl) refl
meant_none (targets.object name part) methods.Delete body = if_none (is_bucket_name name) _ _ (if_none (is_key (key_of part)) _ _ refl refl) refl
meant_none (targets.version name id part) methods.Delete body =
    if_none (is_bucket_name name) _ _ (part_none (version_in id) no_such_version _ refl (λ x. if_none (is_key (key_of part)) _ _ refl refl)) refl
meant_none (targets.tags name id part) methods.Put body =
    if_none (is_bucket_name name) _ _ (part_none (version_in id) no_such_version _ refl (λ x. if_none (is_key (key_of part)) _ _ (body_none (tagging_of body) _ (λ y. refl)) refl)) refl
meant_none (targets.uploads name part) methods.Post body = if_none (is_bucket_name name) _ _ (if_none (is_key (key_of part)) _ _ (body_none (upload_said body) _ (λ x. refl)) refl) refl
meant_none (targets.upload name id) methods.Get body = if_none (is_bucket_name name) _ _ (part_none (number_in id) no_such_upload _ refl (λ x. refl)) refl
meant_none (targets.upload name id) methods.Post body = if_none (is_bucket_name name) _ _ (part_none (number_in id) no_such_upload _ refl (λ x. refl)) refl
meant_none (targets.upload name id) methods.Delete body = if_none (is_bucket_name name) _ _ (part_none (number_in id) no_such_upload _ refl (λ x. refl)) refl
meant_none (targets.part name id number) methods.Put body =
    if_none (is_bucket_name name) _ _ (part_none (number_in id) no_such_upload _ refl (λ x. part_none (part_in number) bad_part _ refl (λ y. body_none (part_of body) _ (λ z. refl)))) refl
meant_none (targets.act name) methods.Post body = if_none (is_bucket_name name) _ _ refl refl
meant_none (targets.due name) methods.Get body = if_none (is_bucket_name name) _ _ refl refl
meant_none (targets.meters name month) methods.Get body = if_none (is_bucket_name name) _ _ (if_none (is_month month) _ _ refl refl) refl
meant_none targets.tariff methods.Put body = tariff_none (tariff_of body) _ (λ x. refl)
meant_none targets.tariff methods.Get body = refl
meant_none (targets.close month) methods.Post body = if_none (is_month month) _ _ refl refl
meant_none (targets.report month) methods.Get body = if_none (is_month month) _ _ refl refl
meant_none resource method body = refl

means_none : (target method body : List ℕ) (meant : Meant) → Means target method body meant → is_framing meant ≡ false
means_none target method body meant (inl (resource, has, is)) = ap is_framing is ∙ meant_none resource (method_of method) body
means_none target method body meant (inr (none, is)) = ap is_framing is

-- ---- with the fields that carry a token

value_none : (value : List ℕ) (asked : Command) → is_framing (with_value value asked) ≡ false
value_none value asked = if_none (is_token value) _ _ (if_none (takes_token asked) _ _ refl refl) refl

fields_none : (fields : List Field) (meant : Meant) → is_framing meant ≡ false → is_framing (with_fields fields meant) ≡ false
fields_none [] meant is = is
fields_none (field ∷ []) (asks (ask.Command asked)) is = value_none (field_value field) asked
fields_none (field ∷ []) (asks (ask.Once token asked)) is = is
fields_none (field ∷ []) (asks (ask.Query query)) is = is
fields_none (field ∷ []) (refuses broken) is = is
fields_none (field ∷ other ∷ fields) (asks (ask.Command asked)) is = refl
fields_none (field ∷ other ∷ fields) (asks (ask.Once token asked)) is = is
fields_none (field ∷ other ∷ fields) (asks (ask.Query query)) is = is
fields_none (field ∷ other ∷ fields) (refuses broken) is = is

pub never_framing : (fields : List Field) (target method body : List ℕ) (bad : FramingRefusal) → MeansWith fields target method body (refuses (in_framing bad)) → ⊥
never_framing fields target method body bad (bare, means, is) = absurd (let e = ap is_framing is ∙ fields_none fields bare (means_none target method body bare means) in cc)
