-- What a refusal says of a request.
use Rattle.std.specs.Prelude.{◌≡◌, Option, Some, None, option_map, IsSomeAnd, Result, Ok, Err, ⊤}
use Rattle.rules_core.specs.Configurations.{Configuration}
use Rattle.rules_json.specs.Faults.{told_fault}
use Rattle.rules_json.specs.declared.fault.RulesFault.{RulesFault}
use Rattle.office_types.specs.declared.command.Ask.{Ask}
use Rattle.tariff.specs.Faults.{TariffFlaw, tariff_flaw_of}
use Rattle.tariff.specs.Prices.{Prices}
use Rattle.http_bodies.specs.Flaws.{BodyFlaw, body_flaw_of}
use Rattle.http_asks.specs.Meaning.{Refused, in_framing, no_route, bad_method, not_a_month, bad_bucket_name, bad_key}
use Rattle.http_asks.specs.Meaning.{no_such_version, no_such_upload}
use Rattle.http_asks.specs.Meaning.{bad_part, in_body, in_rules, in_tariff, bad_token, token_not_served, Meant, asks}
use Rattle.http_asks.specs.Meaning.{refuses}
use Rattle.http_asks.specs.declared.bad.Bad.{Bad}
use Rattle.http_asks.specs.declared.bad.Bad.TheVariants.{NotAMonth, BadBucketName, BadKey, NoSuchVersion, NoSuchUpload}
use Rattle.http_asks.specs.declared.bad.Bad.TheVariants.{BadPart, Body, Rules, Tariff, Framing, NoRoute, BadMethod}
use Rattle.http_asks.specs.declared.bad.Bad.TheVariants.{BadToken, TokenNotServed}
use Rattle.http_asks.specs.declared.bad.Fault.{Fault}
use Rattle.http_asks.specs.declared.bad.Fault.TheVariants as faults

-- the rule that was broken, with its texts as bytes; none if memory ran out for a body
abbrev pub refused_of : Bad → Option Refused
refused_of (Framing framing) = Some (in_framing framing)
refused_of NoRoute = Some no_route
refused_of BadMethod = Some bad_method
refused_of NotAMonth = Some not_a_month
refused_of BadBucketName = Some bad_bucket_name
refused_of BadKey = Some bad_key
refused_of NoSuchVersion = Some no_such_version
refused_of NoSuchUpload = Some no_such_upload
refused_of BadPart = Some bad_part
refused_of (Body fault) = option_map in_body (body_flaw_of fault)
refused_of (Rules fault) = option_map in_rules (told_fault fault)
refused_of (Tariff fault) = option_map in_tariff (tariff_flaw_of fault)
refused_of BadToken = Some bad_token
refused_of TokenNotServed = Some token_not_served

-- P of the rule that was broken, unless memory ran out
abbrev pub OnBroken : Fault → (Option Refused → Type 0) → Type 0
OnBroken (faults.Bad bad) P = P (refused_of bad)
OnBroken faults.NoMemory P = ⊤

-- reading a body gives this flaw
abbrev pub HasFlaw : {T : Type 0} → Result T BodyFlaw → Option Refused → Type 0
HasFlaw (Ok said) broken = ⊥
HasFlaw (Err flaw) broken = broken ≡ Some (in_body flaw)

-- the answer is what a body says, or its flaw
abbrev pub IsFromBody : {T : Type 0} → Result T BodyFlaw → Result T Fault → Type 0
IsFromBody said (Ok value) = said ≡ Ok value
IsFromBody said (Err fault) = OnBroken fault (HasFlaw said)

-- reading a lifecycle configuration breaks this rule
abbrev pub HasFault : Result Configuration RulesFault → Option Refused → Type 0
HasFault (Ok rules) broken = ⊥
HasFault (Err fault) broken = broken ≡ Some (in_rules fault)

-- reading a tariff breaks this rule
abbrev pub HasPriceFlaw : Result Prices TariffFlaw → Option Refused → Type 0
HasPriceFlaw (Ok tariff) broken = ⊥
HasPriceFlaw (Err flaw) broken = broken ≡ Some (in_tariff flaw)

-- the answer is what a part of the path is read as, or this refusal
abbrev pub IsFromPath : {T : Type 0} → Option T → Refused → Result T Fault → Type 0
IsFromPath part refused (Ok value) = part ≡ Some value
IsFromPath part refused (Err fault) = OnBroken fault (λ broken. (broken ≡ Some refused) × (part ≡ None))

-- the answer is what a request means, unless memory ran out
abbrev pub IsMeaning : Result Ask Fault → Meant → Type 0
IsMeaning (Ok ask) meant = asks ask ≡ meant
IsMeaning (Err fault) meant = OnBroken fault (λ broken. option_map refuses broken ≡ Some meant)

-- P of what was read, unless memory ran out
abbrev pub OnMeant : Result Ask Fault → (Meant → Type 0) → Type 0
OnMeant (Ok ask) P = P (asks ask)
OnMeant (Err fault) P = OnBroken fault (λ broken. IsSomeAnd broken (λ rule. P (refuses rule)))
