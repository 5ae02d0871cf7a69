-- What a request asks.
use Rattle.std.proofs.Common.{◌≡◌, refl, sym, subst, Option, Some, None, option_map, Result, Err}
use Rattle.std.specs.Prelude.{IfSome, IsSomeAnd}
use Rattle.rules_core.specs.Configurations.{Configuration}
use Rattle.rules_json.specs.Faults.{told_fault}
use Rattle.rules_json.specs.declared.fault.RulesFault.{RulesFault}
use Rattle.rules_json.specs.declared.fault.RulesFault.TheVariants as rules
use Rattle.http_bodies.specs.Flaws.{BodyFlaw, body_flaw_of}
use Rattle.http_bodies.specs.declared.fault.BodyFault.{BodyFault}
use Rattle.http_bodies.specs.declared.fault.BodyFault.TheVariants as bodies
use Rattle.tariff.specs.Faults.{TariffFlaw, tariff_flaw_of}
use Rattle.tariff.specs.Prices.{Prices}
use Rattle.tariff.specs.declared.fault.TariffFault.{TariffFault}
use Rattle.tariff.specs.declared.fault.TariffFault.TheVariants as tariffs
use Rattle.http_asks.specs.Faults.{OnBroken, HasFlaw, HasFault, HasPriceFlaw, refused_of}
use Rattle.http_asks.specs.Meaning.{Refused, in_body, in_rules, in_tariff}
use Rattle.http_asks.specs.declared.bad.Fault.{Fault}
use Rattle.http_asks.specs.declared.bad.Fault.TheVariants as faults

-- ---- a fault is reported, unless memory ran out

pub body_told : (fault : BodyFault) → (fault ≡ bodies.NoMemory → ⊥) → IsSomeAnd (body_flaw_of fault) (λ (flaw : BodyFlaw). option_map in_body (body_flaw_of fault) ≡ Some (in_body flaw))
body_told (bodies.BadBody field) told = refl
body_told bodies.BadSize told = refl
body_told (bodies.UnsupportedClass name) told = refl
body_told bodies.BadTags told = refl
body_told bodies.NoMemory told = absurd (told refl)

pub rules_told : (fault : RulesFault) → (fault ≡ rules.NoMemory → ⊥) → IsSomeAnd (told_fault fault) (λ (f : RulesFault). option_map in_rules (told_fault fault) ≡ Some (in_rules f))
rules_told rules.NotADate told = refl
rules_told rules.NotMidnight told = refl
rules_told rules.NotJson told = refl
rules_told (rules.UnknownField name) told = refl
rules_told (rules.WrongShape field) told = refl
rules_told (rules.UnsupportedClass name) told = refl
rules_told (rules.Flaw flaw rule) told = refl
rules_told rules.NoMemory told = absurd (told refl)

pub tariff_told : (fault : TariffFault) → (fault ≡ tariffs.NoMemory → ⊥) → IsSomeAnd (tariff_flaw_of fault) (λ (flaw : TariffFlaw). option_map in_tariff (tariff_flaw_of fault) ≡ Some (in_tariff flaw))
tariff_told tariffs.NotToml told = refl
tariff_told (tariffs.MissingClass table class) told = refl
tariff_told (tariffs.BadPrice table class) told = refl
tariff_told (tariffs.UnknownField name) told = refl
tariff_told (tariffs.BadTiers class) told = refl
tariff_told tariffs.BadFrom told = refl
tariff_told tariffs.NoMemory told = absurd (told refl)

-- ---- a fault is told as it is

-- of a body
pub flaw_told : {T : Type 0} (fault : BodyFault) (told : Fault) (read : Result T BodyFlaw) → IfSome (body_flaw_of fault) (λ (flaw : BodyFlaw). read ≡ Err flaw)
    → OnBroken told (λ (broken : Option Refused). IsSomeAnd (body_flaw_of fault) (λ (flaw : BodyFlaw). broken ≡ Some (in_body flaw))) → OnBroken told (HasFlaw read)
flaw_told {T} fault faults.NoMemory read is same = tt
flaw_told {T} fault (faults.Bad bad) read is same = by_flaw (body_flaw_of fault) is same
  where
    by_flaw : (o : Option BodyFlaw) → IfSome o (λ (flaw : BodyFlaw). read ≡ Err flaw) → IsSomeAnd o (λ (flaw : BodyFlaw). refused_of bad ≡ Some (in_body flaw)) → HasFlaw read (refused_of bad)
    by_flaw None is same = absurd same
    by_flaw (Some flaw) is same = subst (λ (r : Result T BodyFlaw). HasFlaw r (refused_of bad)) (sym is) same

-- of a lifecycle configuration
pub fault_told : (fault : RulesFault) (told : Fault) (read : Result Configuration RulesFault) → IfSome (told_fault fault) (λ (f : RulesFault). read ≡ Err f)
    → OnBroken told (λ (broken : Option Refused). IsSomeAnd (told_fault fault) (λ (f : RulesFault). broken ≡ Some (in_rules f))) → OnBroken told (HasFault read)
fault_told fault faults.NoMemory read is same = tt
fault_told fault (faults.Bad bad) read is same = by_fault (told_fault fault) is same
  where
    by_fault : (o : Option RulesFault) → IfSome o (λ (f : RulesFault). read ≡ Err f) → IsSomeAnd o (λ (f : RulesFault). refused_of bad ≡ Some (in_rules f)) → HasFault read (refused_of bad)
    by_fault None is same = absurd same
    by_fault (Some f) is same = subst (λ (r : Result Configuration RulesFault). HasFault r (refused_of bad)) (sym is) same

-- of a tariff
pub price_flaw_told : (fault : TariffFault) (told : Fault) (read : Result Prices TariffFlaw) → IfSome (tariff_flaw_of fault) (λ (flaw : TariffFlaw). read ≡ Err flaw)
    → OnBroken told (λ (broken : Option Refused). IsSomeAnd (tariff_flaw_of fault) (λ (flaw : TariffFlaw). broken ≡ Some (in_tariff flaw))) → OnBroken told (HasPriceFlaw read)
price_flaw_told fault faults.NoMemory read is same = tt
price_flaw_told fault (faults.Bad bad) read is same = by_flaw (tariff_flaw_of fault) is same
  where
    by_flaw : (o : Option TariffFlaw) → IfSome o (λ (flaw : TariffFlaw). read ≡ Err flaw)
        → IsSomeAnd o (λ (flaw : TariffFlaw). refused_of bad ≡ Some (in_tariff flaw)) → HasPriceFlaw read (refused_of bad)
    by_flaw None is same = absurd same
    by_flaw (Some flaw) is same = subst (λ (r : Result Prices TariffFlaw). HasPriceFlaw r (refused_of bad)) (sym is) same
