-- Replies to refusals.
use Rattle.std.proofs.Common.{◌≡◌, ℕ, List, refl, sym, subst, Option, Some, None, option_map, Result, Ok, Err, inl, inr}
use Rattle.std.specs.Prelude.{IfErr, IfSome, IsSomeAnd, OnOk}
use Rattle.http_bodies.specs.Flaws.{body_flaw_of}
use Rattle.http_bodies.specs.declared.fault.BodyFault.{BodyFault}
use Rattle.http_bodies.specs.declared.fault.BodyFault.TheVariants as bodies
use Rattle.rules_json.specs.Faults.{told_fault}
use Rattle.rules_json.specs.declared.fault.RulesFault.{RulesFault}
use Rattle.rules_json.specs.declared.fault.RulesFault.TheVariants as rules
use Rattle.tariff.specs.Faults.{tariff_flaw_of}
use Rattle.tariff.specs.declared.fault.TariffFault.{TariffFault}
use Rattle.tariff.specs.declared.fault.TariffFault.TheVariants as tariffs
use Rattle.http_asks.specs.Meaning.{Refused, in_body, in_rules, in_tariff}
use Rattle.http_front.specs.declared.answering.SessionEnd.{SessionEnd}
use Rattle.http_front.specs.declared.answering.SessionEnd.TheVariants as ends
use Rattle.http_front.specs.declared.replies.Replies as sinks
use Rattle.http_front.specs.Saying.{Says, SaysFront}
use Rattle.http_front.specs.Talk.{SaysNoMemory, IsRefusedBy}
use Rattle.http_front.specs.Texts.{told_status, told_text}

-- ---- a text that breaks a rule is a bad request

pub body_status : (fault : BodyFault) → (fault ≡ bodies.NoMemory → ⊥) → told_status (option_map in_body (body_flaw_of fault)) ≡ 400
body_status (bodies.BadBody field) told = refl
body_status bodies.BadSize told = refl
body_status (bodies.UnsupportedClass name) told = refl
body_status bodies.BadTags told = refl
body_status bodies.NoMemory told = absurd (told refl)

pub rules_status : (fault : RulesFault) → (fault ≡ rules.NoMemory → ⊥) → told_status (option_map in_rules (told_fault fault)) ≡ 400
rules_status rules.NotADate told = refl
rules_status rules.NotMidnight told = refl
rules_status rules.NotJson told = refl
rules_status (rules.UnknownField name) told = refl
rules_status (rules.WrongShape field) told = refl
rules_status (rules.UnsupportedClass name) told = refl
rules_status (rules.Flaw flaw rule) told = refl
rules_status rules.NoMemory told = absurd (told refl)

pub tariff_status : (fault : TariffFault) → (fault ≡ tariffs.NoMemory → ⊥) → told_status (option_map in_tariff (tariff_flaw_of fault)) ≡ 400
tariff_status tariffs.NotToml told = refl
tariff_status (tariffs.MissingClass table class) told = refl
tariff_status (tariffs.BadPrice table class) told = refl
tariff_status (tariffs.UnknownField name) told = refl
tariff_status (tariffs.BadTiers class) told = refl
tariff_status tariffs.BadFrom told = refl
tariff_status tariffs.NoMemory told = absurd (told refl)

pub ruleset bad_requests = (body_status, rules_status, tariff_status)

-- ---- what is said

module _ {W : Type 0} (w : sinks.Ghosts W) where
  -- the text, or a front of it
  pub said_refusal : (old new : W) (told : Option Refused) (text : List ℕ) (result : Result Unit SessionEnd) → text ≡ told_text told → OnOk result (Says w old new text)
      → IfErr result (λ (e : SessionEnd). (e ≡ ends.WriteFault) × SaysFront w old new text) → IfSome told (λ (broken : Refused). IsRefusedBy w old new broken result)
  said_refusal old new None text result is whole front = tt
  said_refusal old new (Some broken) text (Ok x) is whole front = subst (Says w old new) is whole
  said_refusal old new (Some broken) text (Err e) is whole front =
      subst (λ (end : SessionEnd). IsRefusedBy w old new broken (Err end)) (sym front.0)
      (inl (subst (SaysFront w old new) is front.1))

  -- said in place of a refusal: memory ran out
  pub said_lack : (old new : W) (told : Option Refused) (end : SessionEnd) → SaysNoMemory w old new end
      → IfSome told (λ (broken : Refused). IsRefusedBy w old new broken (Err end))
  said_lack old new None end says = tt
  said_lack old new (Some broken) ends.NoMemory says = says
  said_lack old new (Some broken) ends.WriteFault says = inr says
  said_lack old new (Some broken) ends.Ended says = absurd says
  said_lack old new (Some broken) ends.ReadFault says = absurd says
  said_lack old new (Some broken) ends.Spent says = absurd says

  -- so no session ends there with a fault of a read
  pub lack_not_read : (old new : W) (end : SessionEnd) → SaysNoMemory w old new end → end ≡ ends.ReadFault → ⊥
  lack_not_read old new end says is = subst (SaysNoMemory w old new) is says

  pub lack_not_spent : (old new : W) (end : SessionEnd) → SaysNoMemory w old new end → end ≡ ends.Spent → ⊥
  lack_not_spent old new end says is = subst (SaysNoMemory w old new) is says

-- what is said to a refusal, and that nothing of a read ends the session there
pub ruleset says_refusal = (said_refusal, said_lack, lack_not_read, lack_not_spent)

-- what follows of the rule that a refusal tells of
pub of_rule : {P Q R : Refused → Type 0} {G : Type 0} (told : Option Refused) → IsSomeAnd told P → IfSome told Q → IfSome told R
    → ((broken : Refused) → P broken → Q broken → R broken → G) → G
of_rule None some first second then = absurd some
of_rule (Some broken) some first second then = then broken some first second
