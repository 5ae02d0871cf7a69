use Rattle.std.proofs.Common.{◌≡◌, ◌≤◌, ℕ, ◌+◌, ◌^◌, ◌∙◌, Option, true, sym, subst, ap, arith}
use Rattle.std.specs.Prelude.{List, Result, Err}
use Rattle.office_types.specs.declared.command.Command.TheVariants as command
use Rattle.office_types.specs.declared.refusal.Refusal.{Refusal}
use Rattle.forecast.specs.declared.fault.ForecastFault.{ForecastFault}
use Rattle.forecast.specs.declared.fault.ForecastFault.TheVariants.{Refused}
use Rattle.forecast.specs.declared.forecast.Forecast.{Forecast}
use Rattle.plain_office.specs.Run.{is_not_before}
use Rattle.forecast.specs.Forecasts.{Proposal}
use Rattle.forecast.proofs.Begun.{begins_named, named_under_way}
use Rattle.forecast.proofs.forecast.Forecast.begin.Goals as goal

abbrev failed : ForecastFault → Result Forecast ForecastFault
failed fault = Err fault

abbrev done : ForecastFault → Result (Unit {0}) ForecastFault
done fault = Err fault

-- the days are in order
in_order : (u t a b : ℕ) → a ≡ u → b ≡ t → b ≤ a → t ≤ u
in_order u t a b is_u is_t le = omega (arith, le, is_u, is_t)

later_copy : (last copied : Option ℕ) (t : ℕ) → copied ≡ last → is_not_before last t ≡ true → is_not_before copied t ≡ true
later_copy last copied t same later = subst (λ (o : Option ℕ). is_not_before o t ≡ true) (sym same) later

few_copy : (before copied after : ℕ) → before ≤ 2 ^ 41 → copied ≡ before → after ≤ copied + 1 → after ≤ 2 ^ 41 + 1
few_copy before copied after few same more = omega (arith, few, same, more)

act_named : (a b : List ℕ) → a ≡ b → command.Act b ≡ command.Act a
act_named a b same = ap command.Act (sym same)

same_fault : (fault : ForecastFault) (refusal : Refusal) → failed fault ≡ failed (Refused refusal) → done fault ≡ done (Refused refusal)
same_fault fault refusal is = let same : fault ≡ Refused refusal = cc in ap done same

pub invariant_of-result : goal.invariant_of-result
invariant_of-result c =
    let asked : Proposal = record { bucket = c.args.bucket.now; rules = c.args.rules; from = c.args.t; until = c.args.u } in (
      named_under_way asked c.in-Ok-copy.copy (later_copy c.args.office.now.records.last c.in-Ok-copy.copy.records.last c.args.t c.in-Ok-copy.ensures.last c.requires.later) c.set_rules.new.office
          c.in-Ok-set_rules.ensures.set c.month_of.result c.month_of.ensures.within
          (in_order c.args.u c.args.t c.ms.result c.ms-2.result c.ms.ensures.same c.ms-2.ensures.same c.if-ms.false) c.in-Ok.name c.in-Ok.ensures c.in-Ok-copy.ensures.some.0
          c.in-Ok-copy.ensures.some.1
          (few_copy c.args.office.now.records.accepted c.in-Ok-copy.copy.records.accepted c.set_rules.new.office.records.accepted c.requires.few c.in-Ok-copy.ensures.accepted c.set_rules.ensures.accepted),
      c.in-Ok-act_on.ensures ∙ act_named c.in-Ok.name c.args.bucket.now c.in-Ok.ensures,
    )

pub returns-in-Ok-set_rules-clause-begun : goal.returns-in-Ok-set_rules-clause-begun
returns-in-Ok-set_rules-clause-begun c = λ p stands.
    let asked : Proposal = record { bucket = c.args.bucket.now; rules = c.args.rules; from = c.args.t; until = c.args.u } in
    begins_named asked c.in-Ok-copy.copy (later_copy c.args.office.now.records.last c.in-Ok-copy.copy.records.last c.args.t c.in-Ok-copy.ensures.last c.requires.later) c.set_rules.new.office
    c.in-Ok-set_rules.ensures.set c.month_of.result c.month_of.ensures.within
    (in_order c.args.u c.args.t c.ms.result c.ms-2.result c.ms.ensures.same c.ms-2.ensures.same c.if-ms.false) c.in-Ok.name c.in-Ok.ensures p
    (c.in-Ok-copy.ensures.stands p stands)

pub returns-in-Err-clause-refused : goal.returns-in-Err-clause-refused
returns-in-Err-clause-refused c = λ p refusal stands is. (
  in_order c.args.u c.args.t c.ms.result c.ms-2.result c.ms.ensures.same c.ms-2.ensures.same c.if-ms.false,
  c.set_rules.ensures.refused p refusal (c.in-Ok-copy.ensures.stands p stands) (c.in-Err.is ∙ same_fault c.in-Err.fault refusal is),
)
