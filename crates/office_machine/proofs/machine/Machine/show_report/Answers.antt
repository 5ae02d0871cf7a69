use Rattle.std.proofs.Common.{◌≡◌, ◌^◌, ◌<◌, List, inl, ap, sym, ◌∙◌, subst, arith, true}
use Rattle.std.specs.Prelude.{Ok}
use Rattle.plain_office.specs.Run.{is_not_before}
use Rattle.office_types.specs.declared.reply.Reply.TheVariants.{Report}
use Rattle.office_types.specs.declared.reply.ReportLine.{ReportLine}
use Rattle.office_types.specs.Reports.{charges}
use Rattle.office_machine.proofs.Offices.{shows_report, shows_no_report, listed, few_accounts}
use Rattle.office_machine.proofs.Seen.{seen_later, seen_stands}
use Rattle.office_machine.proofs.machine.Machine.show_report.Goals as goal

pub returns-in_default-clause-reply : goal.returns-in_default-clause-reply
returns-in_default-clause-reply c = λ p stands.
    inl (sym (shows_no_report _ p stands c.args.t c.args.month (sym (c.tariff_for.ensures p stands) ∙ c.in_default.is)))

pub returns-clause-reply : goal.returns-clause-reply
returns-clause-reply c = λ p stands.
    let stood = seen_stands c.self.view_is stands in
    let later : is_not_before c.self.inside.last c.args.t ≡ true = seen_later c.args.t c.self.view_is c.requires.later in
    let told = shows_report _ p stood c.args.t c.args.month c.in-Some.tariff (sym (c.tariff_for.ensures p stands) ∙ c.in-Some.is) in
    let lines = c.of.ensures ∙ listed _ p stood c.args.t later c.in-Some.tariff c.args.month c.in_ok-lines.lines.items c.in_ok-lines.ensures.exact in
    inl (ap (λ (l : List ReportLine). Ok (Report l)) lines ∙ sym told)

pub returns-clause-fits : goal.returns-clause-fits
returns-clause-fits c =
    let few = few_accounts _ c.self.invariant.office c.self.invariant.stands in
    let small = c.in_ok-lines.ensures.small in
    subst (λ (l : List ReportLine). charges l < 2 ^ 128) (sym c.of.ensures) (omega (arith, few, small))
