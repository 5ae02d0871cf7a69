use Rattle.std.proofs.Common.{◌≡◌, ◌∙◌, ℕ, Option, ap, sym, subst}
use Rattle.office_machine.specs.Once.{OfficeView, StandsFor}
use Rattle.desk_core.specs.Calls.{moment_after}
use Rattle.http_front.specs.Counts.{stream_ends}
use Rattle.office_commands.proofs.Foretold.{with_rules, without}
use Rattle.office_commands.proofs.forecasting.foretell_by.Goals as goal

pub propose-requires-clause-stands : goal.propose-requires-clause-stands
propose-requires-clause-stands g c =
    let stood = c.requires.stands in
    (stood.0, subst (λ (v : OfficeView). StandsFor v stood.0) (sym c.office-office.ensures.same) stood.1)

pub returns-in-Ok-clause-forecasts : goal.returns-in-Ok-clause-forecasts
returns-in-Ok-clause-forecasts g c office stood =
    let stands = subst (λ (v : OfficeView). StandsFor v office) (sym c.office-office.ensures.same) stood in
    let at = c.moment_for-t.ensures.same ∙ ap (λ (o : Option ℕ). moment_after c.args.told o) (c.last.ensures.same ∙ stands.records.last) in
    with_rules g.W.Replies c.args.asked.now (stream_ends (g.S.Source.left c.args.input.now) (g.S.Source.left c.read_configuration.new.input)) c.args.told office
    c.args.out.now c.propose.new.out c.propose.result c.in-Ok.rules c.moment_for-t.result at c.in-Ok.ensures.says (c.propose.ensures.tells office stands)

pub returns-in-Err-clause-forecasts : goal.returns-in-Err-clause-forecasts
returns-in-Err-clause-forecasts g c office stood =
    without g.W.Replies c.args.asked.now (stream_ends (g.S.Source.left c.args.input.now) (g.S.Source.left c.read_configuration.new.input)) c.args.told office
    c.args.out.now c.refuse_input-status.new.out c.refuse_input-status.result c.in-Err.fault c.in-Err.ensures.says c.refuse_input-status.ensures.tells
