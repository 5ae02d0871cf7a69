use Rattle.std.proofs.Common.{ap, sym}
use Rattle.toml_rows.specs.Walking.{knows, first_unknown}
use Rattle.tariff.specs.Reading.{unless_other}
use Rattle.tariff.proofs.RowReading.{refuse}
use Rattle.tariff.proofs.read.refuse_unknown.Goals as goal

pub returns-in-Some : goal.returns-in-Some
returns-in-Some c depth ms is =
    refuse c.unknown.result c.in-Some.name.now ms (first_unknown (knows c.args.known.now) ms) c.unknown.ensures (c.in-Some.ensures depth ms is)

pub returns-in-None : goal.returns-in-None
returns-in-None c depth ms is = ap (unless_other ms) (sym (c.in-None.ensures depth ms is))
