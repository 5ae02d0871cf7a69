use Rattle.std.proofs.Common.{⊎_elim}
use Rattle.command_line.proofs.Ranges.{serve_in_range, explain_in_range}
use Rattle.command_line.proofs.laws.workers_in_range.Goals as goal

pub returns : goal.returns
returns c words listen workers connections is =
    ⊎_elim (λ serves. serve_in_range listen workers connections words serves) (λ explains. explain_in_range workers words explains) is
