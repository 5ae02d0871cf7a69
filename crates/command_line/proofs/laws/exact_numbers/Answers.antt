use Rattle.command_line.proofs.Numerals.{exact}
use Rattle.command_line.proofs.laws.exact_numbers.Goals as goal

pub returns : goal.returns
returns c = exact
