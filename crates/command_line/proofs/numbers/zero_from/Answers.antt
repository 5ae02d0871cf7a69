use Rattle.command_line.proofs.Numerals.{zero_in}
use Rattle.command_line.proofs.numbers.zero_from.Goals as goal

pub returns-then-least-eq0 : goal.returns-then-least-eq0
returns-then-least-eq0 c = zero_in c.args.least c.args.most c.if-least-eq0.true
