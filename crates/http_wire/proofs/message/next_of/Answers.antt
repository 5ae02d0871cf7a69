use Rattle.http_wire.proofs.MessageLemmas.{hopeless_told, large_told, cut_told}
use Rattle.http_wire.proofs.message.next_of.Goals as goal

pub returns-in-Hopeless-clause-tells : goal.returns-in-Hopeless-clause-tells
returns-in-Hopeless-clause-tells g c =
    hopeless_told c.args.buffer.now (g.R.Source.left c.args.source.now) c.args.heading c.requires.heading c.in-Hopeless.is

pub returns-in-TooLarge-clause-tells : goal.returns-in-TooLarge-clause-tells
returns-in-TooLarge-clause-tells g c =
    large_told c.args.buffer.now (g.R.Source.left c.args.source.now) c.args.heading c.requires.heading c.in-TooLarge.is

pub returns-in-CutShort-clause-tells : goal.returns-in-CutShort-clause-tells
returns-in-CutShort-clause-tells g c =
    cut_told c.args.buffer.now (g.R.Source.left c.args.source.now) c.args.heading c.requires.heading c.in-CutShort.is
