use Rattle.std.proofs.Common.{length}
use Rattle.entry_codec.proofs.fields.+rise.Given as goal

abbrev pub decreases-rise : goal.decreases-rise
decreases-rise l = length l.pairs.now
