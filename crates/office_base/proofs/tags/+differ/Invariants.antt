use Rattle.std.proofs.Common.{length}
use Rattle.office_base.proofs.tags.+differ.Given as goal

abbrev pub decreases-differ : goal.decreases-differ
decreases-differ l = length l.pairs.now
