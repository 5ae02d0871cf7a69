use Rattle.std.proofs.Common.{length}
use Rattle.office_types.proofs.commands.+are_pairs.Given as goal

abbrev pub decreases-are_pairs : goal.decreases-are_pairs
decreases-are_pairs l = length l.a.now
