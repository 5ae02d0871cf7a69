use Rattle.std.proofs.Common.{◌≡◌, take, true}
use Rattle.std.specs.List.{list_all}
use Rattle.checkpoint.specs.Parts.{are_six}
use Rattle.checkpoint.proofs.whole.are_months_whole.Given as goal

abbrev pub invariant-loop-sums : goal.invariant-loop-sums
invariant-loop-sums l = list_all are_six (take l.sums-index l.all) ≡ true
