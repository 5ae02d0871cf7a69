use Rattle.std.proofs.Common.{◌≡◌, drop}
use Rattle.std.specs.Prelude.{option_copied, None}
use Rattle.checkpoint.proofs.Collecting.{rise_after}
use Rattle.checkpoint.proofs.maps.do_keys_rise.Given as goal

abbrev pub invariant-loop-pair : goal.invariant-loop-pair
invariant-loop-pair g l = rise_after g.K.Ord.cmp (option_copied l.before) (drop l.pair-index l.pairs) ≡ rise_after g.K.Ord.cmp None l.pairs
