use Rattle.std.proofs.Common.{rules}
use Rattle.std.specs.Prelude.{option_copied}
use Rattle.checkpoint.proofs.Collecting.{no_more, falls}
use Rattle.checkpoint.proofs.maps.do_keys_rise.Goals as goal

pub returns-then-not-is_below : goal.returns-then-not-is_below
returns-then-not-is_below g c =
    falls g.K.Ord.cmp g.met.K.Ord.total (option_copied c.loop-pair.before) c.in-Some.last.now c.args.pairs.now c.loop-pair.pair-index c.pair-item.result
    c.loop-pair.invariant (search rules) (search rules) c.pair-item.is (search rules)

pub returns : goal.returns
returns g c =
    no_more g.K.Ord.cmp g.met.K.Ord.total (option_copied c.loop-pair.before) c.args.pairs.now c.loop-pair.pair-index c.loop-pair.invariant (search rules)
