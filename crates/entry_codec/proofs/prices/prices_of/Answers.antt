use Rattle.std.proofs.Common.{arith}
use Rattle.entry_codec.specs.Fields.{Price, format}
use Rattle.entry_codec.proofs.PriceLemmas.{prices_after}
use Rattle.entry_codec.proofs.Repeated.{after_one, fails_after, all_read}
use Rattle.entry_codec.proofs.prices.prices_of.Goals as goal

pub returns-in-Err-clause-read : goal.returns-in-Err-clause-read
returns-in-Err-clause-read c = fails_after (format Price) c.loop-i.room c.loop-i.i c.args.total c.loop-i.rest.now c.in-Err.e _ (omega (arith, c.loop-i-test.true)) c.in-Err.ensures.read c.loop-i.invariant.read

pub loop-i-preserved : goal.loop-i-preserved
loop-i-preserved c = record {
  read = after_one (format Price) c.loop-i.room c.loop-i.i c.args.total c.loop-i.rest.now c.in-Ok.read.0 c.in-Ok.read.1.now _ (omega (arith, c.loop-i-test.true)) c.in-Ok.ensures.read c.loop-i.invariant.read;
  prices = prices_after c.loop-i.room c.loop-i.i c.in-Ok.read.0 (omega (arith, c.loop-i-test.true)) c.loop-i.invariant.prices c.in-Ok.ensures.price;
}

pub returns-clause-read : goal.returns-clause-read
returns-clause-read c = all_read (format Price) c.loop-i.room c.loop-i.i c.args.total c.loop-i.rest.now _ (omega (arith, c.loop-i-test.false)) c.loop-i.invariant.read
