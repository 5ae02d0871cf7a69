use Rattle.std.proofs.Common.{arith}
use Rattle.entry_codec.specs.Fields.{Tiers, format}
use Rattle.entry_codec.proofs.Repeated.{after_one, fails_after, all_read}
use Rattle.entry_codec.proofs.tiers.storage_of.Goals as goal

pub returns-in-Err : goal.returns-in-Err
returns-in-Err c = fails_after (format Tiers) c.loop-i.room c.loop-i.i c.args.total c.loop-i.rest.now c.in-Err.e _ (omega (arith, c.loop-i-test.true)) c.in-Err.ensures c.loop-i.invariant

pub loop-i-preserved : goal.loop-i-preserved
loop-i-preserved c = after_one (format Tiers) c.loop-i.room c.loop-i.i c.args.total c.loop-i.rest.now c.in-Ok.read.0 c.in-Ok.read.1.now _ (omega (arith, c.loop-i-test.true)) c.in-Ok.ensures c.loop-i.invariant

pub returns : goal.returns
returns c = all_read (format Tiers) c.loop-i.room c.loop-i.i c.args.total c.loop-i.rest.now _ (omega (arith, c.loop-i-test.false)) c.loop-i.invariant
