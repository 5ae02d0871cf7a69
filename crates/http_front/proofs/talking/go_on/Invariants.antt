use Rattle.std.proofs.Common.{◌≤◌, ◌+◌, ◌-◌, ◌^◌, length}
use Rattle.std.specs.Io.KnownBytes.{prepend_known}
use Rattle.http_wire.specs.Held.{take_limit}
use Rattle.http_wire.specs.Sources.{OnlyReads}
use Rattle.http_asks.specs.Counts.{Given}
use Rattle.http_front.specs.Saying.{OnlySays}
use Rattle.http_front.specs.Session.{sides}
use Rattle.http_front.specs.Talk.{Talked}
use Rattle.http_front.proofs.talking.go_on.Given as goal

abbrev pub invariant-talking : goal.invariant-talking
invariant-talking g l = record {
  talked : Talked g.T.Teller.moves g.W.Replies (sides l.fn.teller l.fn.out) (sides l.teller l.out)
      (prepend_known l.fn.reader.bytes (g.R.Source.left l.fn.source)) (prepend_known l.reader.bytes (g.R.Source.left l.source));
  room : 16384 ≤ length l.room;
  given : Given l.fn.reader.taken l.reader.taken (g.R.Source.left l.fn.source) (g.R.Source.left l.source);
  limit : l.reader.taken ≤ take_limit;
  only_says : OnlySays g.W.Replies l.fn.out l.out ⊥;
  only_reads : OnlyReads g.R.Source l.fn.source l.source ⊥;
}

abbrev pub decreases-talking : goal.decreases-talking
decreases-talking g l = (2 ^ 40 - l.reader.taken) + length l.reader.bytes
