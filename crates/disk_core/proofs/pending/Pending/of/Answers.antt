use Rattle.std.proofs.Common.{◌∙◌, sym, take}
use Rattle.disk_core.specs.Kept.{calls_of}
use Rattle.disk_core.specs.Replay.{after}
use Rattle.disk_core.specs.Pending.{file_of}
use Rattle.disk_core.proofs.Kept.{rest_of-none}
use Rattle.disk_core.proofs.Steps.{step_none, step_more, rest_more, own_fits}
use Rattle.disk_core.proofs.pending.Pending.of.Goals as goal

pub loop-call-init : goal.loop-call-init
loop-call-init c = (
  c.in_ok-pending.ensures ∙ step_none c.args.file c.args.calls.now c.args.bytes.now,
  sym (rest_of-none c.args.bytes.now),
)

pub split_at-requires : goal.split_at-requires
split_at-requires c =
    own_fits c.args.calls.now c.loop-call.call-index _ c.loop-call-test.true c.args.bytes.now c.loop-call.rest.now c.count.result
    c.count.ensures c.loop-call.invariant.1 c.requires

pub loop-call-preserved : goal.loop-call-preserved
loop-call-preserved c = (
  step_more c.args.calls.now c.loop-call.call-index _ c.loop-call-test.true (file_of c.go_on.new.self) c.args.file c.args.bytes.now
      c.loop-call.rest.now c.split_at.result.0.now c.count.result c.count.ensures c.loop-call.invariant.1 c.split_at.ensures.front
      (c.in_ok-go_on.ensures (after (calls_of (take c.loop-call.call-index c.args.calls.now) c.args.bytes.now)) c.loop-call.invariant.0),
  rest_more c.args.calls.now c.loop-call.call-index _ c.loop-call-test.true c.args.bytes.now c.loop-call.rest.now c.split_at.result.1.now
      c.count.result c.count.ensures c.loop-call.invariant.1 c.split_at.ensures.back,
)
