use Rattle.kept_replies.proofs.Anew.{next_few, next_new, next_more}
use Rattle.kept_replies.proofs.replies.KeptReplies.of.Goals as goal

pub take_up-requires-clause-few : goal.take_up-requires-clause-few
take_up-requires-clause-few c =
    next_few c.loop-one.queue.items c.loop-one.one-iterator.rest.items c.args.kept.items c.in-Some.one c.next.new.self.rest.items c.loop-one.invariant.whole c.in-Some.ensures.steps.0 c.requires.few

pub take_up-requires-clause-new : goal.take_up-requires-clause-new
take_up-requires-clause-new c =
    next_new c.loop-one.queue.items c.loop-one.one-iterator.rest.items c.args.kept.items c.in-Some.one c.next.new.self.rest.items c.loop-one.invariant.whole c.in-Some.ensures.steps.0 c.requires.differ

pub loop-one-preserved : goal.loop-one-preserved
loop-one-preserved c = record {
  whole = next_more c.loop-one.queue.items c.loop-one.one-iterator.rest.items c.args.kept.items c.in-Some.one c.next.new.self.rest.items c.loop-one.invariant.whole c.in-Some.ensures.steps.0
      c.take_up.new.queue.items c.in_ok-take_up.ensures.queue;
  indexed = c.in_ok-take_up.ensures.indexed;
}
