use Rattle.std.specs.VecDeque.Iter.{deque_iter_rest}
use Rattle.kept_replies.specs.Queue.{plain_reply, plain_replies}
use Rattle.kept_replies.proofs.Anew.{whole_more}
use Rattle.kept_replies.proofs.replies.copies_of_all.Goals as goal

pub loop-kept-preserved : goal.loop-kept-preserved
loop-kept-preserved c = record {
  whole = whole_more plain_reply c.loop-kept.all.items c.push_copy.new.all.items (deque_iter_rest c.loop-kept.kept-iterator) (plain_replies c.args.queue.now.items) c.in-Some.kept.now (deque_iter_rest c.next.new.self)
      c.loop-kept.invariant.whole c.in-Some.ensures.steps c.in_ok-push_copy.ensures.same;
  told = c.in_ok-push_copy.ensures.told c.loop-kept.invariant.told;
}
