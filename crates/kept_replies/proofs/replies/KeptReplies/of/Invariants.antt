use Rattle.std.proofs.Common.{◌≡◌, ◌++◌}
use Rattle.kept_replies.specs.Indexed.{IsIndexed}
use Rattle.kept_replies.proofs.replies.KeptReplies.of.Given as goal

-- those that are left come behind those that were taken up
abbrev pub invariant-loop-one : goal.invariant-loop-one
invariant-loop-one l = record {
  whole : l.queue.items ++ l.one-iterator.rest.items ≡ l.fn.kept.items;
  indexed : IsIndexed 0 l.numbers.entries l.queue.items;
}
