use Rattle.checkpoint.specs.Bodies.{joined}
use Rattle.checkpoint.proofs.Joining.{IsJoining}
use Rattle.checkpoint.proofs.body_readers.joined.Given as goal

abbrev pub invariant-loop-head : goal.invariant-loop-head
invariant-loop-head l =
    IsJoining l.parts.items l.head-iterator.rest.items l.stacks.rest.items l.uploads.rest.items l.sums.rest.items
    (joined l.fn.heads.items l.fn.lists.stacks.items l.fn.lists.uploads.items l.fn.lists.sums.items)
