use Rattle.std.proofs.Common.{◌≡◌, ◌++◌}
use Rattle.std.specs.List.{AllByRecursion}
use Rattle.std.specs.VecDeque.Iter.{deque_iter_rest}
use Rattle.kept_replies.specs.Queue.{plain_replies, IsTold}
use Rattle.kept_replies.proofs.replies.copies_of_all.Given as goal

-- those that are left come behind those that were copied
abbrev pub invariant-loop-kept : goal.invariant-loop-kept
invariant-loop-kept l = record {
  whole : plain_replies l.all.items ++ plain_replies (deque_iter_rest l.kept-iterator) ≡ plain_replies l.queue.items;
  told : AllByRecursion IsTold l.all.items;
}
