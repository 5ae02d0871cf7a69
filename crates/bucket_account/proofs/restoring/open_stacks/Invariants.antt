use Rattle.std.proofs.Common.{◌≡◌, ◌+◌, length, flat_map}
use Rattle.std.specs.Prelude.{sum_by}
use Rattle.bucket_account.specs.Restoring.{stack_stays}
use Rattle.bucket_account.proofs.Reopening.{IsOpening}
use Rattle.bucket_account.proofs.restoring.open_stacks.Given as goal

abbrev pub invariant-loop-key : goal.invariant-loop-key
invariant-loop-key l = record {
  opening : IsOpening l.fn.meters l.meters (flat_map stack_stays l.key-iterator) (flat_map stack_stays l.stacks.entries);
  booked : l.meters.booked + sum_by (λ stack. length stack.1.versions) l.key-iterator
      ≡ l.fn.meters.booked + sum_by (λ stack. length stack.1.versions) l.stacks.entries;
}
