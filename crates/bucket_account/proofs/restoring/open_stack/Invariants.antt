use Rattle.std.proofs.Common.{◌≡◌, ◌+◌, drop, map}
use Rattle.plain_office.specs.Orderly.{stay_of_version}
use Rattle.bucket_account.specs.Restoring.{stack_stays}
use Rattle.bucket_account.proofs.Reopening.{IsOpening}
use Rattle.bucket_account.proofs.restoring.open_stack.Given as goal

abbrev pub invariant-loop-version : goal.invariant-loop-version
invariant-loop-version l = record {
  opening : IsOpening l.fn.meters l.meters (map (stay_of_version l.key) (drop l.version-index l.stack.versions)) (stack_stays (l.key, l.stack));
  booked : l.meters.booked ≡ l.fn.meters.booked + l.version-index;
}
