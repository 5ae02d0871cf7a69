use Rattle.std.proofs.Common.{◌≡◌, ◌+◌, ℕ, length, map}
use Rattle.plain_office.specs.Orderly.{stay_of_part}
use Rattle.bucket_account.specs.Restoring.{upload_stays}
use Rattle.bucket_account.proofs.Parting.{AreSmall}
use Rattle.bucket_account.proofs.Reopening.{IsOpening}
use Rattle.bucket_account.proofs.restoring.open_upload.Given as goal

abbrev pub invariant-loop-part : goal.invariant-loop-part
invariant-loop-part l = record {
  small : AreSmall l.part-iterator;
  opening : (number : ℕ) → IsOpening l.fn.meters l.meters (map (λ part. stay_of_part number l.fn.upload part.0 part.1) l.part-iterator)
      (upload_stays (number, l.fn.upload));
  booked : l.meters.booked + length l.part-iterator ≡ l.fn.meters.booked + length l.fn.upload.parts;
}
