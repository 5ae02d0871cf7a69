use Rattle.std.proofs.Common.{◌≡◌, ◌+◌, length, flat_map}
use Rattle.std.specs.Prelude.{sum_by}
use Rattle.bucket_account.specs.Restoring.{upload_stays}
use Rattle.bucket_account.proofs.Reopening.{IsOpening}
use Rattle.bucket_account.proofs.restoring.open_uploads.Given as goal

abbrev pub invariant-loop-upload : goal.invariant-loop-upload
invariant-loop-upload l = record {
  opening : IsOpening l.fn.meters l.meters (flat_map upload_stays l.upload-iterator) (flat_map upload_stays l.uploads.entries);
  booked : l.meters.booked + sum_by (λ upload. length upload.1.parts) l.upload-iterator
      ≡ l.fn.meters.booked + sum_by (λ upload. length upload.1.parts) l.uploads.entries;
}
