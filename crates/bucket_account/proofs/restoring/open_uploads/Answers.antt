use Rattle.std.proofs.Common.{◌≡◌, ◌+◌, ℕ, List, length, flat_map, sym, subst}
use Rattle.std.specs.Prelude.{sum_by}
use Rattle.std.specs.Map.Iter.{deref_pair}
use Rattle.std.proofs.lemmas.Map.Iter.{rest_more}
use Rattle.uploads.specs.Uploads.{UploadRecord}
use Rattle.bucket_account.specs.Restoring.{upload_stays}
use Rattle.bucket_account.proofs.Counted.{counted_more}
use Rattle.bucket_account.proofs.Reopening.{IsOpening, opening_more}
use Rattle.bucket_account.proofs.restoring.open_uploads.Goals as goal

abbrev Entry : Type 0
Entry = ℕ × UploadRecord

abbrev count : Entry → ℕ
count upload = length upload.1.parts

pub loop-upload-preserved : goal.loop-upload-preserved
loop-upload-preserved c =
    let more = rest_more deref_pair c.loop-upload.upload-iterator c.next.new.self c.next.result (c.in-Some.field-0-0, c.in-Some.upload) c.in-Some.is c.next.ensures.steps in
    let all = c.args.uploads.now.entries in
    let total = c.args.meters.now.booked + sum_by count all in
    let counted = counted_more count c.loop-upload.meters.booked total c.loop-upload.upload-iterator c.loop-upload.invariant.booked (c.in-Some.field-0-0.now, c.in-Some.upload.now) c.next.new.self more in
    record {
      opening = opening_more c.args.meters.now c.loop-upload.meters c.open_upload.new.meters (upload_stays (c.in-Some.field-0-0.now, c.in-Some.upload.now)) (flat_map upload_stays c.next.new.self)
          (flat_map upload_stays all) (c.in_ok-open_upload.ensures.stays c.in-Some.field-0-0.now)
          (subst (λ (l : List Entry). IsOpening c.args.meters.now c.loop-upload.meters (flat_map upload_stays l) (flat_map upload_stays all)) more c.loop-upload.invariant.opening);
      booked = subst (λ (n : ℕ). n + sum_by count c.next.new.self ≡ total) (sym c.in_ok-open_upload.ensures.booked) counted;
    }
