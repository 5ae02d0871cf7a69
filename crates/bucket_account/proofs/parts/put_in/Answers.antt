use Rattle.std.proofs.Common.{◌≤◌, ℕ, sym, subst, arith}
use Rattle.std.specs.Prelude.{Option}
use Rattle.moments.specs.Months.{month_at}
use Rattle.accrual.proofs.Windows.{month_at_order}
use Rattle.uploads.specs.declared.part.Part.{Part}
use Rattle.bucket_account.specs.Booking.{HasRowsFrom}
use Rattle.bucket_account.specs.Uploading.{MayEndAt}
use Rattle.bucket_account.proofs.PartStays.{since_by, may_end}
use Rattle.bucket_account.proofs.parts.put_in.Goals as goal

pub reserve-requires : goal.reserve-requires
reserve-requires c =
    record { later = subst (λ (n : ℕ). n ≤ c.args.at) (sym c.put_since.ensures.since) (since_by c.args.upload.now c.args.number c.args.at c.put_since.ensures.ranges c.requires.later) }

pub end_part-requires-clause-ends : goal.end_part-requires-clause-ends
end_part-requires-clause-ends c =
    subst (λ (o : Option Part). MayEndAt c.args.at c.reserve.new.meters o) (sym c.in_ok-gone.ensures.gone)
    (may_end c.args.upload.now c.args.number c.args.at c.put_since.ensures.ranges c.requires.later c.reserve.new.meters
    (subst (λ (n : ℕ). HasRowsFrom n c.args.at c.reserve.new.meters) c.put_since.ensures.since c.in_ok-reserve.ensures.rows))

pub open-requires-clause-row : goal.open-requires-clause-row
open-requires-clause-row c =
    let earlier : c.put_since.result ≤ c.args.at =
    subst (λ (n : ℕ). n ≤ c.args.at) (sym c.put_since.ensures.since) (since_by c.args.upload.now c.args.number c.args.at c.put_since.ensures.ranges c.requires.later) in
    c.end_part.ensures.rows (month_at c.args.at) (c.in_ok-reserve.ensures.rows (month_at c.args.at) (month_at_order c.put_since.result c.args.at earlier) (omega arith))
