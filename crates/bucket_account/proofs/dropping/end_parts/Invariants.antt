use Rattle.std.proofs.Common.{◌≡◌, ℕ}
use Rattle.std.specs.Ordering.{nat_cmp}
use Rattle.office_base.specs.Maps.{Rises}
use Rattle.accrual.specs.Totals.{AreTotalsOf}
use Rattle.plain_office.specs.Office.{Books, book_of}
use Rattle.bucket_account.specs.Uploading.{HavePartStays, AreEndableAt}
use Rattle.bucket_account.proofs.Parting.{AreSmall, IsOnTheWay}
use Rattle.bucket_account.proofs.dropping.end_parts.Given as goal

abbrev pub invariant-loop-part : goal.invariant-loop-part
invariant-loop-part l = record {
  rises : Rises nat_cmp l.part-iterator;
  endable : AreEndableAt l.fn.at l.meters l.part-iterator;
  small : AreSmall l.part-iterator;
  stands : (number : ℕ) (books : Books) → AreTotalsOf l.fn.meters (book_of books)
      → HavePartStays number l.upload l.upload.parts books
      → IsOnTheWay l.upload number l.fn.at books l.meters l.part-iterator;
  booked : l.meters.booked ≡ l.fn.meters.booked;
}
