use Rattle.std.proofs.Common.{ℕ, List, subst}
use Rattle.accrual.specs.Totals.{AreTotalsOf}
use Rattle.plain_office.specs.Office.{Books, book_of}
use Rattle.bucket_account.specs.Booking.{books_put, gone_of, MayHaveStay}
use Rattle.bucket_account.proofs.Gone.{are_endable}
use Rattle.bucket_account.proofs.Parting.{endable_kept}
use Rattle.bucket_account.proofs.WholePut.{stays_kept}
use Rattle.bucket_account.proofs.completing.put_whole.Goals as goal

pub end_parts-requires-clause-endable : goal.end_parts-requires-clause-endable
end_parts-requires-clause-endable c =
    endable_kept c.args.incoming.at c.reserve.new.meters c.put_version.new.meters c.in_ok-counts.ensures.rows c.args.upload.now.parts
    (are_endable c.args.upload.now c.args.incoming.at c.first_put.result c.reserve.new.meters c.first_put.ensures.ranges c.requires.later c.in_ok-reserve.ensures.rows c.first_put.ensures.parts)

pub end_parts-requires-clause-open : goal.end_parts-requires-clause-open
end_parts-requires-clause-open c =
    let o = c.requires.open in
    let put =
    subst (λ (key : List ℕ). (books : Books) → AreTotalsOf c.reserve.new.meters (book_of books) → MayHaveStay key (gone_of key c.args.incoming c.args.stacks.now.entries) books
    → AreTotalsOf c.put_version.new.meters (book_of (books_put key c.args.incoming (gone_of key c.args.incoming c.args.stacks.now.entries) books))) c.key.ensures c.in_ok-counts.ensures.meters in (
      o.0,
      books_put c.args.upload.now.key c.args.incoming (gone_of c.args.upload.now.key c.args.incoming c.args.stacks.now.entries) o.1,
      put o.1 (c.in_ok-reserve.ensures.stands _ o.2) o.3,
      stays_kept c.args.upload.now o.0 c.args.incoming (gone_of c.args.upload.now.key c.args.incoming c.args.stacks.now.entries) o.1 c.args.upload.now.parts o.4,
    )

pub returns-clause-meters : goal.returns-clause-meters
returns-clause-meters c = λ number books stands stay stays.
    let put =
    subst (λ (key : List ℕ). (books : Books) → AreTotalsOf c.reserve.new.meters (book_of books) → MayHaveStay key (gone_of key c.args.incoming c.args.stacks.now.entries) books
    → AreTotalsOf c.put_version.new.meters (book_of (books_put key c.args.incoming (gone_of key c.args.incoming c.args.stacks.now.entries) books))) c.key.ensures c.in_ok-counts.ensures.meters in
    c.end_parts.ensures.stands number (books_put c.args.upload.now.key c.args.incoming (gone_of c.args.upload.now.key c.args.incoming c.args.stacks.now.entries) books)
    (put books (c.in_ok-reserve.ensures.stands _ stands) stay)
    (stays_kept c.args.upload.now number c.args.incoming (gone_of c.args.upload.now.key c.args.incoming c.args.stacks.now.entries) books c.args.upload.now.parts stays)
