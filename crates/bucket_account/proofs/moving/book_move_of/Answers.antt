use Rattle.std.proofs.Common.{sym, subst}
use Rattle.std.specs.Prelude.{Option, OnOk}
use Rattle.stacks.specs.declared.version.Version.{Version}
use Rattle.accrual.specs.Totals.{AreTotalsOf}
use Rattle.plain_office.specs.Office.{Books, book_of}
use Rattle.plain_office.specs.Changes.{books_moved}
use Rattle.bucket_account.specs.Booking.{MayHaveStay, IsSinceBy}
use Rattle.bucket_account.specs.Moving.{IsAnObject}
use Rattle.bucket_account.proofs.moving.book_move_of.Goals as goal

pub book_move-requires-clause-object : goal.book_move-requires-clause-object
book_move-requires-clause-object c = subst IsAnObject (sym c.in-Some.ensures) c.requires.there

pub book_move-requires-clause-later : goal.book_move-requires-clause-later
book_move-requires-clause-later c = subst (IsSinceBy c.args.at) (sym c.in-Some.ensures) c.requires.since

pub book_move-requires-clause-open : goal.book_move-requires-clause-open
book_move-requires-clause-open c =
    let held = c.requires.open in
    (held.0, held.1, subst (λ (o : Option Version). MayHaveStay c.args.key.now o held.0) (sym c.in-Some.ensures) held.2)

pub unreachable-requires : goal.unreachable-requires
unreachable-requires c = subst IsAnObject (sym c.in-None.ensures) c.requires.there

pub returns-clause-stands : goal.returns-clause-stands
returns-clause-stands c =
    let key = c.args.key.now in
    subst (λ (o : Option Version). OnOk c.book_move.result ((books : Books) → AreTotalsOf c.args.meters.now (book_of books) → MayHaveStay key o books
    → AreTotalsOf c.book_move.new.meters (book_of (books_moved key o c.args.to c.args.at books)))) c.in-Some.ensures c.book_move.ensures.stands
