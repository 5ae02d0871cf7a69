use Rattle.std.proofs.Common.{arith}
use Rattle.moments.specs.Months.{month_at}
use Rattle.class_rules.specs.Lines.{lines_of}
use Rattle.plain_office.specs.Office.{book_of}
use Rattle.accrual.proofs.Windows.{month_at_order}
use Rattle.bucket_account.proofs.Moved.{entered_by, move_booked}
use Rattle.bucket_account.proofs.moving.book_move.Goals as goal

pub open-requires-clause-row : goal.open-requires-clause-row
open-requires-clause-row c =
    let at = c.args.at in
    let before = entered_by c.args.version.now at c.in-Object.size c.in-Object.class c.in-Object.tags c.in-Object.entered c.in-Object.is c.requires.later in
    c.end_version.ensures.rows (month_at at) (c.in_ok-reserve-in-Object.ensures.rows (month_at at) (month_at_order c.in-Object.entered at before) (omega arith))

pub moved-requires-clause-row : goal.moved-requires-clause-row
moved-requires-clause-row c =
    let at = c.args.at in
    let before = entered_by c.args.version.now at c.in-Object.size c.in-Object.class c.in-Object.tags c.in-Object.entered c.in-Object.is c.requires.later in
    c.open.ensures.rows (month_at at) (c.end_version.ensures.rows (month_at at) (c.in_ok-reserve-in-Object.ensures.rows (month_at at) (month_at_order c.in-Object.entered at before) (omega arith)))

pub returns-clause-stands : goal.returns-clause-stands
returns-clause-stands c = λ books stands has.
    move_booked c.args.key.now c.args.version.now c.args.to c.args.at books c.in-Object.size c.in-Object.class c.in-Object.tags c.in-Object.entered c.in-Object.is
    (lines_of c.object_billed-opened.result) c.object_billed-opened.ensures.lines c.end_version.new.meters c.open.new.self c.moved.new.self
    (c.end_version.ensures.stands books (c.in_ok-reserve-in-Object.ensures.stands (book_of books) stands) has)
    c.open.ensures.stands c.moved.ensures.stands
