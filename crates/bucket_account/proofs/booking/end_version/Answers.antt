use Rattle.std.proofs.Common.{arith}
use Rattle.moments.specs.Months.{month_at}
use Rattle.class_rules.specs.Lines.{lines_of}
use Rattle.plain_office.specs.Office.{book_of}
use Rattle.plain_office.specs.Orderly.{lines_since}
use Rattle.accrual.proofs.Windows.{month_at_order}
use Rattle.bucket_account.proofs.Ending.{opened, object_gone, marker_gone}
use Rattle.stacks.specs.declared.version.Kind.TheVariants.{Object, Marker}
use Rattle.bucket_account.proofs.booking.end_version.Goals as goal

pub end-requires-clause-opened : goal.end-requires-clause-opened
end-requires-clause-opened c = (
  book_of c.requires.open.0,
  c.requires.open.1,
  opened c.args.key.now c.args.version.now c.args.at c.requires.open.0 c.requires.open.2
      (Object c.in-Object.size c.in-Object.class c.in-Object.tags c.in-Object.entered) c.in-Object.is
      (lines_of c.object_billed-lines.result) c.object_billed-lines.ensures.lines,
)

pub early-requires-clause-row : goal.early-requires-clause-row
early-requires-clause-row c =
    c.end.ensures.rows (month_at c.args.at) (c.requires.rows (month_at c.args.at) (month_at_order (lines_since c.args.version.now) c.args.at c.requires.later) (omega arith))

pub end-requires-in-Marker-clause-opened : goal.end-requires-in-Marker-clause-opened
end-requires-in-Marker-clause-opened c = (
  book_of c.requires.open.0,
  c.requires.open.1,
  opened c.args.key.now c.args.version.now c.args.at c.requires.open.0 c.requires.open.2 Marker c.in-Marker.is (lines_of c.marker_billed.result) c.marker_billed.ensures.lines,
)

pub returns-in-Object-clause-stands : goal.returns-in-Object-clause-stands
returns-in-Object-clause-stands c = λ books stands has.
    object_gone c.args.key.now c.args.version.now c.args.at books has c.in-Object.size c.in-Object.class c.in-Object.tags c.in-Object.entered c.in-Object.is
    c.object_billed-lines.result c.object_billed-lines.ensures.lines c.object_billed-lines.ensures.class c.object_billed-lines.ensures.own
    c.args.meters.now c.end.new.self c.early.new.self stands c.end.ensures.stands c.early.ensures.stands

pub returns-in-Marker-clause-stands : goal.returns-in-Marker-clause-stands
returns-in-Marker-clause-stands c = λ books stands has.
    marker_gone c.args.key.now c.args.version.now c.args.at books has c.in-Marker.is (lines_of c.marker_billed.result) c.marker_billed.ensures.lines
    c.args.meters.now c.end-in-Marker.new.self stands c.end-in-Marker.ensures.stands
