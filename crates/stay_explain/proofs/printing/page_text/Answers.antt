use Rattle.std.proofs.Common.{◌∙◌, ap}
use Rattle.std.specs.Io.KnownBytes.{append_known}
use Rattle.csv.specs.Writing.{default_writer, row_text}
use Rattle.stay_explain.specs.Table.{stays_header}
use Rattle.stay_explain.proofs.Texts.{and_tables, first_table}
use Rattle.stay_explain.proofs.printing.page_text.Goals as goal

pub loop-table-init : goal.loop-table-init
loop-table-init c = (
  c.in_ok-put_header.ensures.ready,
  ap (λ text. and_tables text c.args.tables.now) (c.in_ok-put_header.ensures.bytes ∙ ap (λ text. append_known text (row_text default_writer stays_header)) c.start-sheet.ensures.empty)
      ∙ first_table c.args.tables.now,
)
