use Rattle.std.proofs.Common.{◌≡◌, ◌∙◌, ◌++◌, ℕ, List, Some, take, sym, ap, arith}
use Rattle.std.proofs.lemmas.List.{take_all, drop_all}
use Rattle.std.proofs.lemmas.List.Sums.{sum_by-drop_more}
use Rattle.std.specs.Io.KnownBytes.{append_known}
use Rattle.csv.specs.Writing.{default_writer, row_text}
use Rattle.office_types.specs.declared.reply.ReportLine.{ReportLine}
use Rattle.office_types.specs.Reports.{charges}
use Rattle.usage_report.specs.Csv.{report_header, report_row, total_row}
use Rattle.usage_report.proofs.CsvRows.{rows_of, no_rows, more_rows, all_rows, written_text}
use Rattle.usage_report.proofs.csv_text.report_csv.Goals as goal

pub loop-line-init : goal.loop-line-init
loop-line-init c = (
  c.in_ok-put_texts.ensures.ready,
  c.in_ok-put_texts.ensures.bytes ∙ ap (λ o. append_known o (row_text default_writer report_header)) c.start-sheet.ensures.empty ∙ ap Some no_rows,
  omega arith,
)

pub loop-line-preserved : goal.loop-line-preserved
loop-line-preserved c =
    let lines = c.args.lines.now in
    let i = c.loop-line.line-index in
    let line = c.line-item.result in (
      c.in_ok-put_line.ensures.ready,
      c.in_ok-put_line.ensures.bytes
          ∙ ap (λ o. append_known o (row_text default_writer (report_row line))) c.loop-line.invariant.1
          ∙ ap (λ (l : ReportLine). Some (rows_of (take i lines) ++ row_text default_writer (report_row l))) c.line-item.is
          ∙ ap Some (sym (more_rows lines i line c.loop-line-test.true)),
      omega (arith, sum_by-drop_more (λ (l : ReportLine). l.charge) lines i line c.loop-line-test.true, ap (λ (l : ReportLine). l.charge) c.line-item.is, c.loop-line.invariant.2),
    )

pub returns : goal.returns
returns c =
    let lines = c.args.lines.now in
    let i = c.loop-line.line-index in
    let all : c.loop-line.total ≡ charges lines = omega (arith, c.loop-line.invariant.2, ap charges (drop_all i lines c.loop-line-test.false)) in
    written_text c.finish.result
    (c.in_ok-put_total.ensures.bytes
    ∙ ap (λ o. append_known o (row_text default_writer (total_row c.loop-line.total))) c.loop-line.invariant.1
    ∙ ap (λ (ls : List ReportLine). Some (rows_of ls ++ row_text default_writer (total_row c.loop-line.total))) (take_all i lines c.loop-line-test.false)
    ∙ ap (λ (n : ℕ). Some (rows_of lines ++ row_text default_writer (total_row n))) all
    ∙ ap Some (all_rows lines))
    c.finish.ensures
