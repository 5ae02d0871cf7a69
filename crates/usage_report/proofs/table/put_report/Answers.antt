use Rattle.std.proofs.Common.{◌≡◌, ◌∙◌, ◌++◌, ℕ, List, take, sym, ap, arith}
use Rattle.std.proofs.lemmas.Result.{on_ok_weaker}
use Rattle.std.proofs.lemmas.List.{take_all, drop_all}
use Rattle.std.proofs.lemmas.List.Sums.{sum_by-drop_more}
use Rattle.std.specs.List.{flat_map}
use Rattle.office_types.specs.declared.reply.ReportLine.{ReportLine}
use Rattle.office_types.specs.Reports.{charges}
use Rattle.usage_report.specs.Tables.{line_text, total_text}
use Rattle.usage_report.proofs.TableLines.{more_lines, whole_table}
use Rattle.usage_report.proofs.table.put_report.Goals as goal

pub loop-line-preserved : goal.loop-line-preserved
loop-line-preserved c =
    let lines = c.args.lines.now in
    let i = c.loop-line.line-index in
    let line = c.line-item.result in (
      c.in_ok-put_line.ensures
          ∙ ap (λ (t : List ℕ). t ++ line_text line) c.loop-line.invariant.0
          ∙ ap (λ (l : ReportLine). flat_map line_text (take i lines) ++ line_text l) c.line-item.is
          ∙ sym (more_lines lines i line c.loop-line-test.true),
      omega (arith, sum_by-drop_more (λ (l : ReportLine). l.charge) lines i line c.loop-line-test.true, ap (λ (l : ReportLine). l.charge) c.line-item.is, c.loop-line.invariant.1),
    )

pub returns : goal.returns
returns c =
    let lines = c.args.lines.now in
    let i = c.loop-line.line-index in
    let all : c.loop-line.total ≡ charges lines = omega (arith, c.loop-line.invariant.1, ap charges (drop_all i lines c.loop-line-test.false)) in
    on_ok_weaker c.put_total.result (λ is. is
    ∙ ap (λ (t : List ℕ). t ++ total_text c.loop-line.total) c.loop-line.invariant.0
    ∙ ap (λ (ls : List ReportLine). flat_map line_text ls ++ total_text c.loop-line.total) (take_all i lines c.loop-line-test.false)
    ∙ ap (λ (n : ℕ). flat_map line_text lines ++ total_text n) all
    ∙ whole_table lines) c.put_total.ensures
