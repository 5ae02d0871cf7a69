use Rattle.std.proofs.Common.{ap, ◌∙◌, sym, codes, option_map}
use Rattle.clap.specs.Words.{found_of, rows_of}
use Rattle.command_line.specs.Lines.{is_set}
use Rattle.command_line.proofs.Options.{given_is, no_month, wrong_month, reports}
use Rattle.command_line.proofs.line.report.Goals as goal

pub returns-in_default-clause-refused : goal.returns-in_default-clause-refused
returns-in_default-clause-refused c = λ _.
    let found = found_of c.args.given.now in
    no_month (rows_of found) (given_is found (codes "month") c.get_str.result c.get_str.ensures ∙ ap (option_map (λ t. t.now)) c.in_default.is)

pub returns-in_default-month-clause-refused : goal.returns-in_default-month-clause-refused
returns-in_default-month-clause-refused c = λ _.
    let found = found_of c.args.given.now in
    wrong_month (rows_of found) _
    (given_is found (codes "month") c.get_str.result c.get_str.ensures ∙ ap (option_map (λ t. t.now)) c.in-Some.is)
    (sym c.month.ensures ∙ c.in_default-month.is)

pub returns-clause-read : goal.returns-clause-read
returns-clause-read c =
    let found = found_of c.args.given.now in
    reports (rows_of found) _ _ _
    (given_is found (codes "month") c.get_str.result c.get_str.ensures ∙ ap (option_map (λ t. t.now)) c.in-Some.is)
    (sym c.month.ensures ∙ c.in-Some-month.is)
    (c.is_set.ensures ∙ ap is_set (sym (given_is found (codes "text") c.get_str-2.result c.get_str-2.ensures)))
