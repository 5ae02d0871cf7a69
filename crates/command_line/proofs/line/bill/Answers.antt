use Rattle.std.proofs.Common.{ap, ◌∙◌, sym, codes, option_map}
use Rattle.clap.specs.Words.{found_of, rows_of}
use Rattle.command_line.proofs.Options.{given_is, no_bill, wrong_bill, bills}
use Rattle.command_line.proofs.line.bill.Goals as goal

pub returns-in_default-clause-refused : goal.returns-in_default-clause-refused
returns-in_default-clause-refused c = λ _.
    let found = found_of c.args.given.now in
    no_bill (rows_of found) (given_is found (codes "month") c.get_str.result c.get_str.ensures ∙ ap (option_map (λ t. t.now)) c.in_default.is)

pub returns-in-None-clause-refused : goal.returns-in-None-clause-refused
returns-in-None-clause-refused c = λ _.
    let found = found_of c.args.given.now in
    wrong_bill (rows_of found) _
    (given_is found (codes "month") c.get_str.result c.get_str.ensures ∙ ap (option_map (λ t. t.now)) c.in-Some.is)
    (sym c.month.ensures ∙ c.in-None.is)

pub returns-in-Some-month-clause-read : goal.returns-in-Some-month-clause-read
returns-in-Some-month-clause-read c =
    let found = found_of c.args.given.now in
    bills (rows_of found) _ _
    (given_is found (codes "month") c.get_str.result c.get_str.ensures ∙ ap (option_map (λ t. t.now)) c.in-Some.is)
    (sym c.month.ensures ∙ c.in-Some-month.is)
