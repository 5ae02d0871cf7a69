use Rattle.std.proofs.Common.{rules, ap, ◌∙◌, Some, codes, option_map}
use Rattle.clap.specs.Words.{found_of, rows_of}
use Rattle.command_line.specs.Lines.{default_workers, most_workers, most_connections}
use Rattle.command_line.proofs.Options.{given_is, number_is, no_listen, no_workers, no_connections, serves}
use Rattle.command_line.proofs.line.serve.Goals as goal

pub returns-in_default-clause-refused : goal.returns-in_default-clause-refused
returns-in_default-clause-refused c = λ _.
    let found = found_of c.args.given.now in
    no_listen (rows_of found) (given_is found (codes "listen") c.get_str.result c.get_str.ensures ∙ ap (option_map (λ t. t.now)) c.in_default.is)

pub returns-in_default-number_of-clause-refused : goal.returns-in_default-number_of-clause-refused
returns-in_default-number_of-clause-refused c = λ _.
    let found = found_of c.args.given.now in
    no_workers (rows_of found) _
    (given_is found (codes "listen") c.get_str.result c.get_str.ensures ∙ ap (option_map (λ t. t.now)) c.in-Some.is)
    (number_is found (codes "workers") default_workers most_workers c.get_str-2.result c.number_of.result c.get_str-2.ensures c.number_of.ensures ∙ c.in_default-number_of.is)

pub returns-in_default-number_of-2-clause-refused :
    goal.returns-in_default-number_of-2-clause-refused
returns-in_default-number_of-2-clause-refused c = λ _.
    let found = found_of c.args.given.now in
    no_connections (rows_of found) _ _
    (given_is found (codes "listen") c.get_str.result c.get_str.ensures ∙ ap (option_map (λ t. t.now)) c.in-Some.is)
    (number_is found (codes "workers") default_workers most_workers c.get_str-2.result c.number_of.result c.get_str-2.ensures c.number_of.ensures ∙ c.in-Some-number_of.is)
    (number_is found (codes "connections") most_connections most_connections c.get_str-3.result c.number_of-2.result c.get_str-3.ensures c.number_of-2.ensures ∙ c.in_default-number_of-2.is)

pub returns-clause-read : goal.returns-clause-read
returns-clause-read c =
    let found = found_of c.args.given.now in
    serves (rows_of found) _ _ _
    (given_is found (codes "listen") c.get_str.result c.get_str.ensures ∙ ap (option_map (λ t. t.now)) c.in-Some.is ∙ ap Some (search rules))
    (number_is found (codes "workers") default_workers most_workers c.get_str-2.result c.number_of.result c.get_str-2.ensures c.number_of.ensures ∙ c.in-Some-number_of.is)
    (number_is found (codes "connections") most_connections most_connections c.get_str-3.result c.number_of-2.result c.get_str-3.ensures c.number_of-2.ensures ∙ c.in-Some-number_of-2.is)
