use Rattle.std.proofs.Common.{◌∙◌, codes}
use Rattle.clap.specs.Words.{found_of, rows_of}
use Rattle.command_line.specs.Lines.{default_workers, most_workers}
use Rattle.command_line.proofs.Options.{number_is, no_explain, explains}
use Rattle.command_line.proofs.line.explain.Goals as goal

pub returns-in-Some-clause-read : goal.returns-in-Some-clause-read
returns-in-Some-clause-read c =
    let found = found_of c.args.given.now in
    explains (rows_of found) c.in-Some.workers
    (number_is found (codes "workers") default_workers most_workers c.get_str.result c.number_of.result c.get_str.ensures c.number_of.ensures ∙ c.in-Some.is)

pub returns-in-None-clause-refused : goal.returns-in-None-clause-refused
returns-in-None-clause-refused c = λ _.
    let found = found_of c.args.given.now in
    no_explain (rows_of found)
    (number_is found (codes "workers") default_workers most_workers c.get_str.result c.number_of.result c.get_str.ensures c.number_of.ensures ∙ c.in-None.is)
