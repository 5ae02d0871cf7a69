use Rattle.std.proofs.Common.{◌∙◌, codes}
use Rattle.clap.specs.Words.{found_of, rows_of}
use Rattle.command_line.specs.Lines.{most_seed, most_generated}
use Rattle.command_line.proofs.Options.{word_is, no_number, no_count, generates}
use Rattle.command_line.proofs.line.generate.Goals as goal

pub returns-in_default-clause-refused : goal.returns-in_default-clause-refused
returns-in_default-clause-refused c = λ _.
    let found = found_of c.args.given.now in
    no_number (rows_of found)
    (word_is found (codes "number") most_seed c.get_str.result c.number_given.result c.get_str.ensures c.number_given.ensures.exact ∙ c.in_default.is)

pub returns-in_default-number_given-clause-refused :
    goal.returns-in_default-number_given-clause-refused
returns-in_default-number_given-clause-refused c = λ _.
    let found = found_of c.args.given.now in
    no_count (rows_of found) _
    (word_is found (codes "number") most_seed c.get_str.result c.number_given.result c.get_str.ensures c.number_given.ensures.exact ∙ c.in-Some.is)
    (word_is found (codes "count") most_generated c.get_str-2.result c.number_given-2.result c.get_str-2.ensures c.number_given-2.ensures.exact ∙ c.in_default-number_given.is)

pub returns-clause-read : goal.returns-clause-read
returns-clause-read c =
    let found = found_of c.args.given.now in
    generates (rows_of found) _ _
    (word_is found (codes "number") most_seed c.get_str.result c.number_given.result c.get_str.ensures c.number_given.ensures.exact ∙ c.in-Some.is)
    (word_is found (codes "count") most_generated c.get_str-2.result c.number_given-2.result c.get_str-2.ensures c.number_given-2.ensures.exact ∙ c.in-Some-number_given.is)
