use Rattle.std.proofs.Common.{ap, ◌∙◌, sym, codes, option_map, Ok, Err, List, ℕ}
use Rattle.clap.specs.Words.{found_of, rows_of}
use Rattle.command_line.proofs.Options.{given_is, no_bucket, wrong_bucket, no_date, wrong_date, forecasts}
use Rattle.std.specs.Prelude.{Result, IsErrOf}
use Rattle.command_line.specs.declared.line.CommandLine.{CommandLine}
use Rattle.command_line.specs.declared.line.LineFault.{LineFault}
use Rattle.command_line.proofs.line.forecast.Goals as goal

abbrev fault_or : LineFault → Result CommandLine LineFault → LineFault
fault_or other (Ok line) = other
fault_or other (Err fault) = fault

-- the fault of a name is that of the line
same_fault : (x y : LineFault) → IsErrOf {T = CommandLine} (Err x) y → IsErrOf {T = List ℕ} (Err x) y
same_fault x y is = ap Err (ap (fault_or x) is)

pub returns-in_default-clause-refused : goal.returns-in_default-clause-refused
returns-in_default-clause-refused c = λ _.
    let found = found_of c.args.given.now in
    no_bucket (rows_of found) (given_is found (codes "bucket") c.get_str.result c.get_str.ensures ∙ ap (option_map (λ t. t.now)) c.in_default.is)

pub returns-in_default-get_str-clause-refused : goal.returns-in_default-get_str-clause-refused
returns-in_default-get_str-clause-refused c = λ _.
    let found = found_of c.args.given.now in
    no_date (rows_of found) (given_is found (codes "date") c.get_str-2.result c.get_str-2.ensures ∙ ap (option_map (λ t. t.now)) c.in_default-get_str.is)

pub returns-in_default-midnight-clause-refused : goal.returns-in_default-midnight-clause-refused
returns-in_default-midnight-clause-refused c = λ _.
    let found = found_of c.args.given.now in
    wrong_date (rows_of found) _
    (given_is found (codes "date") c.get_str-2.result c.get_str-2.ensures ∙ ap (option_map (λ t. t.now)) c.in-Some-get_str.is)
    (sym c.midnight.ensures ∙ c.in_default-midnight.is)

pub returns-in-Err-clause-refused : goal.returns-in-Err-clause-refused
returns-in-Err-clause-refused c = λ refused.
    let found = found_of c.args.given.now in
    wrong_bucket (rows_of found) _
    (given_is found (codes "bucket") c.get_str.result c.get_str.ensures ∙ ap (option_map (λ t. t.now)) c.in-Some.is)
    (c.in-Err.ensures.refused (same_fault c.in-Err.fault _ refused))

pub returns-in-Ok-clause-read : goal.returns-in-Ok-clause-read
returns-in-Ok-clause-read c =
    let found = found_of c.args.given.now in
    forecasts (rows_of found) _ _ _ _
    (given_is found (codes "bucket") c.get_str.result c.get_str.ensures ∙ ap (option_map (λ t. t.now)) c.in-Some.is)
    c.in-Ok.ensures.read
    (given_is found (codes "date") c.get_str-2.result c.get_str-2.ensures ∙ ap (option_map (λ t. t.now)) c.in-Some-get_str.is)
    (sym c.midnight.ensures ∙ c.in-Some-midnight.is)
