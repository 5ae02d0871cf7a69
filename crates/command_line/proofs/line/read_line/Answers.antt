use Rattle.std.proofs.Common.{◌∙◌, map, string_bytes, rules}
use Rattle.std.proofs.lemmas.Result.{IfOk-weaker}
use Rattle.clap.specs.Words.{kind_of}
use Rattle.command_line.proofs.Reading.{line_read, line_refused}
use Rattle.command_line.proofs.line.read_line.Goals as goal

pub returns-in-Ok-clause-read : goal.returns-in-Ok-clause-read
returns-in-Ok-clause-read c =
    let asks = line_read c.in_ok-office.field-0 c.in-Ok.matches (map string_bytes c.args.words.now) c.in_ok-office.ensures c.in-Ok.ensures.matches c.in-Ok.ensures.kinds in
    IfOk-weaker c.command.result _ _ (λ _ h. asks ∙ h) c.command.ensures.read

pub returns-in-Ok-clause-refused : goal.returns-in-Ok-clause-refused
returns-in-Ok-clause-refused c = λ refused.
    line_read c.in_ok-office.field-0 c.in-Ok.matches (map string_bytes c.args.words.now) c.in_ok-office.ensures c.in-Ok.ensures.matches c.in-Ok.ensures.kinds ∙ c.command.ensures.refused refused

pub returns-in-Err-clause-refused : goal.returns-in-Err-clause-refused
returns-in-Err-clause-refused c = λ refused.
    line_refused c.in_ok-office.field-0 (map string_bytes c.args.words.now) (kind_of c.in-Err.error) c.in_ok-office.ensures (search rules) c.in-Err.ensures.kinds
