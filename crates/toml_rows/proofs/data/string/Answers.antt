use Rattle.std.proofs.Common.{◌≡◌, true, false, sym, ap, ◌∙◌}
use Rattle.toml_parser.specs.Strings.{starts_string}
use Rattle.toml_rows.proofs.DataLemmas.{no_string_at, string_at, what_of}
use Rattle.toml_rows.proofs.data.string.Goals as goal

pub returns-then-not-starts_string : goal.returns-then-not-starts_string
returns-then-not-starts_string c depth =
    let other : starts_string c.args.text.now ≡ false = sym c.starts_string.ensures ∙ c.if-not-starts_string.true in
    sym (no_string_at depth c.args.text.now other)

pub returns-in-Ok : goal.returns-in-Ok
returns-in-Ok c depth =
    let is : starts_string c.args.text.now ≡ true = sym c.starts_string.ensures ∙ c.if-not-starts_string.false in
    sym (string_at depth c.args.text.now is ∙ ap what_of c.in-Ok.ensures.value)

pub returns-in_default : goal.returns-in_default
returns-in_default c depth =
    let is : starts_string c.args.text.now ≡ true = sym c.starts_string.ensures ∙ c.if-not-starts_string.false in
    sym (string_at depth c.args.text.now is ∙ ap what_of (c.in-Err.ensures.value c.in_default.not-OutOfMemory))
