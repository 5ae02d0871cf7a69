use Rattle.std.proofs.Common.{◌≡◌, ◌==◌, ◌||◌, true, false, sym, ap, ◌∙◌, arith}
use Rattle.std.proofs.lemmas.Grind.{common_steps}
use Rattle.std.proofs.lemmas.Bool.Decides.{nat_tests}
use Rattle.toml_parser.specs.Lexical.{first}
use Rattle.toml_parser.specs.Strings.{starts_string}
use Rattle.toml.specs.Data.{as_integer}
use Rattle.toml_rows.proofs.DataLemmas.{no_integer_in_bracket, no_integer_in_string, integer_at, integer_read}
use Rattle.toml_rows.proofs.data.integer.Goals as goal

pub returns-then-byte-eq91 : goal.returns-then-byte-eq91
returns-then-byte-eq91 c depth =
    let bracket : ((first c.args.text.now == 91) || (first c.args.text.now == 123)) ≡ true = grind (arith, nat_tests, common_steps) in
    sym (no_integer_in_bracket depth c.args.text.now bracket)

pub returns-then-byte-eq123 : goal.returns-then-byte-eq123
returns-then-byte-eq123 c depth =
    let bracket : ((first c.args.text.now == 91) || (first c.args.text.now == 123)) ≡ true = grind (arith, nat_tests, common_steps) in
    sym (no_integer_in_bracket depth c.args.text.now bracket)

pub returns-then-starts_string : goal.returns-then-starts_string
returns-then-starts_string c depth =
    let yes_string : starts_string c.args.text.now ≡ true = sym c.starts_string.ensures ∙ c.if-starts_string.true in
    sym (no_integer_in_string depth c.args.text.now yes_string)

pub returns-in-Ok : goal.returns-in-Ok
returns-in-Ok c depth =
    let a : (first c.args.text.now == 91) ≡ false = grind (arith, common_steps) in
    let b : (first c.args.text.now == 123) ≡ false = grind (arith, common_steps) in
    let other : starts_string c.args.text.now ≡ false = sym c.starts_string.ensures ∙ c.if-starts_string.false in
    c.integer_of.ensures ∙ sym (integer_at depth c.args.text.now a b other ∙ ap (λ o. as_integer (integer_read o)) c.in-Ok.ensures.value)

pub returns-in_default : goal.returns-in_default
returns-in_default c depth =
    let a : (first c.args.text.now == 91) ≡ false = grind (arith, common_steps) in
    let b : (first c.args.text.now == 123) ≡ false = grind (arith, common_steps) in
    let other : starts_string c.args.text.now ≡ false = sym c.starts_string.ensures ∙ c.if-starts_string.false in
    sym (integer_at depth c.args.text.now a b other ∙ ap (λ o. as_integer (integer_read o)) (c.in-Err.ensures.value c.in_default.not-OutOfMemory))
