use Rattle.std.proofs.Common.{◌≡◌, ◌==◌, ◌<◌, true, false, length, ap, ◌∙◌, arith}
use Rattle.std.proofs.lemmas.Grind.{common_steps}
use Rattle.toml_parser.specs.Lexical.{first}
use Rattle.toml.specs.Data.{as_table}
use Rattle.toml_rows.specs.Reading.{data_at}
use Rattle.toml_rows.proofs.DataLemmas.{inline_is, no_inline_deep, no_inline, what_of}
use Rattle.toml_rows.proofs.data.inline.Goals as goal

pub returns-then-depth-eq0 : goal.returns-then-depth-eq0
returns-then-depth-eq0 c =
    let zero : c.args.depth ≡ 0 = omega arith in
    ap (λ d. as_table (data_at d c.args.text.now)) zero ∙ no_inline_deep c.args.text.now

pub returns-then-first-ne123 : goal.returns-then-first-ne123
returns-then-first-ne123 c =
    let other : (first c.args.text.now == 123) ≡ false = grind (arith, common_steps) in
    no_inline c.args.depth c.args.text.now other

pub returns-in-Ok : goal.returns-in-Ok
returns-in-Ok c =
    let s = c.args.text.now in
    let some : 0 < c.args.depth = omega arith in
    let open_it : (first s == 123) ≡ true = grind (arith, common_steps) in
    let (ms, table_is, whole) = c.in-Ok.ensures.value (length s) c.skip.ensures.shorter in
    (ms, table_is, inline_is c.args.depth s some open_it ∙ ap what_of (rw c.skip.ensures.rest at whole))

pub returns-in_default : goal.returns-in_default
returns-in_default c =
    let s = c.args.text.now in
    let some : 0 < c.args.depth = omega arith in
    let open_it : (first s == 123) ≡ true = grind (arith, common_steps) in
    inline_is c.args.depth s some open_it ∙ ap what_of (rw c.skip.ensures.rest at (c.in-Err.ensures.value (length s) c.skip.ensures.shorter c.in_default.not-OutOfMemory))
