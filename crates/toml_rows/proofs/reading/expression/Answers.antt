use Rattle.std.proofs.Common.{◌≡◌, ◌==◌, false, rules, arith}
use Rattle.std.proofs.lemmas.Grind.{common_steps}
use Rattle.toml_parser.specs.Lexical.{first}
use Rattle.toml_parser.specs.Strings.{Key, recursion_limit}
use Rattle.toml_parser.specs.Reading.{key_view}
use Rattle.toml.specs.Parse.{expression, val}
use Rattle.toml_rows.specs.Reading.{data_at}
use Rattle.toml_rows.proofs.EnterLemmas.{match_err}
use Rattle.toml_rows.proofs.LoopLemmas.{read_is, unread_is}
use Rattle.toml_rows.proofs.LineLemmas.{pair_read, pair_no_key, pair_no_value}
use Rattle.toml_rows.proofs.reading.expression.Goals as goal

pub returns-in_err-key-clause-value : goal.returns-in_err-key-clause-value
unfolding expression
returns-in_err-key-clause-value c = search rules

pub returns-then-first-ne93-clause-value : goal.returns-then-first-ne93-clause-value
unfolding expression
returns-then-first-ne93-clause-value c = search rules

pub returns-in_err-key-2-clause-value : goal.returns-in_err-key-2-clause-value
unfolding expression
returns-in_err-key-2-clause-value c = search rules

pub returns-in_err-key-3-clause-value : goal.returns-in_err-key-3-clause-value
returns-in_err-key-3-clause-value c =
    let other : (first c.args.s.now == 91) ≡ false = grind (arith, common_steps) in
    match_err c.from_residual-in_err-key-3.result _ _ c.in_err-key-3.field-0.0 _ c.from_residual-in_err-key-3.ensures.1 (λ y e. e) λ refused.
    pair_no_key c.args.s.now other (c.in_err-key-3.ensures.value refused)

pub returns-in_err-rest-clause-value : goal.returns-in_err-rest-clause-value
returns-in_err-rest-clause-value c =
    let other : (first c.args.s.now == 91) ≡ false = grind (arith, common_steps) in
    let key : Key = key_view c.in_ok-key-3.key in
    match_err c.from_residual-in_err-rest.result _ _ c.in_err-rest.field-0.0 _ c.from_residual-in_err-rest.ensures.1 (λ y e. e) λ refused.
    pair_no_value c.args.s.now c.in_ok-key-3.at_value.now key other c.in_ok-key-3.ensures.value
    (unread_is (val recursion_limit c.in_ok-key-3.at_value.now) (c.in_err-rest.ensures.value refused))

pub returns-else-first-ne93-clause-value : goal.returns-else-first-ne93-clause-value
unfolding expression
returns-else-first-ne93-clause-value c = search rules

pub returns-in_ok-key-2-clause-value : goal.returns-in_ok-key-2-clause-value
unfolding expression
returns-in_ok-key-2-clause-value c = search rules

pub returns-in_ok-rest-clause-value : goal.returns-in_ok-rest-clause-value
returns-in_ok-rest-clause-value c =
    let other : (first c.args.s.now == 91) ≡ false = grind (arith, common_steps) in
    let key : Key = key_view c.in_ok-key-3.key in
    pair_read c.args.s.now c.in_ok-key-3.at_value.now c.in_ok-rest.rest.now key (data_at recursion_limit c.in_ok-key-3.at_value.now) other c.in_ok-key-3.ensures.value
    (read_is (val recursion_limit c.in_ok-key-3.at_value.now) c.in_ok-rest.rest.now c.in_ok-rest.ensures.value)
