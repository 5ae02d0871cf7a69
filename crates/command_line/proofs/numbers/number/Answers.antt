use Rattle.std.proofs.Common.{rules, ◌≡◌, true, false, codes, arith}
use Rattle.office_base.specs.Versions.{begins_with_number}
use Rattle.command_line.proofs.Numerals.{none_begins, number_read, number_not_read}
use Rattle.command_line.proofs.numbers.number.Goals as goal

pub returns-then-not-begins_with_digit_above_zero-clause-exact :
    goal.returns-then-not-begins_with_digit_above_zero-clause-exact
returns-then-not-begins_with_digit_above_zero-clause-exact c =
    let not : begins_with_number c.args.text.now ≡ false = search rules in
    let other : c.args.text.now ≡ codes "0" → ⊥ = search rules in
    none_begins c.args.least c.args.most c.args.text.now (omega (arith, c.ranges.most.fits)) other not

pub returns-in-Ok-clause-exact : goal.returns-in-Ok-clause-exact
returns-in-Ok-clause-exact c =
    let begins : begins_with_number c.args.text.now ≡ true = search rules in
    number_read c.args.least c.args.most c.args.text.now c.parse.result c.in-Ok.number c.in-Ok.is begins c.parse.ensures.value.0 (search rules) (search rules)

pub returns-in-Err-clause-exact : goal.returns-in-Err-clause-exact
returns-in-Err-clause-exact c =
    number_not_read c.args.least c.args.most c.args.text.now c.parse.result _ (omega (arith, c.ranges.most.fits)) c.in-Err.is c.parse.ensures.value.0
