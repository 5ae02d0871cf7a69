use Rattle.std.proofs.Common.{◌≡◌, true, false, rules}
use Rattle.office_base.specs.Versions.{begins_with_number}
use Rattle.office_base.proofs.Versions.{number_read, number_not_read, no_number}
use Rattle.office_base.proofs.version_id.number_of.Goals as goal

pub returns-then-not-begins_with_digit_above_zero-clause-none :
    goal.returns-then-not-begins_with_digit_above_zero-clause-none
returns-then-not-begins_with_digit_above_zero-clause-none c =
    let not : begins_with_number c.args.text.now ≡ false = search rules in
    no_number c.args.text.now not

pub returns-in-Ok-clause-found : goal.returns-in-Ok-clause-found
returns-in-Ok-clause-found c =
    let begins : begins_with_number c.args.text.now ≡ true = search rules in
    number_read c.args.text.now c.parse.result c.in-Ok.number c.in-Ok.is begins c.parse.ensures.value.0

pub invariant_of-result : goal.invariant_of-result
invariant_of-result c =
    let begins : begins_with_number c.args.text.now ≡ true = search rules in
    (number_read c.args.text.now c.parse.result c.in-Ok.number c.in-Ok.is begins c.parse.ensures.value.0).0.0

pub returns-in-Err-clause-none : goal.returns-in-Err-clause-none
returns-in-Err-clause-none c = number_not_read c.args.text.now c.parse.result _ c.in-Err.is c.parse.ensures.value.0
