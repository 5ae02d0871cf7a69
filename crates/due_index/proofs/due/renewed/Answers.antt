use Rattle.std.proofs.Common.{rules, ◌≡◌, sym, subst}
use Rattle.std.specs.Prelude.{Some}
use Rattle.office_base.specs.Maps.{at_name}
use Rattle.due_index.specs.Blocks.{AreRightBut, AreRightUnderBut, but_first}
use Rattle.due_index.proofs.Keeping.{some_rest}
use Rattle.due_index.proofs.due.renewed.Goals as goal

pub renew-requires-clause-rest : goal.renew-requires-clause-rest
renew-requires-clause-rest c =
    let key = c.args.key.now in
    let stack = c.in-Some-get.of_key.now in
    let ruled : c.args.bucket.now.rules ≡ Some c.in-Some.rules = search rules in
    let there : at_name key c.args.bucket.now.stacks ≡ Some stack = search rules in
    let rest = subst (λ bs. AreRightUnderBut c.args.touched c.args.bucket.now.rules key bs (at_name key c.args.bucket.now.stacks)) (sym c.or_none-blocks.ensures) c.requires.rest in
    subst (λ m. AreRightBut c.args.touched m c.rules.result.now key c.or_none-blocks.result (but_first stack.versions)) (sym c.mode.ensures)
    (subst (λ rs. AreRightBut c.args.touched c.in-Some.rules.mode rs key c.or_none-blocks.result (but_first stack.versions)) (sym c.rules.ensures.same)
    (some_rest c.args.touched _ key c.or_none-blocks.result _ rest c.in-Some.rules ruled stack there))
