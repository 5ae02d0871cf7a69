use Rattle.std.proofs.Common.{◌≡◌, List, length, ap, arith}
use Rattle.office_types.specs.declared.refusal.What.TheVariants.{Rules}
use Rattle.rules_core.specs.declared.rule.Rule.{Rule}
use Rattle.rules_json.proofs.ShortTexts.{printed_small}
use Rattle.bucket_account.proofs.lifecycle.set_rules.Goals as goal
use Rattle.due_core.proofs.RuleCount.{few_rules}

pub overflow_cast-count : goal.overflow_cast-count
overflow_cast-count c =
    let few = few_rules c.args.rules.now c.rules.ensures.kept in
    let same : c.rules.result.now ≡ c.args.rules.now.rules = c.rules.ensures.same in
    let count = ap (λ (rules : List Rule). length rules) same in
    omega (arith, few, count)

pub moved-requires-clause-some : goal.moved-requires-clause-some
moved-requires-clause-some c = let over = c.requires.counts Rules in omega (arith, over.0, c.requires.text)

pub moved-requires-clause-few : goal.moved-requires-clause-few
moved-requires-clause-few c =
    let over = c.requires.counts Rules in
    let small = printed_small c.args.rules.now c.rules.ensures.kept in
    omega (arith, over.1, small, c.in_ok-text_length.ensures.ok)
