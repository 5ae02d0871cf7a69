use Rattle.std.proofs.Common.{◌∙◌}
use Rattle.bucket_account.proofs.RuleIds.{short_id, no_id, short_copy, short_empty}
use Rattle.bucket_account.proofs.act.rule_id.Goals as goal

pub returns-in-Some-get-clause-short : goal.returns-in-Some-get-clause-short
returns-in-Some-get-clause-short c =
    let lookup = c.in-Some-get.ensures.lookup in
    let rule = c.in-Some-get.rule.now in
    short_copy c.copy.result rule.id
    (short_id c.in-Some.rules c.rules.result.now c.saturating_sub.result rule c.rules.ensures.kept c.rules.ensures.same lookup.3.0 lookup.1) c.copy.ensures

pub returns-in-None-get-clause-same : goal.returns-in-None-get-clause-same
returns-in-None-get-clause-same c =
    c.of.ensures ∙ c.new.ensures.bytes
    ∙ no_id c.args.rules.now c.in-Some.rules c.rules.result.now c.saturating_sub.result c.args.place c.in-Some.is c.rules.ensures.same c.saturating_sub.ensures c.in-None-get.ensures.lookup.3

pub returns-in-None-get-clause-short : goal.returns-in-None-get-clause-short
returns-in-None-get-clause-short c = short_empty _ (c.of.ensures ∙ c.new.ensures.bytes)

pub returns-in-None-clause-short : goal.returns-in-None-clause-short
returns-in-None-clause-short c = short_empty _ (c.of-in-None.ensures ∙ c.new-in-None.ensures.bytes)
