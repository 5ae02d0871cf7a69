use Rattle.std.proofs.Common.{inl, inr, sym, ◌∙◌}
use Rattle.rules_core.specs.Matching.{has_prefix}
use Rattle.due_index.specs.Search.{on_key, rule_candidates}
use Rattle.due_index.proofs.ByRule.{not_asked}
use Rattle.due_index.proofs.search.rule_of_stack.Goals as goal
use Rattle.due_index.proofs.search.rule_of_stack.Goals.{else-rule-via-then-rule+else-matches_upload, else-rule-via-else-rule}

pub returns-else-rule : goal.returns-else-rule
returns-else-rule c =
    let rule = c.args.rule.now in
    let all = rule_candidates c.args.setting.now (c.args.key.now, c.args.of_key.now) (c.args.number, c.args.rule.now) in
    elim c.else-rule.branch [
      | else-rule-via-then-rule+else-matches_upload w ↦ not_asked rule.enabled (has_prefix rule.filter c.args.key.now) all (on_key c.args.key.now c.args.best.now)
          (inr (sym w.matches_upload.ensures ∙ w.if-matches_upload.false))
      | else-rule-via-else-rule w ↦ not_asked rule.enabled (has_prefix rule.filter c.args.key.now) all (on_key c.args.key.now c.args.best.now) (inl w.if-rule.false)
    ]
