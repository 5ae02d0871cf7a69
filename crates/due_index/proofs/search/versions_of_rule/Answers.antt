use Rattle.std.proofs.Common.{◌≡◌, ◌-◌, length, get_or, ap, ◌∙◌, sym, arith}
use Rattle.std.specs.Prelude.{option_copied}
use Rattle.due_index.specs.Search.{on_key, with_each, asked_of_version, current_placed}
use Rattle.due_index.proofs.Noncurrents.{no_versions, no_first, first_is, by_version}
use Rattle.due_index.proofs.search.versions_of_rule.Goals as goal

pub returns-in_default : goal.returns-in_default
returns-in_default c =
    no_versions c.args.setting.now c.args.key.now c.args.of_key.now (c.args.number, c.args.rule.now) (on_key c.args.key.now c.args.best.now)
    (sym c.versions-versions.ensures.same ∙ no_first c.versions-versions.result.now (sym c.first.ensures.value ∙ ap option_copied c.in_default.is))

pub returns : goal.returns
returns c =
    let v = c.in-Some.current.now in
    let size : length c.versions-versions.result.now ≡ length c.args.of_key.now.versions = ap length c.versions-versions.ensures.same in
    let first = first_is c.versions-versions.result.now v (sym (ap option_copied c.in-Some.is) ∙ c.first.ensures.value) in
    let here : v ≡ get_or c.args.of_key.now.versions 0 v = first.0 ∙ ap (λ vs. get_or vs 0 c.in-Some.current.now) c.versions-versions.ensures.same in
    let some = first.1 in
    let older = length c.versions-versions.result.now - 1 in
    by_version c.args.setting.now c.args.key.now c.args.of_key.now (c.args.number, c.args.rule.now) c.requires.enabled v older here (omega arith)
    (on_key c.args.key.now c.args.best.now) (on_key c.args.key.now c.rule_of_current.new.best) (on_key c.args.key.now c.noncurrent.new.best)
    (c.rule_of_current.ensures ∙ ap (λ changed. with_each (on_key c.args.key.now c.args.best.now)
    (asked_of_version c.args.setting.now c.args.key.now changed (current_placed c.in-Some.current.now (length c.versions-versions.result.now - 1)) (c.args.number, c.args.rule.now))) c.changed.ensures)
    c.noncurrent.ensures
