use Rattle.std.proofs.Common.{◌≡◌, ℕ, ◌+◌, ◌-◌, length, get_or, ap, ◌∙◌, sym, subst, arith}
use Rattle.rules_core.specs.declared.rule.Rule.{Rule}
use Rattle.due_index.specs.Search.{on_key, IsFirstOf}
use Rattle.due_index.proofs.Oldest.{IsFrom, before_oldest, none_newer, one_newer, oldest_first, to_newest}
use Rattle.due_index.proofs.PassedOver.{goes_on}
use Rattle.due_index.proofs.noncurrent.step_of_key.Goals as goal

pub loop-i-init : goal.loop-i-init
loop-i-init c =
    let size : length c.versions-versions.result.now ≡ length c.args.of_key.now.versions = ap length c.versions-versions.ensures.same in record {
      within = omega arith;
      first = before_oldest c.args.setting.now c.args.key.now c.args.of_key.now (c.args.number, c.args.rule.now) c.args.step (on_key c.args.key.now c.args.best.now)
          (length c.versions-versions.result.now) (omega arith);
    }

pub returns-then-pass-le1 : goal.returns-then-pass-le1
returns-then-pass-le1 c =
    let within = c.loop-i.invariant.within in
    let numbered : ℕ × Rule = (c.args.number, c.args.rule.now) in
    let old = on_key c.args.key.now c.args.best.now in
    let on = goes_on c.args.setting.now c.args.key.now c.args.of_key.now c.args.number c.args.rule.now c.args.step old c.args.blocks.now c.requires.right
    c.passed_from-pass.result.left c.loop-i.i (on_key c.args.key.now c.loop-i.best) c.passed_from-pass.ensures.some c.passed_from-pass.ensures.fewer (omega arith)
    c.passed_from-pass.ensures.passed c.loop-i.invariant.first in
    to_newest c.args.setting.now c.args.key.now c.args.of_key.now numbered c.args.step old c.passed_from-pass.result.left (on_key c.args.key.now c.loop-i.best)
    c.if-pass-le1.true on

pub returns-then-not-keeps_newer : goal.returns-then-not-keeps_newer
returns-then-not-keeps_newer c =
    let test = c.if-pass-le1.false in
    let fewer = c.passed_from-pass.ensures.fewer in
    let within = c.loop-i.invariant.within in
    let after : c.passed_from-pass.result.left ≡ (c.passed_from-pass.result.left - 1) + 1 = omega arith in
    let numbered : ℕ × Rule = (c.args.number, c.args.rule.now) in
    let old = on_key c.args.key.now c.args.best.now in
    let on = goes_on c.args.setting.now c.args.key.now c.args.of_key.now c.args.number c.args.rule.now c.args.step old c.args.blocks.now c.requires.right
    c.passed_from-pass.result.left c.loop-i.i (on_key c.args.key.now c.loop-i.best) c.passed_from-pass.ensures.some c.passed_from-pass.ensures.fewer (omega arith)
    c.passed_from-pass.ensures.passed c.loop-i.invariant.first in
    let first = subst (λ n. IsFirstOf old (IsFrom c.args.setting.now (c.args.key.now, c.args.of_key.now) numbered c.args.step n) (on_key c.args.key.now c.loop-i.best)) after on in
    none_newer c.args.setting.now c.args.key.now c.args.of_key.now numbered c.args.step old (c.passed_from-pass.result.left - 1) (on_key c.args.key.now c.loop-i.best) (omega arith)
    (sym c.keeps_newer.ensures ∙ c.if-not-keeps_newer.true) first

pub returns-then-in_order : goal.returns-then-in_order
returns-then-in_order c =
    let test = c.if-pass-le1.false in
    let fewer = c.passed_from-pass.ensures.fewer in
    let within = c.loop-i.invariant.within in
    let size : length c.versions-versions.result.now ≡ length c.args.of_key.now.versions = ap length c.versions-versions.ensures.same in
    let after : c.passed_from-pass.result.left ≡ (c.passed_from-pass.result.left - 1) + 1 = omega arith in
    let numbered : ℕ × Rule = (c.args.number, c.args.rule.now) in
    let old = on_key c.args.key.now c.args.best.now in
    let on = goes_on c.args.setting.now c.args.key.now c.args.of_key.now c.args.number c.args.rule.now c.args.step old c.args.blocks.now c.requires.right
    c.passed_from-pass.result.left c.loop-i.i (on_key c.args.key.now c.loop-i.best) c.passed_from-pass.ensures.some c.passed_from-pass.ensures.fewer (omega arith)
    c.passed_from-pass.ensures.passed c.loop-i.invariant.first in
    let first = subst (λ n. IsFirstOf old (IsFrom c.args.setting.now (c.args.key.now, c.args.of_key.now) numbered c.args.step n) (on_key c.args.key.now c.loop-i.best)) after on in
    let i = c.passed_from-pass.result.left - 1 in
    let older = length c.versions-versions.result.now - (c.passed_from-pass.result.left - 1) - 1 in
    let v = c.index-versions-i-in-loop-i.result in
    let here : v ≡ get_or c.args.of_key.now.versions (c.passed_from-pass.result.left - 1) v = c.index-versions-i-in-loop-i.is ∙ ap (λ vs. get_or vs (c.passed_from-pass.result.left - 1) c.index-versions-i-in-loop-i.result) c.versions-versions.ensures.same in
    let kept = sym c.keeps_newer.ensures ∙ c.if-not-keeps_newer.false in
    let looked = one_newer c.args.setting.now c.args.key.now c.args.of_key.now numbered c.args.step old i older v (omega arith) (omega arith) here (omega arith) kept
    (on_key c.args.key.now c.loop-i.best) (on_key c.args.key.now c.step_of_version-takes.new.best) first c.step_of_version-takes.ensures.first in
    oldest_first c.args.setting.now c.args.key.now c.args.of_key.now numbered c.args.step old i older v (omega arith) (omega arith) here (omega arith) kept
    (sym c.step_of_version-takes.ensures.takes ∙ c.if-takes.true) (c.is_in_order-in_order.ensures c.if-in_order.true)
    (on_key c.args.key.now c.step_of_version-takes.new.best) looked

pub loop-i-preserved : goal.loop-i-preserved
loop-i-preserved c =
    let test = c.if-pass-le1.false in
    let fewer = c.passed_from-pass.ensures.fewer in
    let within = c.loop-i.invariant.within in
    let size : length c.versions-versions.result.now ≡ length c.args.of_key.now.versions = ap length c.versions-versions.ensures.same in
    let after : c.passed_from-pass.result.left ≡ (c.passed_from-pass.result.left - 1) + 1 = omega arith in
    let numbered : ℕ × Rule = (c.args.number, c.args.rule.now) in
    let old = on_key c.args.key.now c.args.best.now in
    let on = goes_on c.args.setting.now c.args.key.now c.args.of_key.now c.args.number c.args.rule.now c.args.step old c.args.blocks.now c.requires.right
    c.passed_from-pass.result.left c.loop-i.i (on_key c.args.key.now c.loop-i.best) c.passed_from-pass.ensures.some c.passed_from-pass.ensures.fewer (omega arith)
    c.passed_from-pass.ensures.passed c.loop-i.invariant.first in
    let first = subst (λ n. IsFirstOf old (IsFrom c.args.setting.now (c.args.key.now, c.args.of_key.now) numbered c.args.step n) (on_key c.args.key.now c.loop-i.best)) after on in
    let v = c.index-versions-i-in-loop-i.result in
    let here : v ≡ get_or c.args.of_key.now.versions (c.passed_from-pass.result.left - 1) v = c.index-versions-i-in-loop-i.is ∙ ap (λ vs. get_or vs (c.passed_from-pass.result.left - 1) c.index-versions-i-in-loop-i.result) c.versions-versions.ensures.same in
    let kept = sym c.keeps_newer.ensures ∙ c.if-not-keeps_newer.false in record {
      within = omega arith;
      first = one_newer c.args.setting.now c.args.key.now c.args.of_key.now numbered c.args.step old (c.passed_from-pass.result.left - 1)
          (length c.versions-versions.result.now - (c.passed_from-pass.result.left - 1) - 1) v (omega arith) (omega arith) here (omega arith) kept
          (on_key c.args.key.now c.loop-i.best) (on_key c.args.key.now c.step_of_version-takes.new.best) first c.step_of_version-takes.ensures.first;
    }

pub returns : goal.returns
returns c = to_newest c.args.setting.now c.args.key.now c.args.of_key.now (c.args.number, c.args.rule.now) c.args.step (on_key c.args.key.now c.args.best.now)
    c.loop-i.i (on_key c.args.key.now c.loop-i.best) c.loop-i-test.false c.loop-i.invariant.first
