use Rattle.std.proofs.Common.{ℕ, ◌-◌, List, subst, sym, map}
use Rattle.std.specs.Prelude.{option_to_list}
use Rattle.rules_core.specs.declared.rule.Rule.{Rule}
use Rattle.stacks.specs.Stacks.{StackRecord}
use Rattle.due_index.specs.Search.{on_key, IsFirstOf, IsOfStep, IsOfSteps, removal_step}
use Rattle.due_index.proofs.Noncurrents.{no_step, one_step}
use Rattle.due_index.specs.Blocks.{but_first}
use Rattle.due_index.proofs.RightSteps.{right_in, removal_among}
use Rattle.due_index.proofs.noncurrent.removal.Goals as goal

pub returns-in-Some : goal.returns-in-Some
returns-in-Some c =
    let entry : List ℕ × StackRecord = (c.args.key.now, c.args.of_key.now) in
    let numbered : ℕ × Rule = (c.args.number, c.args.rule.now) in
    subst (λ e. IsFirstOf (on_key c.args.key.now c.args.best.now) (IsOfSteps c.args.setting.now entry numbered (map removal_step (option_to_list e)))
    (on_key c.args.key.now c.step_of_key.new.best)) (sym c.in-Some.is)
    (one_step c.args.setting.now entry numbered (on_key c.args.key.now c.args.best.now) (on_key c.args.key.now c.step_of_key.new.best) (removal_step c.in-Some.expiration)
    (subst (λ step. IsFirstOf (on_key c.args.key.now c.args.best.now) (IsOfStep c.args.setting.now entry numbered step) (on_key c.args.key.now c.step_of_key.new.best))
    c.removal_step.ensures c.step_of_key.ensures))

pub returns-in-None : goal.returns-in-None
returns-in-None c =
    let entry : List ℕ × StackRecord = (c.args.key.now, c.args.of_key.now) in
    let numbered : ℕ × Rule = (c.args.number, c.args.rule.now) in
    subst (λ e. IsFirstOf (on_key c.args.key.now c.args.best.now) (IsOfSteps c.args.setting.now entry numbered (map removal_step (option_to_list e)))
    (on_key c.args.key.now c.args.best.now)) (sym c.in-None.is) (no_step c.args.setting.now entry numbered (on_key c.args.key.now c.args.best.now))

pub step_of_key-requires-clause-right : goal.step_of_key-requires-clause-right
step_of_key-requires-clause-right c =
    right_in c.args.setting.now.mode c.args.key.now (c.args.number - 1) c.args.rule.now c.removal_step.result c.args.blocks.now (but_first c.args.of_key.now.versions)
    (removal_among c.args.rule.now c.in-Some.expiration c.removal_step.result c.in-Some.is c.removal_step.ensures) c.requires.right
