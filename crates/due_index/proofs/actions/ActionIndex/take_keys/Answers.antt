use Rattle.std.proofs.Common.{rules, ◌≡◌, subst}
use Rattle.due_index.specs.Actions.{SetsNextOnKey}
use Rattle.due_index.proofs.Building.{AreKeysLeft, all_keys_left, one_key_less}
use Rattle.due_index.proofs.actions.ActionIndex.take_keys.Goals as goal

pub loop-key-init : goal.loop-key-init
loop-key-init c =
    let all : c.args.bucket.now.stacks ≡ c.into_iter-key-iterator.result = search rules in
    subst (λ left. AreKeysLeft c.args.self.now c.args.self.now c.args.bucket.now left) all
    (all_keys_left c.args.self.now c.args.bucket.now c.requires.none c.requires.table)

pub loop-key-preserved : goal.loop-key-preserved
loop-key-preserved c =
    one_key_less c.args.self.now c.loop-key.self c.set_key.new.self c.args.bucket.now c.in-Some-2.key.now c.in-Some-2.field-0-1.now c.next.new.self
    (subst (λ left. AreKeysLeft c.args.self.now c.loop-key.self c.args.bucket.now left) c.in-Some-2.ensures.steps c.loop-key.invariant)
    (subst (λ next. SetsNextOnKey c.loop-key.self c.set_key.new.self c.in-Some-2.key.now next) c.next_on_key-next.ensures.first c.in_ok-set_key.ensures.ok)
