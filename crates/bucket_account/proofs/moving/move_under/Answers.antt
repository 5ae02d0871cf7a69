use Rattle.std.proofs.Common.{ℕ, List, sym, ap, ◌∙◌}
use Rattle.std.specs.Prelude.{Option, unwrap_or}
use Rattle.std.specs.Map.{set_value}
use Rattle.std.specs.BTreeMap.{is_at}
use Rattle.std.proofs.lemmas.Map.Steps.{set_value_same}
use Rattle.office_base.specs.Maps.{bytes_cmp, with_name}
use Rattle.stacks.specs.Stacks.{StackRecord, new_stack, after_move}
use Rattle.bucket_account.proofs.SetAt.{set_is_with}
use Rattle.bucket_account.proofs.moving.move_under.Goals as goal
use Rattle.bucket_account.proofs.Handed.{ok_then, err_then}

pub returns-clause-stacks : goal.returns-clause-stacks
returns-clause-stacks c =
    let key : List ℕ = c.args.key.now in
    let entries : List (List ℕ × StackRecord) = c.args.stacks.now.entries in
    let old : StackRecord = c.in-Some.stack.now in
    let move = λ (stack : StackRecord). after_move c.args.id c.args.to c.args.at stack in
    ok_then c.move_on.result _ _ (λ moved.
    (c.get_mut.follows.holds c.move_on.new.stack).0
    ∙ ap (λ (stack : StackRecord). set_value (is_at (bytes_cmp key)) entries stack) moved
    ∙ set_is_with key (move old) old entries c.requires.rises (sym c.in-Some.ensures.value)
    ∙ ap (λ (o : Option StackRecord). with_name key (move (unwrap_or o (new_stack 0))) entries) c.in-Some.ensures.value) c.move_on.ensures.stack

pub returns-clause-stacks_kept : goal.returns-clause-stacks_kept
returns-clause-stacks_kept c =
    let key : List ℕ = c.args.key.now in
    let entries : List (List ℕ × StackRecord) = c.args.stacks.now.entries in
    err_then c.move_on.result _ _ (λ kept.
    (c.get_mut.follows.holds c.move_on.new.stack).0
    ∙ ap (λ (stack : StackRecord). set_value (is_at (bytes_cmp key)) entries stack) kept
    ∙ set_value_same (is_at (bytes_cmp key)) entries c.in-Some.stack.now (sym c.in-Some.ensures.value)) c.move_on.ensures.stack_kept
