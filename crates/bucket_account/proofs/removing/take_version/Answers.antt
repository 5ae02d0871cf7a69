use Rattle.std.proofs.Common.{ℕ, List, sym, ap, ◌∙◌}
use Rattle.std.specs.Prelude.{Option, unwrap_or}
use Rattle.std.specs.Map.{set_value, remove_entry}
use Rattle.std.specs.BTreeMap.{is_at}
use Rattle.std.proofs.lemmas.Map.Steps.{set_value_same}
use Rattle.office_base.specs.Maps.{bytes_cmp}
use Rattle.stacks.specs.Stacks.{StackRecord, new_stack, after_removal}
use Rattle.plain_office.specs.Changes.{stacks_with}
use Rattle.bucket_account.proofs.SetAt.{set_is_with}
use Rattle.bucket_account.proofs.Handed.{on_err}
use Rattle.bucket_account.proofs.Removals.{removed_set, stack_kept, stack_gone}
use Rattle.bucket_account.proofs.removing.take_version.Goals as goal

pub returns-in_err-after-in-Some-clause-stacks_kept : goal.returns-in_err-after-in-Some-clause-stacks_kept
returns-in_err-after-in-Some-clause-stacks_kept c =
    on_err c.from_residual.result _
    ((c.get_mut.follows.holds c.take_from.new.stack).0
    ∙ ap (λ (stack : StackRecord). set_value (is_at (bytes_cmp c.args.key.now)) c.args.stacks.now.entries stack) c.in_err-after-in-Some.ensures.stack_kept
    ∙ set_value_same (is_at (bytes_cmp c.args.key.now)) c.args.stacks.now.entries c.in-Some.stack.now (sym c.in-Some.ensures.value))

pub returns-then-not-emptied-clause-stacks : goal.returns-then-not-emptied-clause-stacks
returns-then-not-emptied-clause-stacks c =
    let key : List ℕ = c.args.key.now in
    let entries : List (List ℕ × StackRecord) = c.args.stacks.now.entries in
    let new : StackRecord = c.take_from.new.stack in
    (c.get_mut.follows.holds new).0
    ∙ set_is_with key new c.in-Some.stack.now entries c.requires.rises (sym c.in-Some.ensures.value)
    ∙ stack_kept key new entries c.in_ok-after-in-Some.emptied c.if-not-emptied.true c.in_ok-after-in-Some.ensures.emptied
    ∙ ap (λ (stack : StackRecord). stacks_with key stack entries) c.in_ok-after-in-Some.ensures.stack
    ∙ ap (λ (o : Option StackRecord). stacks_with key (after_removal c.args.id c.args.at (unwrap_or o (new_stack 0))) entries) c.in-Some.ensures.value

pub returns-clause-stacks : goal.returns-clause-stacks
returns-clause-stacks c =
    let key : List ℕ = c.args.key.now in
    let entries : List (List ℕ × StackRecord) = c.args.stacks.now.entries in
    let new : StackRecord = c.take_from.new.stack in
    c.remove.ensures.entries
    ∙ ap (λ (l : List (List ℕ × StackRecord)). remove_entry (is_at (bytes_cmp key)) l) (c.get_mut.follows.holds new).0
    ∙ removed_set (is_at (bytes_cmp key)) entries new
    ∙ stack_gone key new entries c.in_ok-after-in-Some.emptied c.if-not-emptied.false c.in_ok-after-in-Some.ensures.emptied
    ∙ ap (λ (stack : StackRecord). stacks_with key stack entries) c.in_ok-after-in-Some.ensures.stack
    ∙ ap (λ (o : Option StackRecord). stacks_with key (after_removal c.args.id c.args.at (unwrap_or o (new_stack 0))) entries) c.in-Some.ensures.value
