use Rattle.std.proofs.Common.{ℕ, List, sym, ap, ◌∙◌}
use Rattle.std.specs.Prelude.{Option, unwrap_or}
use Rattle.std.specs.Map.{set_value}
use Rattle.std.specs.BTreeMap.{is_at}
use Rattle.std.proofs.lemmas.Map.Steps.{set_value_same}
use Rattle.office_base.specs.Maps.{bytes_cmp, with_name}
use Rattle.stacks.specs.Stacks.{StackRecord, new_stack}
use Rattle.bucket_account.specs.Booking.{stack_put}
use Rattle.bucket_account.proofs.SetAt.{set_is_with}
use Rattle.bucket_account.proofs.Handed.{on_err}
use Rattle.bucket_account.proofs.adding.put_version.Goals as goal

pub returns-in_err-counts-in-Some-clause-stacks_kept : goal.returns-in_err-counts-in-Some-clause-stacks_kept
returns-in_err-counts-in-Some-clause-stacks_kept c =
    on_err c.from_residual.result _
    ((c.get_mut.follows.holds c.in-Some.stack.now).0
    ∙ set_value_same (is_at (bytes_cmp c.args.key.now)) c.args.stacks.now.entries c.in-Some.stack.now (sym c.in-Some.ensures.value))

pub returns-in_err-put_on-in-Some-clause-stacks_kept : goal.returns-in_err-put_on-in-Some-clause-stacks_kept
returns-in_err-put_on-in-Some-clause-stacks_kept c =
    on_err c.from_residual-in_err-put_on-in-Some.result _
    ((c.get_mut.follows.holds c.put_on.new.stack).0
    ∙ ap (λ (stack : StackRecord). set_value (is_at (bytes_cmp c.args.key.now)) c.args.stacks.now.entries stack) c.in_err-put_on-in-Some.ensures.stack_kept
    ∙ set_value_same (is_at (bytes_cmp c.args.key.now)) c.args.stacks.now.entries c.in-Some.stack.now (sym c.in-Some.ensures.value))

pub returns-in_ok-put_on-in-Some-clause-stacks : goal.returns-in_ok-put_on-in-Some-clause-stacks
returns-in_ok-put_on-in-Some-clause-stacks c =
    let key : List ℕ = c.args.key.now in
    let entries : List (List ℕ × StackRecord) = c.args.stacks.now.entries in
    let old : StackRecord = c.in-Some.stack.now in
    let put = λ (stack : StackRecord). stack_put c.args.incoming stack in
    (c.get_mut.follows.holds c.put_on.new.stack).0
    ∙ ap (λ (stack : StackRecord). set_value (is_at (bytes_cmp key)) entries stack) c.in_ok-put_on-in-Some.ensures.stack
    ∙ set_is_with key (put old) old entries c.requires.rises (sym c.in-Some.ensures.value)
    ∙ ap (λ (o : Option StackRecord). with_name key (put (unwrap_or o (new_stack 0))) entries) c.in-Some.ensures.value
