use Rattle.std.proofs.Common.{◌≡◌, ℕ, List, sym, ap, ◌∙◌}
use Rattle.std.specs.Prelude.{Option, unwrap_or}
use Rattle.std.specs.Map.{set_value}
use Rattle.std.specs.BTreeMap.{is_at}
use Rattle.std.proofs.lemmas.Map.Steps.{set_value_same}
use Rattle.office_base.specs.Maps.{bytes_cmp, with_name}
use Rattle.stacks.specs.Stacks.{StackRecord, new_stack, after_tags}
use Rattle.bucket_account.proofs.SetAt.{set_is_with}
use Rattle.bucket_account.proofs.Handed.{ok_then, err_then}
use Rattle.bucket_account.proofs.tags.retag_under.Goals as goal

pub returns-in-Some-clause-ok : goal.returns-in-Some-clause-ok
returns-in-Some-clause-ok c =
    let key : List ℕ = c.args.key.now in
    let entries : List (List ℕ × StackRecord) = c.args.stacks.now.entries in
    let old : StackRecord = c.in-Some.stack.now in
    let tagged = λ (stack : StackRecord). after_tags c.args.id.now c.args.tags.now c.args.at stack in
    ok_then c.retag.result (c.retag.new.stack ≡ tagged old) _
    (λ is.
    (c.get_mut.follows.holds c.retag.new.stack).0
    ∙ ap (λ (stack : StackRecord). set_value (is_at (bytes_cmp key)) entries stack) is
    ∙ set_is_with key (tagged old) old entries c.requires.rises (sym c.in-Some.ensures.value)
    ∙ ap (λ (o : Option StackRecord). with_name key (tagged (unwrap_or o (new_stack 0))) entries) c.in-Some.ensures.value)
    c.retag.ensures.ok

pub returns-in-Some-clause-err : goal.returns-in-Some-clause-err
returns-in-Some-clause-err c =
    let entries : List (List ℕ × StackRecord) = c.args.stacks.now.entries in
    err_then c.retag.result (c.retag.new.stack ≡ c.in-Some.stack.now) _
    (λ is.
    (c.get_mut.follows.holds c.retag.new.stack).0
    ∙ ap (λ (stack : StackRecord). set_value (is_at (bytes_cmp c.args.key.now)) entries stack) is
    ∙ set_value_same (is_at (bytes_cmp c.args.key.now)) entries c.in-Some.stack.now (sym c.in-Some.ensures.value))
    c.retag.ensures.err
