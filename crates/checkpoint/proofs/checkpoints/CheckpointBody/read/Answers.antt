use Rattle.std.proofs.Common.{◌≡◌, ◌∙◌, [], Some, option_map, sym, ap, arith}
use Rattle.std.proofs.lemmas.Bool.{false≢true}
use Rattle.checkpoint.proofs.Saved.{spelled_by, nothing_read, more_read, not_restored, nothing_left, some_left}
use Rattle.checkpoint.proofs.checkpoints.CheckpointBody.read.Goals as goal

pub returns-in_default-clause-none : goal.returns-in_default-clause-none
returns-in_default-clause-none c = nothing_read c.args.bytes.now (c.in_ok-snapshot.ensures ∙ ap (option_map (λ x. (x.0, x.1.now))) c.in_default.is)

pub returns-then-not-is_empty-clause-none : goal.returns-then-not-is_empty-clause-none
returns-then-not-is_empty-clause-none c =
    more_read c.args.bytes.now c.in-Some.snapshot c.in-Some.rest.now (c.in_ok-snapshot.ensures ∙ ap (option_map (λ x. (x.0, x.1.now))) c.in-Some.is)
    (some_left c.is_empty.result c.in-Some.rest.now c.is_empty.ensures c.if-not-is_empty.true)

pub returns-then-branch-clause-found : goal.returns-then-branch-clause-found
returns-then-branch-clause-found c =
    let none : c.in-Some.rest.now ≡ [] = nothing_left c.is_empty.result c.in-Some.rest.now c.is_empty.ensures c.if-not-is_empty.false in
    spelled_by c.args.bytes.now c.in-Some.snapshot (λ i. omega (arith, c.type_inv.bytes i))
    (c.in_ok-snapshot.ensures ∙ ap (option_map (λ x. (x.0, x.1.now))) c.in-Some.is ∙ ap (λ rest. Some (c.in-Some.snapshot, rest)) none) (c.in_ok-is_restorable.ensures.0 c.if-branch.true)

pub returns-else-branch-clause-none : goal.returns-else-branch-clause-none
returns-else-branch-clause-none c =
    not_restored c.args.bytes.now c.in-Some.snapshot c.in-Some.rest.now (c.in_ok-snapshot.ensures ∙ ap (option_map (λ x. (x.0, x.1.now))) c.in-Some.is)
    (λ is. false≢true (sym c.if-branch.false ∙ c.in_ok-is_restorable.ensures.1 is))
