use Rattle.std.proofs.Common.{ap, ◌∙◌, subst}
use Rattle.std.proofs.lemmas.Result.{IfOk-weaker}
use Rattle.due_core.specs.Candidates.{eligible}
use Rattle.due_core.specs.Choice.{IsQueue}
use Rattle.due_core.specs.Search.{with_each}
use Rattle.due_core.proofs.Pass.{all_found}
use Rattle.due_core.proofs.walk.all.Goals as goal

pub returns : goal.returns
returns c =
    let bucket = c.args.bucket.now in
    let t = c.args.t in
    let found = all_found bucket t c.look.new.kept c.into_all.result.items
    (c.in_ok-look.ensures ∙ ap (λ kept. with_each t kept (eligible bucket)) c.all-kept.ensures) c.into_all.ensures in
    IfOk-weaker c.queue.result _ _ (λ actions is. subst (λ candidates. IsQueue candidates actions.items) found is) c.queue.ensures
