use Rattle.std.proofs.Common.{◌+◌, ◌≤◌, length, subst, sym, ap, ◌∙◌}
use Rattle.due_index.specs.Actions.{ActionsRecord, ActionsStand}
use Rattle.due_index.proofs.Counting.{entries_are, few_entries}
use Rattle.due_index.proofs.actions.ActionIndex.entries.Goals as goal

pub returns-clause-exact : goal.returns-clause-exact
returns-clause-exact c bucket whole stands =
    let index : ActionsRecord = record { keys = c.self.inside.keys.entries; uploads = c.self.inside.uploads.entries; table = c.self.inside.table; slots = c.self.inside.queue } in
    ap (λ n. n + c.len-2.result) c.len.ensures.len ∙ ap (λ n. length index.keys + n) c.len-2.ensures.len
    ∙ entries_are index bucket c.self.invariant (subst (λ i. ActionsStand i bucket) (sym c.self.view_is) stands) whole c.len.ensures.ordered c.len-2.ensures.ordered

pub returns-clause-few : goal.returns-clause-few
returns-clause-few c bucket whole stands =
    let index : ActionsRecord = record { keys = c.self.inside.keys.entries; uploads = c.self.inside.uploads.entries; table = c.self.inside.table; slots = c.self.inside.queue } in
    subst (λ n. n ≤ length bucket.stacks + length bucket.uploads) (sym (
    ap (λ n. n + c.len-2.result) c.len.ensures.len ∙ ap (λ n. length index.keys + n) c.len-2.ensures.len
    ∙ entries_are index bucket c.self.invariant (subst (λ i. ActionsStand i bucket) (sym c.self.view_is) stands) whole c.len.ensures.ordered c.len-2.ensures.ordered))
    (few_entries bucket)
