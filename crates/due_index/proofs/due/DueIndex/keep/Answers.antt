use Rattle.std.proofs.Common.{subst}
use Rattle.due_index.specs.Index.{IndexRecord, SetsBlocks}
use Rattle.due_index.proofs.Keeping.{sets_tried}
use Rattle.due_index.proofs.due.DueIndex.keep.Goals as goal

pub returns : goal.returns
returns c =
    let old : IndexRecord = record { actions = c.self.inside.actions; blocks = c.self.inside.blocks.entries } in
    let new : IndexRecord = record { actions = c.self.inside.actions; blocks = c.insert.new.self.entries } in
    subst (λ i. SetsBlocks i new c.args.key.now c.args.blocks) c.self.view_is
    (sets_tried c.insert.result old c.args.key.now c.in-Ok.key c.args.blocks c.insert.new.self.entries c.in-Ok.ensures c.insert.ensures.updates (λ p. p.1) (λ p. p.2)
    c.insert.ensures.err)
