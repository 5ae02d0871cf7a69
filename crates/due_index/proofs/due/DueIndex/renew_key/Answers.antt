use Rattle.std.proofs.Common.{ap, ◌∙◌}
use Rattle.office_base.specs.Maps.{at_name}
use Rattle.due_index.specs.Index.{IndexRecord}
use Rattle.due_index.proofs.Renewing.{not_at}
use Rattle.due_index.proofs.Keeping.{left_right, stands_renewed}
use Rattle.due_index.proofs.due.DueIndex.renew_key.Goals as goal

pub returns-clause-ok : goal.returns-clause-ok
returns-clause-ok c =
    let key = c.args.key.now in
    let left : IndexRecord = record { actions = c.renew_key-result.new.self; blocks = c.remove-kept.new.self.entries } in
    stands_renewed c.renew_key-result.result left c.keep.new.self c.args.bucket.now key c.renewed-blocks.result c.keep.ensures c.renew_key-result.ensures.ok c.renewed-blocks.ensures
    (left_right c.args.self.now left c.args.bucket.now key c.args.touched c.requires.rest c.remove-kept.ensures.updates.1
    (λ k apart. c.remove-kept.ensures.updates.2 k (not_at key k apart) ∙ ap (λ (i : IndexRecord). at_name k i.blocks) c.self.view_is))
