use Rattle.std.proofs.Common.{sym, subst}
use Rattle.office_base.specs.Maps.{at_name}
use Rattle.due_core.specs.Buckets.{BucketRecord}
use Rattle.due_index.specs.Blocks.{AreRightUnder}
use Rattle.due_index.proofs.RightSteps.{right_under}
use Rattle.due_index.proofs.Searching.{on_version}
use Rattle.due_index.proofs.search.next_on_key.Goals as goal

pub returns-clause-version : goal.returns-clause-version
returns-clause-version c =
    on_version c.args.bucket.now c.in-Some.rules c.args.key.now c.in-Some-get.of_key.now c.first_on_stack.result c.first_on_stack.ensures

pub first_on_stack-requires-clause-right : goal.first_on_stack-requires-clause-right
first_on_stack-requires-clause-right c =
    let right = subst (λ (b : BucketRecord). AreRightUnder b.rules c.args.key.now c.args.blocks.now (at_name c.args.key.now b.stacks)) (sym c.bucket.view_is) c.requires.right in
    right_under c.bucket.inside.rules (at_name c.args.key.now c.bucket.inside.stacks.entries) c.in-Some.rules c.in-Some-get.of_key.now c.args.key.now c.args.blocks.now
    c.in-Some.is (sym c.in-Some-get.ensures.value) right
