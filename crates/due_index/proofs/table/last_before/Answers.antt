use Rattle.std.proofs.Common.{rules, ◌≡◌, get_or, true, false, arith}
use Rattle.std.specs.List.Sorted.{IsPartitionPoint}
use Rattle.std.proofs.lemmas.List.Sorted.{IsPartitionPoint-from_clause}
use Rattle.due_index.proofs.Tables.{upto, parted, not_behind, behind_none}
use Rattle.due_index.proofs.table.last_before.Goals as goal

pub returns-clause-below : goal.returns-clause-below
returns-clause-below c k less =
    let p = upto c.args.rules.now c.args.text.now in
    let point : IsPartitionPoint (λ y. p y ≡ true) (λ y. p y ≡ false) c.args.order.now c.partition_point.result =
    IsPartitionPoint-from_clause p c.args.order.now c.partition_point.result c.partition_point.ensures.partitioned
    (parted c.args.rules.now c.args.order.now c.args.text.now c.requires) (λ a r f' k. search rules) in
    not_behind c.args.rules.now c.args.text.now (get_or c.args.order.now k 0) (point.0 k 0 (omega arith) less)

pub returns-clause-none : goal.returns-clause-none
returns-clause-none c k from less =
    let p = upto c.args.rules.now c.args.text.now in
    let point : IsPartitionPoint (λ y. p y ≡ true) (λ y. p y ≡ false) c.args.order.now c.partition_point.result =
    IsPartitionPoint-from_clause p c.args.order.now c.partition_point.result c.partition_point.ensures.partitioned
    (parted c.args.rules.now c.args.order.now c.args.text.now c.requires) (λ a r f' k. search rules) in
    behind_none c.args.rules.now c.args.text.now (get_or c.args.order.now k 0) (point.1 k 0 from less)
