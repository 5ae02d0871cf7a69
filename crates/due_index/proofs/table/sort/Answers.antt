use Rattle.std.proofs.Common.{rules, ◌≡◌, ℕ}
use Rattle.std.specs.Ordering.{is_lt}
use Rattle.std.proofs.lemmas.Fn.{always_returns_same}
use Rattle.std.proofs.lemmas.List.Sorted.{sorted_far}
use Rattle.office_base.specs.Maps.{bytes_cmp}
use Rattle.due_index.specs.Table.{prefix_at}
use Rattle.due_index.proofs.Tables.{prefix_order}
use Rattle.due_index.proofs.table.sort.Goals as goal

pub returns-in-Ok-clause-by_prefix : goal.returns-in-Ok-clause-by_prefix
returns-in-Ok-clause-by_prefix c i j le less =
    let order = prefix_order c.args.rules.now in
    sorted_far (λ (a b : ℕ). is_lt (bytes_cmp (prefix_at c.args.rules.now a) (prefix_at c.args.rules.now b))) order c.sort_by.new.self.items
    (c.in-Ok.ensures.sorted (λ (a b : ℕ). is_lt (bytes_cmp (prefix_at c.args.rules.now a) (prefix_at c.args.rules.now b))) order
    (always_returns_same _ (λ a r. is_lt r ≡ is_lt (bytes_cmp (prefix_at c.args.rules.now a.0.now) (prefix_at c.args.rules.now a.1.0.now))) _ (λ a r f' k. search rules)))
    i j 0 le less
