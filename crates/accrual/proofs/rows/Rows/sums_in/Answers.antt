use Rattle.std.proofs.Common.{rules, ap, get_or, ◌∙◌}
use Rattle.class_rules.specs.Classes.{rank_of}
use Rattle.accrual.specs.Rows.{ended_in}
use Rattle.accrual.proofs.Summing.{month_row, nothing_there}
use Rattle.accrual.proofs.rows.Rows.sums_in.Goals as goal

pub returns-then-is_nothing-clause-none : goal.returns-then-is_nothing-clause-none
returns-then-is_nothing-clause-none c =
    nothing_there c.args.self.now c.args.month c.sums_of-sums.result
    (month_row c.args.self.now c.args.month c.index.result.now c.sums_of-sums.result c.requires.row (search rules)
    (search rules) (λ class. ap (λ l. get_or l (rank_of class) 0) c.sums_of-sums.ensures.ended ∙ (c.all_ended.ensures class ∙ ap (λ k. ended_in c.args.self.now k (rank_of class)) c.numbered-2.ensures)) c.sums_of-sums.ensures.early c.sums_of-sums.ensures.moves)
    (search rules)

pub returns-clause-sums : goal.returns-clause-sums
returns-clause-sums c =
    month_row c.args.self.now c.args.month c.index.result.now c.sums_of-sums.result c.requires.row (search rules)
    (search rules) (λ class. ap (λ l. get_or l (rank_of class) 0) c.sums_of-sums.ensures.ended ∙ (c.all_ended.ensures class ∙ ap (λ k. ended_in c.args.self.now k (rank_of class)) c.numbered-2.ensures)) c.sums_of-sums.ensures.early c.sums_of-sums.ensures.moves
