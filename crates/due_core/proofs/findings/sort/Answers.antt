use Rattle.std.proofs.Common.{rules, ◌≡◌}
use Rattle.std.specs.Ordering.{is_lt}
use Rattle.std.proofs.lemmas.List.Sorted.{answers_always}
use Rattle.due_core.specs.Choice.{comes_before}
use Rattle.due_core.proofs.Queue.{candidate_order}
use Rattle.due_core.proofs.findings.sort.Goals as goal

pub returns-in-Ok : goal.returns-in-Ok
returns-in-Ok c = record {
  same = c.sort_by.ensures.permutation;
  sorted = c.in-Ok.ensures.sorted comes_before candidate_order (answers_always _ (λ a r. is_lt r ≡ comes_before a.0.now a.1.0.now) _ (λ f a r f' k. search rules));
  stable = c.sort_by.ensures.stable comes_before candidate_order (answers_always _ (λ a r. is_lt r ≡ comes_before a.0.now a.1.0.now) _ (λ f a r f' k. search rules));
}
