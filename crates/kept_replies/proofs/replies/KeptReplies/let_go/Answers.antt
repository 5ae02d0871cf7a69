use Rattle.std.proofs.Common.{ap, sym, subst, ◌∙◌, ◌+◌, List, ℕ, length, Option, ◌<◌}
use Rattle.std.specs.Prelude.{IsSome}
use Rattle.std.specs.VecDeque.{deque_len, deque_capacity}
use Rattle.office_types.specs.declared.command.Command.{Command}
use Rattle.kept_replies.specs.Indexed.{IsIndexed, IsHeld, without_held}
use Rattle.kept_replies.proofs.Indexes.{indexed_let_go}
use Rattle.kept_replies.proofs.replies.KeptReplies.let_go.Goals as goal

pub invariant_of-self : goal.invariant_of-self
invariant_of-self c =
    let i = c.self.inside in
    let let_go = c.drop_number.ensures ∙ ap (λ (h : Option (List ℕ × Command)). without_held h i.numbers.entries) c.take-held.ensures.value in (
      subst (λ (n : List (List ℕ × ℕ)). IsIndexed i.dropped n i.queue.items) (sym let_go)
          (indexed_let_go i.dropped i.numbers.entries i.held i.queue.items c.self.invariant.1 c.self.invariant.0),
      subst (IsHeld (i.dropped + length i.queue.items) c.drop_number.new.numbers.entries) (sym c.take-held.ensures.after) tt,
      subst (λ (h : Option (List ℕ × Command)). IsSome h → deque_len i.queue < deque_capacity i.queue) (sym c.take-held.ensures.after) (λ some. absurd cc),
      c.self.invariant.3,
    )
