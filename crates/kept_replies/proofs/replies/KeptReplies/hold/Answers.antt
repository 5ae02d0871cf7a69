use Rattle.std.proofs.Common.{◌≡◌, ◌≤◌, ap, sym, subst, ◌∙◌, ◌+◌, List, ℕ, length, Option, Some, None, arith}
use Rattle.office_base.specs.Maps.{at_name, with_name}
use Rattle.office_laws.proofs.Maps.{by_name, at_written}
use Rattle.office_types.specs.declared.command.Command.{Command}
use Rattle.office_types.specs.declared.kept.Kept.{Kept}
use Rattle.kept_replies.specs.Queue.{ReplyQueue, kept_in}
use Rattle.kept_replies.specs.Indexed.{IsIndexed, IsHeld}
use Rattle.kept_replies.proofs.Indexes.{indexed_with}
use Rattle.kept_replies.proofs.replies.KeptReplies.hold.Goals as goal

pub invariant_of-self : goal.invariant_of-self
invariant_of-self c =
    let i = c.self.inside in
    let key = c.args.token.now in
    let n : ℕ = i.dropped + c.len.result in
    let same = c.in-Ok.ensures.items in
    let put = c.in-Ok.ensures.put in
    let none : kept_in key i.queue.items ≡ None = ap (λ (q : ReplyQueue). kept_in key q.queue) c.self.view_is ∙ c.requires.new in
    let indexed : IsIndexed i.dropped (with_name key n i.numbers.entries) i.queue.items = indexed_with i.dropped i.numbers.entries key n i.queue.items none c.self.invariant.0 in
    let written : at_name key (with_name key n i.numbers.entries) ≡ Some n = at_written by_name key n i.numbers.entries in
    let long : length c.make_ready.new.queue.items ≡ length i.queue.items = ap (λ (q : List Kept). length q) same in
    let next : n ≡ i.dropped + length c.make_ready.new.queue.items = omega (arith, long) in (
      subst (λ (m : List (List ℕ × ℕ)). IsIndexed i.dropped m c.make_ready.new.queue.items) (sym put) (subst (IsIndexed i.dropped (with_name key n i.numbers.entries)) (sym same) indexed),
      subst (λ (h : Option (List ℕ × Command)). IsHeld (i.dropped + length c.make_ready.new.queue.items) c.make_ready.new.numbers.entries h) (sym c.replace.ensures.after)
          (ap (λ (t : List ℕ). at_name t c.make_ready.new.numbers.entries) c.in_ok-held.ensures.0 ∙ ap (λ (m : List (List ℕ × ℕ)). at_name key m) put ∙ written ∙ ap Some next),
      λ e. c.in-Ok.ensures.room,
      subst (λ (q : List Kept). length q ≤ 10_000) (sym same) c.self.invariant.3,
    )
