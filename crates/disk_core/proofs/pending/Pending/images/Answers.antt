use Rattle.std.proofs.Common.{◌≤◌, rules, arith, inl, inr, length, sym, ◌∙◌}
use Rattle.std.proofs.lemmas.Bool.{cases_lt}
use Rattle.std.proofs.lemmas.List.{get_or_default}
use Rattle.disk_core.proofs.Choices.{size_at}
use Rattle.disk_core.proofs.pending.Pending.images.Goals as goal

pub loop-size-preserved : goal.loop-size-preserved
loop-size-preserved c = (
  c.in_ok-add_places.ensures.images,
  λ k choice lt is le. elim (cases_lt k c.loop-size.size-index) [
    | inl before ↦ c.in_ok-add_places.ensures.kept choice (c.loop-size.invariant.1 k choice before is le)
    | inr ge ↦
        let last = size_at c.args.self.now.lengths.items c.deref-size-items.result.now k choice.size c.loop-size.size-index
        c.deref-size-items.ensures.value is lt ge in
        c.in_ok-add_places.ensures.given choice last (omega (arith, last, le))
  ],
)

pub returns-clause-each : goal.returns-clause-each
returns-clause-each c choice has =
    let all : length c.args.self.now.lengths.items ≤ c.loop-size.size-index = search rules in
    c.loop-size.invariant.1 has.size.0 choice (omega (arith, has.size.1, all))
    (sym (get_or_default c.args.self.now.lengths.items has.size.0 0 choice.size has.size.1 ∙ has.size.2)) has.place
