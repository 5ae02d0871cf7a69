use Rattle.std.proofs.Common.{inl, inr}
use Rattle.std.proofs.lemmas.Bool.{cases_lt}
use Rattle.disk_core.specs.declared.pending.Filling.{Filling}
use Rattle.disk_core.specs.Choices.{Gives}
use Rattle.disk_core.specs.Pending.{file_of}
use Rattle.disk_core.proofs.Choices.{at_pair, last_pair}
use Rattle.disk_core.proofs.pending.Pending.add_fillings.Goals as goal

pub loop-before-preserved : goal.loop-before-preserved
loop-before-preserved c =
    let kept = c.in_ok-add.ensures.kept in
    let P = λ (p : Filling × Filling). Gives (file_of c.args.self.now) c.add.new.images.items
    (record { size = c.args.size; place = c.args.place; before = p.0; behind = p.1 }) in (
      c.in_ok-add.ensures.images,
      λ choice given. kept choice (c.loop-before.invariant.1 choice given),
      λ k d lt. elim (cases_lt k c.loop-before.before-index) [
        | inl before ↦ kept _ (c.loop-before.invariant.2 k d before)
        | inr ge ↦ last_pair P k c.loop-before.before-index d _ lt ge c.loop-before-test.true c.in_ok-add.ensures.given
      ],
    )

pub returns-clause-given : goal.returns-clause-given
returns-clause-given c before behind =
    at_pair (λ p. Gives (file_of c.args.self.now) c.loop-before.images.items
    (record { size = c.args.size; place = c.args.place; before = p.0; behind = p.1 }))
    c.loop-before.before-index c.loop-before-test.false c.loop-before.invariant.2 before behind
