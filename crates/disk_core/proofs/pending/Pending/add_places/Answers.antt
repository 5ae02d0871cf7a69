use Rattle.std.proofs.Common.{◌≤◌, rules, arith, inl, inr}
use Rattle.std.proofs.lemmas.Bool.{cases_lt}
use Rattle.disk_core.specs.Pending.{file_of}
use Rattle.disk_core.proofs.Choices.{same_choice, then_ok, then_both}
use Rattle.disk_core.proofs.pending.Pending.add_places.Goals as goal

pub loop-place-preserved : goal.loop-place-preserved
loop-place-preserved c =
    let kept = c.in_ok-add_fillings.ensures.kept in (
      c.in_ok-add_fillings.ensures.images,
      λ choice given. kept choice (c.loop-place.invariant.1 choice given),
      λ choice is lt. elim (cases_lt choice.place c.loop-place.place) [
        | inl before ↦ kept choice (c.loop-place.invariant.2 choice is before)
        | inr ge ↦ same_choice (file_of c.args.self.now) c.add_fillings.new.images.items c.args.size c.loop-place.place choice is
            (omega (arith, lt, ge)) (c.in_ok-add_fillings.ensures.given choice.before choice.behind)
      ],
    )

pub returns-clause-kept : goal.returns-clause-kept
returns-clause-kept c =
    then_ok c.add_fillings-2.result (λ kept choice given. kept choice (c.loop-place.invariant.1 choice given)) c.add_fillings-2.ensures.kept

pub returns-clause-given : goal.returns-clause-given
returns-clause-given c =
    let all : c.args.size ≤ c.loop-place.place = search rules in
    then_both c.add_fillings-2.result (λ kept given choice is le. elim (cases_lt choice.place c.loop-place.place) [
      | inl before ↦ kept choice (c.loop-place.invariant.2 choice is before)
      | inr ge ↦ same_choice (file_of c.args.self.now) c.add_fillings-2.new.images.items c.args.size c.args.size choice is
          (omega (arith, le, ge, all)) (given choice.before choice.behind)
    ]) c.add_fillings-2.ensures.kept c.add_fillings-2.ensures.given
