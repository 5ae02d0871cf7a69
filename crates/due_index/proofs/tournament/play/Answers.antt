use Rattle.std.proofs.Common.{◌≡◌, ◌+◌, ◌-◌, ◌*◌, inl, inr, arith, subst, sym}
use Rattle.due_index.specs.Tournament.{IsExact, IsOnPath}
use Rattle.due_index.specs.declared.tournament.Node.{Node}
use Rattle.due_index.proofs.Tournaments.{IsTournamentFrom, from_leaves, one_more, whole_from, path_parent}
use Rattle.due_index.proofs.tournament.play.Goals as goal

pub loop-i-init : goal.loop-i-init
loop-i-init c = record { from = from_leaves c.args.slots.now c.args.nodes.now c.args.half c.requires.leaves; within = omega arith }

pub earlier-requires-clause-a : goal.earlier-requires-clause-a
earlier-requires-clause-a c =
    let h = c.loop-i.invariant.from in
    let within = c.loop-i.invariant.within in
    let test = c.loop-i-test.true in
    h.exact (2 * (c.loop-i.i - 1)) (record { order = 0; slot = 0 }) (omega arith) (omega arith)

pub earlier-requires-clause-b : goal.earlier-requires-clause-b
earlier-requires-clause-b c =
    let h = c.loop-i.invariant.from in
    let within = c.loop-i.invariant.within in
    let test = c.loop-i-test.true in
    h.exact (2 * (c.loop-i.i - 1) + 1) (record { order = 0; slot = 0 }) (omega arith) (omega arith)

pub loop-i-preserved : goal.loop-i-preserved
loop-i-preserved c =
    let h = c.loop-i.invariant.from in
    let within = c.loop-i.invariant.within in
    let test = c.loop-i-test.true in
    let same : c.loop-i.i ≡ c.loop-i.i - 1 + 1 = omega arith in
    let exact : IsExact c.args.slots.now c.earlier.result = elim c.earlier.ensures.either [
      | inl is ↦ subst (λ n. IsExact c.args.slots.now n) (sym is) (h.exact (2 * (c.loop-i.i - 1)) (record { order = 0; slot = 0 }) (omega arith) (omega arith))
      | inr is ↦ subst (λ n. IsExact c.args.slots.now n) (sym is) (h.exact (2 * (c.loop-i.i - 1) + 1) (record { order = 0; slot = 0 }) (omega arith) (omega arith))
    ] in
    let under : IsOnPath (c.loop-i.i - 1) (c.args.half + c.earlier.result.slot) = elim c.earlier.ensures.either [
      | inl is ↦ subst (λ (n : Node). IsOnPath (c.loop-i.i - 1) (c.args.half + n.slot)) (sym is) (path_parent (c.loop-i.i - 1) (2 * (c.loop-i.i - 1)) _ (omega arith)
          (h.below (2 * (c.loop-i.i - 1)) (record { order = 0; slot = 0 }) (omega arith) (omega arith)))
      | inr is ↦ subst (λ (n : Node). IsOnPath (c.loop-i.i - 1) (c.args.half + n.slot)) (sym is) (path_parent (c.loop-i.i - 1) (2 * (c.loop-i.i - 1) + 1) _ (omega arith)
          (h.below (2 * (c.loop-i.i - 1) + 1) (record { order = 0; slot = 0 }) (omega arith) (omega arith)))
    ] in record {
      from = one_more c.args.slots.now c.loop-i.nodes c.args.half (c.loop-i.i - 1) c.earlier.result (record { order = 0; slot = 0 })
          (subst (λ k. IsTournamentFrom c.args.slots.now c.loop-i.nodes c.args.half k) same h) (omega arith) (omega arith) exact c.earlier.ensures.first c.earlier.ensures.second under;
      within = omega arith;
    }

pub returns-clause-tournament : goal.returns-clause-tournament
returns-clause-tournament c = whole_from c.args.slots.now c.loop-i.nodes c.args.half c.loop-i.i (omega arith) c.requires.fits c.loop-i.invariant.from

pub returns-clause-size : goal.returns-clause-size
returns-clause-size c = c.loop-i.invariant.from.size
