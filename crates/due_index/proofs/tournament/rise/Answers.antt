use Rattle.std.proofs.Common.{◌+◌, ◌*◌, ◌/◌, inl, inr, length, arith, subst, sym}
use Rattle.std.proofs.lemmas.List.{length-set}
use Rattle.due_index.specs.Tournament.{IsExact, IsOnPath}
use Rattle.due_index.specs.declared.tournament.Node.{Node}
use Rattle.due_index.proofs.Tournaments.{with_leaf, with_winner, whole_at_root, path_le, path_parent}
use Rattle.due_index.proofs.tournament.rise.Goals as goal

pub loop-i-init : goal.loop-i-init
loop-i-init c =
    let size = c.requires.below.size in
    let fits = c.requires.below.fits in
    let less = c.requires.slot in record {
      off = with_leaf c.args.slots.now c.args.nodes.now (length c.args.nodes.now / 2 + c.args.slot) c.leaf.result c.requires.below
          (omega arith) (omega arith) c.leaf.ensures.exact (0, let own = c.leaf.ensures.slot in omega arith) c.args.slot (omega arith) c.leaf.ensures.slot;
      from_one = omega arith;
      within = let same = length-set c.args.nodes.now (length c.args.nodes.now / 2 + c.args.slot) c.leaf.result in omega arith;
    }

pub earlier-requires-clause-a : goal.earlier-requires-clause-a
earlier-requires-clause-a c =
    let off = c.loop-i.invariant.off in
    let size = off.size in
    let within = c.loop-i.invariant.within in
    let test = c.loop-i-test.true in
    off.exact (2 * (c.loop-i.i / 2)) (record { order = 0; slot = 0 }) (omega arith) (omega arith)
    (λ on. let le = path_le (2 * (c.loop-i.i / 2)) (c.loop-i.i / 2) on in omega arith)

pub earlier-requires-clause-b : goal.earlier-requires-clause-b
earlier-requires-clause-b c =
    let off = c.loop-i.invariant.off in
    let size = off.size in
    let within = c.loop-i.invariant.within in
    let test = c.loop-i-test.true in
    off.exact (2 * (c.loop-i.i / 2) + 1) (record { order = 0; slot = 0 }) (omega arith) (omega arith)
    (λ on. let le = path_le (2 * (c.loop-i.i / 2) + 1) (c.loop-i.i / 2) on in omega arith)

pub loop-i-preserved : goal.loop-i-preserved
loop-i-preserved c =
    let off = c.loop-i.invariant.off in
    let size = off.size in
    let within = c.loop-i.invariant.within in
    let test = c.loop-i-test.true in
    let exact : IsExact c.args.slots.now c.earlier.result = elim c.earlier.ensures.either [
      | inl is ↦ subst (λ n. IsExact c.args.slots.now n) (sym is) (off.exact (2 * (c.loop-i.i / 2)) (record { order = 0; slot = 0 }) (omega arith) (omega arith)
          (λ on. let le = path_le (2 * (c.loop-i.i / 2)) (c.loop-i.i / 2) on in omega arith))
      | inr is ↦ subst (λ n. IsExact c.args.slots.now n) (sym is) (off.exact (2 * (c.loop-i.i / 2) + 1) (record { order = 0; slot = 0 }) (omega arith) (omega arith)
          (λ on. let le = path_le (2 * (c.loop-i.i / 2) + 1) (c.loop-i.i / 2) on in omega arith))
    ] in
    let under : IsOnPath (c.loop-i.i / 2) (off.half + c.earlier.result.slot) = elim c.earlier.ensures.either [
      | inl is ↦ subst (λ (n : Node). IsOnPath (c.loop-i.i / 2) (off.half + n.slot)) (sym is) (path_parent (c.loop-i.i / 2) (2 * (c.loop-i.i / 2)) _ (omega arith)
          (off.below (2 * (c.loop-i.i / 2)) (record { order = 0; slot = 0 }) (omega arith) (omega arith)))
      | inr is ↦ subst (λ (n : Node). IsOnPath (c.loop-i.i / 2) (off.half + n.slot)) (sym is) (path_parent (c.loop-i.i / 2) (2 * (c.loop-i.i / 2) + 1) _ (omega arith)
          (off.below (2 * (c.loop-i.i / 2) + 1) (record { order = 0; slot = 0 }) (omega arith) (omega arith)))
    ] in record {
      off = with_winner c.args.slots.now c.loop-i.nodes (c.loop-i.i / 2) c.earlier.result off (omega arith) (omega arith) exact under
          (record { order = 0; slot = 0 }) (omega arith) c.earlier.ensures.first c.earlier.ensures.second;
      from_one = omega arith;
      within = let same = length-set c.loop-i.nodes (c.loop-i.i / 2) c.earlier.result in omega arith;
    }

pub returns : goal.returns
returns c = whole_at_root c.args.slots.now c.loop-i.nodes c.loop-i.i (omega arith) c.loop-i.invariant.off
