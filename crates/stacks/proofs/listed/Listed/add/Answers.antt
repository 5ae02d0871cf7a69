use Rattle.std.proofs.Common.{◌≡◌, true, subst, sym, ◌≤◌, ◌∷◌, ◌∙◌, ap, arith}
use Rattle.stacks.specs.declared.version.Version.{Version}
use Rattle.stacks.specs.Stacks.{StackRecord, without, covered, new_version}
use Rattle.stacks.specs.Ceasing.{cease_in_order}
use Rattle.stacks.proofs.CeasingOrder.{added_in_order}
use Rattle.stacks.proofs.StackLaws.{stack_added}
use Rattle.stacks.proofs.listed.Listed.add.Goals as goal

pub invariant_of-self-2 : goal.invariant_of-self-2
invariant_of-self-2 c =
    let later : c.self.inside.changed ≤ c.args.at = omega (arith, ap (λ (s : StackRecord). s.changed) c.self.view_is) in
    let after = c.in_ok-add.ensures.ok ∙ ap (λ (v : Version). v ∷ without v.id (covered c.args.at c.self.inside.versions)) c.new-version.ensures in
    rw c.of-self-inside.ensures (
      stack_added c.self.inside.changed c.args.at c.args.id c.args.kind c.self.inside.versions c.add.new.self later c.requires.entered after c.self.invariant.0,
      λ known. subst (λ vs. cease_in_order c.args.at vs ≡ true) (sym after)
          (added_in_order c.args.id (new_version c.args.id c.args.kind c.args.at) c.self.inside.changed c.args.at c.self.inside.versions later (c.self.invariant.1 known)),
    )
