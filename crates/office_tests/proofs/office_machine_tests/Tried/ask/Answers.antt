use Rattle.std.proofs.Common.{ℕ, ◌+◌, ◌≤◌, Bool, true, false, cond, arith}
use Rattle.std.specs.Prelude.{Result}
use Rattle.plain_office.specs.Step.{is_accepted}
use Rattle.office_types.specs.declared.reply.Reply.{Reply}
use Rattle.office_types.specs.declared.refusal.Refusal.{Refusal}
use Rattle.office_machine.specs.Standing.{accepted_after}
use Rattle.office_tests.proofs.office_machine_tests.Tried.ask.Goals as goal

one_most : (b : Bool) (n : ℕ) → cond b (n + 1) n ≤ n + 1
one_most true n = omega arith
one_most false n = omega arith

at_most : (r : Result Reply Refusal) (n : ℕ) → accepted_after r n ≤ n + 1
at_most r n = one_most (is_accepted r) n

pub invariant_of-self : goal.invariant_of-self
invariant_of-self g c =
    let most = at_most c.apply.result c.self.inside.office.records.accepted in
    omega (arith, most, c.apply.ensures.accepted, c.self.invariant)
