use Rattle.std.proofs.Common.{◌≡◌, ◌+◌, ℕ, List, length, flat_map, sym, subst}
use Rattle.std.specs.Prelude.{sum_by}
use Rattle.stacks.specs.Stacks.{StackRecord}
use Rattle.bucket_account.specs.Restoring.{stack_stays}
use Rattle.bucket_account.proofs.Counted.{counted_more}
use Rattle.bucket_account.proofs.Reopening.{IsOpening, opening_more}
use Rattle.bucket_account.proofs.restoring.open_stacks.Goals as goal

abbrev Entry : Type 0
Entry = List ℕ × StackRecord

abbrev count : Entry → ℕ
count stack = length stack.1.versions

pub loop-key-preserved : goal.loop-key-preserved
loop-key-preserved c =
    let all = c.args.stacks.now.entries in
    let total = c.args.meters.now.booked + sum_by count all in
    let counted = counted_more count c.loop-key.meters.booked total c.loop-key.key-iterator c.loop-key.invariant.booked (c.in-Some.key.now, c.in-Some.stack.now) c.next.new.self c.in-Some.ensures.steps in
    record {
      opening = opening_more c.args.meters.now c.loop-key.meters c.open_stack.new.meters (stack_stays (c.in-Some.key.now, c.in-Some.stack.now)) (flat_map stack_stays c.next.new.self)
          (flat_map stack_stays all) c.in_ok-open_stack.ensures.stays
          (subst (λ (l : List Entry). IsOpening c.args.meters.now c.loop-key.meters (flat_map stack_stays l) (flat_map stack_stays all)) c.in-Some.ensures.steps c.loop-key.invariant.opening);
      booked = subst (λ (n : ℕ). n + sum_by count c.next.new.self ≡ total) (sym c.in_ok-open_stack.ensures.booked) counted;
    }
