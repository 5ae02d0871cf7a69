use Rattle.std.proofs.Common.{◌≡◌, inl, ℕ, List, refl, sym, subst}
use Rattle.std.specs.Prelude.{Some, None, Ok, Err}
use Rattle.office_base.specs.Maps.{at_name}
use Rattle.stacks.specs.Stacks.{StackRecord}
use Rattle.due_core.specs.Buckets.{BucketRecord}
use Rattle.office_types.specs.declared.reply.Reply.TheVariants.{StackShown}
use Rattle.office_types.specs.declared.refusal.Refusal.TheVariants.{NoSuchKey}
use Rattle.plain_office.specs.Answers.{stack_told}
use Rattle.office_machine.proofs.queries.stack_of.Goals as goal

told_none : (key : List ℕ) (bucket : BucketRecord) → at_name key bucket.stacks ≡ None → stack_told key bucket ≡ Err NoSuchKey
told_none key bucket none = rw none refl

told_some : (key copied : List ℕ) (bucket : BucketRecord) (stack taken : StackRecord) → copied ≡ key → taken ≡ stack
    → at_name key bucket.stacks ≡ Some stack → Ok (StackShown copied taken) ≡ stack_told key bucket
told_some key copied bucket stack taken same equal there = rw (same, equal, there) refl

pub returns-in_default-clause-reply : goal.returns-in_default-clause-reply
returns-in_default-clause-reply c =
    inl (sym (told_none c.args.key.now c.args.bucket.now (subst
    (λ (bucket : BucketRecord). at_name c.args.key.now bucket.stacks ≡ None) c.bucket.view_is
    (sym c.in_default.ensures.value))))

pub returns-clause-reply : goal.returns-clause-reply
returns-clause-reply c =
    inl (told_some c.args.key.now c.in_ok-key.key c.args.bucket.now c.in-Some.stack.now c.in_ok-stack.stack
    c.in_ok-key.ensures c.in_ok-stack.ensures (subst
    (λ (bucket : BucketRecord). at_name c.args.key.now bucket.stacks ≡ Some c.in-Some.stack.now)
    c.bucket.view_is (sym c.in-Some.ensures.value)))
