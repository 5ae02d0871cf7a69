use Rattle.std.proofs.Common.{inl, inr, refl, ⊎_elim, Ok, Err}
use Rattle.desk_core.proofs.Damage.{recalled_not_accepted, lacks_or_not}
use Rattle.desk_core.proofs.taking.entry_is_new.Goals as goal

pub returns-in-Ok-Some-clause-fails : goal.returns-in-Ok-Some-clause-fails
returns-in-Ok-Some-clause-fails c =
    inr (
      refl,
      recalled_not_accepted c.args.office.now c.args.entry.now c.in-Some.token (Ok c.in-Ok-Some.field-0) c.in-Some.is
          c.in-Ok-Some.ensures.exact (λ e. let some = c.in-Ok-Some.field-0-is in absurd cc) (λ e. absurd cc),
    )

pub returns-in-Err-clause-fails : goal.returns-in-Err-clause-fails
returns-in-Err-clause-fails c = ⊎_elim
    (λ lacks. inl (c.entry_refused.ensures.memory lacks))
    (λ other. inr (
      c.entry_refused.ensures.damaged other,
      recalled_not_accepted c.args.office.now c.args.entry.now c.in-Some.token (Err c.in-Err.refusal) c.in-Some.is
          c.in-Err.ensures.exact (λ e. absurd cc) (λ e. other cc),
    ))
    (lacks_or_not c.in-Err.refusal)
