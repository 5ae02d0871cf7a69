use Rattle.std.proofs.Common.{List, ap, sym, subst, ◌∙◌}
use Rattle.std.specs.Prelude.{All}
use Rattle.accrual.specs.Sums.{IsSmallMonth}
use Rattle.accrual.specs.declared.monthly.MonthSums.{MonthSums}
use Rattle.office_snapshot.specs.Snapshots.{BucketPartRecord}
use Rattle.office_machine.proofs.restoring.account_of.Goals as goal

pub of-requires-clause-small : goal.of-requires-clause-small
of-requires-clause-small c =
    subst (λ (l : List MonthSums). All IsSmallMonth l) (sym (c.deref.ensures.value ∙ ap (λ (p : BucketPartRecord). p.sums) c.part.view_is)) c.requires.small
