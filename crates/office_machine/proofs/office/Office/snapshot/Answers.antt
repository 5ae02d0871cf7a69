use Rattle.std.proofs.Common.{sym, subst, ◌∙◌, List}
use Rattle.std.specs.List.{AllByRecursion}
use Rattle.office_types.specs.declared.kept.Kept.{Kept}
use Rattle.kept_replies.specs.Queue.{IsTold}
use Rattle.office_machine.specs.Once.{OfficeView, StandsFor}
use Rattle.office_machine.proofs.office.Office.snapshot.Goals as goal

pub returns-clause-shows : goal.returns-clause-shows
returns-clause-shows c = λ p stands.
    let stood = subst (λ (v : OfficeView). StandsFor v p) (sym c.self.view_is) stands in
    c.in_ok-snapshot.ensures.shows p stood.records (c.in_ok-kept.ensures.same ∙ stood.kept)

pub returns-clause-told : goal.returns-clause-told
returns-clause-told c = subst (λ (l : List Kept). AllByRecursion IsTold l) (sym c.in_ok-snapshot.ensures.kept) c.in_ok-kept.ensures.told
