use Rattle.std.proofs.Common.{◌≤◌, Some, None, refl, sym, subst}
use Rattle.std.specs.Prelude.{IfSome}
use Rattle.office_snapshot.specs.Restorable.{IsRestorable}
use Rattle.plain_office.specs.Office.{Office, empty_office}
use Rattle.office_machine.specs.Once.{StandsFor}
use Rattle.desk_core.specs.Offices.{TakeTokens}
use Rattle.desk_core.specs.Reading.{Loaded, IsLoadedIn}
use Rattle.desk_core.proofs.Carrying.{takes_none, takes_shown}
use Rattle.desk_core.proofs.reopening.beginning.Goals as goal

pub returns-in-Ok-None-clause-begins : goal.returns-in-Ok-None-clause-begins
returns-in-Ok-None-clause-begins g c = record {
  loaded = None;
  gives = λ tells. subst (λ (o : Loaded). IsLoadedIn (g.D.Disk.state c.args.disk.now) o) c.in-Ok-None.field-0-is (c.in-Ok-None.ensures.loaded tells);
  place = refl;
  low = tt;
  stands = λ start is. subst (λ (p : Office). StandsFor c.new.result p) (sym is) c.new.ensures.stands;
  shown = (empty_office, refl);
  takes = λ start is. subst (λ (p : Office). TakeTokens p.kept) (sym is) takes_none;
  fresh = c.new.ensures.accepted;
}

pub returns-in-Ok-clause-begins : goal.returns-in-Ok-clause-begins
returns-in-Ok-clause-begins g c =
    let is = c.in-Ok-Some.field-0-is in
    let read = subst (λ (o : Loaded). IfSome o (λ one. IsRestorable one.0 × (10 ≤ one.1))) is c.in-Ok-Some.ensures.checkpoint in
    record {
      loaded = Some (c.in-Ok-Some.snapshot, c.in-Ok-Some.place);
      gives = λ tells. subst (λ (o : Loaded). IsLoadedIn (g.D.Disk.state c.args.disk.now) o) is (c.in-Ok-Some.ensures.loaded tells);
      place = refl;
      low = read.1;
      stands = c.in-Ok.ensures.stands;
      shown = c.in-Ok.ensures.some;
      takes = λ start shows. subst TakeTokens shows.kept (takes_shown c.in-Ok-Some.snapshot.kept read.0.form.kept);
      fresh = c.in-Ok.ensures.fresh;
    }
