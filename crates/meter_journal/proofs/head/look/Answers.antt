use Rattle.std.proofs.Common.{◌≡◌, List, ℕ, false, length, Result, Ok, Err, sym, subst, rules}
use Rattle.std.specs.Prelude.{OnOk, IfOk, is_err}
use Rattle.std.proofs.lemmas.Bool.{false≢true}
use Rattle.disk_core.specs.declared.disk.FileNo.TheVariants.{Journal}
use Rattle.disk_core.specs.Files.{State, SameReads}
use Rattle.disk_core.proofs.Time.{then_untouched}
use Rattle.meter_journal.specs.Reading.{HeadGives}
use Rattle.meter_journal.proofs.head.look.Goals as goal

pub returns-clause-room : goal.returns-clause-room
returns-clause-room g c told n room =
    then_untouched (c.sync_journal.ensures.room told n room) (c.measure.ensures.untouched.files (g.met.D.Disk.honest_tells told))

ok_holds : {T E : Type 0} (result : Result T E) (P : Type 0) → is_err result ≡ false → OnOk result P → P
ok_holds (Ok x) P is p = p
ok_holds (Err e) P is p = absurd (false≢true (sym is))

-- if the sync was done, what is read is what it was
same_seen : {T E : Type 0} (result : Result T E) (old synced : State) → is_err result ≡ false → OnOk result (SameReads old synced)
    → synced.journal.seen ≡ old.journal.seen
same_seen result old synced ok reads = ok_holds result (SameReads old synced) ok reads Journal

pub returns-clause-exact : goal.returns-clause-exact
returns-clause-exact g c told =
    let state = g.D.Disk.state in
    let same = same_seen c.sync_journal.result (state c.args.disk.now) (state c.sync_journal.new.disk) (search rules) (c.sync_journal.ensures.reads told) in
    subst (λ (l : List ℕ). HeadGives c.measure.result l) same (c.measure.ensures.exact told)

pub returns-clause-size : goal.returns-clause-size
returns-clause-size g c told =
    let state = g.D.Disk.state in
    let same = same_seen c.sync_journal.result (state c.args.disk.now) (state c.sync_journal.new.disk) (search rules) (c.sync_journal.ensures.reads told) in
    subst (λ (l : List ℕ). IfOk c.measure.result (λ n. n ≡ length l)) same (c.measure.ensures.size told)
