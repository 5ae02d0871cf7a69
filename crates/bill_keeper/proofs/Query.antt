-- A query inside a transaction commits nothing.
use Rattle.std.proofs.Common.{◌≡◌, ◌⊎◌, inl, inr, ℕ, List, [], ◌∷◌, Bool, true, false, Option, None, Some, IsTrue, Ok, Err, Result, IfOk, IfErr, refl, sym, ap, subst, ◌∙◌}
use Rattle.std.specs.Prelude.{if◌then◌else◌}
use Rattle.std.specs.Global.{Vec}
use Rattle.sqlite.specs.declared.types.Value.TheVariants.{Text}
use Rattle.sqlite.specs.Order.{Row}
use Rattle.sqlite.specs.Effect.{Database}
use Rattle.sqlite_resolve.specs.declared.compiled.Compiled.{Compiled}
use Rattle.sqlite_schema.specs.declared.command.Returning.{Returning}
use Rattle.sqlite.specs.declared.error.Error.{Error}
use Rattle.sqlite.specs.State.{State, KeepsCommit, IsUnchanged, FailsToQuery, Shown, ShowsRows, FailsToShow, IsNotRun, IsTooLate, RunsCommand}
use Rattle.sqlite.specs.Clock.{timed}
use Rattle.bill_rows.specs.Rows.{bills_schema, select_text, IsMonth}
use Rattle.bill_keeper.specs.Steps.{Works}
use Rattle.bill_keeper.proofs.Back.{back_same, shown_same}
use Rattle.bill_keeper.proofs.Inside.{same_keeps, back_keeps}
use Rattle.bill_keeper.proofs.Month.{month_shows}

within : (b : Bool) (now before : Database) → IsTrue b → ◌≡◌ {A = Database} (if b then before else now) before
within true now before is = refl
within false now before is = absurd (let e = is in cc)

rows_keep : (old new : State) (sql : List ℕ) (c : Compiled) (params : Row) (rows : List Row) (what : Option Returning) → IsTrue old.in_transaction → ShowsRows old new sql c params rows what
    → KeepsCommit old new × IsTrue new.in_transaction
rows_keep old new sql c params rows None begun h = (same_keeps old new h.3, h.3.0.mode ∙ begun)
rows_keep old new sql c params rows (Some what) begun h =
    (record { was_open = λ _. h.1.shown.was_open; committed = λ _. h.1.shown.committed_is ∙ within old.in_transaction new.now old.committed begun }, h.1.shown.mode ∙ begun)

shown_keep : (old new : State) (sql : List ℕ) (params : Row) (rows : List Row) → IsTrue old.in_transaction → Shown sql params old new rows → KeepsCommit old new × IsTrue new.in_transaction
unfolding Shown
shown_keep old new sql params rows begun h = rows_keep old new sql h.0 (timed params h.0.formats h.1.now) rows h.0.returning begun h.2

ran_keeps : (old new : State) (sql : List ℕ) (c : Compiled) (params : Row) (e : Error) → RunsCommand old new sql c params (Err e) → KeepsCommit old new
ran_keeps old new sql c params e (inl same) = same_keeps old new same.1
ran_keeps old new sql c params e (inr fails) = back_keeps old new fails.3

fails_keep : (old new : State) (sql : List ℕ) (c : Compiled) (params : Row) (e : Error) (what : Option Returning) → FailsToShow old new sql c params e what → KeepsCommit old new
fails_keep old new sql c params e None h = same_keeps old new h.3
fails_keep old new sql c params e (Some what) h = ran_keeps old new sql c params e h

not_run_keeps : (old new : State) (sql : List ℕ) (params : Row) (e : Error) → IsNotRun old new sql params e → KeepsCommit old new
unfolding IsNotRun
not_run_keeps old new sql params e (inl refused) = same_keeps old new refused.1
not_run_keeps old new sql params e (inr fails) = back_keeps old new fails.3

query_keeps : (old new : State) (sql : List ℕ) (params : Row) (e : Error) → FailsToQuery sql params old new e → KeepsCommit old new
unfolding FailsToQuery
query_keeps old new sql params e (inl not_run) = not_run_keeps old new sql params e not_run
query_keeps old new sql params e (inr h) = fails_keep old new sql h.0 (timed params h.0.formats h.1.now) e h.0.returning h.2

either_keeps : (old new : State) (sql : List ℕ) (params : Row) (e : Error) → FailsToQuery sql params old new e ⊎ IsTooLate sql params old new e → KeepsCommit old new
either_keeps old new sql params e (inl fails) = query_keeps old new sql params e fails
either_keeps old new sql params e (inr late) = same_keeps old new late.5

-- what the third statement reads inside a transaction
pub month_works : (old new : State) (month : List ℕ) (r : Result (Vec Row) Error) → IsTrue old.in_transaction → IfOk r (λ v. Shown select_text (Text month ∷ []) old new v.items)
    → IfErr r (λ e. FailsToQuery select_text (Text month ∷ []) old new e ⊎ IsTooLate select_text (Text month ∷ []) old new e)
    → Works old new r (λ rows before after. (after ≡ before) × IsMonth month before rows.items)
month_works old new month (Ok v) begun shown fails =
    let keeps = shown_keep old new select_text _ v.items begun shown in
    record {
      kept = keeps.0;
      stays = keeps.1;
      done = λ has.
          let same = shown_same old new _ v.items has shown in
          (ap (λ (d : Database). d.schema) same.0.now_is ∙ has, (ap (λ (d : Database). d.trees 0) same.0.now_is, month_shows old new month v.items has shown));
    }
month_works old new month (Err e) begun shown fails = record { kept = either_keeps old new select_text _ e fails; stays = tt; done = λ has. tt }
