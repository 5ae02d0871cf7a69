-- What a transaction and a query leave of a connection.
use Rattle.std.proofs.Common.{◌≡◌, ◌⊎◌, inl, inr, ℕ, List, [], ◌∷◌, Bool, true, false, Option, None, Some, IsTrue, Ok, Err, Result, IfOk, IfErr, refl, sym, ap, subst, ◌∙◌}
use Rattle.std.specs.Global.{Vec}
use Rattle.std.specs.List.{list_any}
use Rattle.sqlite.specs.declared.types.Value.TheVariants.{Int, Text}
use Rattle.sqlite.specs.Order.{Row}
use Rattle.sqlite.specs.Effect.{Database}
use Rattle.sqlite_resolve.specs.declared.compiled.Compiled.{Compiled}
use Rattle.sqlite_schema.specs.declared.command.Returning.{Returning}
use Rattle.sqlite.specs.declared.error.Error.{Error}
use Rattle.sqlite.specs.Listing.{understood}
use Rattle.sqlite.specs.State.{State, HasCleanDisk, KeepsCommit, IsUnchanged, IsRolledBack, Shows, Fails, Shown, ShowsRows, FailsToQuery, FailsToShow, IsNotRun, RunsCommand}
use Rattle.sqlite.specs.Clock.{timed}
use Rattle.sqlite.specs.Steps.{FailsToCommit}
use Rattle.sqlite.proofs.Callers.{IsPlain}
use Rattle.bill_book.specs.declared.bill.Bill.{Bill}
use Rattle.bill_rows.specs.Rows.{bills_schema, select_text, is_at, IsMonth}
use Rattle.bill_keeper.specs.Steps.{Works, PostsMonth, PostsRows, ReadsRows}
use Rattle.bill_keeper.proofs.Texts.{month_plain}
use Rattle.bill_keeper.proofs.Month.{month_shows}

-- a connection that is open shows what it showed
pub record Back (old new : State) : Type 0 where
  pub was_open : IsTrue new.is_open → IsTrue old.is_open
  pub now : IsTrue new.is_open → new.now ≡ old.now

abbrev IsSettled : State → Type 0
IsSettled s = IsTrue s.is_open → s.now ≡ s.committed

-- within a transaction
abbrev begun : State → State
begun s = record s { in_transaction = true }

pub back_same : (old new : State) → IsUnchanged old new → Back old new
back_same old new h = record { was_open = λ _. h.0.was_open; now = λ _. h.0.now_is }

pub back_undone : (old new : State) → IsSettled old → IsRolledBack old new → Back old new
back_undone old new settled h = record { was_open = h.was_open; now = λ open_now. (h.undone open_now).0 ∙ sym (settled (h.was_open open_now)) }

pub back_after : (old mid new : State) → IsSettled old → KeepsCommit (begun old) mid → IsRolledBack mid new → Back old new
back_after old mid new settled kept h = record {
  was_open = λ open_now. kept.was_open (h.was_open open_now);
  now = λ open_now. let then = h.was_open open_now in (h.undone open_now).0 ∙ (kept.committed then ∙ sym (settled (kept.was_open then)));
}

pub back_uncommitted : (old mid new : State) (e : Error) → IsSettled old → KeepsCommit (begun old) mid → IsTrue mid.in_transaction → FailsToCommit mid new e → Back old new
back_uncommitted old mid new e settled kept inside (inl failed) = back_after old mid new settled kept failed.3
back_uncommitted old mid new e settled kept inside (inr outside) = absurd (let no = outside.1 in cc)

module _ (month total : List ℕ) (count : ℕ) (bills : List Bill) where
  pub failed : (old new : State) (e : Error) → Back old new → PostsRows month total count bills old new (Err e)
  failed old new e back = record {
    was_open = back.was_open;
    schema = λ has open_now. ap (λ (d : Database). d.schema) (back.now open_now) ∙ has;
    rows = λ has open_now. ap (λ (d : Database). d.trees 0) (back.now open_now);
  }

  pub before : (old mid new : State) → Works (begun old) mid (Ok false) (PostsMonth month total count bills) → Back old new
      → PostsRows month total count bills old new (Ok false)
  before old mid new works back = record {
    was_open = back.was_open;
    schema = λ has open_now. ap (λ (d : Database). d.schema) (back.now open_now) ∙ has;
    rows = λ has open_now. (((works.done has).1.0.0, ap (λ (d : Database). d.trees 0) (back.now open_now)), (works.done has).1.1);
  }

  pub posted : (old mid new : State) → Works (begun old) mid (Ok true) (PostsMonth month total count bills) → Shows mid new mid.now mid.now false
      → PostsRows month total count bills old new (Ok true)
  posted old mid new works shows = record {
    was_open = λ open_now. works.kept.was_open shows.was_open;
    schema = λ has open_now. ap (λ (d : Database). d.schema) shows.now_is ∙ (works.done has).0;
    rows = λ has open_now. subst (PostsMonth month total count bills true (old.now.trees 0)) (sym (ap (λ (d : Database). d.trees 0) shows.now_is)) (works.done has).1;
  }

-- ---- a query

plain_here : (old : State) → old.now.schema ≡ bills_schema → IsPlain (understood old.now.schema select_text)
plain_here old has = subst (λ s. IsPlain (understood s select_text)) (sym has) month_plain

pub shown_same : (old new : State) (params : Row) (rows : List Row) → old.now.schema ≡ bills_schema → Shown select_text params old new rows → IsUnchanged old new
unfolding Shown
shown_same old new params rows has h =
    let none = (subst IsPlain h.1.is (plain_here old has)).0 in
    let full = timed params h.0.formats h.1.now in
    let it = subst (ShowsRows old new select_text h.0 full rows) none h.2 in
    it.3

not_run_back : (old new : State) (sql : List ℕ) (params : Row) (e : Error) → IsSettled old → IsNotRun old new sql params e → Back old new
unfolding IsNotRun
not_run_back old new sql params e settled (inl refused) = back_same old new refused.1
not_run_back old new sql params e settled (inr fails) = back_undone old new settled fails.3

query_back : (old new : State) (params : Row) (e : Error) → IsSettled old → old.now.schema ≡ bills_schema → FailsToQuery select_text params old new e → Back old new
unfolding FailsToQuery
query_back old new params e settled has (inl not_run) = not_run_back old new select_text params e settled not_run
query_back old new params e settled has (inr h) =
    let none = (subst IsPlain h.1.is (plain_here old has)).0 in
    let full = timed params h.0.formats h.1.now in
    let it = subst (FailsToShow old new select_text h.0 full e) none h.2 in
    back_same old new it.3

shown_open : (old new : State) (sql : List ℕ) (c : Compiled) (params : Row) (rows : List Row) (what : Option Returning) → ShowsRows old new sql c params rows what → IsTrue old.is_open
shown_open old new sql c params rows None h = h.3.0.was_open
shown_open old new sql c params rows (Some what) h = h.1.shown.was_open

ran_open : (old new : State) (sql : List ℕ) (c : Compiled) (params : Row) (e : Error) → RunsCommand old new sql c params (Err e) → IsTrue new.is_open → IsTrue old.is_open
ran_open old new sql c params e (inl same) open_now = same.1.0.was_open
ran_open old new sql c params e (inr fails) open_now = fails.3.was_open open_now

fails_open : (old new : State) (sql : List ℕ) (c : Compiled) (params : Row) (e : Error) (what : Option Returning) → FailsToShow old new sql c params e what → IsTrue new.is_open → IsTrue old.is_open
fails_open old new sql c params e None h open_now = h.3.0.was_open
fails_open old new sql c params e (Some what) h open_now = ran_open old new sql c params e h open_now

not_run_open : (old new : State) (sql : List ℕ) (params : Row) (e : Error) → IsNotRun old new sql params e → IsTrue new.is_open → IsTrue old.is_open
unfolding IsNotRun
not_run_open old new sql params e (inl refused) open_now = refused.1.0.was_open
not_run_open old new sql params e (inr fails) open_now = fails.3.was_open open_now

query_open : (old new : State) (sql : List ℕ) (params : Row) (e : Error) → FailsToQuery sql params old new e → IsTrue new.is_open → IsTrue old.is_open
unfolding FailsToQuery
query_open old new sql params e (inl not_run) open_now = not_run_open old new sql params e not_run open_now
query_open old new sql params e (inr h) open_now = fails_open old new sql h.0 (timed params h.0.formats h.1.now) e h.0.returning h.2 open_now

answer_open : (old new : State) (sql : List ℕ) (params : Row) (rows : List Row) → Shown sql params old new rows → IsTrue old.is_open
unfolding Shown
answer_open old new sql params rows h = shown_open old new sql h.0 (timed params h.0.formats h.1.now) rows h.0.returning h.2

pub reads_rows : (old new : State) (month : List ℕ) (r : Result (Vec Row) Error) → IsSettled old
    → IfOk r (λ v. Shown select_text (Text month ∷ []) old new v.items) → IfErr r (FailsToQuery select_text (Text month ∷ []) old new) → ReadsRows month old new r
reads_rows old new month (Ok v) settled shown fails = record {
  was_open = λ open_now. answer_open old new select_text _ v.items shown;
  schema = λ has open_now. ap (λ (d : Database). d.schema) ((back_same old new (shown_same old new _ v.items has shown)).now open_now) ∙ has;
  same = λ has open_now. ap (λ (d : Database). d.trees 0) ((back_same old new (shown_same old new _ v.items has shown)).now open_now);
  rows = λ has. month_shows old new month v.items has shown;
}
reads_rows old new month (Err e) settled shown fails = record {
  was_open = query_open old new select_text _ e fails;
  schema = λ has open_now. ap (λ (d : Database). d.schema) ((query_back old new _ e settled has fails).now open_now) ∙ has;
  same = λ has open_now. ap (λ (d : Database). d.trees 0) ((query_back old new _ e settled has fails).now open_now);
  rows = λ has. tt;
}
