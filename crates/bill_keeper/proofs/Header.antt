-- What the first statement writes.
use Rattle.std.proofs.Common.{◌≡◌, ◌⊎◌, inl, inr, ℕ, ℤ, pos, List, [], ◌∷◌, length, unwrap_or, Bool, true, false, not, ◌&&◌, ◌||◌, cond, Option, Some, None, Ok, Err, Result, IfOk, MatchBool, refl, sym, ap, subst, ◌∙◌}
use Rattle.std.specs.List.{list_any}
use Rattle.std.proofs.lemmas.Bool.{cases_Bool}
use Rattle.sqlite.specs.declared.types.Value.{Value}
use Rattle.sqlite.specs.declared.types.Value.TheVariants.{Null, Int, Text}
use Rattle.sqlite.specs.Order.{Row}
use Rattle.sqlite.specs.Ops.{unary}
use Rattle.sqlite.specs.Kind.TheVariants.{Integer}
use Rattle.sqlite.specs.Source.TheVariants.{Values}
use Rattle.sqlite.specs.Command.{Command}
use Rattle.sqlite.specs.Command.TheVariants.{InsertOr}
use Rattle.sqlite_schema.specs.declared.command.Conflict.TheVariants.{Abort}
use Rattle.sqlite_schema.specs.declared.schema.Keys.TheVariants.{Enforced}
use Rattle.sqlite.specs.Edit.{Edit, edit_of, edited, next_rowid, with_rowid}
use Rattle.sqlite.specs.Cast.{cast, cast_row}
use Rattle.sqlite.specs.Rowids.TheVariants.{Given, Chosen}
use Rattle.sqlite_rules.specs.Lists.{Has}
use Rattle.sqlite_rules.specs.Keys.{AreConflicts}
use Rattle.sqlite_rules.specs.Steps.{IsJudged}
use Rattle.sqlite_rules.specs.declared.error.Refusal.{Refusal}
use Rattle.sqlite.specs.Does.{Tally, Does}
use Rattle.sqlite.specs.Effect.{Database}
use Rattle.sqlite.specs.Rows.{Task, Written, nothing, count_of, Puts, Clears, Meets, Upserts, Judged, Tries, TriesEach}
use Rattle.sqlite.specs.Tree.{Trees, put_row}
use Rattle.sqlite.specs.declared.error.Error.{Error}
use Rattle.sqlite.specs.Listing.{understood}
use Rattle.sqlite.specs.State.{State, mode_of, Executes}
use Rattle.sqlite.proofs.Callers.{statement_of, runs_as, one_step}
use Rattle.sqlite_rules.specs.Edit.{is_taken, are_fresh}
use Rattle.bill_rows.specs.Rows.{bills_table, bills_schema, header_text, stored, is_at}
use Rattle.bill_rows.specs.Puts as ours
use Rattle.bill_keeper.proofs.Texts.{header_terms, on_month, header_is, header_plain}

either : (b : Bool) (x : Value) → cond b x x ≡ x
either true x = refl
either false x = refl

pub cast_int : (n : ℤ) → cast Integer (Int n) ≡ Int n
unfolding unary
cast_int n = either _ (Int n)

pub cast_null : cast Integer Null ≡ Null
unfolding unary
cast_null = either _ Null

-- a part that gave a value did not stop on the way
pub went : {B E R : Type 0} {b : B} {Stops : E → Type 0} → ((stop : E) × Stops stop × (Ok b ≡ Err stop)) ⊎ R → R
went (inl stopped) = absurd (let e = stopped.2 in cc)
went (inr on) = on

pub same_value : {B E : Type 0} {a b : B} → ◌≡◌ {A = Result B E} (Ok a) (Ok b) → a ≡ b
same_value e = cc

none_found : (p : Row → Bool) (rows : List Row) → ((r : Row) → Has rows r → p r ≡ true → ⊥) → list_any p rows ≡ false
none_found p [] none = refl
none_found p (y ∷ ys) none = elim (cases_Bool (p y)) [
  | inl here ↦ absurd (none y (inl refl) here)
  | inr not ↦ rw (not, none_found p ys (λ r has. none r (inr has)))
]

some_found : (p : Row → Bool) (rows : List Row) (r : Row) → Has rows r → p r ≡ true → list_any p rows ≡ true
some_found p [] r has is = absurd has
some_found p (y ∷ ys) r (inl same) is = let here : p y ≡ true = cc in rw here
some_found p (y ∷ ys) r (inr more) is = elim (cases_Bool (p y)) [
  | inl here ↦ rw here
  | inr not ↦ rw (not, some_found p ys r more is)
]

alone : (b : Bool) → (b || false) ≡ true → b ≡ true
alone true h = refl
alone false h = absurd (let e = h in cc)

pub not_taken : (b : Bool) → (not b && true) ≡ true → b ≡ false
not_taken true h = absurd (let e = h in cc)
not_taken false h = refl

abbrev task : Option ℕ → Row → Task
task limit params = record { limit = limit; keys = Enforced; schema = bills_schema; table = bills_table; params = params }

module _ (limit : Option ℕ) (params : Row) (db : Trees) (done : Written) (id : ℤ) (month bucket total : List ℕ) (lines : ℤ) where
  abbrev put : Row
  put = stored id month bucket total lines

  pub puts : Puts (task limit params) put db (Ok done) → (length done.rows ≡ 1) × ours.Puts put (db 0) (done.trees 0)
  puts h =
      let edit = edit_of db bills_table [] Given 0 (put ∷ []) in
      let went_in = went h in
      let applied = one_step bills_schema Enforced db went_in.0 edit refl went_in.1 in
      let is : edited db edit ≡ put_row put (db 0) = rw (cast_int id, cast_int lines) in
      let news_are : edit.news ≡ put ∷ [] = rw (cast_int id, cast_int lines) in
      let free : is_taken (db 0) put ≡ false = not_taken (is_taken (db 0) put) (subst (λ (l : List Row). are_fresh (db 0) l ≡ true) news_are applied.fresh) in
      let same = same_value went_in.2 in
      (ap (λ (w : Written). length w.rows) same, record { fresh = free; put = ap (λ (w : Written). w.trees 0) same ∙ applied.rows ∙ is })

  clears : (found : List Row) → Clears (task limit params) Abort put db found (Ok done) → (length done.rows ≡ 1) × ours.Puts put (db 0) (done.trees 0)
  clears [] h = puts h
  clears (x ∷ more) h = puts h

  abbrev Puts_or_not : Type 0
  Puts_or_not = MatchBool (list_any (is_at month bucket) (db 0)) ((length done.rows ≡ 0) × (done.trees 0 ≡ db 0)) ((length done.rows ≡ 1) × ours.Puts put (db 0) (done.trees 0))

  abbrev Either_way : Bool → Type 0
  Either_way b = MatchBool b ((length done.rows ≡ 0) × (done.trees 0 ≡ db 0)) ((length done.rows ≡ 1) × ours.Puts put (db 0) (done.trees 0))

  meets : (found : List Row) → AreConflicts (Some (1 ∷ 2 ∷ [])) bills_schema.indexes bills_table (db 0) put found
      → Meets (task limit params) (Upserts (task limit params) Abort put db []) put db on_month found (Ok done) → Puts_or_not
  meets [] are h =
      let none : list_any (is_at month bucket) (db 0) ≡ false = none_found (is_at month bucket) (db 0) (λ r has is. are.complete r has (rw is)) in
      subst Either_way (sym none) (clears h.0 h.2)
  meets (x ∷ more) are h =
      let there = are.sound x (inl refl) in
      let some : list_any (is_at month bucket) (db 0) ≡ true = some_found (is_at month bucket) (db 0) there.0 there.1 (alone _ there.2) in
      let same = same_value h in
      subst Either_way (sym some) (ap (λ (w : Written). length w.rows) same, ap (λ (w : Written). w.trees 0) same)

  judged : (verdict : Option Refusal) → Judged (task limit params) Abort (on_month ∷ []) put db verdict (Ok done) → Puts_or_not
  judged None h = meets h.0 h.1 h.2
  judged (Some why) h = absurd (let e = h in cc)

  pub tries : Tries (task limit params) Abort (on_month ∷ []) put db (Ok done) → Puts_or_not
  tries (inl lost) = absurd (let e = lost.1 in cc)
  tries (inr h) = judged h.0 h.2

abbrev Leaves_done : List ℕ → List ℕ → List ℕ → ℤ → Trees → Written → Type 0
Leaves_done month bucket total lines db done =
    MatchBool (list_any (is_at month bucket) (db 0)) ((length done.rows ≡ 0) × (done.trees 0 ≡ db 0)) ((length done.rows ≡ 1) × ours.Puts (stored (next_rowid (db 0)) month bucket total lines) (db 0) (done.trees 0))

each : (limit : Option ℕ) (params : Row) (db : Trees) (month bucket total : List ℕ) (lines top : ℤ) (done : Written × ℤ)
    → TriesEach (task limit params) Abort (on_month ∷ []) ((Null ∷ Text month ∷ Text bucket ∷ Text total ∷ Int lines ∷ []) ∷ []) top (nothing db) (Ok done) → Leaves_done month bucket total lines db done.0
each limit params db month bucket total lines top done h =
    let first = went h in
    let source : Row = Null ∷ Text month ∷ Text bucket ∷ Text total ∷ Int lines ∷ [] in
    let numbered_is : with_rowid Chosen (db 0) (cast_row bills_table source) ≡ stored (next_rowid (db 0)) month bucket total lines = rw (cast_null, cast_int lines) in
    let tried : Tries (task limit params) Abort (on_month ∷ []) (stored (next_rowid (db 0)) month bucket total lines) db (Ok first.0) = subst (λ r. Tries (task limit params) Abort (on_month ∷ []) r db (Ok first.0)) numbered_is first.1 in
    let last = same_value first.2 in
    subst (Leaves_done month bucket total lines db) (sym (ap (λ (p : Written × ℤ). p.0) last)) (tries limit params db first.0 (next_rowid (db 0)) month bucket total lines tried)

moved : (P : List Row → Type 0) (rows after out : List Row) (n m : ℕ) (b : Bool) → MatchBool b ((n ≡ 0) × (after ≡ rows)) ((n ≡ 1) × P after) → m ≡ n → out ≡ after
    → MatchBool b ((m ≡ 0) × (out ≡ rows)) ((m ≡ 1) × P out)
moved P rows after out n m true it number table = (number ∙ it.0, table ∙ it.1)
moved P rows after out n m false it number table = (number ∙ it.0, subst P (sym table) it.1)

pub header_writes : (old new : State) (month total : List ℕ) (lines : ℤ) (count : ℕ) → old.now.schema ≡ bills_schema → Executes header_text (Text month ∷ Text total ∷ Int lines ∷ []) old new (Ok count)
    → (new.now.schema ≡ bills_schema) × ours.IsHeaderPut month total lines count (old.now.trees 0) (new.now.trees 0)
header_writes old new month total lines count has h =
    let params = Text month ∷ Text total ∷ Int lines ∷ [] in
    let db = old.now.trees in
    let id = next_rowid (db 0) in
    let command = InsertOr 0 Abort (Values header_terms 5) (on_month ∷ []) in
    let w = runs_as header_text params old new bills_schema has command header_is header_plain count h in
    let text = statement_of header_text (understood bills_schema header_text) in
    let done = went (subst (λ s. Does old.step_limit (mode_of old) params (record old.now { schema = s }) text None command (Ok (w.tally, new.now))) has w.changed) in
    let ends = same_value (went (went done.2).2).2 in
    let now = ap (λ (p : Tally × Database). p.1) ends in
    let tally = ap (λ (p : Tally × Database). p.0) ends in
    let given = went done.1 in
    let counted = went given.2 in
    let tried = went counted.2 in
    let ended = went tried.2 in
    let it = each old.step_limit params db month [] total lines (count_of counted.0) tried.0 (subst (λ rows. TriesEach (task old.step_limit params) Abort (on_month ∷ []) rows (count_of counted.0) (nothing db) (Ok tried.0)) given.1.1 tried.1) in
    let next = same_value ended.1 in
    let whole = same_value ended.2 in
    let rows : length done.0.rows ≡ length tried.0.0.rows = ap (λ (w : Written). length w.rows) whole in
    let trees : done.0.trees 0 ≡ tried.0.0.trees 0 = ap (λ (w : Written). w.trees 0) whole ∙ ap (λ (t : Trees). t 0) next in
    let number : count ≡ length tried.0.0.rows = w.counted ∙ ap (λ (t : Tally). unwrap_or t.rows 0) tally ∙ rows in
    let table : new.now.trees 0 ≡ tried.0.0.trees 0 = ap (λ (d : Database). d.trees 0) now ∙ trees in
    (ap (λ (d : Database). d.schema) now, moved (λ rows. ours.Puts (stored id month [] total lines) (db 0) rows) _ _ _ _ _ (list_any (is_at month []) (db 0)) it number table)
