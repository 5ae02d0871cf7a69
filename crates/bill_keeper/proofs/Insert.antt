-- What the second statement writes.
use Rattle.std.proofs.Common.{◌≡◌, ℕ, ℤ, pos, List, [], ◌∷◌, length, unwrap_or, Option, Some, None, Ok, Err, Result, IfOk, true, false, refl, sym, ap, subst, ◌∙◌}
use Rattle.sqlite.specs.declared.types.Value.TheVariants.{Null, Int, Text}
use Rattle.sqlite.specs.Order.{Row}
use Rattle.sqlite.specs.Source.TheVariants.{Values}
use Rattle.sqlite.specs.Command.TheVariants.{Insert}
use Rattle.sqlite.specs.Edit.{Edit, edit_of, edited, next_rowid}
use Rattle.sqlite.specs.Rowids.TheVariants.{Chosen}
use Rattle.sqlite.specs.Does.{Tally, Does}
use Rattle.sqlite.specs.Effect.{Database}
use Rattle.sqlite.specs.Rows.{Written}
use Rattle.sqlite.specs.Tree.{Trees, put_row}
use Rattle.sqlite.specs.declared.error.Error.{Error}
use Rattle.sqlite.specs.Listing.{understood}
use Rattle.sqlite.specs.State.{State, mode_of, Executes}
use Rattle.sqlite.proofs.Callers.{statement_of, runs_as, one_step}
use Rattle.bill_rows.specs.Rows.{bills_table, bills_schema, bill_text, stored}
use Rattle.bill_keeper.proofs.Texts.{bill_terms, bill_is, bill_plain}
use Rattle.sqlite_rules.specs.Edit.{is_taken, are_fresh, left_by}
use Rattle.bill_rows.specs.Puts.{Puts}
use Rattle.bill_keeper.proofs.Header.{went, same_value, not_taken, cast_int, cast_null}

pub bill_writes : (old new : State) (month bucket total : List ℕ) (lines : ℤ) (count : ℕ) → old.now.schema ≡ bills_schema
    → Executes bill_text (Text month ∷ Text bucket ∷ Text total ∷ Int lines ∷ []) old new (Ok count)
    → (new.now.schema ≡ bills_schema) × Puts (stored (next_rowid (old.now.trees 0)) month bucket total lines) (old.now.trees 0) (new.now.trees 0)
bill_writes old new month bucket total lines count has h =
    let params = Text month ∷ Text bucket ∷ Text total ∷ Int lines ∷ [] in
    let db = old.now.trees in
    let command = Insert 0 (Values bill_terms 5) in
    let w = runs_as bill_text params old new bills_schema has command bill_is bill_plain count h in
    let text = statement_of bill_text (understood bills_schema bill_text) in
    let done = went (subst (λ s. Does old.step_limit (mode_of old) params (record old.now { schema = s }) text None command (Ok (w.tally, new.now))) has w.changed) in
    let now = ap (λ (p : Tally × Database). p.1) (same_value (went (went done.2).2).2) in
    let given = went done.1 in
    let written = went (went given.2).2 in
    let counted = went written.2 in
    let trees : done.0.trees ≡ written.0 = ap (λ (it : Written). it.trees) (same_value counted.2) ∙ same_value counted.1 in
    let applied = one_step bills_schema _ db written.0 (edit_of db bills_table [] Chosen 0 given.0) refl written.1 in
    let rows = applied.rows in
    let new_row : Row = stored (next_rowid (db 0)) month bucket total lines in
    let news_are : (edit_of db bills_table [] Chosen 0 given.0).news ≡ new_row ∷ [] =
    ap (λ all. (edit_of db bills_table [] Chosen 0 all).news) given.1.1 ∙ rw (cast_null, cast_int lines) in
    let free : is_taken (db 0) new_row ≡ false = not_taken (is_taken (db 0) new_row) (subst (λ (l : List Row). are_fresh (db 0) l ≡ true) news_are applied.fresh) in
    let edit : edited db (edit_of db bills_table [] Chosen 0 given.0) ≡ put_row (stored (next_rowid (db 0)) month bucket total lines) (db 0) =
    ap (λ all. edited db (edit_of db bills_table [] Chosen 0 all)) given.1.1 ∙ rw (cast_null, cast_int lines) in
    (ap (λ (d : Database). d.schema) now, record { fresh = free; put = ap (λ (d : Database). d.trees 0) now ∙ ap (λ (t : Trees). t 0) trees ∙ rows ∙ edit })
