-- What making the table leaves of a database that had none.
use Rattle.std.proofs.Common.{◌≡◌, ◌⊎◌, inl, inr, ℕ, List, [], ◌∷◌, false, None, Ok, Err, Result, OnOk, refl, sym, ap, subst, ◌∙◌}
use Rattle.sqlite.specs.Order.{Row}
use Rattle.sqlite.specs.Command.TheVariants.{CreateTable}
use Rattle.sqlite.specs.Change.{created, next_tree}
use Rattle.sqlite.specs.Does.{Tally, lacks_sequence}
use Rattle.sqlite.specs.Effect.{Database}
use Rattle.sqlite.specs.declared.error.Error.{Error}
use Rattle.sqlite.specs.State.{State, HasCleanDisk, Writes, Executes}
use Rattle.sqlite.proofs.Callers.{runs_as}
use Rattle.bill_rows.specs.Rows.{bills_table, bills_schema, create_text}
use Rattle.bill_rows.specs.WellMade.{IsWellMade}
use Rattle.bill_keeper.specs.Ready.{no_schema, HasTable, HasNoRows}
use Rattle.bill_keeper.proofs.Texts.{create_is, create_plain, created_is}
use Rattle.bill_keeper.proofs.Told.{clean_disk}

-- a part that gave a value did not stop on the way
went : {B E R : Type 0} {b : B} {Stops : E → Type 0} → ((stop : E) × Stops stop × (Ok b ≡ Err stop)) ⊎ R → R
went (inl stopped) = absurd (let e = stopped.2 in cc)
went (inr on) = on

same_value : {B E : Type 0} {a b : B} → ◌≡◌ {A = Result B E} (Ok a) (Ok b) → a ≡ b
same_value e = cc

none_made : (rows : List Row) → rows ≡ [] → IsWellMade rows
none_made rows none = subst IsWellMade (sym none) (record { forms = tt; headed = tt; agree = tt })

-- the schema is the table of bills, and the table has no rows
made : (old new : State) (count : ℕ) → old.now.schema ≡ no_schema → Executes create_text [] old new (Ok count) → (new.now.schema ≡ bills_schema) × (new.now.trees 0 ≡ [])
made old new count has h =
    let w = subst (λ t. Writes old new None CreateTable t [] count) create_is.1 (runs_as create_text [] old new no_schema has CreateTable create_is.0 create_plain count h) in
    let all = went w.changed in
    let first = went all.1 in
    let it = first.1 in
    let both : Ok it.table ≡ Ok bills_table = sym it.defined ∙ create_is.2 in
    let same : it.table ≡ bills_table = cc in
    let schema : first.0.schema ≡ bills_schema = it.is ∙ (ap (λ s. created s it.table) has ∙ (ap (created no_schema) same ∙ created_is)) in
    let plain : lacks_sequence first.0.schema ≡ false = ap lacks_sequence schema in
    let now : new.now ≡ first.0 = ap (λ (p : Tally × Database). p.1) (same_value all.2) ∙ same_value (rw plain at first.2) in
    (ap (λ (d : Database). d.schema) now ∙ schema, ap (λ (d : Database). d.trees 0) now ∙ subst (λ s. first.0.trees (next_tree s) ≡ []) has it.empty)

pub creates : (old new : State) (r : Result ℕ Error) → old.now.schema ≡ no_schema → (HasCleanDisk new → Executes create_text [] old new r) → OnOk r (HasTable new)
creates old new (Err e) has h = tt
creates old new (Ok count) has h = λ clean open_now.
    let it = made old new count has (h (clean_disk new clean)) in
    (it.0, none_made (new.now.trees 0) it.1)

pub creates_none : (old new : State) (r : Result ℕ Error) → old.now.schema ≡ no_schema → (HasCleanDisk new → Executes create_text [] old new r) → OnOk r (HasNoRows new)
creates_none old new (Err e) has h = tt
creates_none old new (Ok count) has h = λ clean open_now. (made old new count has (h (clean_disk new clean))).1
