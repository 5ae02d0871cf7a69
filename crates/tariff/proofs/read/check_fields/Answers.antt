use Rattle.std.proofs.Common.{◌≡◌, true, false, subst, sym, ◌∙◌, List, ℕ, Option, bytes_eq}
use Rattle.toml_rows.specs.Rows.{row_of}
use Rattle.tariff.specs.Faults.{TariffGives}
use Rattle.tariff.specs.Reading.{unless_other, is_field, from_name, table_name}
use Rattle.tariff.specs.declared.fault.TariffTable.TheVariants.{Storage, Transition}
use Rattle.tariff.proofs.RowReading.{first_same, agree_table, field_known, same_tt, same_tf, same_ft, same_ff}
use Rattle.tariff.proofs.read.check_fields.Goals as goal

pub returns-then-transition : goal.returns-then-transition
returns-then-transition c ms is st_is tr_is =
    let P : Option (List ℕ) → Type 0 = λ o. TariffGives (λ u. ms) c.refuse_unknown.result (unless_other ms o) in
    let st : true ≡ c.args.storage = sym c.if-storage.true in
    let tr : true ≡ c.args.transition = sym c.if-transition.true in
    subst P (first_same _ is_field ms (agree_table _ is_field 80 (row_of c.args.document.now) 0 ms is
    (λ k d at. same_tt (bytes_eq k from_name) (bytes_eq k (table_name Storage)) (bytes_eq k (table_name Transition))
    ∙ field_known true true ms (st ∙ st_is) (tr ∙ tr_is) k d at)))
    (c.refuse_unknown.ensures 80 ms is)

pub returns-else-transition : goal.returns-else-transition
returns-else-transition c ms is st_is tr_is =
    let P : Option (List ℕ) → Type 0 = λ o. TariffGives (λ u. ms) c.refuse_unknown-else-transition.result (unless_other ms o) in
    let st : true ≡ c.args.storage = sym c.if-storage.true in
    let tr : false ≡ c.args.transition = sym c.if-transition.false in
    subst P (first_same _ is_field ms (agree_table _ is_field 80 (row_of c.args.document.now) 0 ms is
    (λ k d at. same_tf (bytes_eq k from_name) (bytes_eq k (table_name Storage)) (bytes_eq k (table_name Transition))
    ∙ field_known true false ms (st ∙ st_is) (tr ∙ tr_is) k d at)))
    (c.refuse_unknown-else-transition.ensures 80 ms is)

pub returns-then-transition-2 : goal.returns-then-transition-2
returns-then-transition-2 c ms is st_is tr_is =
    let P : Option (List ℕ) → Type 0 = λ o. TariffGives (λ u. ms) c.refuse_unknown-then-transition-2.result (unless_other ms o) in
    let st : false ≡ c.args.storage = sym c.if-storage.false in
    let tr : true ≡ c.args.transition = sym c.if-transition-2.true in
    subst P (first_same _ is_field ms (agree_table _ is_field 80 (row_of c.args.document.now) 0 ms is
    (λ k d at. same_ft (bytes_eq k from_name) (bytes_eq k (table_name Storage)) (bytes_eq k (table_name Transition))
    ∙ field_known false true ms (st ∙ st_is) (tr ∙ tr_is) k d at)))
    (c.refuse_unknown-then-transition-2.ensures 80 ms is)

pub returns-else-transition-2 : goal.returns-else-transition-2
returns-else-transition-2 c ms is st_is tr_is =
    let P : Option (List ℕ) → Type 0 = λ o. TariffGives (λ u. ms) c.refuse_unknown-else-transition-2.result (unless_other ms o) in
    let st : false ≡ c.args.storage = sym c.if-storage.false in
    let tr : false ≡ c.args.transition = sym c.if-transition-2.false in
    subst P (first_same _ is_field ms (agree_table _ is_field 80 (row_of c.args.document.now) 0 ms is
    (λ k d at. same_ff (bytes_eq k from_name) (bytes_eq k (table_name Storage)) (bytes_eq k (table_name Transition))
    ∙ field_known false false ms (st ∙ st_is) (tr ∙ tr_is) k d at)))
    (c.refuse_unknown-else-transition-2.ensures 80 ms is)
