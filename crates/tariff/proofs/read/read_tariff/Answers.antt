use Rattle.std.proofs.Common.{◌≡◌, ◌∙◌, ap, Option, Ok, Err, option_and_then, unwrap_or, rules}
use Rattle.toml.specs.Data.{Members, no_members, as_table, get_member}
use Rattle.toml_rows.specs.Rows.{row_of}
use Rattle.office_base.specs.Results.{◌>>=◌}
use Rattle.office_base.proofs.Results.{told_on}
use Rattle.tariff.specs.declared.fault.TariffTable.TheVariants.{Storage, Transition}
use Rattle.tariff.specs.Faults.{tariff_flaw_of}
use Rattle.tariff.specs.Opened.{tariff_in}
use Rattle.tariff.proofs.TariffSteps.{with_document, with_month, with_storage, with_tables, with_stored}
use Rattle.tariff.specs.Reading.{table_name, from_name, from_of, with_fields, with_classes, each_of, tiers_in, price_in, classes_of}
use Rattle.tariff.proofs.RowReading.{there_is}
use Rattle.tariff.proofs.read.read_tariff.Goals as goal

pub returns-in_err-check_fields : goal.returns-in_err-check_fields
returns-in_err-check_fields c ms is =
    let row = row_of c.args.document.now in
    let o_s : Option Members = option_and_then as_table (get_member (table_name Storage) ms) in
    let o_t : Option Members = option_and_then as_table (get_member (table_name Transition) ms) in
    let s_is = c.in_ok-storage.ensures ms is in
    let t_is = c.in_ok-transition.ensures ms is in
    let st = c.is_there.ensures ∙ there_is row c.in_ok-storage.storage o_s s_is in
    let tr = c.is_there-2.ensures ∙ there_is row c.in_ok-transition.transition o_t t_is in
    let fault = c.in_err-check_fields.field-0.0 in
    let err : c.from_residual-in_err-check_fields.result ≡ Err fault = search rules in
    rw err (told_on (tariff_flaw_of fault) (with_fields ms) (tariff_in ms) (λ flaw e. ap (λ r. r >>= with_document) e) (c.in_err-check_fields.ensures ms is st tr))

pub returns-in_err-from : goal.returns-in_err-from
returns-in_err-from c ms is =
    let row = row_of c.args.document.now in
    let o_s : Option Members = option_and_then as_table (get_member (table_name Storage) ms) in
    let o_t : Option Members = option_and_then as_table (get_member (table_name Transition) ms) in
    let s_is = c.in_ok-storage.ensures ms is in
    let t_is = c.in_ok-transition.ensures ms is in
    let st = c.is_there.ensures ∙ there_is row c.in_ok-storage.storage o_s s_is in
    let tr = c.is_there-2.ensures ∙ there_is row c.in_ok-transition.transition o_t t_is in
    let c1 : tariff_in ms ≡ with_document ms = ap (λ r. r >>= with_document) (c.in_ok-check_fields.ensures ms is st tr) in
    let fault = c.in_err-from.field-0.0 in
    let err : c.from_residual-in_err-from.result ≡ Err fault = search rules in
    rw err (told_on (tariff_flaw_of fault) (from_of (get_member from_name ms)) (tariff_in ms) (λ flaw e. c1 ∙ ap (λ r. r >>= with_month ms) e) (c.in_err-from.ensures ms is))

pub returns-in_err-check_opened : goal.returns-in_err-check_opened
returns-in_err-check_opened c ms is =
    let row = row_of c.args.document.now in
    let o_s : Option Members = option_and_then as_table (get_member (table_name Storage) ms) in
    let o_t : Option Members = option_and_then as_table (get_member (table_name Transition) ms) in
    let s_is = c.in_ok-storage.ensures ms is in
    let t_is = c.in_ok-transition.ensures ms is in
    let st = c.is_there.ensures ∙ there_is row c.in_ok-storage.storage o_s s_is in
    let tr = c.is_there-2.ensures ∙ there_is row c.in_ok-transition.transition o_t t_is in
    let c1 : tariff_in ms ≡ with_document ms = ap (λ r. r >>= with_document) (c.in_ok-check_fields.ensures ms is st tr) in
    let c2 : with_document ms ≡ with_month ms c.in_ok-from.from = ap (λ r. r >>= with_month ms) (c.in_ok-from.ensures ms is) in
    let fault = c.in_err-check_opened.field-0.0 in
    let err : c.from_residual-in_err-check_opened.result ≡ Err fault = search rules in
    rw err (told_on (tariff_flaw_of fault) (with_classes Storage (unwrap_or o_s no_members)) (tariff_in ms) (λ flaw e. c1 ∙ c2 ∙ ap (λ r. r >>= with_storage ms c.in_ok-from.from) e) (c.in_err-check_opened.ensures o_s s_is))

pub returns-in_err-check_opened-2 : goal.returns-in_err-check_opened-2
returns-in_err-check_opened-2 c ms is =
    let row = row_of c.args.document.now in
    let o_s : Option Members = option_and_then as_table (get_member (table_name Storage) ms) in
    let o_t : Option Members = option_and_then as_table (get_member (table_name Transition) ms) in
    let s_is = c.in_ok-storage.ensures ms is in
    let t_is = c.in_ok-transition.ensures ms is in
    let st = c.is_there.ensures ∙ there_is row c.in_ok-storage.storage o_s s_is in
    let tr = c.is_there-2.ensures ∙ there_is row c.in_ok-transition.transition o_t t_is in
    let c1 : tariff_in ms ≡ with_document ms = ap (λ r. r >>= with_document) (c.in_ok-check_fields.ensures ms is st tr) in
    let c2 : with_document ms ≡ with_month ms c.in_ok-from.from = ap (λ r. r >>= with_month ms) (c.in_ok-from.ensures ms is) in
    let c3 : with_month ms c.in_ok-from.from ≡ with_storage ms c.in_ok-from.from (unwrap_or o_s no_members) = ap (λ r. r >>= with_storage ms c.in_ok-from.from) (c.in_ok-check_opened.ensures o_s s_is) in
    let fault = c.in_err-check_opened-2.field-0.0 in
    let err : c.from_residual-in_err-check_opened-2.result ≡ Err fault = search rules in
    rw err (told_on (tariff_flaw_of fault) (with_classes Transition (unwrap_or o_t no_members)) (tariff_in ms) (λ flaw e. c1 ∙ c2 ∙ c3 ∙ ap (λ r. r >>= with_tables c.in_ok-from.from (unwrap_or o_s no_members)) e) (c.in_err-check_opened-2.ensures o_t t_is))

pub returns-in_err-stored : goal.returns-in_err-stored
returns-in_err-stored c ms is =
    let row = row_of c.args.document.now in
    let o_s : Option Members = option_and_then as_table (get_member (table_name Storage) ms) in
    let o_t : Option Members = option_and_then as_table (get_member (table_name Transition) ms) in
    let s_is = c.in_ok-storage.ensures ms is in
    let t_is = c.in_ok-transition.ensures ms is in
    let st = c.is_there.ensures ∙ there_is row c.in_ok-storage.storage o_s s_is in
    let tr = c.is_there-2.ensures ∙ there_is row c.in_ok-transition.transition o_t t_is in
    let c1 : tariff_in ms ≡ with_document ms = ap (λ r. r >>= with_document) (c.in_ok-check_fields.ensures ms is st tr) in
    let c2 : with_document ms ≡ with_month ms c.in_ok-from.from = ap (λ r. r >>= with_month ms) (c.in_ok-from.ensures ms is) in
    let c3 : with_month ms c.in_ok-from.from ≡ with_storage ms c.in_ok-from.from (unwrap_or o_s no_members) = ap (λ r. r >>= with_storage ms c.in_ok-from.from) (c.in_ok-check_opened.ensures o_s s_is) in
    let c4 : with_storage ms c.in_ok-from.from (unwrap_or o_s no_members) ≡ with_tables c.in_ok-from.from (unwrap_or o_s no_members) (unwrap_or o_t no_members) = ap (λ r. r >>= with_tables c.in_ok-from.from (unwrap_or o_s no_members)) (c.in_ok-check_opened-2.ensures o_t t_is) in
    let fault = c.in_err-stored.field-0.0 in
    let err : c.from_residual-in_err-stored.result ≡ Err fault = search rules in
    rw err (told_on (tariff_flaw_of fault) (each_of (tiers_in (unwrap_or o_s no_members)) (classes_of Storage)) (tariff_in ms) (λ flaw e. c1 ∙ c2 ∙ c3 ∙ c4 ∙ ap (λ r. r >>= with_stored c.in_ok-from.from (unwrap_or o_t no_members)) e) (c.in_err-stored.ensures o_s s_is))

pub returns-in_err-prices_opened : goal.returns-in_err-prices_opened
returns-in_err-prices_opened c ms is =
    let row = row_of c.args.document.now in
    let o_s : Option Members = option_and_then as_table (get_member (table_name Storage) ms) in
    let o_t : Option Members = option_and_then as_table (get_member (table_name Transition) ms) in
    let s_is = c.in_ok-storage.ensures ms is in
    let t_is = c.in_ok-transition.ensures ms is in
    let st = c.is_there.ensures ∙ there_is row c.in_ok-storage.storage o_s s_is in
    let tr = c.is_there-2.ensures ∙ there_is row c.in_ok-transition.transition o_t t_is in
    let c1 : tariff_in ms ≡ with_document ms = ap (λ r. r >>= with_document) (c.in_ok-check_fields.ensures ms is st tr) in
    let c2 : with_document ms ≡ with_month ms c.in_ok-from.from = ap (λ r. r >>= with_month ms) (c.in_ok-from.ensures ms is) in
    let c3 : with_month ms c.in_ok-from.from ≡ with_storage ms c.in_ok-from.from (unwrap_or o_s no_members) = ap (λ r. r >>= with_storage ms c.in_ok-from.from) (c.in_ok-check_opened.ensures o_s s_is) in
    let c4 : with_storage ms c.in_ok-from.from (unwrap_or o_s no_members) ≡ with_tables c.in_ok-from.from (unwrap_or o_s no_members) (unwrap_or o_t no_members) = ap (λ r. r >>= with_tables c.in_ok-from.from (unwrap_or o_s no_members)) (c.in_ok-check_opened-2.ensures o_t t_is) in
    let c5 : with_tables c.in_ok-from.from (unwrap_or o_s no_members) (unwrap_or o_t no_members) ≡ with_stored c.in_ok-from.from (unwrap_or o_t no_members) c.in_ok-stored.stored = ap (λ r. r >>= with_stored c.in_ok-from.from (unwrap_or o_t no_members)) (c.in_ok-stored.ensures o_s s_is) in
    let fault = c.in_err-prices_opened.field-0.0 in
    let err : c.from_residual-in_err-prices_opened.result ≡ Err fault = search rules in
    rw err (told_on (tariff_flaw_of fault) (each_of (price_in Transition (unwrap_or o_t no_members)) (classes_of Transition)) (tariff_in ms) (λ flaw e. c1 ∙ c2 ∙ c3 ∙ c4 ∙ c5 ∙ ap (λ r. r >>= λ ps. Ok (record { from = c.in_ok-from.from; storage = c.in_ok-stored.stored; transition = ps })) e) (c.in_err-prices_opened.ensures.value o_t t_is))

pub returns : goal.returns
returns c ms is =
    let row = row_of c.args.document.now in
    let o_s : Option Members = option_and_then as_table (get_member (table_name Storage) ms) in
    let o_t : Option Members = option_and_then as_table (get_member (table_name Transition) ms) in
    let s_is = c.in_ok-storage.ensures ms is in
    let t_is = c.in_ok-transition.ensures ms is in
    let st = c.is_there.ensures ∙ there_is row c.in_ok-storage.storage o_s s_is in
    let tr = c.is_there-2.ensures ∙ there_is row c.in_ok-transition.transition o_t t_is in
    let c1 : tariff_in ms ≡ with_document ms = ap (λ r. r >>= with_document) (c.in_ok-check_fields.ensures ms is st tr) in
    let c2 : with_document ms ≡ with_month ms c.in_ok-from.from = ap (λ r. r >>= with_month ms) (c.in_ok-from.ensures ms is) in
    let c3 : with_month ms c.in_ok-from.from ≡ with_storage ms c.in_ok-from.from (unwrap_or o_s no_members) = ap (λ r. r >>= with_storage ms c.in_ok-from.from) (c.in_ok-check_opened.ensures o_s s_is) in
    let c4 : with_storage ms c.in_ok-from.from (unwrap_or o_s no_members) ≡ with_tables c.in_ok-from.from (unwrap_or o_s no_members) (unwrap_or o_t no_members) = ap (λ r. r >>= with_tables c.in_ok-from.from (unwrap_or o_s no_members)) (c.in_ok-check_opened-2.ensures o_t t_is) in
    let c5 : with_tables c.in_ok-from.from (unwrap_or o_s no_members) (unwrap_or o_t no_members) ≡ with_stored c.in_ok-from.from (unwrap_or o_t no_members) c.in_ok-stored.stored = ap (λ r. r >>= with_stored c.in_ok-from.from (unwrap_or o_t no_members)) (c.in_ok-stored.ensures o_s s_is) in
    c1 ∙ c2 ∙ c3 ∙ c4 ∙ c5 ∙ ap (λ r. r >>= λ ps. Ok (record { from = c.in_ok-from.from; storage = c.in_ok-stored.stored; transition = ps })) (c.in_ok-prices_opened.ensures.value o_t t_is)
