use Rattle.std.proofs.Common.{◌≡◌, ◌∙◌, ◌++◌, ◌∷◌, [], ◌+◌, sym, ap, drop, get_or, List, ℕ, refl, rules}
use Rattle.std.proofs.lemmas.List.{drop_all}
use Rattle.toml.specs.Data.{Data, table}
use Rattle.toml.specs.Tables.{close}
use Rattle.toml_rows.specs.Rows.{row_of}
use Rattle.toml_rows.specs.Documents.{IsTable}
use Rattle.toml_rows.specs.Walking.{items_of, tables_of}
use Rattle.office_base.proofs.Results.{joined, joined-nil}
use Rattle.tariff.specs.declared.tiers.Tier.{Tier}
use Rattle.tariff.specs.Reading.{tiers_said}
use Rattle.tariff.proofs.RowReading.{said_on, said_refused, said_end}
use Rattle.tariff.proofs.tier.tiers_in_tables.Goals as goal

pub loop-number-init : goal.loop-number-init
loop-number-init c depth tables before holds =
    let all = items_of (tables_of tables c.args.numbers.now) in
    sym (joined-nil (tiers_said c.args.class all)) ∙ ap (λ (ts : List Tier). joined ts (tiers_said c.args.class all)) (sym c.new-tiers.ensures.items)

pub returns-in_default : goal.returns-in_default
returns-in_default c depth tables before holds =
    let f : ℕ → Data = λ t. table (close (tables t)) in
    let n = get_or c.args.numbers.now c.loop-number.number-index 0 in
    let is : IsTable depth (row_of c.args.keys.now) n (close (tables n)) = record { tables = tables; elements = before; holds = holds; members = refl } in
    c.loop-number.invariant depth tables before holds
    ∙ said_refused f c.args.class c.args.numbers.now c.loop-number.number-index 0 c.loop-number-test.true c.loop-number.tiers.items
    (sym (c.in_ok-said.ensures depth (close (tables n)) is) ∙ c.in_default.is)

pub loop-number-preserved : goal.loop-number-preserved
loop-number-preserved c depth tables before holds =
    let i = c.loop-number.number-index in
    let f : ℕ → Data = λ t. table (close (tables t)) in
    let n = get_or c.args.numbers.now i 0 in
    let is : IsTable depth (row_of c.args.keys.now) n (close (tables n)) = record { tables = tables; elements = before; holds = holds; members = refl } in
    let pushed : c.push.new.self.items ≡ c.loop-number.tiers.items ++ c.in-Some.tier ∷ [] = search rules in
    c.loop-number.invariant depth tables before holds
    ∙ said_on f c.args.class c.args.numbers.now i 0 c.loop-number-test.true c.loop-number.tiers.items c.in-Some.tier
    (sym (c.in_ok-said.ensures depth (close (tables n)) is) ∙ c.in-Some.is)
    ∙ ap (λ (ts : List Tier). joined ts (tiers_said c.args.class (items_of (tables_of tables (drop (i + 1) c.args.numbers.now))))) (sym pushed)

pub returns : goal.returns
returns c depth tables before holds =
    c.loop-number.invariant depth tables before holds
    ∙ ap (λ (l : List ℕ). joined c.loop-number.tiers.items (tiers_said c.args.class (items_of (tables_of tables l)))) (drop_all c.loop-number.number-index c.args.numbers.now c.loop-number-test.false)
    ∙ said_end c.args.class c.loop-number.tiers.items
