use Rattle.std.proofs.Common.{◌≡◌, ◌∙◌, ◌++◌, ◌∷◌, [], ◌+◌, sym, ap, drop, List, ℕ, Bor, rules}
use Rattle.std.proofs.lemmas.List.{drop_all}
use Rattle.toml_rows.specs.Reading.{data_at}
use Rattle.toml_rows.specs.Walking.{items_of, data_of_all}
use Rattle.office_base.proofs.Results.{joined, joined-nil}
use Rattle.tariff.specs.declared.tiers.Tier.{Tier}
use Rattle.tariff.specs.Reading.{tiers_said}
use Rattle.tariff.proofs.RowReading.{said_on, said_refused, said_end}
use Rattle.tariff.proofs.tier.tiers_in_list.Goals as goal

pub loop-text-init : goal.loop-text-init
loop-text-init c =
    let all = items_of (data_of_all c.args.depth c.args.texts.now) in
    sym (joined-nil (tiers_said c.args.class all)) ∙ ap (λ (ts : List Tier). joined ts (tiers_said c.args.class all)) (sym c.new-tiers.ensures.items)

pub returns-in_default : goal.returns-in_default
returns-in_default c =
    c.loop-text.invariant
    ∙ said_refused (λ (t : Bor (List ℕ)). data_at c.args.depth t.now) c.args.class c.args.texts.now c.loop-text.text-index _ c.loop-text-test.true c.loop-text.tiers.items
    (sym c.in_ok-said.ensures ∙ c.in_default.is)

pub loop-text-preserved : goal.loop-text-preserved
loop-text-preserved c =
    let i = c.loop-text.text-index in
    let pushed : c.push.new.self.items ≡ c.loop-text.tiers.items ++ c.in-Some.tier ∷ [] = search rules in
    c.loop-text.invariant
    ∙ said_on (λ (t : Bor (List ℕ)). data_at c.args.depth t.now) c.args.class c.args.texts.now i _ c.loop-text-test.true c.loop-text.tiers.items c.in-Some.tier
    (sym c.in_ok-said.ensures ∙ c.in-Some.is)
    ∙ ap (λ (ts : List Tier). joined ts (tiers_said c.args.class (items_of (data_of_all c.args.depth (drop (i + 1) c.args.texts.now))))) (sym pushed)

pub returns : goal.returns
returns c =
    c.loop-text.invariant
    ∙ ap (λ (l : List (Bor (List ℕ))). joined c.loop-text.tiers.items (tiers_said c.args.class (items_of (data_of_all c.args.depth l)))) (drop_all c.loop-text.text-index c.args.texts.now c.loop-text-test.false)
    ∙ said_end c.args.class c.loop-text.tiers.items
