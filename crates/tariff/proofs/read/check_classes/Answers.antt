use Rattle.std.proofs.Common.{refl, subst, sym, List, ℕ, Option}
use Rattle.tariff.specs.Faults.{TariffGives}
use Rattle.tariff.specs.Reading.{unless_other, is_class_name, with_classes}
use Rattle.tariff.specs.declared.fault.TariffTable.{TariffTable}
use Rattle.tariff.specs.declared.fault.TariffTable.TheVariants.{Storage, Transition}
use Rattle.tariff.proofs.RowReading.{first_same, agree_all}
use Rattle.tariff.proofs.read.check_classes.Goals as goal

pub returns-in-Storage : goal.returns-in-Storage
returns-in-Storage c depth ms is =
    let P : Option (List ℕ) → Type 0 = λ o. TariffGives (λ u. ms) c.refuse_unknown.result (unless_other ms o) in
    let Q : TariffTable → Type 0 = λ t. TariffGives (λ u. ms) c.refuse_unknown.result (with_classes t ms) in
    subst Q (sym c.in-Storage.is) (subst P (first_same _ (is_class_name Storage) ms (agree_all _ (is_class_name Storage) (λ k d. refl) ms)) (c.refuse_unknown.ensures depth ms is))

pub returns-in-Transition : goal.returns-in-Transition
returns-in-Transition c depth ms is =
    let P : Option (List ℕ) → Type 0 = λ o. TariffGives (λ u. ms) c.refuse_unknown-in-Transition.result (unless_other ms o) in
    let Q : TariffTable → Type 0 = λ t. TariffGives (λ u. ms) c.refuse_unknown-in-Transition.result (with_classes t ms) in
    subst Q (sym c.in-Transition.is) (subst P (first_same _ (is_class_name Transition) ms (agree_all _ (is_class_name Transition) (λ k d. refl) ms)) (c.refuse_unknown-in-Transition.ensures depth ms is))
