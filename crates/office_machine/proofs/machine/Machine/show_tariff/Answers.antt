use Rattle.std.proofs.Common.{◌≡◌, ℕ, inl, ap, sym, subst, ◌∙◌, List, true, false}
use Rattle.std.specs.Prelude.{Ok, ◌==◌}
use Rattle.tariff.specs.Prices.{Prices}
use Rattle.office_types.specs.declared.reply.Reply.TheVariants.{TariffShown}
use Rattle.office_machine.proofs.Offices.{shows_tariff, none_told, some_told}
use Rattle.office_machine.proofs.Seen.{seen_stands}
use Rattle.office_machine.proofs.machine.Machine.show_tariff.Goals as goal

pub returns-then-is_empty-clause-reply : goal.returns-then-is_empty-clause-reply
returns-then-is_empty-clause-reply c = λ t p stands.
    let stood = seen_stands c.self.view_is stands in
    inl (sym (shows_tariff _ p stood t ∙ none_told c.self.inside.tariffs.items (subst (λ (n : ℕ). (n == 0) ≡ true) c.self.inside.tariffs.ok.0 (sym c.is_empty.ensures ∙ c.if-is_empty.true))))

pub returns-clause-reply : goal.returns-clause-reply
returns-clause-reply c = λ t p stands.
    let stood = seen_stands c.self.view_is stands in
    let same = c.of.ensures ∙ c.in_ok-tariffs.ensures.exact ∙ c.deref.ensures.value in
    inl (ap (λ (l : List Prices). Ok (TariffShown l)) same
    ∙ sym (shows_tariff _ p stood t ∙ some_told c.self.inside.tariffs.items (subst (λ (n : ℕ). (n == 0) ≡ false) c.self.inside.tariffs.ok.0 (sym c.is_empty.ensures ∙ c.if-is_empty.false))))
