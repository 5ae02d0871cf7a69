use Rattle.std.proofs.Common.{◌≡◌, ℕ, ◌+◌, List, [], ◌∷◌, sym, ap, subst, ◌∙◌, true}
use Rattle.std.specs.Prelude.{Result, Ok, Err, Some, None}
use Rattle.tariff.specs.Prices.{Prices}
use Rattle.plain_office.specs.Office.{Office}
use Rattle.plain_office.specs.Run.{is_not_before}
use Rattle.plain_office.specs.Step.{step, with_tariff}
use Rattle.office_types.specs.declared.command.Command.TheVariants as command
use Rattle.office_types.specs.declared.reply.Reply.{Reply}
use Rattle.office_types.specs.declared.reply.Reply.TheVariants.{TariffSet}
use Rattle.office_types.specs.declared.refusal.Refusal.{Refusal}
use Rattle.office_types.specs.declared.refusal.What.TheVariants.{Tariffs}
use Rattle.bucket_account.specs.declared.counts.Counts.{Counts}
use Rattle.bucket_account.specs.Counting.{first_over}
use Rattle.bucket_account.proofs.Handed.{err_of}
use Rattle.office_machine.specs.Standing.{Records, StandsForOffice, IsOfAnOffice, Does}
use Rattle.office_machine.proofs.Offices.{does_overprice, does_price, accepted_records, with_month, kept_on}
use Rattle.office_machine.proofs.Room.{room_more}
use Rattle.office_machine.proofs.Seen.{seen, seen_later, seen_stands}
use Rattle.office_machine.proofs.machine.Machine.set_tariff.Goals as goal

pub returns-in_err-counts-clause-step : goal.returns-in_err-counts-clause-step
returns-in_err-counts-clause-step c = λ p stands.
    let inside = seen c.self.view_is in
    let later : is_not_before inside.last c.args.t ≡ true = seen_later c.args.t c.self.view_is c.requires.later in
    let set : c.in_ok-tariffs.tariffs.items ≡ with_tariff c.args.tariff.now inside.tariffs =
    c.in_ok-tariffs.ensures.exact ∙ ap (λ (l : List Prices). with_tariff c.args.tariff.now l) c.deref.ensures.value in
    let full = c.in_err-counts.ensures.full in
    let done = does_overprice inside p (seen_stands c.self.view_is stands) c.args.t later c.args.tariff.now c.in_ok-tariffs.tariffs.items set full.0
    (subst (λ (n : ℕ). first_over (Tariffs ∷ []) (record inside.counts { tariffs = n }) ≡ Some full.0) (c.len.ensures ∙ c.in_ok-tariffs.tariffs.ok.0) full.1) in
    subst (λ (r : Records). Does (step c.args.t (command.SetTariff c.args.tariff.now) p) p r c.from_residual-in_err-counts.result) c.self.view_is
    (subst (λ (r : Result Reply Refusal). Does (step c.args.t (command.SetTariff c.args.tariff.now) p) p inside r)
    (ap (λ (e : Refusal). Err e) (sym full.2) ∙ err_of c.from_residual-in_err-counts.result c.in_err-counts.field-0.0 c.from_residual-in_err-counts.ensures.1) done)

pub invariant_of-self : goal.invariant_of-self
invariant_of-self c =
    let inside = seen c.self.view_is in
    let later : is_not_before inside.last c.args.t ≡ true = seen_later c.args.t c.self.view_is c.requires.later in
    let set : c.in_ok-tariffs.tariffs.items ≡ with_tariff c.args.tariff.now inside.tariffs =
    c.in_ok-tariffs.ensures.exact ∙ ap (λ (l : List Prices). with_tariff c.args.tariff.now l) c.deref.ensures.value in
    let counted = c.in_ok-counts.ensures.ok in
    let counts : Counts = c.in_ok-counts.counts in
    let free : first_over (Tariffs ∷ []) counts ≡ None = subst (λ (k : Counts). first_over (Tariffs ∷ []) k ≡ None) (sym counted.0) counted.1 in
    let p : Office = c.self.invariant.office in
    let priced : Records = record inside { tariffs = c.in_ok-tariffs.tariffs.items } in
    with_month c.args.t priced inside.accounts counts (inside.accepted + 1) c.first_of.result c.first_of.ensures IsOfAnOffice
    (kept_on (step c.args.t (command.SetTariff c.args.tariff.now) p) p (accepted_records c.args.t priced inside.accounts counts (inside.accepted + 1)) (Ok TariffSet)
    (does_price inside p c.self.invariant.stands c.args.t later c.args.tariff.now c.in_ok-tariffs.tariffs.items set counts (counted.0 ∙ ap (λ (n : ℕ). record inside.counts { tariffs = n }) (c.len.ensures ∙ c.in_ok-tariffs.tariffs.ok.0)) free (inside.accepted + 1))
    (room_more inside.accepted inside.accounts c.self.invariant.room))

pub returns-clause-step : goal.returns-clause-step
returns-clause-step c = λ p stands.
    let inside = seen c.self.view_is in
    let later : is_not_before inside.last c.args.t ≡ true = seen_later c.args.t c.self.view_is c.requires.later in
    let stood : StandsForOffice inside p = seen_stands c.self.view_is stands in
    let set : c.in_ok-tariffs.tariffs.items ≡ with_tariff c.args.tariff.now inside.tariffs =
    c.in_ok-tariffs.ensures.exact ∙ ap (λ (l : List Prices). with_tariff c.args.tariff.now l) c.deref.ensures.value in
    let counted = c.in_ok-counts.ensures.ok in
    let counts : Counts = c.in_ok-counts.counts in
    let free : first_over (Tariffs ∷ []) counts ≡ None = subst (λ (k : Counts). first_over (Tariffs ∷ []) k ≡ None) (sym counted.0) counted.1 in
    let priced : Records = record inside { tariffs = c.in_ok-tariffs.tariffs.items } in
    with_month c.args.t priced inside.accounts counts (inside.accepted + 1) c.first_of.result c.first_of.ensures
    (λ (r : Records). Does (step c.args.t (command.SetTariff c.args.tariff.now) p) p r (Ok TariffSet))
    (does_price inside p stood c.args.t later c.args.tariff.now c.in_ok-tariffs.tariffs.items set counts (counted.0 ∙ ap (λ (n : ℕ). record inside.counts { tariffs = n }) (c.len.ensures ∙ c.in_ok-tariffs.tariffs.ok.0)) free (inside.accepted + 1))
