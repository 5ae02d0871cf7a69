use Rattle.std.proofs.Common.{◌≡◌, ℕ, ◌+◌, [], ◌∷◌, ◌++◌, sym, subst, ◌∙◌, true, false, cond}
use Rattle.std.specs.Prelude.{None, Result, Ok, Err, Some, is_ok, is_err}
use Rattle.moments.specs.Months.{month_end}
use Rattle.plain_office.specs.Office.{Office}
use Rattle.plain_office.specs.Run.{is_not_before}
use Rattle.plain_office.specs.Step.{step}
use Rattle.office_types.specs.declared.command.Command.TheVariants as command
use Rattle.office_types.specs.declared.reply.Reply.{Reply}
use Rattle.office_types.specs.declared.reply.Reply.TheVariants.{Closed}
use Rattle.office_types.specs.declared.refusal.Refusal.{Refusal}
use Rattle.bucket_account.proofs.Handed.{err_of}
use Rattle.office_machine.specs.Closing.{first_due, due_refusal}
use Rattle.office_machine.specs.Standing.{Records, StandsForOffice, IsOfAnOffice, Does}
use Rattle.office_machine.proofs.Offices.{does_stay_open, does_wait, does_close, accepted_records, with_month, kept_on}
use Rattle.office_machine.proofs.Room.{room_more}
use Rattle.office_machine.proofs.Seen.{seen, seen_later, seen_stands}
use Rattle.office_machine.proofs.machine.Machine.close.Goals as goal

pub returns-in_err-tariff-clause-step : goal.returns-in_err-tariff-clause-step
returns-in_err-tariff-clause-step c = λ p stands.
    let inside = seen c.self.view_is in
    let later : is_not_before inside.last c.args.t ≡ true = seen_later c.args.t c.self.view_is c.requires.later in
    let stood : StandsForOffice inside p = seen_stands c.self.view_is stands in
    subst (λ (r : Result Reply Refusal). Does (step c.args.t (command.Close c.args.month) p) p c.args.self.now r) (err_of c.from_residual.result c.in_err-tariff.field-0.0 c.from_residual.ensures.1)
    (subst (λ (r : Records). Does (step c.args.t (command.Close c.args.month) p) p r (Err c.in_err-tariff.field-0.0)) c.self.view_is
    (does_stay_open inside p stood c.args.t later c.args.month c.in_err-tariff.field-0.0 (c.in_err-tariff.ensures.tests p stands)))

pub returns-in-Some-clause-step : goal.returns-in-Some-clause-step
returns-in-Some-clause-step c = λ p stands.
    let inside = seen c.self.view_is in
    let later : is_not_before inside.last c.args.t ≡ true = seen_later c.args.t c.self.view_is c.requires.later in
    let stood : StandsForOffice inside p = seen_stands c.self.view_is stands in
    subst (λ (r : Records). Does (step c.args.t (command.Close c.args.month) p) p r (Err c.in-Some.refusal)) c.self.view_is
    (does_wait inside p stood c.args.t later c.args.month c.in_ok-tariff.tariff (c.in_ok-tariff.ensures.tests p stands) c.in-Some.refusal
    (subst (λ (end : ℕ). due_refusal (first_due c.args.t end inside.accounts) ≡ Some c.in-Some.refusal) c.month_window-end.ensures.ends (sym c.in_ok-refusal.ensures.exact ∙ c.in-Some.is)))

items_of : {T E X : Type 0} (r : Result T E) (items more : X) (same : X) → is_err r ≡ false → items ≡ cond (is_ok r) more same → items ≡ more
items_of (Ok x) items more same ok is = is
items_of (Err e) items more same ok is = absurd cc

none_of : (c : goal.After-self-3-1) → due_refusal (first_due c.args.t (month_end c.args.month) c.self.inside.accounts.entries) ≡ None
none_of c =
    subst (λ (end : ℕ). due_refusal (first_due c.args.t end c.self.inside.accounts.entries) ≡ None) c.month_window-end.ensures.ends
    (sym c.in_ok-refusal.ensures.exact ∙ c.in_default.is)

pushed_of : (c : goal.After-self-3-1) → c.push.new.self.items ≡ c.self.inside.closed.items ++ (c.args.month, c.in_ok-tariff.tariff) ∷ []
pushed_of c = items_of c.push.result _ _ _ (sym c.is_err.ensures.value ∙ c.if-is_err.false) c.push.ensures.items

pub invariant_of-self-2 : goal.invariant_of-self-2
invariant_of-self-2 c =
    let inside = seen c.self.view_is in
    let later : is_not_before inside.last c.args.t ≡ true = seen_later c.args.t c.self.view_is c.requires.later in
    let p : Office = c.self.invariant.office in
    let shut : Records = record inside { closed = c.push.new.self.items } in
    with_month c.args.t shut inside.accounts inside.counts (inside.accepted + 1) c.first_of.result c.first_of.ensures IsOfAnOffice
    (kept_on (step c.args.t (command.Close c.args.month) p) p (accepted_records c.args.t shut inside.accounts inside.counts (inside.accepted + 1)) (Ok (Closed c.args.month))
    (does_close inside p c.self.invariant.stands c.args.t later c.args.month c.in_ok-tariff.tariff
    (c.in_ok-tariff.ensures.tests p
    (subst (λ (r : Records). StandsForOffice r p) c.self.view_is c.self.invariant.stands)) (none_of c)
    c.push.new.self.items (pushed_of c) (inside.accepted + 1))
    (room_more inside.accepted inside.accounts c.self.invariant.room))

pub returns-clause-step : goal.returns-clause-step
returns-clause-step c = λ p stands.
    let inside = seen c.self.view_is in
    let later : is_not_before inside.last c.args.t ≡ true = seen_later c.args.t c.self.view_is c.requires.later in
    let stood : StandsForOffice inside p = seen_stands c.self.view_is stands in
    let shut : Records = record inside { closed = c.push.new.self.items } in
    with_month c.args.t shut inside.accounts inside.counts (inside.accepted + 1) c.first_of.result c.first_of.ensures
    (λ (r : Records). Does (step c.args.t (command.Close c.args.month) p) p r (Ok (Closed c.args.month)))
    (does_close inside p stood c.args.t later c.args.month c.in_ok-tariff.tariff (c.in_ok-tariff.ensures.tests p stands) (none_of c) c.push.new.self.items (pushed_of c) (inside.accepted + 1))
