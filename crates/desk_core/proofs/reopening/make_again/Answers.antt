use Rattle.std.proofs.Common.{◌≡◌, ℕ, List, Option, Ok, Err, false, rules, subst}
use Rattle.std.specs.Prelude.{IsTrue}
use Rattle.plain_office.specs.Once.{step_with}
use Rattle.plain_office.specs.Run.{is_not_before}
use Rattle.office_machine.specs.Once.{DoesOnce}
use Rattle.desk_core.proofs.Damage.{not_taken, nothing_due, not_in_order}
use Rattle.desk_core.proofs.Offices.{more_after, one_more, fresh_in}
use Rattle.desk_core.proofs.Opened.{on_done, on_fault}
use Rattle.desk_core.proofs.reopening.make_again.Goals as goal

pub returns-in-Ok-clause-ok : goal.returns-in-Ok-clause-ok
returns-in-Ok-clause-ok c =
    let later : IsTrue (is_not_before c.args.office.now.records.last c.args.entry.now.moment) = search rules in
    on_done c.entry_taken-taken.result
    (λ made start entries is. more_after entries c.args.entry.now c.args.office.now c.apply.new.self c.in-Ok.reply is made later
    (fresh_in c.args.entry.now.token c.args.office.now is.plain is.stands c.in_default.ensures.new)
    (subst (λ (token : Option (List ℕ)). DoesOnce (step_with c.args.entry.now.moment token c.args.entry.now.command is.plain) is.plain c.apply.new.self (Ok c.in-Ok.reply))
    c.as_ref.ensures.value (c.in-Ok.ensures.step is.plain is.stands)) c.in-Ok.ensures.accepted)
    c.entry_taken-taken.ensures.ok

pub returns-in-Ok-clause-counted : goal.returns-in-Ok-clause-counted
returns-in-Ok-clause-counted c =
    on_done c.entry_taken-taken.result
    (λ made. one_more c.apply.new.self.records.accepted c.args.office.now.records.accepted (Ok c.in-Ok.reply) c.in-Ok.ensures.accepted made)
    c.entry_taken-taken.ensures.ok

pub returns-in-Ok-clause-damaged : goal.returns-in-Ok-clause-damaged
returns-in-Ok-clause-damaged c =
    on_fault c.entry_taken-taken.result
    (λ e told. nothing_due c.args.office.now c.apply.new.self c.args.entry.now c.in-Ok.reply c.in_default.ensures.new
    (λ p stands. subst (λ (token : Option (List ℕ)). DoesOnce (step_with c.args.entry.now.moment token c.args.entry.now.command p) p c.apply.new.self (Ok c.in-Ok.reply))
    c.as_ref.ensures.value (c.in-Ok.ensures.step p stands)) told.0 told.1) c.entry_taken-taken.ensures.damaged

pub returns-in-Err-apply-clause-damaged : goal.returns-in-Err-apply-clause-damaged
returns-in-Err-apply-clause-damaged c =
    not_taken c.args.office.now c.apply.new.self c.args.entry.now c.in-Err-apply.refusal
    (λ p stands. subst (λ (token : Option (List ℕ)). DoesOnce (step_with c.args.entry.now.moment token c.args.entry.now.command p) p c.apply.new.self (Err c.in-Err-apply.refusal))
    c.as_ref.ensures.value (c.in-Err-apply.ensures.step p stands)) c.entry_refused.ensures.memory c.entry_refused.ensures.damaged

pub returns-then-not-is_in_order-clause-damaged : goal.returns-then-not-is_in_order-clause-damaged
returns-then-not-is_in_order-clause-damaged c =
    let early : is_not_before c.args.office.now.records.last c.args.entry.now.moment ≡ false = search rules in
    not_in_order c.args.office.now c.args.entry.now early
