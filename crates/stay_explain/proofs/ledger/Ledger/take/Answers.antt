use Rattle.std.proofs.Common.{◌≡◌, ℕ, List, true, false, Option, None, Err, sym, ap, ◌∙◌, subst, rules}
use Rattle.std.specs.Prelude.{IsTrue, IfSome, Ok}
use Rattle.plain_office.specs.Once.{step_with}
use Rattle.plain_office.specs.Run.{is_not_before}
use Rattle.plain_office.specs.Step.{is_accepted}
use Rattle.kept_replies.specs.Queue.{kept_in}
use Rattle.office_machine.specs.Once.{DoesOnce}
use Rattle.stay_explain.specs.Plans.{Plan}
use Rattle.stay_explain.specs.Ledgers.{LedgerRecord, IsLedgerOf, IsBookable, tables_after, planned}
use Rattle.meter_journal.specs.declared.fault.OpenFault.TheVariants.{Damaged}
use Rattle.desk_core.specs.Damage.{IsNotTaken}
use Rattle.desk_core.proofs.Damage.{not_in_order, not_new, not_taken, nothing_due}
use Rattle.desk_core.proofs.Offices.{fresh_in}
use Rattle.stay_explain.proofs.Histories.{bookable, ledger_more}
use Rattle.stay_explain.proofs.ledger.Ledger.take.Goals as goal

pub returns-then-not-is_in_order-clause-fault : goal.returns-then-not-is_in_order-clause-fault
returns-then-not-is_in_order-clause-fault c =
    let early : is_not_before c.self.inside.office.records.last c.args.entry.now.moment ≡ false = search rules in
    subst (λ (l : LedgerRecord). IsNotTaken c.args.gate l.office c.args.entry.now (Damaged c.args.gate)) c.self.view_is
    (not_in_order c.self.inside.office c.args.entry.now early)

pub returns-in-Err-clause-fault : goal.returns-in-Err-clause-fault
returns-in-Err-clause-fault c =
    subst (λ (l : LedgerRecord). IsNotTaken c.args.gate l.office c.args.entry.now c.in-Err.fault) c.self.view_is
    (not_new c.self.inside.office c.args.entry.now c.in-Err.ensures.fails)

pub returns-in-Err-apply-clause-fault : goal.returns-in-Err-apply-clause-fault
returns-in-Err-apply-clause-fault c =
    subst (λ (l : LedgerRecord). IsNotTaken c.args.gate l.office c.args.entry.now c.entry_refused.result) c.self.view_is
    (not_taken c.self.inside.office c.apply.new.self c.args.entry.now c.in-Err-apply.refusal
    (λ p stands. subst (λ (token : Option (List ℕ)). DoesOnce (step_with c.args.entry.now.moment token c.args.entry.now.command p) p c.apply.new.self (Err c.in-Err-apply.refusal))
    c.as_ref.ensures.value (c.in-Err-apply.ensures.step p stands))
    c.entry_refused.ensures.memory c.entry_refused.ensures.damaged)

pub returns-in-Err-entry_taken-clause-fault : goal.returns-in-Err-entry_taken-clause-fault
returns-in-Err-entry_taken-clause-fault c =
    subst (λ (l : LedgerRecord). IsNotTaken c.args.gate l.office c.args.entry.now c.in-Err-entry_taken.fault) c.self.view_is
    (nothing_due c.self.inside.office c.apply.new.self c.args.entry.now c.in-Ok-apply.reply c.in_default.ensures.new
    (λ p stands. subst (λ (token : Option (List ℕ)). DoesOnce (step_with c.args.entry.now.moment token c.args.entry.now.command p) p c.apply.new.self (Ok c.in-Ok-apply.reply))
    c.as_ref.ensures.value (c.in-Ok-apply.ensures.step p stands)) c.in-Err-entry_taken.ensures.damaged.0 c.in-Err-entry_taken.ensures.damaged.1)

pub book-requires : goal.book-requires
book-requires c =
    let old : LedgerRecord = record { office = c.self.inside.office; tables = c.self.inside.tables.entries } in
    let is : IsLedgerOf c.requires.known.0 old = subst (IsLedgerOf c.requires.known.0) (sym c.self.view_is) c.requires.known.1 in
    let plan_is : c.in-Ok.booking ≡ planned c.args.entry.now.moment c.args.entry.now.command c.self.inside.office.records.accounts = search (c.in-Ok.ensures, c.self.view_is, rules) in
    let accepts : is_accepted (Ok c.in-Ok-apply.reply) ≡ true = search (c.in_default-entry_taken.ensures.ok, rules) in
    let fresh = fresh_in c.args.entry.now.token old.office is.office.plain is.office.stands c.in_default.ensures.new in
    record {
      free = subst (λ (plan : Option Plan). IsBookable c.args.entry.now.command plan c.self.inside.tables.entries) (sym plan_is)
          (bookable c.requires.known.0 c.args.entry.now old c.apply.new.self c.in-Ok-apply.reply is accepts fresh (λ p stands. subst (λ (token : Option (List ℕ)). DoesOnce (step_with c.args.entry.now.moment token c.args.entry.now.command p) p c.apply.new.self (Ok c.in-Ok-apply.reply))
          c.as_ref.ensures.value (c.in-Ok-apply.ensures.step p stands)));
    }

pub returns-in-Ok-book-clause-ok : goal.returns-in-Ok-book-clause-ok
returns-in-Ok-book-clause-ok c = λ history known.
    let old : LedgerRecord = record { office = c.self.inside.office; tables = c.self.inside.tables.entries } in
    let is : IsLedgerOf history old = subst (IsLedgerOf history) (sym c.self.view_is) known in
    let plan_is : c.in-Ok.booking ≡ planned c.args.entry.now.moment c.args.entry.now.command c.self.inside.office.records.accounts = search (c.in-Ok.ensures, c.self.view_is, rules) in
    let accepts : is_accepted (Ok c.in-Ok-apply.reply) ≡ true = search (c.in_default-entry_taken.ensures.ok, rules) in
    let later : IsTrue (is_not_before c.self.inside.office.records.last c.args.entry.now.moment) = search rules in
    let fresh = fresh_in c.args.entry.now.token old.office is.office.plain is.office.stands c.in_default.ensures.new in
    ledger_more history c.args.entry.now old c.apply.new.self c.in-Ok-apply.reply is accepts fresh (λ p stands. subst (λ (token : Option (List ℕ)). DoesOnce (step_with c.args.entry.now.moment token c.args.entry.now.command p) p c.apply.new.self (Ok c.in-Ok-apply.reply))
    c.as_ref.ensures.value (c.in-Ok-apply.ensures.step p stands)) later c.in-Ok-apply.ensures.accepted c.book.new.tables.entries
    (c.in-Ok-book.ensures ∙ ap (λ (plan : Option Plan). tables_after c.args.entry.now.command plan c.self.inside.tables.entries) plan_is)
