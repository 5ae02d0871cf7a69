use Rattle.std.proofs.Common.{sym, subst}
use Rattle.meter_journal.specs.declared.fault.OpenFault.{OpenFault}
use Rattle.office_commands.specs.Lines.{fault_note}
use Rattle.office_commands.specs.Running.{IsNoted}
use Rattle.office_commands.proofs.lines.note_fault.Goals as goal

pub returns-in-NotMade-clause-noted : goal.returns-in-NotMade-clause-noted
unfolding fault_note
returns-in-NotMade-clause-noted g c =
    subst (λ (f : OpenFault). IsNoted g.W.Replies c.args.out.now c.note.new.self (fault_note f)) (sym c.in-NotMade.is) (λ empty. absurd cc, c.note.ensures.noted)

pub returns-in-Foreign-clause-noted : goal.returns-in-Foreign-clause-noted
unfolding fault_note
returns-in-Foreign-clause-noted g c =
    subst (λ (f : OpenFault). IsNoted g.W.Replies c.args.out.now c.note-in-Foreign.new.self (fault_note f)) (sym c.in-Foreign.is) (λ empty. absurd cc, c.note-in-Foreign.ensures.noted)

pub returns-in-StoreFault-clause-noted : goal.returns-in-StoreFault-clause-noted
unfolding fault_note
returns-in-StoreFault-clause-noted g c =
    subst (λ (f : OpenFault). IsNoted g.W.Replies c.args.out.now c.note-in-StoreFault.new.self (fault_note f)) (sym c.in-StoreFault.is) (λ empty. absurd cc, c.note-in-StoreFault.ensures.noted)

pub returns-in-NoMemory-clause-noted : goal.returns-in-NoMemory-clause-noted
unfolding fault_note
returns-in-NoMemory-clause-noted g c =
    subst (λ (f : OpenFault). IsNoted g.W.Replies c.args.out.now c.note-in-NoMemory.new.self (fault_note f)) (sym c.in-NoMemory.is) (λ empty. absurd cc, c.note-in-NoMemory.ensures.noted)

pub returns-in-Damaged-clause-noted : goal.returns-in-Damaged-clause-noted
returns-in-Damaged-clause-noted g c =
    subst (λ (f : OpenFault). IsNoted g.W.Replies c.args.out.now c.note_damage.new.out (fault_note f)) (sym c.in-Damaged.is) c.note_damage.ensures.noted
