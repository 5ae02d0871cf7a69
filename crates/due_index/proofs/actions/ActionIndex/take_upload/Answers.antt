use Rattle.std.proofs.Common.{◌≡◌, subst, sym}
use Rattle.std.specs.Prelude.{Some, None}
use Rattle.office_base.specs.Maps.{at_number}
use Rattle.due_index.specs.Actions.{ActionsRecord, SetsNextOnUpload, KeepsNext, IsTied}
use Rattle.due_index.proofs.Tournaments.{slot_within}
use Rattle.due_index.proofs.Renewing.{back_again, keeps_again, tied_again}
use Rattle.due_index.proofs.RenewingUploads.{sets_taken, tied_taken, not_at_number}
use Rattle.due_index.proofs.actions.ActionIndex.take_upload.Goals as goal

pub invariant_of-self-in-Ok : goal.invariant_of-self-in-Ok
invariant_of-self-in-Ok c =
    let index : ActionsRecord = record { keys = c.self.inside.keys.entries; uploads = c.self.inside.uploads.entries; table = c.self.inside.table; slots = c.self.inside.queue } in
    let absent = subst (λ (i : ActionsRecord). at_number c.args.number i.uploads ≡ None) (sym c.self.view_is) c.requires.absent in
    tied_taken index c.self.invariant c.args.number absent c.in_ok-slot.slot c.in_ok-slot.ensures.ok.0 c.add.new.self c.args.next c.requires.own c.in_ok-slot.ensures.ok.1
    c.insert.new.self.entries c.in-Ok.ensures.updates.1 (λ n apart. c.in-Ok.ensures.updates.2 n (not_at_number c.args.number n apart))

pub returns-in-Ok-clause-ok : goal.returns-in-Ok-clause-ok
returns-in-Ok-clause-ok c =
    let index : ActionsRecord = record { keys = c.self.inside.keys.entries; uploads = c.self.inside.uploads.entries; table = c.self.inside.table; slots = c.self.inside.queue } in
    let absent = subst (λ (i : ActionsRecord). at_number c.args.number i.uploads ≡ None) (sym c.self.view_is) c.requires.absent in
    let after : ActionsRecord = record { keys = c.self.inside.keys.entries; uploads = c.insert.new.self.entries; table = c.self.inside.table; slots = c.add.new.self } in
    subst (λ i. SetsNextOnUpload i after c.args.number (Some c.args.next)) c.self.view_is
    (sets_taken index c.self.invariant c.args.number absent c.in_ok-slot.slot c.in_ok-slot.ensures.ok.0 c.add.new.self c.args.next c.requires.own c.in_ok-slot.ensures.ok.1
    c.insert.new.self.entries c.in-Ok.ensures.updates.1 (λ n apart. c.in-Ok.ensures.updates.2 n (not_at_number c.args.number n apart)))

pub clear-requires : goal.clear-requires
clear-requires c = slot_within c.add.new.self c.in_ok-slot.slot c.args.next c.in_ok-slot.ensures.ok.1.here

pub invariant_of-self-in-Err : goal.invariant_of-self-in-Err
invariant_of-self-in-Err c =
    let index : ActionsRecord = record { keys = c.self.inside.keys.entries; uploads = c.self.inside.uploads.entries; table = c.self.inside.table; slots = c.self.inside.queue } in
    let same = back_again index c.add.new.self c.clear.new.self c.in_ok-slot.slot c.args.next c.in_ok-slot.ensures.ok.0 c.in_ok-slot.ensures.ok.1 c.clear.ensures in
    subst (λ us. IsTied (record { keys = c.self.inside.keys.entries; uploads = us; table = c.self.inside.table; slots = c.clear.new.self })) (sym c.in-Err.ensures.err)
    (tied_again index c.self.invariant c.clear.new.self same)

pub returns-in-Err-clause-err : goal.returns-in-Err-clause-err
returns-in-Err-clause-err c =
    let index : ActionsRecord = record { keys = c.self.inside.keys.entries; uploads = c.self.inside.uploads.entries; table = c.self.inside.table; slots = c.self.inside.queue } in
    let same = back_again index c.add.new.self c.clear.new.self c.in_ok-slot.slot c.args.next c.in_ok-slot.ensures.ok.0 c.in_ok-slot.ensures.ok.1 c.clear.ensures in
    subst (λ i. KeepsNext i (record { keys = c.self.inside.keys.entries; uploads = c.insert.new.self.entries; table = c.self.inside.table; slots = c.clear.new.self })) c.self.view_is
    (subst (λ us. KeepsNext index (record { keys = c.self.inside.keys.entries; uploads = us; table = c.self.inside.table; slots = c.clear.new.self })) (sym c.in-Err.ensures.err)
    (keeps_again index c.self.invariant c.clear.new.self same))
