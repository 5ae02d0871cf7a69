use Rattle.std.proofs.Common.{◌≡◌, subst, sym}
use Rattle.std.specs.Prelude.{Some}
use Rattle.office_base.specs.Maps.{at_number}
use Rattle.due_index.specs.Actions.{ActionsRecord, SetsNextOnUpload}
use Rattle.due_index.proofs.Tournaments.{some_of, slot_within}
use Rattle.due_index.proofs.RenewingUploads.{sets_written, tied_written, upload_there}
use Rattle.due_index.proofs.actions.ActionIndex.write_upload.Goals as goal

pub write-requires : goal.write-requires
write-requires c =
    let index : ActionsRecord = record { keys = c.self.inside.keys.entries; uploads = c.self.inside.uploads.entries; table = c.self.inside.table; slots = c.self.inside.queue } in
    let at = subst (λ (i : ActionsRecord). at_number c.args.number i.uploads ≡ Some c.args.slot) (sym c.self.view_is) c.requires.at in
    let held = some_of _ (upload_there index c.self.invariant c.args.number c.args.slot at) in
    slot_within c.self.inside.queue c.args.slot held.0 held.1

pub invariant_of-self : goal.invariant_of-self
invariant_of-self c =
    let index : ActionsRecord = record { keys = c.self.inside.keys.entries; uploads = c.self.inside.uploads.entries; table = c.self.inside.table; slots = c.self.inside.queue } in
    let at = subst (λ (i : ActionsRecord). at_number c.args.number i.uploads ≡ Some c.args.slot) (sym c.self.view_is) c.requires.at in
    tied_written index c.self.invariant c.args.number c.args.slot at c.write.new.self c.args.next c.requires.own c.write.ensures

pub returns : goal.returns
returns c =
    let index : ActionsRecord = record { keys = c.self.inside.keys.entries; uploads = c.self.inside.uploads.entries; table = c.self.inside.table; slots = c.self.inside.queue } in
    let at = subst (λ (i : ActionsRecord). at_number c.args.number i.uploads ≡ Some c.args.slot) (sym c.self.view_is) c.requires.at in
    let after : ActionsRecord = record { keys = c.self.inside.keys.entries; uploads = c.self.inside.uploads.entries; table = c.self.inside.table; slots = c.write.new.self } in
    subst (λ i. SetsNextOnUpload i after c.args.number (Some c.args.next)) c.self.view_is
    (sets_written index c.self.invariant c.args.number c.args.slot at c.write.new.self c.args.next c.requires.own c.write.ensures)
