use Rattle.std.proofs.Common.{◌≡◌, subst, sym}
use Rattle.std.specs.Prelude.{Some, None}
use Rattle.office_base.specs.Maps.{at_number}
use Rattle.due_index.specs.Actions.{ActionsRecord, SetsNextOnUpload}
use Rattle.due_index.proofs.Tournaments.{some_of, slot_within}
use Rattle.due_index.proofs.RenewingUploads.{sets_emptied, tied_emptied, upload_there, not_at_number}
use Rattle.due_index.proofs.actions.ActionIndex.empty_upload.Goals as goal

pub clear-requires : goal.clear-requires
clear-requires c =
    let index : ActionsRecord = record { keys = c.self.inside.keys.entries; uploads = c.self.inside.uploads.entries; table = c.self.inside.table; slots = c.self.inside.queue } in
    let at = subst (λ (i : ActionsRecord). at_number c.args.number i.uploads ≡ Some c.args.slot) (sym c.self.view_is) c.requires in
    let held = some_of _ (upload_there index c.self.invariant c.args.number c.args.slot at) in
    slot_within c.self.inside.queue c.args.slot held.0 held.1

pub invariant_of-self : goal.invariant_of-self
invariant_of-self c =
    let index : ActionsRecord = record { keys = c.self.inside.keys.entries; uploads = c.self.inside.uploads.entries; table = c.self.inside.table; slots = c.self.inside.queue } in
    let at = subst (λ (i : ActionsRecord). at_number c.args.number i.uploads ≡ Some c.args.slot) (sym c.self.view_is) c.requires in
    tied_emptied index c.self.invariant c.args.number c.args.slot at c.clear.new.self c.clear.ensures c.remove.new.self.entries c.remove.ensures.updates.1
    (λ n apart. c.remove.ensures.updates.2 n (not_at_number c.args.number n apart))

pub returns : goal.returns
returns c =
    let index : ActionsRecord = record { keys = c.self.inside.keys.entries; uploads = c.self.inside.uploads.entries; table = c.self.inside.table; slots = c.self.inside.queue } in
    let at = subst (λ (i : ActionsRecord). at_number c.args.number i.uploads ≡ Some c.args.slot) (sym c.self.view_is) c.requires in
    let after : ActionsRecord = record { keys = c.self.inside.keys.entries; uploads = c.remove.new.self.entries; table = c.self.inside.table; slots = c.clear.new.self } in
    subst (λ i. SetsNextOnUpload i after c.args.number None) c.self.view_is
    (sets_emptied index c.self.invariant c.args.number c.args.slot at c.clear.new.self c.clear.ensures c.remove.new.self.entries c.remove.ensures.updates.1
    (λ n apart. c.remove.ensures.updates.2 n (not_at_number c.args.number n apart)))
