use Rattle.std.proofs.Common.{◌≡◌, subst, sym}
use Rattle.std.specs.Prelude.{Some}
use Rattle.office_base.specs.Maps.{at_name}
use Rattle.due_index.specs.Places.{candidate_of}
use Rattle.due_index.specs.Actions.{ActionsRecord, SetsNextOnKey}
use Rattle.due_index.proofs.Renewing.{sets_replaced, tied_replaced, slot_there}
use Rattle.due_index.proofs.actions.ActionIndex.write_key.Goals as goal

pub replace-requires : goal.replace-requires
replace-requires c =
    let index : ActionsRecord = record { keys = c.self.inside.keys.entries; uploads = c.self.inside.uploads.entries; table = c.self.inside.table; slots = c.self.inside.queue } in
    let at = subst (λ (i : ActionsRecord). at_name c.args.key.now i.keys ≡ Some c.args.slot) (sym c.self.view_is) c.requires.at in
    slot_there index c.self.invariant c.args.key.now c.args.slot at

pub invariant_of-self : goal.invariant_of-self
invariant_of-self c =
    let index : ActionsRecord = record { keys = c.self.inside.keys.entries; uploads = c.self.inside.uploads.entries; table = c.self.inside.table; slots = c.self.inside.queue } in
    let at = subst (λ (i : ActionsRecord). at_name c.args.key.now i.keys ≡ Some c.args.slot) (sym c.self.view_is) c.requires.at in
    tied_replaced index c.self.invariant c.args.key.now c.args.slot at c.args.place c.requires.version c.replace.new.self c.replace.ensures

pub returns : goal.returns
returns c =
    let index : ActionsRecord = record { keys = c.self.inside.keys.entries; uploads = c.self.inside.uploads.entries; table = c.self.inside.table; slots = c.self.inside.queue } in
    let at = subst (λ (i : ActionsRecord). at_name c.args.key.now i.keys ≡ Some c.args.slot) (sym c.self.view_is) c.requires.at in
    let after : ActionsRecord = record { keys = c.self.inside.keys.entries; uploads = c.self.inside.uploads.entries; table = c.self.inside.table; slots = c.replace.new.self } in
    subst (λ i. SetsNextOnKey i after c.args.key.now (Some (candidate_of c.args.key.now c.args.place))) c.self.view_is
    (sets_replaced index c.self.invariant c.args.key.now c.args.slot at c.args.place c.requires.version c.replace.new.self c.replace.ensures)
