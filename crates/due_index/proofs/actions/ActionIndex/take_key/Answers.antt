use Rattle.std.proofs.Common.{◌≡◌, subst, sym, false}
use Rattle.std.specs.Prelude.{Some, None}
use Rattle.std.specs.Ordering.{is_eq}
use Rattle.office_base.specs.Maps.{at_name, bytes_cmp}
use Rattle.due_index.specs.Actions.{ActionsRecord, SetsNextOnKey, KeepsNext, IsOfKey, IsTied}
use Rattle.due_index.proofs.Tournaments.{slot_within}
use Rattle.due_index.proofs.Renewing.{sets_taken, tied_taken, version_of, not_at, back_again, keeps_again, tied_again}
use Rattle.due_index.proofs.actions.ActionIndex.take_key.Goals as goal

pub invariant_of-self-in-Ok : goal.invariant_of-self-in-Ok
invariant_of-self-in-Ok c =
    let index : ActionsRecord = record { keys = c.self.inside.keys.entries; uploads = c.self.inside.uploads.entries; table = c.self.inside.table; slots = c.self.inside.queue } in
    let absent = subst (λ (i : ActionsRecord). at_name c.args.key.now i.keys ≡ None) (sym c.self.view_is) c.requires.absent in
    let found = c.in_ok-on_key.ensures in
    let of_key : IsOfKey c.args.key.now c.in_ok-on_key.field-0 = subst (λ d. IsOfKey c.args.key.now d) (sym found) (version_of c.args.key.now c.args.place c.requires.version) in
    let at : at_name c.args.key.now c.insert.new.self.entries ≡ Some c.in_ok-slot.slot =
    subst (λ k. at_name k c.insert.new.self.entries ≡ Some c.in_ok-slot.slot) c.in_ok-known.ensures c.in-Ok.ensures.updates.1 in
    tied_taken index c.self.invariant c.args.key.now absent c.in_ok-slot.slot c.in_ok-slot.ensures.ok.0 c.add.new.self c.in_ok-on_key.field-0 of_key c.in_ok-slot.ensures.ok.1
    c.insert.new.self.entries at (λ k apart. c.in-Ok.ensures.updates.2 k
    (subst (λ n. is_eq (bytes_cmp n k) ≡ false) (sym c.in_ok-known.ensures) (not_at c.args.key.now k apart)))

pub returns-in-Ok-clause-ok : goal.returns-in-Ok-clause-ok
returns-in-Ok-clause-ok c =
    let index : ActionsRecord = record { keys = c.self.inside.keys.entries; uploads = c.self.inside.uploads.entries; table = c.self.inside.table; slots = c.self.inside.queue } in
    let absent = subst (λ (i : ActionsRecord). at_name c.args.key.now i.keys ≡ None) (sym c.self.view_is) c.requires.absent in
    let found = c.in_ok-on_key.ensures in
    let of_key : IsOfKey c.args.key.now c.in_ok-on_key.field-0 = subst (λ d. IsOfKey c.args.key.now d) (sym found) (version_of c.args.key.now c.args.place c.requires.version) in
    let at : at_name c.args.key.now c.insert.new.self.entries ≡ Some c.in_ok-slot.slot =
    subst (λ k. at_name k c.insert.new.self.entries ≡ Some c.in_ok-slot.slot) c.in_ok-known.ensures c.in-Ok.ensures.updates.1 in
    let after : ActionsRecord = record { keys = c.insert.new.self.entries; uploads = c.self.inside.uploads.entries; table = c.self.inside.table; slots = c.add.new.self } in
    subst (λ d. SetsNextOnKey c.args.self.now after c.args.key.now (Some d)) found
    (subst (λ i. SetsNextOnKey i after c.args.key.now (Some c.in_ok-on_key.field-0)) c.self.view_is
    (sets_taken index c.self.invariant c.args.key.now absent c.in_ok-slot.slot c.in_ok-slot.ensures.ok.0 c.add.new.self c.in_ok-on_key.field-0 of_key c.in_ok-slot.ensures.ok.1
    c.insert.new.self.entries at (λ k apart. c.in-Ok.ensures.updates.2 k
    (subst (λ n. is_eq (bytes_cmp n k) ≡ false) (sym c.in_ok-known.ensures) (not_at c.args.key.now k apart)))))

pub clear-requires : goal.clear-requires
clear-requires c = slot_within c.add.new.self c.in_ok-slot.slot c.in_ok-on_key.field-0 c.in_ok-slot.ensures.ok.1.here

pub invariant_of-self-in-Err : goal.invariant_of-self-in-Err
invariant_of-self-in-Err c =
    let index : ActionsRecord = record { keys = c.self.inside.keys.entries; uploads = c.self.inside.uploads.entries; table = c.self.inside.table; slots = c.self.inside.queue } in
    let same = back_again index c.add.new.self c.clear.new.self c.in_ok-slot.slot c.in_ok-on_key.field-0 c.in_ok-slot.ensures.ok.0 c.in_ok-slot.ensures.ok.1 c.clear.ensures in
    subst (λ ks. IsTied (record { keys = ks; uploads = c.self.inside.uploads.entries; table = c.self.inside.table; slots = c.clear.new.self })) (sym c.in-Err.ensures.err)
    (tied_again index c.self.invariant c.clear.new.self same)

pub returns-in-Err-clause-err : goal.returns-in-Err-clause-err
returns-in-Err-clause-err c =
    let index : ActionsRecord = record { keys = c.self.inside.keys.entries; uploads = c.self.inside.uploads.entries; table = c.self.inside.table; slots = c.self.inside.queue } in
    let same = back_again index c.add.new.self c.clear.new.self c.in_ok-slot.slot c.in_ok-on_key.field-0 c.in_ok-slot.ensures.ok.0 c.in_ok-slot.ensures.ok.1 c.clear.ensures in
    subst (λ i. KeepsNext i (record { keys = c.insert.new.self.entries; uploads = c.self.inside.uploads.entries; table = c.self.inside.table; slots = c.clear.new.self })) c.self.view_is
    (subst (λ ks. KeepsNext index (record { keys = ks; uploads = c.self.inside.uploads.entries; table = c.self.inside.table; slots = c.clear.new.self })) (sym c.in-Err.ensures.err)
    (keeps_again index c.self.invariant c.clear.new.self same))
