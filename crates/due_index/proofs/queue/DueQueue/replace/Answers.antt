use Rattle.std.proofs.Common.{◌≡◌, ◌+◌, ◌/◌, subst, length, sym}
use Rattle.std.specs.Prelude.{IsSome, Some}
use Rattle.due_index.specs.Places.{candidate_of}
use Rattle.due_index.specs.Queue.{slot_at, IsPut}
use Rattle.due_index.specs.Tournament.{IsTournamentOff}
use Rattle.due_index.proofs.Tournaments.{after_put, some_of, slot_within}
use Rattle.due_index.proofs.queue.DueQueue.replace.Goals as goal

pub rise-requires-clause-below : goal.rise-requires-clause-below
rise-requires-clause-below c =
    let slots : c.put_in.new.slots.items ≡ c.deref.result.now = sym c.deref.ensures.value in
    let nodes : c.self.inside.nodes.items ≡ c.deref_mut.result.now = sym c.deref_mut.ensures.value in
    let there : IsSome (slot_at c.args.slot c.self.inside.slots.items) = subst (λ s. IsSome (slot_at c.args.slot s)) (sym c.self.view_is) c.requires in
    let held = some_of (slot_at c.args.slot c.self.inside.slots.items) there in
    let put : IsPut c.self.inside.slots.items c.put_in.new.slots.items c.args.slot (Some (candidate_of held.0.action.key c.args.place)) = c.put_in.ensures.put held.0 held.1 in
    let same : length c.put_in.new.slots.items ≡ length c.self.inside.slots.items = c.put_in.ensures.size in
    subst (λ ns. IsTournamentOff c.deref.result.now ns (length ns / 2 + c.args.slot)) nodes
    (subst (λ ss. IsTournamentOff ss c.self.inside.nodes.items (length c.self.inside.nodes.items / 2 + c.args.slot)) slots
    (after_put c.self.inside.slots.items c.put_in.new.slots.items c.self.inside.nodes.items c.args.slot (Some (candidate_of held.0.action.key c.args.place)) c.self.invariant put
    (slot_within c.self.inside.slots.items c.args.slot held.0 held.1) same))
