use Rattle.std.proofs.Common.{◌≡◌, ◌+◌, ◌/◌, ◌<◌, subst, length, set, arith, ap}
use Rattle.due_index.specs.Queue.{IsPut}
use Rattle.due_index.specs.Tournament.{IsTournamentOff}
use Rattle.due_index.proofs.Tournaments.{is_put, after_put}
use Rattle.std.proofs.lemmas.List.{length-set}
use Rattle.due_index.proofs.queue.DueQueue.write.Goals as goal

pub rise-requires-clause-below : goal.rise-requires-clause-below
rise-requires-clause-below c =
    let slots : set c.self.inside.slots.items c.args.slot c.args.held ≡ c.deref.result.now = cc in
    let nodes : c.self.inside.nodes.items ≡ c.deref_mut.result.now = cc in
    let there : length c.self.inside.slots.items ≡ length c.args.self.now = ap length c.self.view_is in
    let less : c.args.slot < length c.self.inside.slots.items = omega arith in
    subst (λ ns. IsTournamentOff c.deref.result.now ns (length ns / 2 + c.args.slot)) nodes
    (subst (λ ss. IsTournamentOff ss c.self.inside.nodes.items (length c.self.inside.nodes.items / 2 + c.args.slot)) slots
    (after_put c.self.inside.slots.items (set c.self.inside.slots.items c.args.slot c.args.held) c.self.inside.nodes.items c.args.slot c.args.held c.self.invariant
    (is_put c.self.inside.slots.items c.args.slot c.args.held less) less (length-set c.self.inside.slots.items c.args.slot c.args.held)))

pub returns : goal.returns
returns c =
    let there : length c.self.inside.slots.items ≡ length c.args.self.now = ap length c.self.view_is in
    subst (λ s. IsPut s (set c.self.inside.slots.items c.args.slot c.args.held) c.args.slot c.args.held) c.self.view_is
    (is_put c.self.inside.slots.items c.args.slot c.args.held (omega arith))
