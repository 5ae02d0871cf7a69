use Rattle.std.proofs.Common.{◌≡◌, ◌+◌, ◌/◌, ◌<◌, [], ◌∷◌, ◌++◌, subst, length, arith, ap, sym, ◌∙◌, length-append}
use Rattle.std.specs.Prelude.{Some, None}
use Rattle.due_index.specs.Queue.{slot_at, IsPut}
use Rattle.due_index.specs.Tournament.{IsTournament, IsTournamentOff}
use Rattle.due_index.proofs.Tournaments.{after_more, put_behind, nothing_behind}
use Rattle.due_index.proofs.queue.DueQueue.append.Goals as goal

pub rise-requires-clause-below : goal.rise-requires-clause-below
rise-requires-clause-below c =
    let slots : c.deref-2.result.now ≡ c.self.inside.slots.items ++ Some c.args.held ∷ [] =
    c.deref-2.ensures.value ∙ c.push_reserved.ensures.items ∙ ap (λ s. s ++ Some c.args.held ∷ []) c.reserve.ensures.items in
    let nodes : c.deref_mut.result.now ≡ c.make_room.new.nodes.items = c.deref_mut.ensures.value in
    let whole : IsTournament c.self.inside.slots.items c.make_room.new.nodes.items =
    subst (λ s. IsTournament s c.make_room.new.nodes.items) c.deref.ensures.value c.make_room.ensures.tournament in
    let more = ap length slots in
    let one_more = length-append c.self.inside.slots.items (Some c.args.held ∷ []) in
    let room : length c.self.inside.slots.items < length c.make_room.new.nodes.items / 2 =
    subst (λ s. length s < length c.make_room.new.nodes.items / 2) c.deref.ensures.value c.in_ok-make_room.ensures.room in
    let slot : length c.self.inside.slots.items ≡ c.len-slot.result = omega arith in
    let off = after_more c.self.inside.slots.items (c.self.inside.slots.items ++ Some c.args.held ∷ []) c.make_room.new.nodes.items
    (length c.self.inside.slots.items) (Some c.args.held) whole (put_behind c.self.inside.slots.items (Some c.args.held)) room (omega arith) in
    subst (λ ns. IsTournamentOff c.deref-2.result.now ns (length ns / 2 + c.len-slot.result)) (sym nodes)
    (subst (λ ss. IsTournamentOff ss c.make_room.new.nodes.items (length c.make_room.new.nodes.items / 2 + c.len-slot.result)) (sym slots)
    (subst (λ n. IsTournamentOff (c.self.inside.slots.items ++ Some c.args.held ∷ []) c.make_room.new.nodes.items (length c.make_room.new.nodes.items / 2 + n)) slot off))

pub returns-clause-ok : goal.returns-clause-ok
returns-clause-ok c =
    let slots : c.deref-2.result.now ≡ c.self.inside.slots.items ++ Some c.args.held ∷ [] =
    c.deref-2.ensures.value ∙ c.push_reserved.ensures.items ∙ ap (λ s. s ++ Some c.args.held ∷ []) c.reserve.ensures.items in
    let more = ap length slots in
    let one_more = length-append c.self.inside.slots.items (Some c.args.held ∷ []) in
    let slot : length c.self.inside.slots.items ≡ c.len-slot.result = omega arith in
    let all : c.self.inside.slots.items ++ Some c.args.held ∷ [] ≡ c.push_reserved.new.self.items = sym slots ∙ c.deref-2.ensures.value in
    let empty : slot_at c.len-slot.result c.self.inside.slots.items ≡ None =
    subst (λ n. slot_at n c.self.inside.slots.items ≡ None) slot (nothing_behind c.self.inside.slots.items) in
    let put : IsPut c.self.inside.slots.items c.push_reserved.new.self.items c.len-slot.result (Some c.args.held) =
    subst (λ ss. IsPut c.self.inside.slots.items ss c.len-slot.result (Some c.args.held)) all
    (subst (λ n. IsPut c.self.inside.slots.items (c.self.inside.slots.items ++ Some c.args.held ∷ []) n (Some c.args.held)) slot (put_behind c.self.inside.slots.items (Some c.args.held))) in (
      subst (λ s. slot_at c.len-slot.result s ≡ None) c.self.view_is empty,
      subst (λ s. IsPut s c.push_reserved.new.self.items c.len-slot.result (Some c.args.held)) c.self.view_is put,
    )
