use Rattle.std.proofs.Common.{List, sym, ap, ◌∙◌, rules, refl, ◌++◌, ◌∷◌, [], None}
use Rattle.stay_explain.specs.declared.row.Row.{Row}
use Rattle.stay_explain.proofs.Owners.{owner_cmp, owner_is, owner_itself}
use Rattle.stay_explain.proofs.Indexes.{index_pushed, index_same}
use Rattle.stay_explain.proofs.stays.Stays.begin.Goals as goal

pub invariant_of-self-in-Err-1 : goal.invariant_of-self-in-Err-1
invariant_of-self-in-Err-1 c =
    index_same c.self.inside.rows.items c.reserve.new.self.items c.self.inside.places.entries c.insert.new.self.entries owner_cmp c.reserve.ensures.items c.in-Err.ensures.err c.self.invariant

pub invariant_of-self-in-Ok : goal.invariant_of-self-in-Ok
invariant_of-self-in-Ok c =
    let o = c.in_ok-kept.kept in
    index_pushed c.self.inside.rows.items c.push_reserved.new.self.items _ _ o _ (owner_is o) (owner_itself o) c.self.invariant
    c.len.result (search rules) c.in-Ok.ensures.updates.0 c.args.self.now c.self.view_is c.args.owner.key c.args.owner.item c.in_ok-kept.ensures c.requires.free
    (record { owner = c.args.owner; lines = c.args.lines; from = c.args.at; to = None }) (sym c.in_ok-kept.ensures) refl
    (c.push_reserved.ensures.items ∙ ap (λ (l : List Row). l ++ record { owner = c.args.owner; lines = c.args.lines; from = c.args.at; to = None } ∷ []) c.reserve.ensures.items)
