use Rattle.std.proofs.Common.{List, sym, ap, ◌∙◌, arith}
use Rattle.std.proofs.lemmas.Option.{slice_get_within}
use Rattle.plain_office.specs.Office.{Booked}
use Rattle.stay_explain.specs.Plans.{end_stays}
use Rattle.stay_explain.specs.Rows.{item_of}
use Rattle.stay_explain.proofs.Owners.{owner_is, owner_itself}
use Rattle.stay_explain.proofs.Indexes.{is_there, index_none, index_ended, rows_ended, rows_same}
use Rattle.stay_explain.proofs.stays.Stays.end.Goals as goal

pub invariant_of-self : goal.invariant_of-self
invariant_of-self c =
    let o = c.args.owner.now in
    let found = sym c.remove.ensures.value ∙ c.in-Some.is in
    let there = is_there c.self.inside.rows.items c.in-Some.place c.in-Some-get_mut.row.now _ (c.self.invariant.found o c.in-Some.place found).there c.in-Some-get_mut.ensures.value in
    index_ended c.self.inside.rows.items _ _ o _ (owner_is o) (owner_itself o) c.self.invariant c.remove.ensures.updates.0 c.in-Some.place found c.in-Some-get_mut.row.now there c.args.at

pub invariant_of-self-in_default-get_mut : goal.invariant_of-self-in_default-get_mut
invariant_of-self-in_default-get_mut c =
    let there = (c.self.invariant.found c.args.owner.now c.in-Some.place (sym c.remove.ensures.value ∙ c.in-Some.is)).there in
    absurd (omega (arith, slice_get_within c.self.inside.rows.items c.in-Some.place _ there, c.in_default-get_mut.ensures.item.3))

pub invariant_of-self-in_default : goal.invariant_of-self-in_default
invariant_of-self-in_default c =
    let o = c.args.owner.now in
    index_none c.self.inside.rows.items _ _ o _ (owner_is o) (owner_itself o) c.self.invariant c.remove.ensures.updates.0 (sym c.remove.ensures.value ∙ c.in_default.is)

pub returns-in-Some-get_mut : goal.returns-in-Some-get_mut
returns-in-Some-get_mut c =
    let o = c.args.owner.now in
    let found = sym c.remove.ensures.value ∙ c.in-Some.is in
    let there = is_there c.self.inside.rows.items c.in-Some.place c.in-Some-get_mut.row.now _ (c.self.invariant.found o c.in-Some.place found).there c.in-Some-get_mut.ensures.value in
    rows_ended c.self.inside.rows.items _ _ o _ (owner_is o) (owner_itself o) c.self.invariant c.remove.ensures.updates.0 c.in-Some.place found c.in-Some-get_mut.row.now there c.args.at
    ∙ ap (λ (l : List Booked). end_stays o.key (item_of o.item) c.args.at l) c.self.view_is

pub returns-in_default-get_mut : goal.returns-in_default-get_mut
returns-in_default-get_mut c =
    let there = (c.self.invariant.found c.args.owner.now c.in-Some.place (sym c.remove.ensures.value ∙ c.in-Some.is)).there in
    absurd (omega (arith, slice_get_within c.self.inside.rows.items c.in-Some.place _ there, c.in_default-get_mut.ensures.item.3))

pub returns-in_default : goal.returns-in_default
returns-in_default c =
    let o = c.args.owner.now in
    rows_same c.self.inside.rows.items _ _ o _ (owner_is o) (owner_itself o) c.self.invariant c.remove.ensures.updates.0 c.args.at (sym c.remove.ensures.value ∙ c.in_default.is)
    ∙ ap (λ (l : List Booked). end_stays o.key (item_of o.item) c.args.at l) c.self.view_is
