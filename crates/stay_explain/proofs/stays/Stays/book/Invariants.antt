use Rattle.std.proofs.Common.{◌≡◌, drop, map}
use Rattle.stay_explain.specs.Plans.{after_ends}
use Rattle.stay_explain.specs.Rows.{item_of}
use Rattle.stay_explain.proofs.stays.Stays.book.Given as goal

-- the ends that are left come after those that are booked, all under one key
abbrev pub invariant-loop-item : goal.invariant-loop-item
invariant-loop-item l =
    (l.owner.key ≡ l.initial.owner.key)
    × (after_ends l.initial.owner.key (map item_of (drop l.item-index l.item-items)) l.at l.self ≡ after_ends l.initial.owner.key (map item_of l.item-items) l.at l.initial.self)
