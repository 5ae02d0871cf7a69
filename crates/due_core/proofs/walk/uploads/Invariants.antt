use Rattle.std.proofs.Common.{◌≡◌, flat_map}
use Rattle.due_core.specs.Search.{with_each, number_candidates}
use Rattle.due_core.proofs.walk.uploads.Given as goal

-- the uploads that are left are looked at after those that were
abbrev pub invariant-loop-place : goal.invariant-loop-place
invariant-loop-place l =
    with_each l.setting.t l.kept (flat_map (number_candidates l.setting l.rules) l.place-iterator)
    ≡ with_each l.setting.t l.fn.kept (flat_map (number_candidates l.setting l.rules) l.bucket.uploads)
