use Rattle.std.proofs.Common.{◌≡◌, flat_map}
use Rattle.due_core.specs.Search.{with_each, key_candidates}
use Rattle.due_core.proofs.walk.stacks.Given as goal

-- the stacks that are left are looked at after those that were
abbrev pub invariant-loop-key : goal.invariant-loop-key
invariant-loop-key l =
    with_each l.setting.t l.kept (flat_map (key_candidates l.setting l.rules) l.key-iterator)
    ≡ with_each l.setting.t l.fn.kept (flat_map (key_candidates l.setting l.rules) l.bucket.stacks)
