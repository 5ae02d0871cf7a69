use Rattle.std.proofs.Common.{◌≡◌, ◌+◌, drop, flat_map}
use Rattle.std.specs.List.{enumerate_from}
use Rattle.due_core.specs.Search.{with_each, asked_of_version, version_candidates}
use Rattle.due_core.proofs.walk.version.Given as goal

-- the rules that are left are asked after those that were
abbrev pub invariant-loop-i : goal.invariant-loop-i
invariant-loop-i l =
    with_each l.setting.t l.kept (flat_map (asked_of_version l.setting l.key l.changed l.placed) (enumerate_from (l.i + 1) (drop l.i l.rules)))
    ≡ with_each l.setting.t l.fn.kept (version_candidates l.setting l.rules l.key l.changed l.placed)
