use Rattle.std.proofs.Common.{◌≡◌, ◌++◌, drop, flat_map}
use Rattle.forecast.specs.Lines.{class_lines}
use Rattle.forecast.proofs.lines.lines_of.Given as goal

-- the lines of the classes that are left come after those that stand there
abbrev pub invariant-loop-one : goal.invariant-loop-one
invariant-loop-one l =
    l.lines.items ++ flat_map (class_lines l.tariff l.month) (drop l.one-index l.used) ≡ flat_map (class_lines l.tariff l.month) l.used
