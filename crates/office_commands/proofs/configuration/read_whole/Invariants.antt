use Rattle.std.proofs.Common.{◌≡◌, ◌-◌, length}
use Rattle.std.specs.Io.KnownBytes.{Consumes}
use Rattle.office_commands.proofs.configuration.read_whole.Given as goal

abbrev pub invariant-taking : goal.invariant-taking
invariant-taking g l = record {
  gave : Consumes (g.S.Source.left l.fn.input) (g.S.Source.left l.input) l.bytes.items;
  stream : g.S.Source.stream l.input ≡ g.S.Source.stream l.fn.input;
  faults : g.S.Source.faults l.input ≡ g.S.Source.faults l.fn.input;
}

abbrev pub decreases-taking : goal.decreases-taking
decreases-taking g l = 1_048_577 - length l.bytes.items
