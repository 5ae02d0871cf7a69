use Rattle.std.proofs.Common.{◌≡◌, drop}
use Rattle.std.specs.Prelude.{option_copied, None}
use Rattle.restorable.specs.Tests.{names_rise}
use Rattle.restorable.proofs.records.do_names_rise.Given as goal

abbrev pub invariant-loop-part : goal.invariant-loop-part
invariant-loop-part l = names_rise (option_copied l.before) (drop l.part-index l.parts) ≡ names_rise None l.parts
