use Rattle.std.proofs.Common.{length}
use Rattle.toml_rows.proofs.tables.+through_header.Given as goal

abbrev pub decreases-through_header : goal.decreases-through_header
decreases-through_header l = length l.path.now
