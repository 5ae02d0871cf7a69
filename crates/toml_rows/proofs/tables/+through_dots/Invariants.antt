use Rattle.std.proofs.Common.{length}
use Rattle.toml_rows.proofs.tables.+through_dots.Given as goal

abbrev pub decreases-through_dots : goal.decreases-through_dots
decreases-through_dots l = length l.path.now
