-- Texts by their names.
use Rattle.std.specs.Prelude.{ℕ, List, map}
use Rattle.std.specs.Borrow.{Bor}
use Rattle.office_base.specs.Tags.{Tag}

-- a name and its text
abbrev pub Named : Type 0
Named = Bor (List ℕ) × Bor (List ℕ)

abbrev pub pair_of : Named → Tag
pair_of e = (e.0.now, e.1.now)

-- names with their texts, as pairs
abbrev pub pairs_of : List Named → List Tag
pairs_of es = map pair_of es
