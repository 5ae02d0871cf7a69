-- What the lines of a report have in both forms, CSV and table.
use Rattle.std.specs.Prelude.{ℕ, List, codes, decimal}
use Rattle.office_types.specs.declared.reply.LineKind.{LineKind}
use Rattle.office_types.specs.declared.reply.LineKind.TheVariants.{Storage, Early, Transitions}
use Rattle.office_types.specs.declared.reply.Price.{Price}
use Rattle.office_types.specs.declared.reply.Price.TheVariants.{One, Tiered}

-- the name of a kind of line (own)
abbrev pub line_name : LineKind → List ℕ
line_name Storage = codes "storage"
line_name Early = codes "early"
line_name Transitions = codes "transitions"

-- a single price as its digits; the prices of tiers as a word (own)
abbrev pub price_text : Price → List ℕ
price_text (One price) = decimal price
price_text Tiered = codes "tiered"
