-- What is heard of a request.
use Rattle.std.specs.Prelude.{◌≡◌, Bool, IsSomeAnd}
use Rattle.http_asks.specs.Faults.{refused_of}
use Rattle.http_asks.specs.Meaning.{Meant, asks, refuses}
use Rattle.http_asks.specs.declared.reader.Heard.{Heard}
use Rattle.http_asks.specs.declared.reader.Heard.TheVariants.{Asked, Bad, End}

-- what was heard has a meaning with this property, and ends the session if and only if last is true
abbrev pub IsHeard : (Meant → Type 0) → Bool → Heard → Type 0
IsHeard Means last (Asked ask ends) = Means (asks ask) × (ends ≡ last)
IsHeard Means last (Bad bad ends) = IsSomeAnd (refused_of bad) (λ broken. Means (refuses broken)) × (ends ≡ last)
IsHeard Means last End = ⊥
