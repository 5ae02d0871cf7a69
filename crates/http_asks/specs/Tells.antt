-- What was heard at the front of a stream.
use Rattle.std.specs.Prelude.{◌≡◌, ℕ, Bool, true, List, Option, IsSomeAnd, IfSome, Result, Ok, Err, ⊤}
use Rattle.std.specs.Io.KnownBytes.{IsAtEnd}
use Rattle.http_asks.specs.Faults.{refused_of}
use Rattle.http_asks.specs.Meaning.{Refused, in_framing, asks, refuses}
use Rattle.http_asks.specs.Streams.{StandsItem}
use Rattle.http_asks.specs.declared.reader.Heard.{Heard}
use Rattle.http_asks.specs.declared.reader.Heard.TheVariants.{Asked, Bad, End}

-- the stream begins with a message that is refused so, and goes on as the later stream; a message with refused framing
-- has no end, and is the last of its session
abbrev pub TellsRefused : Option (List ℕ) → Refused → Bool → Option (List ℕ) → Type 0
TellsRefused before (in_framing bad) last after =
    StandsItem before (refuses (in_framing bad)) last before × (last ≡ true)
TellsRefused before broken last after = StandsItem before (refuses broken) last after

-- the stream begins with what was heard, and goes on as the later stream; running out of memory is never heard as a
-- refusal
abbrev pub TellsHeard : Option (List ℕ) → Heard → Option (List ℕ) → Type 0
TellsHeard before (Asked ask last) after = StandsItem before (asks ask) last after
TellsHeard before (Bad bad last) after =
    IsSomeAnd (refused_of bad) (λ broken. TellsRefused before broken last after)
TellsHeard before End after = IsAtEnd before

-- P, unless the rule is one of framing
abbrev pub IfFramed : Refused → Type 0 → Type 0
IfFramed (in_framing bad) P = ⊤
IfFramed broken P = P

-- P, if a request was heard, well framed
abbrev pub OnFramed : {E : Type 0} → Result Heard E → Type 0 → Type 0
OnFramed (Ok (Asked ask last)) P = P
OnFramed (Ok (Bad bad last)) P = IfSome (refused_of bad) (λ broken. IfFramed broken P)
OnFramed (Ok End) P = ⊤
OnFramed (Err e) P = ⊤
