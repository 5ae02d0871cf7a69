-- Whether some bytes begin with a request's head, may still become one, or cannot.
use Rattle.std.specs.Prelude.{ℕ, ◌≤◌, List, take, ⊤, Bool, not, ◌==◌}
use Rattle.httparse.specs.Grammar.{HasNoRequest, MayBecomeRequest}
use Rattle.httparse.specs.declared.spans.RequestSpans.{RequestSpans}
use Rattle.http_wire.specs.declared.head.Front.{Front}
use Rattle.http_wire.specs.declared.head.Front.TheVariants.{Whole, Open, Hopeless}

-- the bytes do not begin with a head, and no bytes after them make them one
pub record IsHopeless (bytes : List ℕ) : Type 0 where
  pub none : HasNoRequest bytes
  pub closed : ¬ (MayBecomeRequest bytes)

-- the bytes do not begin with a head yet, but bytes after them may make them one
pub record IsOpen (bytes : List ℕ) : Type 0 where
  pub none : HasNoRequest bytes
  pub may : MayBecomeRequest bytes

-- one of the prefixes of the bytes, of at most limit bytes, is hopeless
abbrev pub HasHopelessFront : ℕ → List ℕ → Type 0
HasHopelessFront limit bytes = (n : ℕ) × (n ≤ limit) × IsHopeless (take n bytes)

-- any byte but a space
abbrev pub no_space : ℕ → Bool
no_space b = not (b == 32)

-- P of the spans, if the whole head is there
abbrev pub OnWhole : Front → (RequestSpans → Type 0) → Type 0
OnWhole (Whole spans) P = P spans
OnWhole Open P = ⊤
OnWhole Hopeless P = ⊤
