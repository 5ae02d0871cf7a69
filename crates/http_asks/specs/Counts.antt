-- How many bytes a source gave.
use Rattle.std.specs.Prelude.{◌≡◌, ◌⊎◌, ℕ, ◌+◌, ◌<◌, List, length, Option}
use Rattle.std.specs.Io.KnownBytes.{Consumes, IsAtEnd}
use Rattle.http_wire.specs.Held.{take_limit}
use Rattle.http_wire.specs.Messages.{IsUnsettled}

-- the source gave as many bytes as the count of taken bytes grew by
pub record Given (taken_old taken_new : ℕ) (left_old left_new : Option (List ℕ)) : Type 0 where
  pub given : List ℕ
  pub counted : taken_new ≡ taken_old + length given
  pub left : Consumes left_old left_new given

-- these bytes settle what they begin with; or the source is at its end, with fewer bytes taken than the limit
abbrev pub AreEnough : ℕ → Option (List ℕ) → List ℕ → Type 0
AreEnough taken left bytes = (IsUnsettled bytes → ⊥) ⊎ ((taken < take_limit) × IsAtEnd left)
