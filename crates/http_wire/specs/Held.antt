-- What a buffer holds, and how it grows by what a source gives.
use Rattle.std.specs.Prelude.{◌≡◌, ℕ, ◌+◌, ◌^◌, List, ◌++◌, length, Option}
use Rattle.std.specs.Io.KnownBytes.{Consumes}
use Rattle.httparse.specs.declared.spans.HeaderSpan.{HeaderSpan}

-- the bytes taken and not yet used, the count of all bytes taken, and the spans of the fields that were read last
pub record Held : Type 0 where
  pub bytes : List ℕ
  pub taken : ℕ
  pub spans : List HeaderSpan

-- the most bytes that a buffer holds, and so the longest head, in bytes
abbrev pub head_room : ℕ
head_room = 8192

-- the most bytes that are taken from a source in all
abbrev pub take_limit : ℕ
take_limit = 2 ^ 40

-- the bytes held grew by those that the source gave
pub record Took (old new : Held) (left_old left_new : Option (List ℕ)) : Type 0 where
  pub given : List ℕ
  pub held : new.bytes ≡ old.bytes ++ given
  pub counted : new.taken ≡ old.taken + length given
  pub left : Consumes left_old left_new given

-- The source gave bytes that are counted but not held in the buffer, and P holds of them.
pub record TookPast (old new : Held) (left_old left_new : Option (List ℕ)) (P : List ℕ → Type 0) : Type 0 where
  pub given : List ℕ
  pub held : new.bytes ≡ old.bytes
  pub spans : new.spans ≡ old.spans
  pub counted : new.taken ≡ old.taken + length given
  pub left : Consumes left_old left_new given
  pub so : P given
