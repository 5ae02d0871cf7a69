-- How many bytes a source gives in all.
use Rattle.std.specs.Prelude.{◌≡◌, ℕ, ◌+◌, ◌<◌, ◌≤◌, List, ◌++◌, length, Option, Some, None, option_map, ⊤}
use Rattle.std.specs.Io.KnownBytes.{Consumes, prepend_known}
use Rattle.http_wire.specs.Held.{head_room, take_limit}
use Rattle.http_wire.specs.Messages.{IsUnsettled, body_room}

-- the source gave this many bytes
abbrev pub GaveBytes : Option (List ℕ) → Option (List ℕ) → ℕ → Type 0
GaveBytes left_old left_new count = (given : List ℕ) × (length given ≡ count) × Consumes left_old left_new given

-- the length of the whole source in bytes, if it is known: the bytes taken and those left
abbrev pub total_of : ℕ → Option (List ℕ) → Option ℕ
total_of taken left = option_map (λ (xs : List ℕ). taken + length xs) left

-- the source ends before the limit, if its length is known
abbrev pub IsUnder : Option ℕ → Type 0
IsUnder None = ⊤
IsUnder (Some total) = total < take_limit

-- As many bytes as the limit were taken from a source of this length. `rest` is the stream after the messages; its
-- front was taken and settles nothing.
pub record Spends (total : ℕ) (rest : List ℕ) : Type 0 where
  pub front : List ℕ
  pub more : List ℕ
  pub are : rest ≡ front ++ more
  pub limit : total ≡ take_limit + length more
  pub unsettled : IsUnsettled front

-- the same if the length is known
abbrev pub IsSpent : Option ℕ → Option (List ℕ) → Type 0
IsSpent None rest = ⊤
IsSpent (Some total) None = ⊥
IsSpent (Some total) (Some rest) = Spends total rest

-- if the length is known: the limit was not reached, or the bytes taken of the rest settle something
abbrev pub IsUnspent : Option ℕ → Option (List ℕ) → Type 0
IsUnspent None rest = ⊤
IsUnspent (Some total) None = ⊤
IsUnspent (Some total) (Some rest) = ¬ (Spends total rest)

-- ---- what is left of a source

-- what a source has left at the start of a session and at its end, if it is known
pub record StreamEnds : Type 0 where
  pub stream : Option (List ℕ)
  pub left : Option (List ℕ)

-- the first left at the start, the second at the end
abbrev pub stream_ends : Option (List ℕ) → Option (List ℕ) → StreamEnds
stream_ends stream left = record { stream = stream; left = left }

-- of this rest of a stream no more than a head's room was taken
abbrev pub IsHeldBack : Option (List ℕ) → Option (List ℕ) → Type 0
IsHeldBack rest left = (held : List ℕ) × (length held ≤ head_room) × (rest ≡ prepend_known held left)

-- of this rest of a stream no more was taken than a head and a body have room for
abbrev pub IsTakenAhead : Option (List ℕ) → Option (List ℕ) → Type 0
IsTakenAhead None left = ⊤
IsTakenAhead (Some rest) None = ⊥
IsTakenAhead (Some rest) (Some left) =
    (front : List ℕ) × (length front ≤ head_room + body_room) × (rest ≡ front ++ left)

-- what was taken of this rest of a stream settles nothing: no whole message is among it
abbrev pub SettlesNothing : Option (List ℕ) → Option (List ℕ) → Type 0
SettlesNothing None left = ⊤
SettlesNothing (Some rest) None = ⊥
SettlesNothing (Some rest) (Some left) = (front : List ℕ) × IsUnsettled front × (rest ≡ front ++ left)
