-- What a path is spelled by: pieces, with a slash before each (RFC 3986, "Path").
use Rattle.std.specs.Prelude.{◌≡◌, ℕ, ◌<◌, Bool, false, ◌==◌, List, [], ◌∷◌, length, flat_map}
use Rattle.std.specs.List.{list_any}

-- a piece of a path, after a slash: a fixed word, a segment, or the whole remainder
pub data Piece : Type 0 where
  word : List ℕ → Piece
  segment : List ℕ → Piece
  remainder : List ℕ → Piece

-- the text has this byte
abbrev pub has_byte : ℕ → List ℕ → Bool
has_byte byte text = list_any (λ b. b == byte) text

-- a segment that is not empty (RFC 3986, "Path": segment-nz): one byte or more, and no slash
pub record IsPart (part : List ℕ) : Type 0 where
  pub some : 0 < length part
  pub plain : has_byte 47 part ≡ false

-- the bytes of a piece, without the slash before it
abbrev pub piece_text : Piece → List ℕ
piece_text (word text) = text
piece_text (segment text) = text
piece_text (remainder text) = text

-- the pieces one after another, with a slash before each
abbrev pub path_of : List Piece → List ℕ
path_of pieces = flat_map (λ piece. 47 ∷ piece_text piece) pieces

-- segments are not empty and have no slash, and a remainder is not empty
abbrev pub AreInRange : List Piece → Type 0
AreInRange [] = Unit {0}
AreInRange (word text ∷ pieces) = AreInRange pieces
AreInRange (segment text ∷ pieces) = IsPart text × AreInRange pieces
AreInRange (remainder text ∷ pieces) = (0 < length text) × AreInRange pieces
