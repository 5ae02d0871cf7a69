-- Patterns: which paths match one, and which patterns have no path in common.
use Rattle.std.specs.Prelude.{◌≡◌, ℕ, Bool, true, false, not, ◌&&◌, ◌||◌, ◌==◌, ltb, List, [], ◌∷◌, map, nat_eq}
use Rattle.std.specs.List.{list_all}
use Rattle.std.specs.Cmp.Lexicographic.{pointwise}
use Rattle.route_table.specs.declared.shape.Shape.{Shape as Given}
use Rattle.route_table.specs.declared.shape.Shape.TheVariants.{Word, Segment, Remainder}
use Rattle.route_table.specs.Paths.{Piece, word, segment, remainder, path_of, AreInRange}

-- the shape of a piece: this word, any segment, or the whole remainder
pub data Shape : Type 0 where
  a_word : List ℕ → Shape
  a_segment : Shape
  a_remainder : Shape

-- the shape of this piece: its word, any segment, or the whole remainder
abbrev pub shape_of : Piece → Shape
shape_of (word text) = a_word text
shape_of (segment text) = a_segment
shape_of (remainder text) = a_remainder

-- the shapes of some pieces, in their order
abbrev pub shapes_of : List Piece → List Shape
shapes_of pieces = map shape_of pieces

-- the parts of some pieces: the texts of those that are not words
abbrev pub parts_between : List Piece → List (List ℕ)
parts_between [] = []
parts_between (word text ∷ pieces) = parts_between pieces
parts_between (segment text ∷ pieces) = text ∷ parts_between pieces
parts_between (remainder text ∷ pieces) = text ∷ parts_between pieces

-- the path has the pattern, with these parts: it is spelled by pieces of the pattern's shapes that have these parts
pub record HasPattern (pattern : List Shape) (parts : List (List ℕ)) (path : List ℕ) : Type 0 where
  pub pieces : List Piece
  pub has_shapes : shapes_of pieces ≡ pattern
  pub has_parts : parts_between pieces ≡ parts
  pub spelled : path ≡ path_of pieces
  pub in_range : AreInRange pieces

-- a byte of a word: ASCII, and no slash and no brace
abbrev pub is_word_byte : ℕ → Bool
is_word_byte b = ltb b 128 && (not (b == 47) && (not (b == 123) && not (b == 125)))

-- these shapes are a pattern: its words have only bytes of a word, and nothing follows a remainder
abbrev pub is_pattern : List Shape → Bool
is_pattern [] = true
is_pattern (a_word text ∷ pattern) = list_all is_word_byte text && is_pattern pattern
is_pattern (a_segment ∷ pattern) = is_pattern pattern
is_pattern (a_remainder ∷ []) = true
is_pattern (a_remainder ∷ shape ∷ pattern) = false

-- whether two shapes at one place tell their patterns apart: different words do; otherwise the shapes after them
-- decide; a remainder never does
abbrev pub are_apart_at : Shape → Shape → Bool → Bool
are_apart_at (a_word text) (a_word other) later = not (pointwise nat_eq text other) || later
are_apart_at (a_word text) a_segment later = later
are_apart_at a_segment (a_word other) later = later
are_apart_at a_segment a_segment later = later
are_apart_at (a_word text) a_remainder later = false
are_apart_at a_segment a_remainder later = false
are_apart_at a_remainder (a_word other) later = false
are_apart_at a_remainder a_segment later = false
are_apart_at a_remainder a_remainder later = false

-- two patterns are apart: they have different words at one place, or one ends before the other, with no remainder
-- before
abbrev pub are_apart : List Shape → List Shape → Bool
are_apart [] [] = false
are_apart [] (shape ∷ other) = true
are_apart (shape ∷ pattern) [] = true
are_apart (shape ∷ pattern) (also ∷ other) = are_apart_at shape also (are_apart pattern other)

-- each is a pattern, and any two of them are apart
abbrev pub are_disjoint : List (List Shape) → Bool
are_disjoint [] = true
are_disjoint (pattern ∷ patterns) =
    is_pattern pattern && (list_all (λ other. are_apart pattern other) patterns && are_disjoint patterns)

-- the shape, as specs have it, of a shape in Rust
abbrev pub shape_in : Given → Shape
shape_in (Word text) = a_word text.now
shape_in Segment = a_segment
shape_in Remainder = a_remainder

-- the shapes of a whole slice, in order
abbrev pub pattern_in : List Given → List Shape
pattern_in shapes = map shape_in shapes
