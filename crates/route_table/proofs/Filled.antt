-- The pieces of a pattern, with parts in their places.
use Rattle.std.proofs.Common.{◌≡◌, ℕ, ◌+◌, List, [], ◌∷◌, drop, get_or, refl, sym, ap, ◌∙◌}
use Rattle.route_table.specs.Paths.{Piece, word, segment, remainder}
use Rattle.route_table.specs.Patterns.{Shape, a_word, a_segment, a_remainder, shapes_of, parts_between, HasPattern}
use Rattle.route_table.proofs.Taken.{drop_next, get_next}

-- the pieces with these parts, from the part at this place on
abbrev pub filled : List Shape → List (List ℕ) → ℕ → List Piece
filled [] parts n = []
filled (a_word text ∷ pattern) parts n = word text ∷ filled pattern parts n
filled (a_segment ∷ pattern) parts n = segment (get_or parts n []) ∷ filled pattern parts (n + 1)
filled (a_remainder ∷ pattern) parts n = remainder (get_or parts n []) ∷ filled pattern parts (n + 1)

pub filled_shapes : (pattern : List Shape) (parts : List (List ℕ)) (n : ℕ) → shapes_of (filled pattern parts n) ≡ pattern
filled_shapes [] parts n = refl
filled_shapes (a_word text ∷ pattern) parts n = ap (λ (p : List Shape). a_word text ∷ p) (filled_shapes pattern parts n)
filled_shapes (a_segment ∷ pattern) parts n = ap (λ (p : List Shape). a_segment ∷ p) (filled_shapes pattern parts (n + 1))
filled_shapes (a_remainder ∷ pattern) parts n = ap (λ (p : List Shape). a_remainder ∷ p) (filled_shapes pattern parts (n + 1))

filled_from : (pieces : List Piece) (parts : List (List ℕ)) (n : ℕ) → drop n parts ≡ parts_between pieces → filled (shapes_of pieces) parts n ≡ pieces
filled_from [] parts n e = refl
filled_from (word text ∷ pieces) parts n e = ap (λ (p : List Piece). word text ∷ p) (filled_from pieces parts n e)
filled_from (segment text ∷ pieces) parts n e =
    ap (λ (t : List ℕ). segment t ∷ filled (shapes_of pieces) parts (n + 1)) (get_next [] n parts text (parts_between pieces) e)
    ∙ ap (λ (p : List Piece). segment text ∷ p) (filled_from pieces parts (n + 1) (drop_next n parts text (parts_between pieces) e))
filled_from (remainder text ∷ pieces) parts n e =
    ap (λ (t : List ℕ). remainder t ∷ filled (shapes_of pieces) parts (n + 1)) (get_next [] n parts text (parts_between pieces) e)
    ∙ ap (λ (p : List Piece). remainder text ∷ p) (filled_from pieces parts (n + 1) (drop_next n parts text (parts_between pieces) e))

-- a path that has a pattern is spelled by the pattern's pieces with its parts
pub is_filled : (pattern : List Shape) (parts : List (List ℕ)) (path : List ℕ) (has : HasPattern pattern parts path) → has.pieces ≡ filled pattern parts 0
is_filled pattern parts path has =
    sym (filled_from has.pieces parts 0 (sym has.has_parts)) ∙ ap (λ (p : List Shape). filled p parts 0) has.has_shapes
