-- What a path has in a table, as tests that compute on literals.
use Rattle.std.proofs.Common.{◌≡◌, ℕ, ◌<◌, Bool, true, false, cond, not, ◌==◌, ◌&&◌, List, [], ◌∷◌, ◌++◌, length, ltb, get_or}
use Rattle.std.proofs.Common.{refl, sym, ap, ◌∙◌, arith, length-append}
use Rattle.std.specs.List.{list_all}
use Rattle.std.proofs.lemmas.Bool.{not-true, false≢true, and_parts, and_from, ltb-true, lt-ltb, eq-eqb, ne_eqb}
use Rattle.std.proofs.lemmas.List.Folds.{list_all_at}
use Rattle.matchit.specs.Seek.{has_slash, same_text}
use Rattle.matchit.proofs.ParamLemmas.{same_text-self}
use Rattle.route_table.specs.Paths.{Piece, word, segment, remainder, path_of, has_byte, IsPart, AreInRange}
use Rattle.route_table.specs.Patterns.{Shape, a_word, a_segment, a_remainder, shapes_of, is_pattern, are_disjoint}
use Rattle.route_table.specs.Tables.{patterns_of, LeadsNowhere}
use Rattle.route_table.proofs.Complete.{plain_tail}
use Rattle.route_table.proofs.Tokens.{IsEndOrSlash}
use Rattle.route_table.proofs.Pieces.{first_word, word_whole, segment_of_part}
use Rattle.route_table.proofs.Unique.{path_ends, pattern_at, pattern_is, patterns_length}

-- ---- that pieces are in their range

abbrev pub is_part : List ℕ → Bool
is_part text = ltb 0 (length text) && not (has_byte 47 text)

abbrev pub are_in_range : List Piece → Bool
are_in_range [] = true
are_in_range (word text ∷ pieces) = are_in_range pieces
are_in_range (segment text ∷ pieces) = is_part text && are_in_range pieces
are_in_range (remainder text ∷ pieces) = ltb 0 (length text) && are_in_range pieces

part : (text : List ℕ) → is_part text ≡ true → IsPart text
part text e =
    let both = and_parts (ltb 0 (length text)) (not (has_byte 47 text)) e in
    record { some = ltb-true 0 (length text) both.0; plain = not-true (has_byte 47 text) both.1 }

pub in_range : (pieces : List Piece) → are_in_range pieces ≡ true → AreInRange pieces
in_range [] e = tt
in_range (word text ∷ pieces) e = in_range pieces e
in_range (segment text ∷ pieces) e =
    let both = and_parts (is_part text) (are_in_range pieces) e in (part text both.0, in_range pieces both.1)
in_range (remainder text ∷ pieces) e =
    let both = and_parts (ltb 0 (length text)) (are_in_range pieces) e in (ltb-true 0 (length text) both.0, in_range pieces both.1)

-- ---- that a path has no pattern of a table

-- the text up to its first slash, and what is left from there
abbrev up_to_slash : List ℕ → List ℕ
up_to_slash [] = []
up_to_slash (b ∷ path) = cond (b == 47) [] (b ∷ up_to_slash path)

abbrev from_slash : List ℕ → List ℕ
from_slash [] = []
from_slash (b ∷ path) = cond (b == 47) (b ∷ path) (from_slash path)

up_to : (text rest : List ℕ) → has_slash text ≡ false → IsEndOrSlash rest → up_to_slash (text ++ rest) ≡ text
up_to [] [] whole end = refl
up_to [] (x ∷ rest) whole end = ap (λ (v : Bool). cond v [] (x ∷ up_to_slash rest)) (eq-eqb x 47 end)
up_to (b ∷ text) rest whole end =
    let clean = plain_tail b text whole in
    ap (λ (v : Bool). cond v [] (b ∷ up_to_slash (text ++ rest))) (ne_eqb b 47 clean.0) ∙ ap (λ (y : List ℕ). b ∷ y) (up_to text rest clean.1 end)

from : (text rest : List ℕ) → has_slash text ≡ false → IsEndOrSlash rest → from_slash (text ++ rest) ≡ rest
from [] [] whole end = refl
from [] (x ∷ rest) whole end = ap (λ (v : Bool). cond v (x ∷ rest) (from_slash rest)) (eq-eqb x 47 end)
from (b ∷ text) rest whole end =
    let clean = plain_tail b text whole in
    ap (λ (v : Bool). cond v (b ∷ (text ++ rest)) (from_slash (text ++ rest))) (ne_eqb b 47 clean.0) ∙ from text rest clean.1 end

-- the path behind a slash may begin with a piece of this shape, and go on with the others
abbrev may_begin : Shape → List ℕ → Bool → Bool
may_begin (a_word text) path later = same_text text (up_to_slash path) && later
may_begin a_segment path later = ltb 0 (length (up_to_slash path)) && later
may_begin a_remainder path later = ltb 0 (length path)

abbrev pub may_have : List Shape → List ℕ → Bool
may_have [] [] = true
may_have [] (b ∷ path) = false
may_have (shape ∷ pattern) [] = false
may_have (shape ∷ pattern) (b ∷ path) = b == 47 && may_begin shape path (may_have pattern (from_slash path))

may : (pieces : List Piece) → is_pattern (shapes_of pieces) ≡ true → AreInRange pieces → may_have (shapes_of pieces) (path_of pieces) ≡ true
may [] fine are = refl
may (word text ∷ pieces) fine are =
    let both = first_word text (shapes_of pieces) fine in
    let whole = word_whole text both.0 in
    let rest = text ++ path_of pieces in
    and_from (same_text text (up_to_slash rest)) (may_have (shapes_of pieces) (from_slash rest))
    (ap (λ (y : List ℕ). same_text text y) (up_to text (path_of pieces) whole (path_ends pieces)) ∙ same_text-self text)
    (ap (λ (y : List ℕ). may_have (shapes_of pieces) y) (from text (path_of pieces) whole (path_ends pieces)) ∙ may pieces both.1 are)
may (segment text ∷ pieces) fine are =
    let whole = (segment_of_part text are.0).plain in
    let rest = text ++ path_of pieces in
    let size = ap length (up_to text (path_of pieces) whole (path_ends pieces)) in
    and_from (ltb 0 (length (up_to_slash rest))) (may_have (shapes_of pieces) (from_slash rest))
    (lt-ltb 0 (length (up_to_slash rest)) (omega (arith, size, are.0.some)))
    (ap (λ (y : List ℕ). may_have (shapes_of pieces) y) (from text (path_of pieces) whole (path_ends pieces)) ∙ may pieces fine are.1)
may (remainder text ∷ []) fine are = lt-ltb 0 (length (text ++ [])) (omega (arith, length-append text [], are.0))
may (remainder text ∷ piece ∷ pieces) fine are = absurd (false≢true fine)

-- no pattern of the table may have the path
abbrev pub is_nowhere : {V : Type 0} → List (List Shape × V) → List ℕ → Bool
is_nowhere rows path = list_all (λ pattern. not (may_have pattern path)) (patterns_of rows)

pub nowhere : {V : Type 0} (rows : List (List Shape × V)) (path : List ℕ) → are_disjoint (patterns_of rows) ≡ true → is_nowhere rows path ≡ true
    → LeadsNowhere rows path
nowhere {V} rows path apart none value parts leads =
    let at = leads.row in
    let has = leads.has in
    let within : at.0 < length (patterns_of rows) = omega (arith, patterns_length rows, at.1) in
    let is = pattern_is rows at.0 leads.pattern value at.1 at.2 in
    let fine : is_pattern (shapes_of has.pieces) ≡ true = ap is_pattern (has.has_shapes ∙ sym is) ∙ pattern_at (patterns_of rows) at.0 within apart in
    let may_be : may_have (get_or (patterns_of rows) at.0 []) path ≡ true =
    ap (λ (p : List Shape). may_have p path) (is ∙ sym has.has_shapes) ∙ ap (λ (y : List ℕ). may_have (shapes_of has.pieces) y) has.spelled
    ∙ may has.pieces fine has.in_range in
    false≢true (sym (list_all_at (λ (p : List Shape). not (may_have p path)) (patterns_of rows) at.0 [] within (ap not may_be)) ∙ none)
