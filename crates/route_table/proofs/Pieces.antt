-- A path has a pattern where it has the pattern's tokens.
use Rattle.std.proofs.Common.{◌≡◌, ℕ, ◌<◌, Bool, true, false, cond, not, ◌==◌, ◌||◌, ◌&&◌, List, [], ◌∷◌, ◌++◌, length, append-nil}
use Rattle.std.proofs.Common.{refl, sym, ap, ◌∙◌, subst, arith, inl, inr, ltb}
use Rattle.std.specs.List.{list_all}
use Rattle.std.proofs.lemmas.Bool.{and_parts, not-true, false≢true, ltb-true}
use Rattle.matchit.specs.Rows.{param_token, catch_all_token}
use Rattle.matchit.specs.Seek.{has_slash}
use Rattle.route_table.specs.Paths.{Piece, word, segment, remainder, IsPart, has_byte, path_of, AreInRange}
use Rattle.route_table.specs.Patterns.{Shape, a_word, a_segment, a_remainder, shapes_of, parts_between, HasPattern, is_word_byte, is_pattern}
use Rattle.route_table.specs.Routed.{tokens_of}
use Rattle.route_table.proofs.Tokens.{IsSegment, Takes, IsEndOrSlash, IsPlain, IsSpelled}

-- ---- words

-- a byte of a word
pub record IsOfWord (b : ℕ) : Type 0 where
  pub small : b < 128
  pub no_slash : (b == 47) ≡ false
  pub no_open : (b == 123) ≡ false
  pub no_close : (b == 125) ≡ false

pub of_word : (b : ℕ) → is_word_byte b ≡ true → IsOfWord b
of_word b e =
    let one = and_parts (ltb b 128) (not (b == 47) && (not (b == 123) && not (b == 125))) e in
    let two = and_parts (not (b == 47)) (not (b == 123) && not (b == 125)) one.1 in
    let three = and_parts (not (b == 123)) (not (b == 125)) two.1 in
    record {
      small = ltb-true b 128 one.0;
      no_slash = not-true (b == 47) two.0;
      no_open = not-true (b == 123) three.0;
      no_close = not-true (b == 125) three.1;
    }

-- the first byte of a word, and the others
pub first_byte : (b : ℕ) (text : List ℕ) → list_all is_word_byte (b ∷ text) ≡ true → IsOfWord b × (list_all is_word_byte text ≡ true)
first_byte b text e = let both = and_parts (is_word_byte b) (list_all is_word_byte text) e in (of_word b both.0, both.1)

-- a word of a pattern, and what comes after it
pub first_word : (text : List ℕ) (pattern : List Shape) → is_pattern (a_word text ∷ pattern) ≡ true
    → (list_all is_word_byte text ≡ true) × (is_pattern pattern ≡ true)
first_word text pattern e = and_parts (list_all is_word_byte text) (is_pattern pattern) e

pub word_whole : (text : List ℕ) → list_all is_word_byte text ≡ true → has_slash text ≡ false
word_whole [] e = refl
word_whole (b ∷ text) e =
    let both = first_byte b text e in
    ap (λ (v : Bool). cond v true (has_slash text)) both.0.no_slash ∙ word_whole text both.1

-- ---- the form of the tokens

-- a piece begins with a slash
pub end_or_slash : (pattern : List Shape) → IsEndOrSlash (tokens_of pattern)
end_or_slash [] = tt
end_or_slash (shape ∷ pattern) = refl

plain_word : (text tokens : List ℕ) → list_all is_word_byte text ≡ true → IsPlain tokens → IsPlain (text ++ tokens)
plain_word [] tokens small plain = plain
plain_word (b ∷ text) tokens small plain =
    let both = first_byte b text small in
    (λ is. absurd (omega (arith, is, both.0.small)), plain_word text tokens both.1 plain)

slash_plain : (tokens : List ℕ) → IsPlain tokens → IsPlain (47 ∷ tokens)
slash_plain tokens plain = (λ is. absurd (omega (arith, is)), plain)

pub is_plain : (pattern : List Shape) → is_pattern pattern ≡ true → IsPlain (tokens_of pattern)
is_plain [] fine = tt
is_plain (a_word text ∷ pattern) fine =
    let both = first_word text pattern fine in
    slash_plain (text ++ tokens_of pattern) (plain_word text (tokens_of pattern) both.0 (is_plain pattern both.1))
is_plain (a_segment ∷ pattern) fine =
    slash_plain (param_token ∷ tokens_of pattern) (λ is. end_or_slash pattern, is_plain pattern fine)
is_plain (a_remainder ∷ []) fine = slash_plain (catch_all_token ∷ []) (λ is. tt, tt)
is_plain (a_remainder ∷ shape ∷ pattern) fine = absurd (false≢true fine)

spelled_word : (text tokens : List ℕ) → list_all is_word_byte text ≡ true → IsSpelled tokens → IsSpelled (text ++ tokens)
spelled_word [] tokens small spelled = spelled
spelled_word (b ∷ text) tokens small spelled =
    let both = first_byte b text small in (λ is. both.0.small, spelled_word text tokens both.1 spelled)

slash_spelled : (tokens : List ℕ) → IsSpelled tokens → IsSpelled (47 ∷ tokens)
slash_spelled tokens spelled = (λ is. omega arith, spelled)

pub is_spelled : (pattern : List Shape) → is_pattern pattern ≡ true → IsSpelled (tokens_of pattern)
is_spelled [] fine = tt
is_spelled (a_word text ∷ pattern) fine =
    let both = first_word text pattern fine in
    slash_spelled (text ++ tokens_of pattern) (spelled_word text (tokens_of pattern) both.0 (is_spelled pattern both.1))
is_spelled (a_segment ∷ pattern) fine =
    slash_spelled (param_token ∷ tokens_of pattern) (λ is. absurd (omega (arith, is)), is_spelled pattern fine)
is_spelled (a_remainder ∷ []) fine = slash_spelled (catch_all_token ∷ []) (λ is. absurd (omega (arith, is)), tt)
is_spelled (a_remainder ∷ shape ∷ pattern) fine = absurd (false≢true fine)

-- ---- parts are segments

slash_byte : (one : List ℕ) → has_slash one ≡ has_byte 47 one
slash_byte [] = refl
slash_byte (b ∷ one) = go (b == 47) (slash_byte one)
  where
    go : (v : Bool) → has_slash one ≡ has_byte 47 one → cond v true (has_slash one) ≡ (v || has_byte 47 one)
    go true later = refl
    go false later = later

part_of_segment : (one : List ℕ) → IsSegment one → IsPart one
part_of_segment one is = record { some = is.some; plain = sym (slash_byte one) ∙ is.plain }

pub segment_of_part : (one : List ℕ) → IsPart one → IsSegment one
segment_of_part one is = record { some = is.some; plain = slash_byte one ∙ is.plain }

-- ---- from the tokens to the pattern

-- a byte takes itself
past_byte : (x : ℕ) (tokens path : List ℕ) (parts : List (List ℕ)) → x < 128 → Takes (x ∷ tokens) path parts
    → (rest : List ℕ) × (path ≡ x ∷ rest) × Takes tokens rest parts
past_byte x tokens path parts small (inl (low, rest, e, t)) = (rest, e, t)
past_byte x tokens path parts small (inr (inl t)) = absurd (omega (arith, small, t.0))
past_byte x tokens path parts small (inr (inr t)) = absurd (omega (arith, small, t.0))

-- and so does a word
past_word : (text tokens path : List ℕ) (parts : List (List ℕ)) → list_all is_word_byte text ≡ true → Takes (text ++ tokens) path parts
    → (rest : List ℕ) × (path ≡ text ++ rest) × Takes tokens rest parts
past_word [] tokens path parts small t = (path, refl, t)
past_word (b ∷ text) tokens path parts small t =
    let both = first_byte b text small in
    let first = past_byte b (text ++ tokens) path parts both.0.small t in
    let later = past_word text tokens first.0 parts both.1 first.2 in
    (later.0, first.1 ∙ ap (λ (y : List ℕ). b ∷ y) later.1, later.2)

-- a path that has the tokens has the pattern
pub has_pattern : (pattern : List Shape) (path : List ℕ) (parts : List (List ℕ)) → is_pattern pattern ≡ true → Takes (tokens_of pattern) path parts
    → HasPattern pattern parts path
has_pattern [] path parts fine t = record { pieces = []; has_shapes = refl; has_parts = sym t.1; spelled = t.0; in_range = tt }
has_pattern (a_word text ∷ pattern) path parts fine t =
    let both = first_word text pattern fine in
    let slash = past_byte 47 (text ++ tokens_of pattern) path parts (omega arith) t in
    let first = past_word text (tokens_of pattern) slash.0 parts both.0 slash.2 in
    let later = has_pattern pattern first.0 parts both.1 first.2 in
    record {
      pieces = word text ∷ later.pieces;
      has_shapes = ap (λ (y : List Shape). a_word text ∷ y) later.has_shapes;
      has_parts = later.has_parts;
      spelled = slash.1 ∙ ap (λ (y : List ℕ). 47 ∷ y) (first.1 ∙ ap (λ (y : List ℕ). text ++ y) later.spelled);
      in_range = later.in_range;
    }
has_pattern (a_segment ∷ pattern) path parts fine t =
    let slash = past_byte 47 (param_token ∷ tokens_of pattern) path parts (omega arith) t in
    by_segment slash.0 slash.1 slash.2 (λ after more s. has_pattern pattern after more fine s)
  where
    by_segment : (rest : List ℕ) → path ≡ 47 ∷ rest → Takes (param_token ∷ tokens_of pattern) rest parts
        → ((after : List ℕ) (more : List (List ℕ)) → Takes (tokens_of pattern) after more → HasPattern pattern more after)
        → HasPattern (a_segment ∷ pattern) parts path
    by_segment rest e (inl s) has = absurd (omega (arith, s.0))
    by_segment rest e (inr (inr s)) has = absurd (omega (arith, s.0))
    by_segment rest e (inr (inl (is, part, after, more, whole, d, q, s))) has =
        let later = has after more s in
        record {
          pieces = segment part ∷ later.pieces;
          has_shapes = ap (λ (y : List Shape). a_segment ∷ y) later.has_shapes;
          has_parts = ap (λ (y : List (List ℕ)). part ∷ y) later.has_parts ∙ sym q;
          spelled = e ∙ ap (λ (y : List ℕ). 47 ∷ y) (d ∙ ap (λ (y : List ℕ). part ++ y) later.spelled);
          in_range = (part_of_segment part whole, later.in_range);
        }
has_pattern (a_remainder ∷ []) path parts fine t =
    let slash = past_byte 47 (catch_all_token ∷ []) path parts (omega arith) t in by_rest slash.0 slash.1 slash.2
  where
    by_rest : (rest : List ℕ) → path ≡ 47 ∷ rest → Takes (catch_all_token ∷ []) rest parts → HasPattern (a_remainder ∷ []) parts path
    by_rest rest e (inl s) = absurd (omega (arith, s.0))
    by_rest rest e (inr (inl s)) = absurd (omega (arith, s.0))
    by_rest rest e (inr (inr (is, end, some, q))) = record {
      pieces = remainder rest ∷ [];
      has_shapes = refl;
      has_parts = sym q;
      spelled = e ∙ ap (λ (y : List ℕ). 47 ∷ y) (sym (append-nil rest));
      in_range = (some, tt);
    }
has_pattern (a_remainder ∷ shape ∷ pattern) path parts fine t = absurd (false≢true fine)

-- ---- from the pattern to the tokens

byte_takes : (x : ℕ) (tokens path : List ℕ) (parts : List (List ℕ)) → x < 128 → Takes tokens path parts → Takes (x ∷ tokens) (x ∷ path) parts
byte_takes x tokens path parts small t = inl (omega (arith, small), path, refl, t)

word_takes : (text tokens path : List ℕ) (parts : List (List ℕ)) → list_all is_word_byte text ≡ true → Takes tokens path parts
    → Takes (text ++ tokens) (text ++ path) parts
word_takes [] tokens path parts small t = t
word_takes (b ∷ text) tokens path parts small t =
    let both = first_byte b text small in
    byte_takes b (text ++ tokens) (text ++ path) parts both.0.small (word_takes text tokens path parts both.1 t)

pieces_take : (pieces : List Piece) → is_pattern (shapes_of pieces) ≡ true → AreInRange pieces
    → Takes (tokens_of (shapes_of pieces)) (path_of pieces) (parts_between pieces)
pieces_take [] fine are = (refl, refl)
pieces_take (word text ∷ pieces) fine are =
    let both = first_word text (shapes_of pieces) fine in
    byte_takes 47 (text ++ tokens_of (shapes_of pieces)) (text ++ path_of pieces) (parts_between pieces) (omega arith)
    (word_takes text (tokens_of (shapes_of pieces)) (path_of pieces) (parts_between pieces) both.0 (pieces_take pieces both.1 are))
pieces_take (segment text ∷ pieces) fine are =
    byte_takes 47 (param_token ∷ tokens_of (shapes_of pieces)) (text ++ path_of pieces) (text ∷ parts_between pieces) (omega arith)
    (inr (inl (refl, text, path_of pieces, parts_between pieces, segment_of_part text are.0, refl, refl, pieces_take pieces fine are.1)))
pieces_take (remainder text ∷ []) fine are =
    let whole = append-nil text in
    byte_takes 47 (catch_all_token ∷ []) (text ++ []) (text ∷ []) (omega arith)
    (inr (inr (refl, refl, subst (λ (y : List ℕ). 0 < length y) (sym whole) are.0, ap (λ (y : List ℕ). y ∷ []) (sym whole))))
pieces_take (remainder text ∷ piece ∷ pieces) fine are = absurd (false≢true fine)

-- a path that has the pattern has its tokens
pub takes : (pattern : List Shape) (path : List ℕ) (parts : List (List ℕ)) → is_pattern pattern ≡ true → HasPattern pattern parts path
    → Takes (tokens_of pattern) path parts
takes pattern path parts fine has =
    subst (λ (p : List Shape). Takes (tokens_of p) path parts) has.has_shapes
    (subst (λ (q : List (List ℕ)). Takes (tokens_of (shapes_of has.pieces)) path q) has.has_parts
    (subst (λ (y : List ℕ). Takes (tokens_of (shapes_of has.pieces)) y (parts_between has.pieces)) (sym has.spelled)
    (pieces_take has.pieces (ap is_pattern has.has_shapes ∙ fine) has.in_range)))
