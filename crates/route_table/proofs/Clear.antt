-- Patterns that are apart do not conflict in matchit's router.
use Rattle.std.proofs.Common.{◌≡◌, ◌≢◌, ℕ, zero, suc, ◌+◌, ◌<◌, Bool, true, false, cond, not, ◌==◌, ◌&&◌, ◌||◌, List, [], ◌∷◌, ◌++◌, length, drop, take, get_or}
use Rattle.std.proofs.Common.{refl, sym, ap, ◌∙◌, arith, inl, inr, Option, Some, None, ◌⊎◌}
use Rattle.std.specs.List.{list_all}
use Rattle.std.proofs.lemmas.Bool.{eqb-true, ne_eqb, not-true, false≢true, or_from}
use Rattle.std.proofs.Math.Bool.{and-false}
use Rattle.matchit.specs.Rows.{param_token, catch_all_token}
use Rattle.matchit.specs.Seek.{segment, same_text, slash}
use Rattle.matchit.specs.Order.{common_len}
use Rattle.matchit.specs.Conflict.{conflicts, wild_clash, segment_clash, segment_start, at_clash, param_place, next_place, has_slash_more, is_plain as is_end}
use Rattle.matchit.proofs.ParamLemmas.{same_text-self}
use Rattle.route_table.specs.Patterns.{Shape, a_word, a_segment, a_remainder, is_word_byte, is_pattern, are_apart}
use Rattle.route_table.specs.Routed.{tokens_of}
use Rattle.route_table.proofs.Tokens.{IsEndOrSlash, IsPlain}
use Rattle.route_table.proofs.Complete.{end_segment}
use Rattle.route_table.proofs.Pieces.{first_byte, first_word, end_or_slash, is_plain}

-- one list ends before the other, or where they first differ there are not a parameter and a catch-all
abbrev clear : List ℕ → List ℕ → Bool
clear [] [] = false
clear [] (y ∷ q) = true
clear (x ∷ p) [] = true
clear (x ∷ p) (y ∷ q) = cond (x == y) (clear p q) (not (wild_clash x y))

-- ---- a byte differs from either token

byte_on_right : (x y : ℕ) → y < 128 → wild_clash x y ≡ false
byte_on_right x y small =
    or_from (x == param_token && y == catch_all_token) (x == catch_all_token && y == param_token)
    (ap (λ (v : Bool). x == param_token && v) (ne_eqb y catch_all_token (λ e. omega (arith, small, e))) ∙ and-false (x == param_token))
    (ap (λ (v : Bool). x == catch_all_token && v) (ne_eqb y param_token (λ e. omega (arith, small, e))) ∙ and-false (x == catch_all_token))

byte_on_left : (x y : ℕ) → x < 128 → wild_clash x y ≡ false
byte_on_left x y small =
    or_from (x == param_token && y == catch_all_token) (x == catch_all_token && y == param_token)
    (ap (λ (v : Bool). v && y == catch_all_token) (ne_eqb x param_token (λ e. omega (arith, small, e))))
    (ap (λ (v : Bool). v && y == param_token) (ne_eqb x catch_all_token (λ e. omega (arith, small, e))))

differs : (x y : ℕ) (p q : List ℕ) → x ≢ y → wild_clash x y ≡ false → clear (x ∷ p) (y ∷ q) ≡ true
differs x y p q other none = ap (λ (v : Bool). cond v (clear p q) (not (wild_clash x y))) (ne_eqb x y other) ∙ ap not none

-- ---- patterns that are apart are clear

-- two words, each with what ends it
words : (a b p q : List ℕ) → list_all is_word_byte a ≡ true → list_all is_word_byte b ≡ true → IsEndOrSlash p → IsEndOrSlash q
    → (a ≡ b → clear p q ≡ true) → clear (a ++ p) (b ++ q) ≡ true
words [] [] p q one two end stop later = later refl
words [] (y ∷ b) [] q one two end stop later = refl
words [] (y ∷ b) (x ∷ p) q one two end stop later =
    let is = (first_byte y b two).0 in
    differs x y p (b ++ q) (λ e. false≢true (sym is.no_slash ∙ ap (λ (z : ℕ). z == 47) (sym e ∙ end))) (byte_on_right x y is.small)
words (x ∷ a) [] p [] one two end stop later = refl
words (x ∷ a) [] p (y ∷ q) one two end stop later =
    let is = (first_byte x a one).0 in
    differs x y (a ++ p) q (λ e. false≢true (sym is.no_slash ∙ ap (λ (z : ℕ). z == 47) (e ∙ stop))) (byte_on_left x y is.small)
words (x ∷ a) (y ∷ b) p q one two end stop later = go (x == y) refl (words a b p q (first_byte x a one).1 (first_byte y b two).1 end stop)
  where
    go : (v : Bool) → (x == y) ≡ v → ((a ≡ b → clear p q ≡ true) → clear (a ++ p) (b ++ q) ≡ true)
        → cond v (clear (a ++ p) (b ++ q)) (not (wild_clash x y)) ≡ true
    go true e rest = rest (λ same. later (let head : x ≡ y = eqb-true x y e in cc))
    go false e rest = ap not (byte_on_left x y (first_byte x a one).0.small)

-- a word with what ends it, and a segment
word_and_segment : (a p q : List ℕ) → list_all is_word_byte a ≡ true → IsEndOrSlash p → clear (a ++ p) (param_token ∷ q) ≡ true
word_and_segment [] [] q one end = refl
word_and_segment [] (x ∷ p) q one end =
    let small : x < 128 = omega (arith, end) in differs x param_token p q (λ e. omega (arith, small, e)) (byte_on_left x param_token small)
word_and_segment (x ∷ a) p q one end =
    let small = (first_byte x a one).0.small in differs x param_token (a ++ p) q (λ e. omega (arith, small, e)) (byte_on_left x param_token small)

segment_and_word : (a p q : List ℕ) → list_all is_word_byte a ≡ true → IsEndOrSlash p → clear (param_token ∷ q) (a ++ p) ≡ true
segment_and_word [] [] q one end = refl
segment_and_word [] (x ∷ p) q one end =
    let small : x < 128 = omega (arith, end) in differs param_token x q p (λ e. omega (arith, small, e)) (byte_on_right param_token x small)
segment_and_word (x ∷ a) p q one end =
    let small = (first_byte x a one).0.small in differs param_token x q (a ++ p) (λ e. omega (arith, small, e)) (byte_on_right param_token x small)

apart_clear : (p q : List Shape) → is_pattern p ≡ true → is_pattern q ≡ true → are_apart p q ≡ true → clear (tokens_of q) (tokens_of p) ≡ true
apart_clear [] [] fine good far = absurd (false≢true far)
apart_clear [] (shape ∷ q) fine good far = refl
apart_clear (shape ∷ p) [] fine good far = refl
apart_clear (a_word a ∷ p) (a_word b ∷ q) fine good far =
    let one = first_word a p fine in
    let two = first_word b q good in
    words b a (tokens_of q) (tokens_of p) two.0 one.0 (end_or_slash q) (end_or_slash p) (λ e. apart_clear p q one.1 two.1 (later e far))
  where
    later : b ≡ a → (not (same_text a b) || are_apart p q) ≡ true → are_apart p q ≡ true
    later e is = sym (ap (λ (v : Bool). not v || are_apart p q) (ap (λ (y : List ℕ). same_text a y) e ∙ same_text-self a)) ∙ is
apart_clear (a_word a ∷ p) (a_segment ∷ q) fine good far =
    segment_and_word a (tokens_of p) (tokens_of q) (first_word a p fine).0 (end_or_slash p)
apart_clear (a_segment ∷ p) (a_word b ∷ q) fine good far =
    word_and_segment b (tokens_of q) (tokens_of p) (first_word b q good).0 (end_or_slash q)
apart_clear (a_segment ∷ p) (a_segment ∷ q) fine good far = apart_clear p q fine good far
apart_clear (a_remainder ∷ p) (a_word b ∷ q) fine good far = absurd (false≢true far)
apart_clear (a_remainder ∷ p) (a_segment ∷ q) fine good far = absurd (false≢true far)
apart_clear (a_remainder ∷ p) (a_remainder ∷ q) fine good far = absurd (false≢true far)
apart_clear (a_word a ∷ p) (a_remainder ∷ q) fine good far = absurd (false≢true far)
apart_clear (a_segment ∷ p) (a_remainder ∷ q) fine good far = absurd (false≢true far)

-- ---- clear patterns do not conflict

-- they are not the same
not_same : (p q : List ℕ) → clear p q ≡ true → common_len p q ≡ length p → common_len p q ≡ length q → ⊥
not_same [] [] is a b = false≢true is
not_same [] (y ∷ q) is a b = absurd (omega (arith, b))
not_same (x ∷ p) [] is a b = absurd (omega (arith, a))
not_same (x ∷ p) (y ∷ q) is a b = go (x == y) is a b (not_same p q)
  where
    go : (v : Bool) → cond v (clear p q) (not (wild_clash x y)) ≡ true → cond v (common_len p q + 1) 0 ≡ length (x ∷ p)
        → cond v (common_len p q + 1) 0 ≡ length (y ∷ q)
        → (clear p q ≡ true → common_len p q ≡ length p → common_len p q ≡ length q → ⊥) → ⊥
    go true is a b later = later is (omega (arith, a)) (omega (arith, b))
    go false is a b later = absurd (omega (arith, a))

-- nor a parameter and a catch-all where they differ
no_wild : (p q : List ℕ) → clear p q ≡ true → wild_clash (get_or p (common_len p q) 0) (get_or q (common_len p q) 0) ≡ false
no_wild [] [] is = absurd (false≢true is)
no_wild [] (y ∷ q) is = refl
no_wild (x ∷ p) [] is = byte_on_right x 0 (omega arith)
no_wild (x ∷ p) (y ∷ q) is = go (x == y) is (no_wild p q)
  where
    go : (v : Bool) → cond v (clear p q) (not (wild_clash x y)) ≡ true
        → (clear p q ≡ true → wild_clash (get_or p (common_len p q) 0) (get_or q (common_len p q) 0) ≡ false)
        → wild_clash (get_or (x ∷ p) (cond v (common_len p q + 1) 0) 0) (get_or (y ∷ q) (cond v (common_len p q + 1) 0) 0) ≡ false
    go true is later = let s : common_len p q + 1 ≡ suc (common_len p q) = omega arith in rw s (later is)
    go false is later = not-true (wild_clash x y) is

drop_plain : (n : ℕ) (p : List ℕ) → IsPlain p → IsPlain (drop n p)
drop_plain zero p plain = plain
drop_plain (suc n) [] plain = tt
drop_plain (suc n) (x ∷ p) plain = drop_plain n p plain.1

-- what follows a parameter is the end of its segment
after_param : (p : List ℕ) (i : ℕ) → IsPlain p → param_place p ≡ Some i → is_end (segment (drop (i + 1) p)) ≡ true
after_param [] i plain e = absurd cc
after_param (x ∷ p) i plain e = go (x == catch_all_token) (x == param_token) refl (x == slash) (λ k is. after_param p k plain.1 is) e
  where
    ended : IsEndOrSlash p → is_end (segment p) ≡ true
    ended end = by (end_segment p end)
      where
        by : (segment p ≡ []) ⊎ (segment p ≡ 47 ∷ []) → is_end (segment p) ≡ true
        by (inl s) = ap is_end s
        by (inr s) = ap is_end s

    Later : Type 0
    Later = (k : ℕ) → param_place p ≡ Some k → is_end (segment (drop (k + 1) p)) ≡ true

    further : (place : Option ℕ) → param_place p ≡ place → Later → next_place place ≡ Some i → is_end (segment (drop (i + 1) (x ∷ p))) ≡ true
    further None is later d = absurd cc
    further (Some k) is later d =
        let more : i ≡ k + 1 = cc in
        let s : i + 1 ≡ suc (k + 1) = omega (arith, more) in rw s (later k is)

    go : (u v : Bool) → (x == param_token) ≡ v → (w : Bool) → Later
        → cond u None (cond v (Some 0) (cond w None (next_place (param_place p)))) ≡ Some i → is_end (segment (drop (i + 1) (x ∷ p))) ≡ true
    go true v is w later d = absurd cc
    go false true is w later d =
        let none : i ≡ 0 = cc in
        let s : i + 1 ≡ suc 0 = omega (arith, none) in rw s (ended (plain.0 (eqb-true x param_token is)))
    go false false is true later d = absurd cc
    go false false is false later d = further (param_place p) refl later d

two_ends : (a b c d e : Bool) → b ≡ true → not (a || b || c || d || e) ≡ false
two_ends true b c d e is = refl
two_ends false true c d e is = refl
two_ends false false c d e is = absurd (false≢true is)

no_segment : (a b : List ℕ) → IsPlain a → IsPlain b → segment_clash a b ≡ false
no_segment a b one two = go (param_place a) refl (param_place b) refl
  where
    go : (s : Option ℕ) → param_place a ≡ s → (t : Option ℕ) → param_place b ≡ t → at_clash a b s t ≡ false
    go None is t also = refl
    go (Some i) is None also = refl
    go (Some i) is (Some j) also =
        let p1 = take i a in
        let s1 = segment (drop (i + 1) a) in
        let p2 = take j b in
        let s2 = segment (drop (j + 1) b) in
        two_ends (length p1 == 0 && length p2 == 0) (is_end s1 && is_end s2) (length p1 == 0 && is_end s1) (length p2 == 0 && is_end s2)
        (same_text p1 p2 && (same_text s1 s2 || has_slash_more s1 s2 || has_slash_more s2 s1))
        (ap (λ (v : Bool). v && is_end s2) (after_param a i one is) ∙ after_param b j two also)

both_false : (x y : Bool) → (x ≡ true → y ≡ true → ⊥) → (x && y) ≡ false
both_false true true never = absurd (never refl refl)
both_false true false never = refl
both_false false y never = refl

no_conflict : (p q : List ℕ) → clear p q ≡ true → IsPlain p → IsPlain q → conflicts p q ≡ false
no_conflict p q is one two =
    let n = common_len p q in
    let same : (n == length p && n == length q) ≡ false =
    both_false (n == length p) (n == length q) (λ a b. not_same p q is (eqb-true n (length p) a) (eqb-true n (length q) b)) in
    let wild = no_wild p q is in
    let start = segment_start p n in
    let ends = no_segment (drop start p) (drop start q) (drop_plain start p one) (drop_plain start q two) in
    rw (same, wild, ends) refl

-- patterns that are apart do not conflict
pub apart_conflict : (p q : List Shape) → is_pattern p ≡ true → is_pattern q ≡ true → are_apart p q ≡ true → conflicts (tokens_of q) (tokens_of p) ≡ false
apart_conflict p q fine good far =
    no_conflict (tokens_of q) (tokens_of p) (apart_clear p q fine good far) (is_plain q good) (is_plain p fine)
