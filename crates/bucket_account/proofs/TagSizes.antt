-- How many bytes tags have.
use Rattle.std.proofs.Common.{◌≡◌, ℕ, ◌+◌, ◌-◌, ◌*◌, ◌≤◌, List, [], ◌∷◌, length, take, drop, sym, subst, true, ◌&&◌, arith, length-append}
use Rattle.std.proofs.lemmas.List.{length-map, length-take, length-drop}
use Rattle.std.specs.Prelude.{nat_le, get_or, String, string_bytes, IsTrue}
use Rattle.std.specs.declared.alloc.Global.{Global}
use Rattle.std.specs.List.{list_all}
use Rattle.std.specs.Str.{is_utf8, chars, encode_utf8_all}
use Rattle.std.specs.Char.{encode_utf8}
use Rattle.std.proofs.lemmas.Str.{encodes-chars, len_utf8_bounds, length-encode, IsUtf8-from_is_utf8}
use Rattle.std.proofs.lemmas.Bool.{and_parts, leb-true}
use Rattle.office_base.specs.Tags.{Tag, char_count, is_tag, tag_of, tags_of}

encoded_most : (cs : List ℕ) → length (encode_utf8_all cs) ≤ 4 * length cs
encoded_most [] = omega arith
encoded_most (c ∷ cs) =
    let rest = encoded_most cs in
    let both = length-append (encode_utf8 c) (encode_utf8_all cs) in
    let here = length-encode c in
    let most = (len_utf8_bounds c).1 in
    omega (arith, rest, both, here, most)

-- a character has at most four bytes
text_most : (text : List ℕ) → is_utf8 text ≡ true → length text ≤ 4 * char_count text
text_most text is =
    let utf8 = IsUtf8-from_is_utf8 text is in
    subst (λ (bytes : List ℕ). length bytes ≤ 4 * char_count text) (encodes-chars text utf8) (encoded_most (chars text))

pub tag_most : (tag : Tag) → is_tag tag ≡ true → length tag.0 + length tag.1 ≤ 1_536
unfolding is_tag
tag_most tag is =
    let value = and_parts (is_utf8 tag.0 && is_utf8 tag.1 && nat_le 1 (char_count tag.0) && nat_le (char_count tag.0) 128) (nat_le (char_count tag.1) 256) is in
    let key = and_parts (is_utf8 tag.0 && is_utf8 tag.1 && nat_le 1 (char_count tag.0)) (nat_le (char_count tag.0) 128) value.0 in
    let some = and_parts (is_utf8 tag.0 && is_utf8 tag.1) (nat_le 1 (char_count tag.0)) key.0 in
    let texts = and_parts (is_utf8 tag.0) (is_utf8 tag.1) some.0 in
    let a = text_most tag.0 texts.0 in
    let b = text_most tag.1 texts.1 in
    let k = leb-true (char_count tag.0) 128 key.1 in
    let v = leb-true (char_count tag.1) 256 value.1 in
    omega (arith, a, b, k, v)

-- the first of some tags
pub first_most : (pairs : List (String Global × String Global)) (first : String Global × String Global) → IsTrue (list_all is_tag (tags_of pairs)) → 1 ≤ length pairs → first ≡ get_or pairs 0 first
    → length (string_bytes first.0) + length (string_bytes first.1) ≤ 1_536
first_most [] first tags some is = absurd (omega (arith, some))
first_most (pair ∷ pairs) first tags some is =
    let here = and_parts (is_tag (tag_of pair)) (list_all is_tag (tags_of pairs)) tags in
    subst (λ (p : String Global × String Global). length (string_bytes p.0) + length (string_bytes p.1) ≤ 1_536) (sym is) (tag_most (tag_of pair) here.0)

-- the others are one fewer
pub rest_length : (pairs : List (String Global × String Global)) → 1 ≤ length pairs → length (tags_of (take (length pairs - 1) (drop 1 pairs))) + 1 ≡ length (tags_of pairs)
rest_length pairs some =
    let rest = length-map (take (length pairs - 1) (drop 1 pairs)) tag_of in
    let all = length-map pairs tag_of in
    let taken = length-take (length pairs - 1) (drop 1 pairs) in
    let dropped = length-drop 1 pairs in
    omega (arith, rest, all, taken, dropped, some)
