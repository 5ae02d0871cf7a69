-- The tags with which bytes begin, by their number and the pairs.
use Rattle.std.proofs.Common.{◌≡◌, ℕ, zero, suc, ◌<◌, ◌≤◌, Bool, true, false, not, ◌&&◌, if◌then◌else◌, List, [], ◌∷◌, ◌++◌, length, get_or, take, Option, Some, None, String, refl, sym, ap, ◌∙◌}
use Rattle.std.proofs.Common.{arith}
use Rattle.std.specs.declared.alloc.Global.{Global}
use Rattle.std.specs.Prelude.{nat_le}
use Rattle.std.specs.Int.{w8, to_be_bytes}
use Rattle.std.specs.List.{list_all, flat_map}
use Rattle.std.specs.Str.{bytes_eq}
use Rattle.std.specs.Ordering.{nat_cmp, is_lt, is_eq}
use Rattle.std.specs.declared.cmp.Ordering.{Ordering}
use Rattle.std.specs.declared.cmp.Ordering.TheVariants.{Less, Equal, Greater}
use Rattle.std.specs.Cmp.Lexicographic.{slice_cmp, texts_ties}
use Rattle.std.proofs.lemmas.Bool.Decides.{nat_tests}
use Rattle.std.proofs.lemmas.Slice.Eq.{bytes_eq-Decides}
use Rattle.std.proofs.lemmas.Bool.{and_parts, and_from, and_right, or_from, and_left}
use Rattle.office_base.specs.Tags.{Tag, is_tag, has_key, keys_differ, are_tags, by_key, is_tag_before, keys_rise, AreTags, tag_of, tags_of}
use Rattle.office_base.proofs.InOrder.{kept_in_order, length_tags}
use Rattle.entry_codec.specs.Formats.{◌>>=◌, number, front_items}
use Rattle.entry_codec.specs.Fields.{Tags, tag_format, are_kept, format}
use Rattle.entry_codec.proofs.Items.{length-items}

abbrev from_tags : Option (List Tag × List ℕ) → Option (List Tag × List ℕ)
from_tags o = o >>= λ tags. if are_kept tags.0 then Some tags else None

abbrev few : Option (ℕ × List ℕ) → Option (List Tag × List ℕ)
few o = from_tags (o >>= λ n. front_items tag_format n.0 n.1)

abbrev from_count : Option (ℕ × List ℕ) → Option (List Tag × List ℕ)
from_count o = few (o >>= λ n. if nat_le n.0 10 then Some n else None)

by_count : (bytes : List ℕ) → (format Tags).front bytes ≡ from_count ((number w8).front bytes)
unfolding format
by_count bytes = refl

pub no_count : (bytes : List ℕ) → (number w8).front bytes ≡ None → (format Tags).front bytes ≡ None
no_count bytes none = by_count bytes ∙ ap from_count none

pub large_count : (bytes : List ℕ) (n : ℕ) (rest : List ℕ) → (number w8).front bytes ≡ Some (n, rest) → 10 < n → (format Tags).front bytes ≡ None
large_count bytes n rest is large =
    let test : nat_le n 10 ≡ false = grind (arith, nat_tests) in
    by_count bytes ∙ ap from_count is ∙ ap (λ (b : Bool). few (if b then Some (n, rest) else None)) test

small_count : (bytes : List ℕ) (n : ℕ) (rest : List ℕ) → (number w8).front bytes ≡ Some (n, rest) → n ≤ 10 → (format Tags).front bytes ≡ from_tags (front_items tag_format n rest)
small_count bytes n rest is small =
    let test : nat_le n 10 ≡ true = grind (arith, nat_tests) in
    by_count bytes ∙ ap from_count is ∙ ap (λ (b : Bool). few (if b then Some (n, rest) else None)) test

pub no_pairs : (bytes : List ℕ) (n : ℕ) (rest : List ℕ) → (number w8).front bytes ≡ Some (n, rest) → n ≤ 10 → front_items tag_format n rest ≡ None → (format Tags).front bytes ≡ None
no_pairs bytes n rest is small none = small_count bytes n rest is small ∙ ap from_tags none

by_pairs : (bytes : List ℕ) (n : ℕ) (rest : List ℕ) (tags : List Tag) (left : List ℕ) (kept : Bool) → (number w8).front bytes ≡ Some (n, rest) → n ≤ 10
    → front_items tag_format n rest ≡ Some (tags, left)
    → are_kept tags ≡ kept → (format Tags).front bytes ≡ (if kept then Some (tags, left) else None)
by_pairs bytes n rest tags left kept is small some test =
    small_count bytes n rest is small ∙ ap from_tags some ∙ ap (λ (b : Bool). if b then Some (tags, left) else None) test

pub not_rising : (bytes : List ℕ) (n : ℕ) (rest : List ℕ) (tags : List Tag) (left : List ℕ) → (number w8).front bytes ≡ Some (n, rest) → n ≤ 10 → front_items tag_format n rest ≡ Some (tags, left)
    → keys_rise tags ≡ false → (format Tags).front bytes ≡ None
not_rising bytes n rest tags left is small some test =
    by_pairs bytes n rest tags left false is small some (and_right (list_all is_tag tags) (keys_rise tags) test)

pub rising : (bytes : List ℕ) (n : ℕ) (rest : List ℕ) (tags read : List Tag) (left : List ℕ) → (number w8).front bytes ≡ Some (n, rest) → n ≤ 10 → front_items tag_format n rest ≡ Some (tags, left)
    → keys_rise tags ≡ true → read ≡ by_key tags → AreTags read → (format Tags).front bytes ≡ Some (read, left)
rising bytes n rest tags read left is small some rise same are =
    let whole : read ≡ tags = same ∙ kept_in_order tags rise in
    let in_range : list_all is_tag tags ≡ true = ap (list_all is_tag) (sym whole) ∙ are.in_range in
    by_pairs bytes n rest tags left true is small some (and_from _ _ in_range rise) ∙ ap (λ (ts : List Tag). Some (ts, left)) (sym whole)

-- keys that rise differ
is_not_equal : (r : Ordering) → is_lt r ≡ true → is_eq r ≡ false
is_not_equal Less lt = refl
is_not_equal Equal lt = absurd cc
is_not_equal Greater lt = absurd cc

no_tie : (s t : List ℕ) (same : Bool) → bytes_eq s t ≡ same → is_lt (slice_cmp nat_cmp t s) ≡ true → same ≡ false
no_tie s t false test before = refl
no_tie s t true test before =
    let is : s ≡ t = (bytes_eq-Decides s t).0 test in
    let itself : is_lt (slice_cmp nat_cmp t t) ≡ true = ap (λ (x : List ℕ). is_lt (slice_cmp nat_cmp t x)) (sym is) ∙ before in
    sym ((bytes_eq-Decides t t).1 refl) ∙ texts_ties t t ∙ is_not_equal (slice_cmp nat_cmp t t) itself

differs_from_later : (t : Tag) (tags : List Tag) → list_all (is_tag_before t) tags ≡ true → has_key tags t.0 ≡ false
differs_from_later t [] all = refl
differs_from_later t (x ∷ tags) all =
    let parts = and_parts (is_tag_before t x) (list_all (is_tag_before t) tags) all in
    or_from (bytes_eq x.0 t.0) (has_key tags t.0) (no_tie x.0 t.0 (bytes_eq x.0 t.0) refl parts.0) (differs_from_later t tags parts.1)

rising_differ : (tags : List Tag) → keys_rise tags ≡ true → keys_differ tags ≡ true
rising_differ [] rise = refl
rising_differ (t ∷ tags) rise =
    let parts = and_parts (list_all (is_tag_before t) tags) (keys_rise tags) rise in
    and_from _ _ (ap not (differs_from_later t tags parts.0)) (rising_differ tags parts.1)

first_false : (few all other : Bool) → (few && all) && other ≡ false → few ≡ true → other ≡ true → all ≡ false
first_false true false other is a b = refl
first_false true true other is a b = sym b ∙ is
first_false false all other is a b = absurd cc

-- tags out of range are not kept
pub out_of_range : (bytes : List ℕ) (n : ℕ) (rest : List ℕ) (tags : List Tag) (left : List ℕ) → (number w8).front bytes ≡ Some (n, rest) → n ≤ 10 → front_items tag_format n rest ≡ Some (tags, left)
    → keys_rise tags ≡ true → are_tags tags ≡ false → (format Tags).front bytes ≡ None
unfolding are_tags
out_of_range bytes n rest tags left is small some rise not_tags =
    let count : length tags ≡ n = length-items tag_format n rest (tags, left) some in
    let many : nat_le (length tags) 10 ≡ true = grind (arith, nat_tests) in
    let out : list_all is_tag tags ≡ false = first_false (nat_le (length tags) 10) (list_all is_tag tags) (keys_differ tags) not_tags many (rising_differ tags rise) in
    by_pairs bytes n rest tags left false is small some (and_left (list_all is_tag tags) (keys_rise tags) out)

-- ---- writing

-- a pair of tags is a tag
pub tag_at : (pairs : List (String Global × String Global)) (i : ℕ) (pair : String Global × String Global) → list_all is_tag (tags_of pairs) ≡ true → i < length pairs → pair ≡ get_or pairs i pair
    → is_tag (tag_of pair) ≡ true
tag_at [] i pair all small is = absurd (omega (arith, small))
tag_at (first ∷ pairs) zero pair all small is = ap (λ p. is_tag (tag_of p)) is ∙ (and_parts (is_tag (tag_of first)) (list_all is_tag (tags_of pairs)) all).0
tag_at (first ∷ pairs) (suc i) pair all small is =
    let less : i < length pairs = omega (arith, small) in
    tag_at pairs i pair (and_parts (is_tag (tag_of first)) (list_all is_tag (tags_of pairs)) all).1 less is

take_past : {X : Type 0} (n : ℕ) (xs : List X) → length xs ≤ n → take n xs ≡ xs
take_past zero [] le = refl
take_past (suc n) [] le = refl
take_past zero (x ∷ xs) le = absurd (omega (arith, le))
take_past (suc n) (x ∷ xs) le = let less : length xs ≤ n = omega (arith, le) in ap (λ ys. x ∷ ys) (take_past n xs less)

pub all_written : (n : ℕ) (pairs : List (String Global × String Global)) (tags : List Tag) → length pairs ≤ n → tags_of pairs ≡ tags
    → to_be_bytes w8 (length pairs) ++ flat_map tag_format.written (tags_of (take n pairs)) ≡ (format Tags).written tags
unfolding format
all_written n pairs tags past is =
    ap (λ (ps : List (String Global × String Global)). to_be_bytes w8 (length pairs) ++ flat_map tag_format.written (tags_of ps)) (take_past n pairs past)
    ∙ ap (λ (k : ℕ). to_be_bytes w8 k ++ flat_map tag_format.written (tags_of pairs)) (sym (length_tags pairs))
    ∙ ap (λ (ts : List Tag). to_be_bytes w8 (length ts) ++ flat_map tag_format.written ts) is
