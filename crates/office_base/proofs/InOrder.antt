-- Tags in the order of their keys.
use Rattle.std.proofs.Common.{◌≡◌, ◌∙◌, sym, suc, ◌+◌, ◌-◌, ◌≤◌, Bool, true, false, not, ◌&&◌, ◌||◌, List, [], ◌∷◌, ◌++◌, length, insert, take, drop, refl, ap, arith, String, string_bytes}
use Rattle.std.proofs.Common.{slice_index_or}
use Rattle.std.specs.Prelude.{if◌then◌else◌, nat_le, IsPermutation}
use Rattle.std.proofs.lemmas.Bool.Decides.{nat_tests}
use Rattle.std.proofs.lemmas.List.Sorted.{IsPermutation-refl, IsPermutation-sym, IsPermutation-cons, IsPermutation-trans, IsPermutation-middle}
use Rattle.std.proofs.lemmas.Bool.{and_parts, or_parts, and_from, not-true}
use Rattle.std.proofs.Math.Seq.{take-length}
use Rattle.std.specs.declared.alloc.Global.{Global}
use Rattle.std.specs.List.{AllZip, list_all, list_any, prefix_len}
use Rattle.std.specs.Str.{bytes_eq}
use Rattle.std.specs.Ordering.{nat_cmp, is_lt, is_eq, ordering_reverse}
use Rattle.std.specs.declared.cmp.Ordering.{Ordering}
use Rattle.std.specs.declared.cmp.Ordering.TheVariants.{Less, Equal, Greater}
use Rattle.std.specs.Cmp.Lexicographic.{slice_cmp, nat_list_cmp_total, texts_ties}
use Rattle.office_base.specs.Tags.{Tag, is_tag, has_key, keys_differ, are_tags, is_tag_before, with_tag, by_key, keys_rise, AreTags, tag_of, tags_of}

-- tests of pairs and of the tags that they are
pub all_pairs : (test : Tag → Bool) (pairs : List (String Global × String Global)) → list_all (λ pair. test (tag_of pair)) pairs ≡ list_all test (tags_of pairs)
all_pairs test [] = refl
all_pairs test (pair ∷ pairs) = ap (λ b. test (tag_of pair) && b) (all_pairs test pairs)

pub any_pair : (test : Tag → Bool) (pairs : List (String Global × String Global)) → list_any (λ pair. test (tag_of pair)) pairs ≡ list_any test (tags_of pairs)
any_pair test [] = refl
any_pair test (pair ∷ pairs) = ap (λ b. test (tag_of pair) || b) (any_pair test pairs)

pub length_tags : (pairs : List (String Global × String Global)) → length (tags_of pairs) ≡ length pairs
length_tags [] = refl
length_tags (pair ∷ pairs) = omega (arith, length_tags pairs)

-- a tag in its place
placed_case : (tag first : String Global × String Global) (pairs : List (String Global × String Global)) (b : Bool)
    → tags_of (insert pairs (prefix_len (λ other. is_tag_before (tag_of other) (tag_of tag)) pairs) tag) ≡ with_tag (tag_of tag) (tags_of pairs)
    → tags_of (insert (first ∷ pairs) (if b then 1 + prefix_len (λ other. is_tag_before (tag_of other) (tag_of tag)) pairs else 0) tag)
    ≡ (if b then tag_of first ∷ with_tag (tag_of tag) (tags_of pairs) else tag_of tag ∷ tag_of first ∷ tags_of pairs)
placed_case tag first pairs true before =
    let n = prefix_len (λ other. is_tag_before (tag_of other) (tag_of tag)) pairs in
    let e : 1 + n ≡ suc n = omega arith in
    rw e (ap (λ tags. tag_of first ∷ tags) before)
placed_case tag first pairs false before = refl

pub placed : (tag : String Global × String Global) (pairs : List (String Global × String Global))
    → tags_of (insert pairs (prefix_len (λ other. is_tag_before (tag_of other) (tag_of tag)) pairs) tag) ≡ with_tag (tag_of tag) (tags_of pairs)
placed tag [] = refl
placed tag (first ∷ pairs) = placed_case tag first pairs (is_tag_before (tag_of first) (tag_of tag)) (placed tag pairs)

-- tags put from the last to the first
pub onto : List Tag → List Tag → List Tag
onto [] kept = kept
onto (tag ∷ tags) kept = with_tag tag (onto tags kept)

pub onto_nothing : (tags : List Tag) → onto tags [] ≡ by_key tags
unfolding onto by_key
onto_nothing [] = refl
onto_nothing (tag ∷ tags) = ap (with_tag tag) (onto_nothing tags)

pub onto_none : (kept : List Tag) → onto [] kept ≡ kept
unfolding onto
onto_none kept = refl

pub onto_last : (pairs : List (String Global × String Global)) (last : String Global × String Global) (kept : List Tag)
    → onto (tags_of (pairs ++ last ∷ [])) kept ≡ onto (tags_of pairs) (with_tag (tag_of last) kept)
unfolding onto
onto_last [] last kept = refl
onto_last (pair ∷ pairs) last kept = ap (with_tag (tag_of pair)) (onto_last pairs last kept)

-- the first pair against the others
abbrev pub others : List (String Global × String Global) → List (String Global × String Global)
others pairs = take (length pairs - 1) (drop 1 pairs)

pub differ_first : (pairs : List (String Global × String Global)) (first : String Global × String Global) → 1 ≤ length pairs → first ≡ slice_index_or pairs 0 first
    → keys_differ (tags_of pairs) ≡ (not (has_key (tags_of (others pairs)) (string_bytes first.0)) && keys_differ (tags_of (others pairs)))
differ_first [] first some is = absurd (omega (arith, some))
differ_first (pair ∷ pairs) first some is =
    let e : length (pair ∷ pairs) - 1 ≡ length pairs = omega arith in
    let rest : take (length (pair ∷ pairs) - 1) pairs ≡ pairs = ap (λ n. take n pairs) e ∙ take-length pairs in
    ap (λ p. not (has_key (tags_of pairs) (string_bytes p.0)) && keys_differ (tags_of pairs)) (sym is)
    ∙ ap (λ ps. not (has_key (tags_of ps) (string_bytes first.0)) && keys_differ (tags_of ps)) (sym rest)

-- how the order of the keys behaves

is_less : (r : Ordering) → is_lt r ≡ true → r ≡ Less
is_less Less e = refl
is_less Equal e = absurd cc
is_less Greater e = absurd cc

before_before : (a b c : Tag) → is_tag_before a b ≡ true → is_tag_before b c ≡ true → is_tag_before a c ≡ true
before_before a b c ab bc =
    ap is_lt (nat_list_cmp_total.trans a.0 b.0 c.0 (is_less (slice_cmp nat_cmp a.0 b.0) ab) (is_less (slice_cmp nat_cmp b.0 c.0) bc))

turned_case : (r : Ordering) → is_lt r ≡ false → is_eq r ≡ false → is_lt (ordering_reverse r) ≡ true
turned_case Less lt eq = absurd cc
turned_case Equal lt eq = absurd cc
turned_case Greater lt eq = refl

-- of two keys that differ one comes first
turned : (a b : Tag) → is_tag_before a b ≡ false → bytes_eq a.0 b.0 ≡ false → is_tag_before b a ≡ true
turned a b not_before not_same =
    ap is_lt (nat_list_cmp_total.antisymm b.0 a.0) ∙ turned_case (slice_cmp nat_cmp a.0 b.0) not_before (sym (texts_ties a.0 b.0) ∙ not_same)

pub all_later : (a b : Tag) (tags : List Tag) → is_tag_before a b ≡ true → list_all (is_tag_before b) tags ≡ true → list_all (is_tag_before a) tags ≡ true
all_later a b [] ab all = refl
all_later a b (c ∷ tags) ab all =
    let parts = and_parts (is_tag_before b c) (list_all (is_tag_before b) tags) all in
    and_from (is_tag_before a c) (list_all (is_tag_before a) tags) (before_before a b c ab parts.0) (all_later a b tags ab parts.1)

-- one more tag
swapped_and : (a b c : Bool) → a && (b && c) ≡ b && (a && c)
swapped_and true true c = refl
swapped_and true false c = refl
swapped_and false true c = refl
swapped_and false false c = refl

swapped_or : (a b c : Bool) → a || (b || c) ≡ b || (a || c)
swapped_or true true c = refl
swapped_or true false c = refl
swapped_or false true c = refl
swapped_or false false c = refl

all_case : (test : Tag → Bool) (tag first : Tag) (tags : List Tag) (b : Bool) → list_all test (with_tag tag tags) ≡ test tag && list_all test tags
    → list_all test (if b then first ∷ with_tag tag tags else tag ∷ first ∷ tags) ≡ test tag && (test first && list_all test tags)
all_case test tag first tags true before = ap (λ b. test first && b) before ∙ swapped_and (test first) (test tag) (list_all test tags)
all_case test tag first tags false before = refl

all_with : (test : Tag → Bool) (tag : Tag) (tags : List Tag) → list_all test (with_tag tag tags) ≡ test tag && list_all test tags
all_with test tag [] = refl
all_with test tag (first ∷ tags) = all_case test tag first tags (is_tag_before first tag) (all_with test tag tags)

any_case : (test : Tag → Bool) (tag first : Tag) (tags : List Tag) (b : Bool) → list_any test (with_tag tag tags) ≡ test tag || list_any test tags
    → list_any test (if b then first ∷ with_tag tag tags else tag ∷ first ∷ tags) ≡ test tag || (test first || list_any test tags)
any_case test tag first tags true before = ap (λ b. test first || b) before ∙ swapped_or (test first) (test tag) (list_any test tags)
any_case test tag first tags false before = refl

any_with : (test : Tag → Bool) (tag : Tag) (tags : List Tag) → list_any test (with_tag tag tags) ≡ test tag || list_any test tags
any_with test tag [] = refl
any_with test tag (first ∷ tags) = any_case test tag first tags (is_tag_before first tag) (any_with test tag tags)

length_case : (tag first : Tag) (tags : List Tag) (b : Bool) → length (with_tag tag tags) ≡ length tags + 1
    → length (if b then first ∷ with_tag tag tags else tag ∷ first ∷ tags) ≡ length (first ∷ tags) + 1
length_case tag first tags true before = omega (arith, before)
length_case tag first tags false before = omega arith

length_with : (tag : Tag) (tags : List Tag) → length (with_tag tag tags) ≡ length tags + 1
length_with tag [] = refl
length_with tag (first ∷ tags) = length_case tag first tags (is_tag_before first tag) (length_with tag tags)

rise_case : (tag first : Tag) (tags : List Tag) (b : Bool) → is_tag_before first tag ≡ b → keys_rise (first ∷ tags) ≡ true → bytes_eq first.0 tag.0 ≡ false
    → keys_rise (with_tag tag tags) ≡ true → keys_rise (if b then first ∷ with_tag tag tags else tag ∷ first ∷ tags) ≡ true
rise_case tag first tags true before rise other rise_with =
    let parts = and_parts (list_all (is_tag_before first) tags) (keys_rise tags) rise in
    let all : list_all (is_tag_before first) (with_tag tag tags) ≡ true = all_with (is_tag_before first) tag tags
    ∙ and_from (is_tag_before first tag) (list_all (is_tag_before first) tags) before parts.0 in
    and_from (list_all (is_tag_before first) (with_tag tag tags)) (keys_rise (with_tag tag tags)) all rise_with
rise_case tag first tags false before rise other rise_with =
    let parts = and_parts (list_all (is_tag_before first) tags) (keys_rise tags) rise in
    let after : is_tag_before tag first ≡ true = turned first tag before other in
    let all : list_all (is_tag_before tag) (first ∷ tags) ≡ true = and_from (is_tag_before tag first) (list_all (is_tag_before tag) tags) after (all_later tag first tags after parts.0) in
    and_from (list_all (is_tag_before tag) (first ∷ tags)) (keys_rise (first ∷ tags)) all rise

rise_with : (tag : Tag) (tags : List Tag) → keys_rise tags ≡ true → has_key tags tag.0 ≡ false → keys_rise (with_tag tag tags) ≡ true
rise_with tag [] rise other = refl
rise_with tag (first ∷ tags) rise other =
    let parts = and_parts (list_all (is_tag_before first) tags) (keys_rise tags) rise in
    let others = or_parts (bytes_eq first.0 tag.0) (has_key tags tag.0) other in
    rise_case tag first tags (is_tag_before first tag) refl rise others.0 (rise_with tag tags parts.1 others.1)

-- all tags in order
length_by_key : (tags : List Tag) → length (by_key tags) ≡ length tags
unfolding by_key
length_by_key [] = refl
length_by_key (tag ∷ tags) = omega (arith, length_with tag (by_key tags), length_by_key tags)

all_by_key : (test : Tag → Bool) (tags : List Tag) → list_all test (by_key tags) ≡ list_all test tags
unfolding by_key
all_by_key test [] = refl
all_by_key test (tag ∷ tags) = all_with test tag (by_key tags) ∙ ap (λ b. test tag && b) (all_by_key test tags)

any_by_key : (test : Tag → Bool) (tags : List Tag) → list_any test (by_key tags) ≡ list_any test tags
unfolding by_key
any_by_key test [] = refl
any_by_key test (tag ∷ tags) = any_with test tag (by_key tags) ∙ ap (λ b. test tag || b) (any_by_key test tags)

pub rise_by_key : (tags : List Tag) → keys_differ tags ≡ true → keys_rise (by_key tags) ≡ true
unfolding by_key
rise_by_key [] differ = refl
rise_by_key (tag ∷ tags) differ =
    let parts = and_parts (not (has_key tags tag.0)) (keys_differ tags) differ in
    let other : has_key (by_key tags) tag.0 ≡ false = any_by_key (λ t. bytes_eq t.0 tag.0) tags ∙ not-true (has_key tags tag.0) parts.0 in
    rise_with tag (by_key tags) (rise_by_key tags parts.1) other

pub kept_tags : (tags : List Tag) → are_tags tags ≡ true → AreTags (by_key tags)
unfolding are_tags
kept_tags tags are =
    let parts = and_parts (nat_le (length tags) 10 && list_all is_tag tags) (keys_differ tags) are in
    let sizes = and_parts (nat_le (length tags) 10) (list_all is_tag tags) parts.0 in
    let small : nat_le (length tags) 10 ≡ true = sizes.0 in
    let few : length tags ≤ 10 = grind (arith, nat_tests) in
    record {
      few = omega (arith, few, length_by_key tags);
      in_range = all_by_key is_tag tags ∙ sizes.1;
      in_order = rise_by_key tags parts.1;
    }

-- the same tags
permuted_case : (tag first : Tag) (tags : List Tag) (b : Bool) → IsPermutation (tag ∷ tags) (with_tag tag tags)
    → IsPermutation (tag ∷ first ∷ tags) (if b then first ∷ with_tag tag tags else tag ∷ first ∷ tags)
permuted_case tag first tags true before =
    IsPermutation-trans (tag ∷ first ∷ tags) (first ∷ tag ∷ tags) (first ∷ with_tag tag tags)
    (IsPermutation-sym (first ∷ tag ∷ tags) (tag ∷ first ∷ tags) (IsPermutation-middle (first ∷ []) tag tags))
    (IsPermutation-cons first (tag ∷ tags) (with_tag tag tags) before)
permuted_case tag first tags false before = IsPermutation-refl (tag ∷ first ∷ tags)

permuted_with : (tag : Tag) (tags : List Tag) → IsPermutation (tag ∷ tags) (with_tag tag tags)
permuted_with tag [] = IsPermutation-refl (tag ∷ [])
permuted_with tag (first ∷ tags) = permuted_case tag first tags (is_tag_before first tag) (permuted_with tag tags)

pub permuted_by_key : (tags : List Tag) → IsPermutation tags (by_key tags)
unfolding by_key
permuted_by_key [] = IsPermutation-refl []
permuted_by_key (tag ∷ tags) =
    IsPermutation-trans (tag ∷ tags) (tag ∷ by_key tags) (with_tag tag (by_key tags))
    (IsPermutation-cons tag tags (by_key tags) (permuted_by_key tags)) (permuted_with tag (by_key tags))

-- tags whose keys rise stand in order
back_case : (r : Ordering) → is_lt r ≡ true → is_lt (ordering_reverse r) ≡ false
back_case Less lt = refl
back_case Equal lt = absurd cc
back_case Greater lt = absurd cc

not_back : (a b : Tag) → is_tag_before a b ≡ true → is_tag_before b a ≡ false
not_back a b before = ap is_lt (nat_list_cmp_total.antisymm b.0 a.0) ∙ back_case (slice_cmp nat_cmp a.0 b.0) before

in_front : (tag : Tag) (tags : List Tag) → list_all (is_tag_before tag) tags ≡ true → with_tag tag tags ≡ tag ∷ tags
in_front tag [] all = refl
in_front tag (first ∷ tags) all =
    let parts = and_parts (is_tag_before tag first) (list_all (is_tag_before tag) tags) all in
    ap (λ b. if b then first ∷ with_tag tag tags else tag ∷ first ∷ tags) (not_back tag first parts.0)

pub kept_in_order : (tags : List Tag) → keys_rise tags ≡ true → by_key tags ≡ tags
unfolding by_key
kept_in_order [] rise = refl
kept_in_order (tag ∷ tags) rise =
    let parts = and_parts (list_all (is_tag_before tag) tags) (keys_rise tags) rise in
    ap (with_tag tag) (kept_in_order tags parts.1) ∙ in_front tag tags parts.0

-- what the order of tags is
pub ruleset order_of_tags = (permuted_by_key, rise_by_key, kept_in_order)

-- copies of pairs are the same tags
pub copied : (R : String Global × String Global → String Global × String Global → Type 0) (xs ys : List (String Global × String Global))
    → AllZip R xs ys → ((x y : String Global × String Global) → R x y → tag_of y ≡ tag_of x) → tags_of ys ≡ tags_of xs
copied R [] [] all same = refl
copied R [] (y ∷ ys) all same = absurd all
copied R (x ∷ xs) [] all same = absurd all
copied R (x ∷ xs) (y ∷ ys) all same = ap (λ t. t ∷ tags_of ys) (same x y all.0) ∙ ap (λ ts. tag_of x ∷ ts) (copied R xs ys all.1 same)

pub same_tag : (x y : String Global × String Global) → string_bytes y.0 ≡ string_bytes x.0 → string_bytes y.1 ≡ string_bytes x.1 → tag_of y ≡ tag_of x
same_tag x y key value = ap (λ k. (k, string_bytes y.1)) key ∙ ap (λ v. (string_bytes x.0, v)) value
