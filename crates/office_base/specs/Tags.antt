-- The tags of an object (S3 User Guide, "Categorizing your objects using tags").
use Rattle.std.specs.Prelude.{ℕ, Bool, true, not, ◌&&◌, nat_le, ◌≤◌, List, [], ◌∷◌, length, map, String, string_bytes, chars, if◌then◌else◌}
use Rattle.std.specs.Prelude.{IsTrue}
use Rattle.std.specs.declared.alloc.Global.{Global}
use Rattle.std.specs.List.{list_all, list_any}
use Rattle.std.specs.Str.{is_utf8, bytes_eq}
use Rattle.std.specs.Ordering.{nat_cmp, is_lt}
use Rattle.std.specs.Cmp.Lexicographic.{slice_cmp}

-- a tag: a key and a value, each a text as a list of bytes
abbrev pub Tag : Type 0
Tag = List ℕ × List ℕ

-- how many characters a text has
abbrev pub char_count : List ℕ → ℕ
char_count text = length (chars text)

-- a tag in range: two texts in UTF-8, the key of 1 to 128 characters, the value of at most 256
unfoldable pub is_tag : Tag → Bool
is_tag tag = is_utf8 tag.0 && is_utf8 tag.1 && nat_le 1 (char_count tag.0) && nat_le (char_count tag.0) 128
    && nat_le (char_count tag.1) 256

-- one of the tags has this key
abbrev pub has_key : List Tag → List ℕ → Bool
has_key tags key = list_any (λ tag. bytes_eq tag.0 key) tags

-- no key is repeated
abbrev pub keys_differ : List Tag → Bool
keys_differ [] = true
keys_differ (tag ∷ tags) = not (has_key tags tag.0) && keys_differ tags

-- at most 10 tags in range, whose keys differ
unfoldable pub are_tags : List Tag → Bool
are_tags tags = nat_le (length tags) 10 && list_all is_tag tags && keys_differ tags

-- the one comes before the other, by the bytes of their keys
abbrev pub is_tag_before : Tag → Tag → Bool
is_tag_before tag other = is_lt (slice_cmp nat_cmp tag.0 other.0)

-- the list with one more tag, placed after the leading tags that come before it
abbrev pub with_tag : Tag → List Tag → List Tag
with_tag tag [] = tag ∷ []
with_tag tag (first ∷ tags) = if is_tag_before first tag then first ∷ with_tag tag tags else tag ∷ first ∷ tags

-- the tags in the order of their keys
unfoldable pub by_key : List Tag → List Tag
by_key [] = []
by_key (tag ∷ tags) = with_tag tag (by_key tags)

-- the keys are in strictly ascending order
abbrev pub keys_rise : List Tag → Bool
keys_rise [] = true
keys_rise (tag ∷ tags) = list_all (is_tag_before tag) tags && keys_rise tags

-- tags as an object keeps them
pub record AreTags (tags : List Tag) : Type 0 where
  pub few : length tags ≤ 10
  pub in_range : IsTrue (list_all is_tag tags)
  pub in_order : IsTrue (keys_rise tags)

-- the bytes of a pair of texts
abbrev pub tag_of : String Global × String Global → Tag
tag_of pair = (string_bytes pair.0, string_bytes pair.1)

-- the bytes of pairs of texts, in their order
abbrev pub tags_of : List (String Global × String Global) → List Tag
tags_of pairs = map tag_of pairs
