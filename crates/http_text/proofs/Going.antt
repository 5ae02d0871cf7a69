-- Lists that are written item by item.
use Rattle.std.proofs.Common.{◌≡◌, ◌∙◌, ℕ, ◌+◌, ◌<◌, Bool, true, false, List, [], ◌∷◌, ◌++◌, length, map, get_or, drop, refl, sym, ap, append_assoc, Ordering, Less, Equal, Greater, nat_cmp, String}
use Rattle.std.specs.declared.alloc.Global.{Global}
use Rattle.std.specs.List.{list_all}
use Rattle.std.specs.Ordering.{match_ordering, is_lt}
use Rattle.std.specs.Cmp.Lexicographic.{slice_cmp}
use Rattle.std.proofs.lemmas.List.{drop_more}
use Rattle.std.proofs.lemmas.Bool.{and_parts}
use Rattle.json.specs.Print.{quoted}
use Rattle.serde_json.specs.Data.{Data, string, Members, no_members, member, put}
use Rattle.serde_json.specs.View.{items_of}
use Rattle.serde_json.specs.Written.{comma_if, compact_text, items_text, members_text}
use Rattle.office_base.specs.Tags.{Tag, is_tag_before, keys_rise, tag_of, tags_of}
use Rattle.uploads.specs.declared.part.Part.{Part}
use Rattle.http_text.specs.Bodies.{part_data, tags_text}
use Rattle.http_text.specs.Json.{members, tag_members}
use Rattle.http_text.specs.Parts.{tag_part, upload_part}
use Rattle.http_text.specs.Room.{Puts}
use Rattle.http_text.proofs.RoomLemmas.{puts_then, puts_same}

-- ---- a text of which some is written, and this is left

abbrev pub Going : List ℕ → ℕ → List ℕ → ℕ → List ℕ → List ℕ → Type 0
Going old at new end left whole = (done : List ℕ) × Puts old at new end done × (done ++ left ≡ whole)

pub going_on : {a b c : List ℕ} {at mid end : ℕ} (left whole x more : List ℕ) → Going a at b mid left whole → left ≡ x ++ more → Puts b mid c end x → Going a at c end more whole
going_on left whole x more (done, puts, is) parts next =
    (done ++ x, puts_then done x puts next, append_assoc done x more ∙ ap (λ (t : List ℕ). done ++ t) (sym parts) ∙ is)

pub going_end : {a b c : List ℕ} {at mid end : ℕ} (left whole : List ℕ) → Going a at b mid left whole → Puts b mid c end left → Puts a at c end whole
going_end left whole (done, puts, is) next = puts_same (done ++ left) whole is (puts_then done left puts next)

-- ---- items of an array

pub item_left : {X : Type 0} (f : X → Data) (later : Bool) (xs : List X) (i : ℕ) (d : X) → i < length xs
    → items_text later (items_of (map f (drop i xs))) ≡ (comma_if later ++ compact_text (f (get_or xs i d))) ++ items_text true (items_of (map f (drop (i + 1) xs)))
item_left f later xs i d inside =
    ap (λ ys. items_text later (items_of (map f ys))) (drop_more xs i d inside)
    ∙ sym (append_assoc (comma_if later) (compact_text (f (get_or xs i d))) (items_text true (items_of (map f (drop (i + 1) xs)))))

pub part_left : (later : Bool) (part : ℕ × Part) (parts : List (ℕ × Part))
    → items_text later (items_of (map part_data (part ∷ parts))) ≡ upload_part later part ++ items_text true (items_of (map part_data parts))
part_left later part parts = sym (append_assoc (comma_if later) (compact_text (part_data part)) (items_text true (items_of (map part_data parts))))

-- ---- tags

-- members in this order
abbrev pub row : List Tag → Members
row [] = no_members
row (tag ∷ tags) = member tag.0 (string tag.1) (row tags)

first_by : (o : Ordering) (a b c : Members) → is_lt o ≡ true → match_ordering o a b c ≡ a
first_by Less a b c is = refl
first_by Equal a b c is = absurd cc
first_by Greater a b c is = absurd cc

put_first : (tag : Tag) (tags : List Tag) → list_all (is_tag_before tag) tags ≡ true → put tag.0 (string tag.1) (row tags) ≡ row (tag ∷ tags)
put_first tag [] all = refl
put_first tag (next ∷ tags) all =
    first_by (slice_cmp nat_cmp tag.0 next.0) (member tag.0 (string tag.1) (row (next ∷ tags))) _ _ (and_parts (is_tag_before tag next) (list_all (is_tag_before tag) tags) all).0

-- tags whose keys rise are members in their order
pub in_row : (tags : List Tag) → keys_rise tags ≡ true → members (tag_members tags) ≡ row tags
in_row [] rises = refl
in_row (tag ∷ tags) rises =
    let parts = and_parts (list_all (is_tag_before tag) tags) (keys_rise tags) rises in
    ap (put tag.0 (string tag.1)) (in_row tags parts.1) ∙ put_first tag tags parts.0

pub tags_in_row : (tags : List Tag) → keys_rise tags ≡ true → 123 ∷ members_text false (row tags) ≡ tags_text tags
unfolding tags_text
tags_in_row tags rises = ap (λ (ms : Members). 123 ∷ members_text false ms) (sym (in_row tags rises))

pub tag_left : (later : Bool) (pairs : List (String Global × String Global)) (i : ℕ) (d : String Global × String Global) → i < length pairs
    → members_text later (row (tags_of (drop i pairs))) ≡ tag_part later (tag_of (get_or pairs i d)) ++ members_text true (row (tags_of (drop (i + 1) pairs)))
tag_left later pairs i d inside =
    let tag = tag_of (get_or pairs i d) in
    let more = members_text true (row (tags_of (drop (i + 1) pairs))) in
    ap (λ ys. members_text later (row (tags_of ys))) (drop_more pairs i d inside)
    ∙ ap (λ (t : List ℕ). comma_if later ++ t) (sym (append_assoc (quoted tag.0) (58 ∷ quoted tag.1) more))
    ∙ sym (append_assoc (comma_if later) (quoted tag.0 ++ (58 ∷ quoted tag.1)) more)
