-- Texts by their names, one more at a time.
use Rattle.std.proofs.Common.{◌≡◌, ℕ, List, [], ◌∷◌, Bool, true, false, Option, Some, None, Err, option_and_then, map, cond}
use Rattle.std.proofs.Common.{◌<◌, length, is_some, Ordering, Less, Equal, Greater, is_eq, refl, sym, ap, ◌∙◌}
use Rattle.std.proofs.lemmas.Bool.{lt-leb}
use Rattle.std.proofs.lemmas.List.{length-map}
use Rattle.std.specs.Borrow.{Bor}
use Rattle.std.specs.BTreeMap.{insert_entry, is_at}
use Rattle.std.specs.List.Sorted.{IsStrictlySortedBy}
use Rattle.std.specs.Map.{keys_of, lookup}
use Rattle.std.specs.Ordering.{match_ordering}
use Rattle.serde_json.specs.Data.{Data, null, boolean, number, string, array, object, Members, no_members, member, put}
use Rattle.serde_json.specs.Find.{as_str, as_object}
use Rattle.office_base.specs.Tags.{Tag, are_tags}
use Rattle.http_bodies.specs.Bodies.{text_members, text_pairs}
use Rattle.http_bodies.specs.Flaws.{bad_tags}
use Rattle.http_bodies.specs.Ranges.{tags_in_range}
use Rattle.http_bodies.specs.Pairs.{Named, pair_of, pairs_of}
use Rattle.http_bodies.proofs.PutLemmas.{order, same_name, tied, put_twice, put_twice_at, put_other}

-- members, with these texts in place of what they have at the same names
abbrev pub over : List Named → Members → Members
over [] ms = ms
over (e ∷ es) ms = put e.0.now (string e.1.now) (over es ms)

-- the order of names behind references
abbrev pub names_cmp : Bor (List ℕ) → Bor (List ℕ) → Ordering
names_cmp a b = order a.now b.now

-- whether a name is among them
abbrev pub has_name : List ℕ → List Named → Bool
has_name k es = is_some (lookup (is_at (λ (q : Bor (List ℕ)). order k q.now)) es)

apart : (k l : List ℕ) (o : Ordering) → order k l ≡ o → (o ≡ Equal → ⊥) → k ≡ l → ⊥
apart k l o is other same = other (sym is ∙ tied k l same)

-- a value under one of the same name plays no part
put_over : (k : List ℕ) (x d : Data) (es : List Named) (ms : Members) → put k x (over es (put k d ms)) ≡ put k x (over es ms)
put_over k x d [] ms = put_twice k x d ms
put_over k x d (e ∷ es) ms = go (order k e.0.now) refl (put_over k x d es ms)
  where
    pass : (k ≡ e.0.now → ⊥) → put k x (over es (put k d ms)) ≡ put k x (over es ms)
        → put k x (over (e ∷ es) (put k d ms)) ≡ put k x (over (e ∷ es) ms)
    pass other more =
        put_other k e.0.now x (string e.1.now) (over es (put k d ms)) other
        ∙ ap (put e.0.now (string e.1.now)) more
        ∙ sym (put_other k e.0.now x (string e.1.now) (over es ms) other)

    go : (o : Ordering) → order k e.0.now ≡ o → put k x (over es (put k d ms)) ≡ put k x (over es ms)
        → put k x (over (e ∷ es) (put k d ms)) ≡ put k x (over (e ∷ es) ms)
    go Less is more = pass (apart k e.0.now Less is (λ (h : Less ≡ Equal). absurd cc)) more
    go Equal is more =
        let same = same_name k e.0.now is in
        put_twice_at k e.0.now x (string e.1.now) (over es (put k d ms)) same ∙ more
        ∙ sym (put_twice_at k e.0.now x (string e.1.now) (over es ms) same)
    go Greater is more = pass (apart k e.0.now Greater is (λ (h : Greater ≡ Equal). absurd cc)) more

-- a field whose name is there already
pub over_hidden : (k : List ℕ) (d : Data) (es : List Named) (ms : Members) → true ≡ has_name k es
    → over es (put k d ms) ≡ over es ms
over_hidden k d [] ms has = absurd cc
over_hidden k d (e ∷ es) ms has = go (order k e.0.now) refl has (over_hidden k d es ms)
  where
    go : (o : Ordering) → order k e.0.now ≡ o → true ≡ is_some (cond (is_eq o) (Some e.1) (lookup (is_at (λ (q : Bor (List ℕ)). order k q.now)) es))
        → (true ≡ has_name k es → over es (put k d ms) ≡ over es ms)
        → over (e ∷ es) (put k d ms) ≡ over (e ∷ es) ms
    go Less is has more = ap (put e.0.now (string e.1.now)) (more has)
    go Equal is has more =
        let same = same_name k e.0.now is in
        ap (λ q. put q (string e.1.now) (over es (put k d ms))) (sym same)
        ∙ put_over k (string e.1.now) d es ms ∙ ap (λ q. put q (string e.1.now) (over es ms)) same
    go Greater is has more = ap (put e.0.now (string e.1.now)) (more has)

-- a field of a new name
pub over_new : (k : List ℕ) (d : Data) (es : List Named) (ms : Members) → false ≡ has_name k es
    → over es (put k d ms) ≡ put k d (over es ms)
over_new k d [] ms none = refl
over_new k d (e ∷ es) ms none = go (order k e.0.now) refl none (over_new k d es ms)
  where
    pass : (k ≡ e.0.now → ⊥) → over es (put k d ms) ≡ put k d (over es ms) → over (e ∷ es) (put k d ms) ≡ put k d (over (e ∷ es) ms)
    pass other more =
        ap (put e.0.now (string e.1.now)) more ∙ sym (put_other k e.0.now d (string e.1.now) (over es ms) other)

    go : (o : Ordering) → order k e.0.now ≡ o → false ≡ is_some (cond (is_eq o) (Some e.1) (lookup (is_at (λ (q : Bor (List ℕ)). order k q.now)) es))
        → (false ≡ has_name k es → over es (put k d ms) ≡ put k d (over es ms))
        → over (e ∷ es) (put k d ms) ≡ put k d (over (e ∷ es) ms)
    go Less is none more = pass (apart k e.0.now Less is (λ (h : Less ≡ Equal). absurd cc)) (more none)
    go Equal is none more = absurd cc
    go Greater is none more = pass (apart k e.0.now Greater is (λ (h : Greater ≡ Equal). absurd cc)) (more none)

pub over-insert : (name text : Bor (List ℕ)) (es : List Named) (ms : Members) → false ≡ has_name name.now es
    → over (insert_entry names_cmp es name text) ms ≡ over es (put name.now (string text.now) ms)
over-insert name text [] ms none = refl
over-insert name text (e ∷ es) ms none = go (order name.now e.0.now) refl none (over-insert name text es ms)
  where
    go : (o : Ordering) → order name.now e.0.now ≡ o
        → false ≡ is_some (cond (is_eq o) (Some e.1) (lookup (is_at (λ (q : Bor (List ℕ)). order name.now q.now)) es))
        → (false ≡ has_name name.now es → over (insert_entry names_cmp es name text) ms ≡ over es (put name.now (string text.now) ms))
        → over (match_ordering o ((name, text) ∷ e ∷ es) ((e.0, text) ∷ es) (e ∷ insert_entry names_cmp es name text)) ms
        ≡ over (e ∷ es) (put name.now (string text.now) ms)
    go Less is absent more = sym (over_new name.now (string text.now) (e ∷ es) ms none)
    go Equal is absent more = absurd cc
    go Greater is absent more = ap (put e.0.now (string e.1.now)) (more absent)

-- a field that is no text
unread : (l : List ℕ) (e : Data) (ms : Members) → text_members ms ≡ None → text_members (member l e ms) ≡ None
unread l null ms is = refl
unread l (boolean b) ms is = refl
unread l (number n) ms is = refl
unread l (string s) ms is = rw is refl
unread l (array ds) ms is = refl
unread l (object os) ms is = refl

no_text : (k : List ℕ) (d : Data) (ms : Members) → as_str d ≡ None → text_members (member k d ms) ≡ None
no_text k null ms is = refl
no_text k (boolean b) ms is = refl
no_text k (number n) ms is = refl
no_text k (string s) ms is = absurd cc
no_text k (array ds) ms is = refl
no_text k (object os) ms is = refl

pub text_members-put : (k : List ℕ) (d : Data) (ms : Members) → as_str d ≡ None → text_members (put k d ms) ≡ None
text_members-put k d no_members is = no_text k d no_members is
text_members-put k d (member l e ms) is = go (order k l) (text_members-put k d ms is)
  where
    go : (o : Ordering) → text_members (put k d ms) ≡ None
        → text_members (match_ordering o (member k d (member l e ms)) (member l d ms) (member l e (put k d ms))) ≡ None
    go Less more = no_text k d (member l e ms) is
    go Equal more = no_text l d ms is
    go Greater more = unread l e (put k d ms) more

pub string_of : (d : Data) (s : List ℕ) → Some s ≡ as_str d → d ≡ string s
string_of null s is = absurd cc
string_of (boolean b) s is = absurd cc
string_of (number n) s is = absurd cc
string_of (string t) s is = ap string (text_is is)
  where
    text_is : Some s ≡ Some t → t ≡ s
    text_is same = cc
string_of (array ds) s is = absurd cc
string_of (object os) s is = absurd cc

-- ---- at the end

abbrev as_members : List Named → Members
as_members [] = no_members
as_members (e ∷ es) = member e.0.now (string e.1.now) (as_members es)

over-sorted : (es : List Named) → IsStrictlySortedBy names_cmp (keys_of es) → over es no_members ≡ as_members es
unfolding IsStrictlySortedBy
over-sorted [] sorted = refl
over-sorted (e ∷ []) sorted = refl
over-sorted (e ∷ f ∷ es) sorted =
    ap (put e.0.now (string e.1.now)) (over-sorted (f ∷ es) sorted.1) ∙ rw sorted.0.0 refl

texts_of : (es : List Named) → text_members (as_members es) ≡ Some (map pair_of es)
texts_of [] = refl
texts_of (e ∷ es) = rw (texts_of es) refl

-- sorted texts are the pairs
pub text_members-over : (es : List Named) → IsStrictlySortedBy names_cmp (keys_of es)
    → text_members (over es no_members) ≡ Some (pairs_of es)
text_members-over es sorted = ap text_members (over-sorted es sorted) ∙ texts_of es

-- ---- the pairs of a value

pub object_pairs : (d : Data) (ms : Members) (found : Option (List Tag)) → Some ms ≡ as_object d → found ≡ text_members ms
    → found ≡ text_pairs d
object_pairs d ms found is same = same ∙ ap (option_and_then text_members) is

pub no_pairs : (d : Data) → None ≡ as_object d → None ≡ text_pairs d
no_pairs d is = ap (option_and_then text_members) is

-- ---- more pairs than tags

too_many : (es : List Named) → 10 < length es → are_tags (pairs_of es) ≡ false
unfolding are_tags
too_many es more = rw (length-map es pair_of, lt-leb (length es) 10 more) refl

pub too_many_tags : (es : List Named) → 10 < length es → tags_in_range (Some (pairs_of es)) ≡ Err bad_tags
too_many_tags es more = rw (too_many es more) refl
