-- The names of an object, and the values that they have.
use Rattle.std.proofs.Common.{◌≡◌, ℕ, zero, suc, ◌<◌, List, [], ◌∷◌, length, Bool, true, false, cond}
use Rattle.std.proofs.Common.{Option, Some, None, Ordering, Less, Equal, Greater, nat_cmp, is_eq}
use Rattle.std.proofs.Common.{refl, sym, ap, ◌∙◌, arith}
use Rattle.std.proofs.lemmas.Cmp.{nat_list_cmp_total, tied_itself, upto}
use Rattle.std.proofs.lemmas.Map.Text.{is_eq-slice_cmp}
use Rattle.std.proofs.lemmas.Slice.Eq.{bytes_eq-Decides}
use Rattle.std.specs.Cmp.Lexicographic.{slice_cmp}
use Rattle.std.specs.List.{find}
use Rattle.std.specs.Ordering.{match_ordering, ordering_reverse, is_gt}
use Rattle.serde_json.specs.Data.{Data, null, boolean, number, string, array, object, Members, no_members, member, put}
use Rattle.serde_json.specs.Find.{get, get_member, as_object}
use Rattle.serde_json.proofs.Views.{get_member-put, get_member-put_other}
use Rattle.json_fields.specs.Fields.{names_of}
use Rattle.json_fields.specs.Names.{earlier}
use Rattle.json_fields.specs.Nodes.{members_from, text_in}

-- ---- values

pub in_object : (name : List ℕ) (d : Data) (ms : Members) → Some ms ≡ as_object d → get_member name ms ≡ get name d
in_object name null ms is = absurd cc
in_object name (boolean b) ms is = absurd cc
in_object name (number n) ms is = absurd cc
in_object name (string s) ms is = absurd cc
in_object name (array ds) ms is = absurd cc
in_object name (object es) ms is = ap (λ o. get_member name (members_in o)) is
  where
    members_in : Option Members → Members
    members_in None = no_members
    members_in (Some found) = found

pub in_no_object : (name : List ℕ) (d : Data) → None ≡ as_object d → None ≡ get name d
in_no_object name null is = refl
in_no_object name (boolean b) is = refl
in_no_object name (number n) is = refl
in_no_object name (string s) is = refl
in_no_object name (array ds) is = refl
in_no_object name (object es) is = absurd cc

-- the last field of a name has its value
pub found_here : (name key : List ℕ) (d : Data) (ms all : Members) → all ≡ put key d ms → key ≡ name → Some d ≡ get_member name all
found_here name key d ms all is same =
    sym (ap (get_member name) is ∙ ap (λ k. get_member name (put k d ms)) same ∙ get_member-put name d ms)

pub found_later : (name key : List ℕ) (d : Data) (ms all : Members) → all ≡ put key d ms → (key ≡ name → ⊥)
    → get_member name ms ≡ get_member name all
found_later name key d ms all is other =
    sym (ap (get_member name) is ∙ get_member-put_other name key d ms (λ same. other (sym same)))

-- ---- the order of names

abbrev order : List ℕ → List ℕ → Ordering
order = slice_cmp nat_cmp

-- all names are after this one
abbrev AreAfter : List ℕ → Members → Type 0
AreAfter name no_members = Unit {0}
AreAfter name (member k d ms) = (order name k ≡ Less) × AreAfter name ms

-- the names are in order
abbrev AreInOrder : Members → Type 0
AreInOrder no_members = Unit {0}
AreInOrder (member k d ms) = AreAfter k ms × AreInOrder ms

after-earlier : (name k : List ℕ) (ms : Members) → order name k ≡ Less → AreAfter k ms → AreAfter name ms
after-earlier name k no_members less after = tt
after-earlier name k (member l d ms) less after =
    (nat_list_cmp_total.trans name k l less after.0, after-earlier name k ms less after.1)

back : (a b : List ℕ) → order a b ≡ Greater → order b a ≡ Less
back a b is = nat_list_cmp_total.antisymm b a ∙ ap ordering_reverse is

after-put : (name k : List ℕ) (d : Data) (ms : Members) → order name k ≡ Less → AreAfter name ms → AreAfter name (put k d ms)
after-put name k d no_members less after = (less, tt)
after-put name k d (member l e ms) less after = go (order k l) (after-put name k d ms less after.1)
  where
    go : (o : Ordering) → AreAfter name (put k d ms)
        → AreAfter name (match_ordering o (member k d (member l e ms)) (member l d ms) (member l e (put k d ms)))
    go Less more = (less, after)
    go Equal more = after
    go Greater more = (after.0, more)

in_order-put : (k : List ℕ) (d : Data) (ms : Members) → AreInOrder ms → AreInOrder (put k d ms)
in_order-put k d no_members all = (tt, tt)
in_order-put k d (member l e ms) all = go (order k l) refl (in_order-put k d ms all.1)
  where
    go : (o : Ordering) → order k l ≡ o → AreInOrder (put k d ms)
        → AreInOrder (match_ordering o (member k d (member l e ms)) (member l d ms) (member l e (put k d ms)))
    go Less is more = ((is, after-earlier k l ms is all.0), all)
    go Equal is more = all
    go Greater is more = (after-put l k d ms (back k l is) all.0, more)

pub in_order-from : (n : ℕ) (stack : List Data) → AreInOrder (members_from n stack)
unfolding members_from
in_order-from zero stack = tt
in_order-from (suc zero) stack = tt
in_order-from (suc (suc n)) [] = tt
in_order-from (suc (suc n)) (name ∷ []) = tt
in_order-from (suc (suc n)) (name ∷ d ∷ stack) = in_order-put (text_in name) d _ (in_order-from n stack)

-- ---- the first name that passes a test

same_name : (k l : List ℕ) → order k l ≡ Equal → k ≡ l
same_name k l is = (bytes_eq-Decides k l).0 (sym (is_eq-slice_cmp k l) ∙ ap is_eq is)

module _ (p : List ℕ → Bool) where
  -- a name that fails changes nothing
  pub find-failing : (k : List ℕ) (d : Data) (ms : Members) → p k ≡ false → find p (names_of (put k d ms)) ≡ find p (names_of ms)
  find-failing k d no_members fails = rw fails refl
  find-failing k d (member l e ms) fails = go (order k l) (find-failing k d ms fails)
    where
      go : (o : Ordering) → find p (names_of (put k d ms)) ≡ find p (names_of ms)
          → find p (names_of (match_ordering o (member k d (member l e ms)) (member l d ms) (member l e (put k d ms))))
          ≡ find p (names_of (member l e ms))
      go Less more = rw fails refl
      go Equal more = refl
      go Greater more = ap (λ rest. cond (p l) (Some l) rest) more

  first_of_all : (k : List ℕ) (ms : Members) → AreAfter k ms → earlier (Some k) (find p (names_of ms)) ≡ Some k
  first_of_all k no_members after = refl
  first_of_all k (member l d ms) after = go (p l) (first_of_all k ms after.1)
    where
      go : (b : Bool) → earlier (Some k) (find p (names_of ms)) ≡ Some k
          → earlier (Some k) (cond b (Some l) (find p (names_of ms))) ≡ Some k
      go true more = rw after.0 refl
      go false more = more

  -- a name that passes is the first, or the first is the one of the others
  pub find-passing : (k : List ℕ) (d : Data) (ms : Members) → AreInOrder ms → p k ≡ true
      → find p (names_of (put k d ms)) ≡ earlier (Some k) (find p (names_of ms))
  find-passing k d no_members all passes = rw passes refl
  find-passing k d (member l e ms) all passes = go (order k l) refl (p l) refl (find-passing k d ms all.1 passes)
    where
      go : (o : Ordering) → order k l ≡ o → (b : Bool) → p l ≡ b
          → find p (names_of (put k d ms)) ≡ earlier (Some k) (find p (names_of ms))
          → find p (names_of (match_ordering o (member k d (member l e ms)) (member l d ms) (member l e (put k d ms))))
          ≡ earlier (Some k) (find p (names_of (member l e ms)))
      go Less is b tested more =
          rw passes (sym (first_of_all k (member l e ms) (is, after-earlier k l ms is all.0)))
      go Equal is b tested more =
          let passes_too : p l ≡ true = ap p (sym (same_name k l is)) ∙ passes in
          rw (passes_too, is) (ap Some (sym (same_name k l is)))
      go Greater is true tested more = rw (tested, is) refl
      go Greater is false tested more = rw tested more

gt_is : (o : Ordering) → is_gt o ≡ true → o ≡ Greater
gt_is Less is = absurd cc
gt_is Equal is = absurd cc
gt_is Greater is = refl

pub earlier-none : (name : Option (List ℕ)) → earlier name None ≡ name
earlier-none None = refl
earlier-none (Some name) = refl

-- the first of three
pub earlier-assoc : (a : Option (List ℕ)) (n : List ℕ) (c : Option (List ℕ)) → earlier (earlier a (Some n)) c ≡ earlier a (earlier (Some n) c)
earlier-assoc None n c = refl
earlier-assoc (Some x) n None = go (is_gt (order x n))
  where
    go : (b : Bool) → earlier (cond b (Some n) (Some x)) None ≡ cond b (Some n) (Some x)
    go true = refl
    go false = refl
earlier-assoc (Some x) n (Some z) = go (is_gt (order x n)) refl (is_gt (order n z)) refl
  where
    go : (b : Bool) → is_gt (order x n) ≡ b → (c : Bool) → is_gt (order n z) ≡ c
        → earlier (cond b (Some n) (Some x)) (Some z) ≡ earlier (Some x) (cond c (Some z) (Some n))
    go true first true second =
        let down : order z x ≡ Less =
        nat_list_cmp_total.trans z n x (back n z (gt_is _ second)) (back x n (gt_is _ first)) in
        let after : order x z ≡ Greater = nat_list_cmp_total.antisymm x z ∙ ap ordering_reverse down in
        rw (second, after) refl
    go true first false second = rw (second, first) refl
    go false first true second = refl
    go false first false second = rw (first, upto nat_list_cmp_total x n z first second) refl

-- ---- how many names

-- the value does not change the names
pub names-put : (k : List ℕ) (d e : Data) (ms : Members) → names_of (put k d ms) ≡ names_of (put k e ms)
names-put k d e no_members = refl
names-put k d e (member l f ms) = go (order k l) (names-put k d e ms)
  where
    go : (o : Ordering) → names_of (put k d ms) ≡ names_of (put k e ms)
        → names_of (match_ordering o (member k d (member l f ms)) (member l d ms) (member l f (put k d ms)))
        ≡ names_of (match_ordering o (member k e (member l f ms)) (member l e ms) (member l f (put k e ms)))
    go Less more = refl
    go Equal more = refl
    go Greater more = ap (λ names. l ∷ names) more

-- a name counts once
pub names-put_again : (k : List ℕ) (d e : Data) (ms : Members) → names_of (put k d (put k e ms)) ≡ names_of (put k d ms)
names-put_again k d e no_members = rw (tied_itself nat_list_cmp_total k) refl
names-put_again k d e (member l f ms) = go (order k l) refl (names-put_again k d e ms)
  where
    go : (o : Ordering) → order k l ≡ o → names_of (put k d (put k e ms)) ≡ names_of (put k d ms)
        → names_of (put k d (match_ordering o (member k e (member l f ms)) (member l e ms) (member l f (put k e ms))))
        ≡ names_of (match_ordering o (member k d (member l f ms)) (member l d ms) (member l f (put k d ms)))
    go Less is more = rw (tied_itself nat_list_cmp_total k) refl
    go Equal is more = rw is refl
    go Greater is more = rw is (ap (λ names. l ∷ names) more)

-- an object that a field was put into has a name
some_name : (k : List ℕ) (d : Data) (ms : Members) → 0 < length (names_of (put k d ms))
some_name k d no_members = omega arith
some_name k d (member l f ms) = go (order k l) (some_name k d ms)
  where
    go : (o : Ordering) → 0 < length (names_of (put k d ms))
        → 0 < length (names_of (match_ordering o (member k d (member l f ms)) (member l d ms) (member l f (put k d ms))))
    go Less more = omega arith
    go Equal more = omega arith
    go Greater more = omega arith

-- fields of two names are two
pub two_names : (k q : List ℕ) (d e : Data) (ms : Members) → (k ≡ q → ⊥) → 1 < length (names_of (put k d (put q e ms)))
two_names k q d e no_members other = go (order k q) refl
  where
    go : (o : Ordering) → order k q ≡ o
        → 1 < length (names_of (match_ordering o (member k d (member q e no_members)) (member q d no_members) (member q e (put k d no_members))))
    go Less is = omega arith
    go Equal is = absurd (other (same_name k q is))
    go Greater is = omega arith
two_names k q d e (member l f ms) other = go (order q l) refl (two_names k q d e ms other)
  where
    long : (o : Ordering) (n : List ℕ) (g : Data) (rest : Members) → 0 < length (names_of rest)
        → 1 < length (names_of (match_ordering o (member k d (member n g rest)) (member n d rest) (member n g (put k d rest))))
    long Less n g rest some = omega arith
    long Equal n g rest some = omega (arith, some)
    long Greater n g rest some = omega (arith, some_name k d rest)

    go : (o : Ordering) → order q l ≡ o → 1 < length (names_of (put k d (put q e ms)))
        → 1 < length (names_of (put k d (match_ordering o (member q e (member l f ms)) (member l e ms) (member l f (put q e ms)))))
    go Less is more = long (order k q) q e (member l f ms) (omega arith)
    go Equal is more = at_one (order k l) refl
      where
        at_one : (o : Ordering) → order k l ≡ o
            → 1 < length (names_of (match_ordering o (member k d (member l e ms)) (member l d ms) (member l e (put k d ms))))
        at_one Less at = omega arith
        at_one Equal at = absurd (other (same_name k l at ∙ sym (same_name q l is)))
        at_one Greater at = omega (arith, some_name k d ms)
    go Greater is more = long (order k l) l f (put q e ms) (some_name q e ms)
