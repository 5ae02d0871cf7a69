-- The first candidate of a search, in any order of the search.
use Rattle.std.proofs.Common.{◌≡◌, ◌⊎◌, inl, inr, List, [], ◌∷◌, refl, sym, ◌∙◌, subst, Bool, true, false, cond}
use Rattle.std.specs.Prelude.{Option, Some, None}
use Rattle.due_core.specs.Choice.{comes_before, least}
use Rattle.due_core.specs.declared.action.Candidate.{Candidate}
use Rattle.due_index.specs.Search.{Among, IsFirstOf, IsNotBefore, with_one, with_each}
use Rattle.due_index.proofs.Chosen.{candidate_order, least_is, no_least}

itself_by : (c : Candidate) (b : Bool) → comes_before c c ≡ b → b ≡ false
itself_by c true is = sym is ∙ candidate_order.one_way c c is
itself_by c false is = refl

pub itself : (c : Candidate) → comes_before c c ≡ false
itself c = itself_by c (comes_before c c) refl

same_first : (c : Candidate) (o : Option Candidate) → o ≡ Some c → IsNotBefore c o
same_first c o is = subst (λ p. IsNotBefore c p) (sym is) (itself c)

carried_by : (c m : Candidate) (new : Option Candidate) → comes_before c m ≡ false → IsNotBefore m new → IsNotBefore c new
carried_by c m None h k = k
carried_by c m (Some n) h k = candidate_order.chain c m n h k

-- what does not come before one that does not come before the first
pub behind : (c m : Candidate) (new : Option Candidate) → comes_before c m ≡ false → IsNotBefore m new → IsNotBefore c new
behind = carried_by

carried : (c : Candidate) (mid new : Option Candidate) → IsNotBefore c mid → ((m : Candidate) → mid ≡ Some m → IsNotBefore m new) → IsNotBefore c new
carried c None new h k = absurd h
carried c (Some m) new h k = carried_by c m new h (k m refl)

-- nothing was looked at
pub none_looked : (old : Option Candidate) (These : Candidate → Type 0) → ((c : Candidate) → These c → ⊥) → IsFirstOf old These old
none_looked old These none = record {
  one = λ c is. inl is;
  old_not_before = λ c is. same_first c old is;
  none_before = λ c h. absurd (none c h);
}

-- after these those
pub then_looked : (old mid new : Option Candidate) (These Those Both : Candidate → Type 0) → IsFirstOf old These mid → IsFirstOf mid Those new
    → ((c : Candidate) → These c → Both c) → ((c : Candidate) → Those c → Both c)
    → ((c : Candidate) → Both c → These c ⊎ Those c) → IsFirstOf old Both new
then_looked old mid new These Those Both a b left right split = record {
  one = λ c is. elim (b.one c is) [
    | inl m ↦ elim (a.one c m) [ inl o ↦ inl o | inr t ↦ inr (left c t) ]
    | inr t ↦ inr (right c t)
  ];
  old_not_before = λ c is. carried c mid new (a.old_not_before c is) b.old_not_before;
  none_before = λ c h. elim (split c h) [
    | inl t ↦ carried c mid new (a.none_before c t) b.old_not_before
    | inr t ↦ b.none_before c t
  ];
}

-- more than was looked at, where none of it comes before the first
pub also_looked : (old new : Option Candidate) (These More : Candidate → Type 0) → IsFirstOf old These new → ((c : Candidate) → These c → More c)
    → ((c : Candidate) → More c → IsNotBefore c new) → IsFirstOf old More new
also_looked old new These More a in_more behind = record {
  one = λ c is. elim (a.one c is) [ inl o ↦ inl o | inr t ↦ inr (in_more c t) ];
  old_not_before = a.old_not_before;
  none_before = behind;
}

-- the same candidates, told otherwise
pub same_looked : (old new : Option Candidate) (These Those : Candidate → Type 0) → IsFirstOf old These new → ((c : Candidate) → These c → Those c)
    → ((c : Candidate) → Those c → These c) → IsFirstOf old Those new
same_looked old new These Those a forth back = also_looked old new These Those a forth (λ c h. a.none_before c (back c h))

-- ---- one by one

one_by : (b x : Candidate) (t : Bool) → comes_before x b ≡ t → IsFirstOf (Some b) (λ c. x ≡ c) (Some (cond t x b))
one_by b x true is = record {
  one = λ c h. let same : x ≡ c = cc in inr same;
  old_not_before = λ c h. let same : b ≡ c = cc in subst (λ d. comes_before d x ≡ false) same (candidate_order.one_way x b is);
  none_before = λ c h. subst (λ d. comes_before d x ≡ false) h (itself x);
}
one_by b x false is = record {
  one = λ c h. inl h;
  old_not_before = λ c h. let same : b ≡ c = cc in subst (λ d. comes_before d b ≡ false) same (itself b);
  none_before = λ c h. subst (λ d. comes_before d b ≡ false) h is;
}

one_more : (old : Option Candidate) (x : Candidate) → IsFirstOf old (λ c. x ≡ c) (with_one old x)
one_more None x = record {
  one = λ c h. let same : x ≡ c = cc in inr same;
  old_not_before = λ c h. absurd cc;
  none_before = λ c h. subst (λ d. comes_before d x ≡ false) h (itself x);
}
one_more (Some b) x = one_by b x (comes_before x b) refl

pub each_looked : (old : Option Candidate) (xs : List Candidate) → IsFirstOf old (Among xs) (with_each old xs)
each_looked old [] = none_looked old (Among []) (λ c h. h)
each_looked old (x ∷ xs) = then_looked old (with_one old x) (with_each (with_one old x) xs) (λ c. x ≡ c) (Among xs) (Among (x ∷ xs))
    (one_more old x) (each_looked (with_one old x) xs) (λ c h. inl h) (λ c h. inr h) (λ c h. h)

pub folded : (old new : Option Candidate) (xs : List Candidate) → new ≡ with_each old xs → IsFirstOf old (Among xs) new
folded old new xs is = subst (λ n. IsFirstOf old (Among xs) n) (sym is) (each_looked old xs)

-- ---- the first of all is the least

one_of : (c : Candidate) (asked : List Candidate) → (None ≡ Some c) ⊎ Among asked c → Among asked c
one_of c asked (inl is) = absurd cc
one_of c asked (inr h) = h

pub first_least : (asked : List Candidate)
    → ((c d : Candidate) → Among asked c → Among asked d → comes_before c d ≡ false → comes_before d c ≡ false → c ≡ d)
    → (first : Option Candidate) → IsFirstOf None (Among asked) first → first ≡ least comes_before asked
first_least asked alone None is = sym (no_least asked (λ x h. is.none_before x h))
first_least asked alone (Some n) is =
    let there = one_of n asked (is.one n refl) in
    sym (least_is asked n (record { one = there; none_before = is.none_before }) (λ x h forth back. alone x n h there forth back))
