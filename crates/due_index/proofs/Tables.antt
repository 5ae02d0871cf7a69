-- The table of the enabled rules by their prefix.
use Rattle.std.proofs.Common.{◌≡◌, ℕ, ◌+◌, ◌<◌, ◌≤◌, ◌-◌, ◌⊎◌, inl, inr, List, [], ◌∷◌, ◌++◌, length, get_or, length-append, refl, sym, ap, ◌∙◌, subst, Bool, true, false, not, cond, take, arith, zero, suc}
use Rattle.std.specs.Prelude.{All, Contains, nat_eq, Option, Some}
use Rattle.std.specs.Cmp.{IsStrictWeakOrder, ranked}
use Rattle.std.specs.List.Sorted.{IsPermutation, IsPartitionedBy}
use Rattle.std.specs.Cmp.Lexicographic.{pointwise}
use Rattle.std.specs.declared.cmp.Ordering.{Ordering}
use Rattle.std.specs.declared.cmp.Ordering.TheVariants.{Less, Equal, Greater}
use Rattle.std.specs.Ordering.{nat_cmp, ordering_then, is_lt}
use Rattle.std.proofs.Math.ListN.{get_or-append}
use Rattle.std.proofs.Math.Seq.{get_or-append_seam}
use Rattle.std.proofs.lemmas.Cmp.{nat_list_cmp_total}
use Rattle.std.proofs.lemmas.List.{get_or_default}
use Rattle.std.proofs.lemmas.List.Elements.{All-push, All-nil, Contains-push, Contains-append_left}
use Rattle.std.proofs.lemmas.List.MinMax.{ranks_by}
use Rattle.std.proofs.lemmas.List.Sorted.{All-permutation, Contains-permutation}
use Rattle.std.proofs.lemmas.Option.{slice_get-get_or, slice_get_past}
use Rattle.office_base.specs.Maps.{bytes_cmp}
use Rattle.rules_core.specs.declared.rule.Rule.{Rule}
use Rattle.due_core.specs.declared.action.Candidate.{Candidate}
use Rattle.due_index.specs.Search.{Among, IsFirstOf, IsFirstOfList}
use Rattle.due_index.specs.Table.{TableRecord, enabled_of, is_enabled, prefix_at, prefix_in, begins, AreEnabled, IsByPrefix, IsNotBelow, NoneBegins, IsLinked, IsTable}
use Rattle.due_index.proofs.Firsts.{none_looked, then_looked, same_looked}
use Rattle.due_index.proofs.Prefixes.{begins_between, both, same_byte}
use Rattle.due_index.proofs.Tournaments.{decide}

pub prefix_order : (rules : List Rule) → IsStrictWeakOrder (λ (a b : ℕ). is_lt (bytes_cmp (prefix_at rules a) (prefix_at rules b)))
prefix_order rules = ranks_by nat_list_cmp_total (prefix_at rules)

not_true : (b : Bool) → (b ≡ true → ⊥) → b ≡ false
not_true true h = absurd (h refl)
not_true false h = refl

pub below_or : (n i : ℕ) → (i ≤ n) ⊎ (n < i)
below_or n i = elim (decide n i) [ inl same ↦ inl (omega arith) | inr apart ↦ other n i apart ] where
  other : (n i : ℕ) → (n ≡ i → ⊥) → (i ≤ n) ⊎ (n < i)
  other zero zero apart = inl (omega arith)
  other zero (suc i) apart = inr (omega arith)
  other (suc n) zero apart = inl (omega arith)
  other (suc n) (suc i) apart = elim (other n i (λ e. apart (ap suc e))) [ inl a ↦ inl (omega (arith, a)) | inr b ↦ inr (omega (arith, b)) ]

-- ---- the enabled rules

-- those below this place
pub record AreEnabledBelow (rules : List Rule) (order : List ℕ) (end : ℕ) : Type 0 where
  pub own : All (λ place. is_enabled rules place ≡ true) order
  pub all : (place : ℕ) → place < end → is_enabled rules place ≡ true → Contains order place

pub none_enabled : (rules : List Rule) → AreEnabledBelow rules [] 0
none_enabled rules = record { own = All-nil _; all = λ place less is. absurd (omega arith) }

enabled_at : (rules : List Rule) (i : ℕ) (x : Rule) → i < length rules → x ≡ get_or rules i x → is_enabled rules i ≡ x.enabled
enabled_at rules i x less here = ap enabled_of (slice_get-get_or rules i x less ∙ ap Some (sym here))

more_by : (rules : List Rule) (order : List ℕ) (i : ℕ) (b : Bool) → is_enabled rules i ≡ b → AreEnabledBelow rules order i
    → AreEnabledBelow rules (cond b (order ++ i ∷ []) order) (i + 1)
more_by rules order i true is so_far = record {
  own = All-push (λ p. is_enabled rules p ≡ true) order i so_far.own is;
  all = λ place less enabled. elim (decide place i) [
    | inl same ↦ subst (λ p. Contains (order ++ i ∷ []) p) (sym same) (Contains-push order i)
    | inr apart ↦ Contains-append_left order (i ∷ []) place (so_far.all place (omega arith) enabled)
  ];
}
more_by rules order i false is so_far = record {
  own = so_far.own;
  all = λ place less enabled. elim (decide place i) [
    | inl same ↦ let no_one : true ≡ false = sym enabled ∙ ap (is_enabled rules) same ∙ is in absurd cc
    | inr apart ↦ so_far.all place (omega arith) enabled
  ];
}

pub one_more_rule : (rules : List Rule) (before after : List ℕ) (i : ℕ) (x : Rule) → i < length rules → x ≡ get_or rules i x
    → after ≡ cond x.enabled (before ++ i ∷ []) before → AreEnabledBelow rules before i → AreEnabledBelow rules after (i + 1)
one_more_rule rules before after i x less here is so_far =
    subst (λ order. AreEnabledBelow rules order (i + 1)) (sym is) (more_by rules before i x.enabled (enabled_at rules i x less here) so_far)

within_by : (rules : List Rule) (place : ℕ) → is_enabled rules place ≡ true → (length rules ≤ place) ⊎ (place < length rules) → place < length rules
within_by rules place is (inl over) = let gone : true ≡ false = sym is ∙ ap enabled_of (slice_get_past rules place over) in absurd cc
within_by rules place is (inr less) = less

pub all_enabled : (rules : List Rule) (order : List ℕ) (i : ℕ) → length rules ≤ i → AreEnabledBelow rules order i → AreEnabled rules order
all_enabled rules order i over so_far = record {
  own = so_far.own;
  all = λ place is. so_far.all place (let less = within_by rules place is (below_or place (length rules)) in omega arith) is;
}

pub enabled_sorted : (rules : List Rule) (before after : List ℕ) → IsPermutation before after → AreEnabled rules before → AreEnabled rules after
enabled_sorted rules before after same are = record {
  own = All-permutation (λ p. is_enabled rules p ≡ true) before after same are.own;
  all = λ place is. Contains-permutation before after place same (are.all place is);
}

-- ---- a prefix stands before what it begins

not_before_by : (x z : ℕ) (rest : Ordering) (o : Ordering) → nat_cmp z x ≡ o → x ≡ z → is_lt rest ≡ false → is_lt (ordering_then o rest) ≡ false
not_before_by x z rest Less is same h = let less = ranked z x Less (sym is) in absurd (omega (arith, less, same))
not_before_by x z rest Equal is same h = h
not_before_by x z rest Greater is same h = refl

pub begins_before : (start text : List ℕ) → begins start text ≡ true → is_lt (bytes_cmp text start) ≡ false
begins_before [] [] is = refl
begins_before [] (z ∷ zs) is = refl
begins_before (x ∷ xs) [] is = absurd cc
begins_before (x ∷ xs) (z ∷ zs) is =
    let split = both (nat_eq x z) (pointwise nat_eq xs (take (length xs) zs)) is in
    not_before_by x z (bytes_cmp zs xs) (nat_cmp z x) refl (same_byte x z split.0) (begins_before xs zs split.1)

-- ---- the way down

module _ (rules : List Rule) (order parents : List ℕ) (by_prefix : IsByPrefix rules order) (linked : IsLinked rules order parents) (size : length parents ≤ length order) where
  -- between a place and its parent no prefix begins the text
  pub none_skipped : (text : List ℕ) (e : ℕ) → e < length parents → is_lt (bytes_cmp text (prefix_in rules order e)) ≡ false
      → NoneBegins rules order text (get_or parents e 0) e
  none_skipped text e less below k from end = not_true (begins (prefix_in rules order k) text) (λ is.
      let between = begins_between (prefix_in rules order k) (prefix_in rules order e) text is (by_prefix k e (omega arith) (omega arith)) below in
      let none : true ≡ false = sym between ∙ linked.begun e less k from end in absurd cc)

  -- one step down
  pub one_down : (text : List ℕ) (next from end : ℕ) → 1 ≤ next → next ≤ from → from ≤ length parents → end ≡ from → IsNotBelow rules order text from
      → begins (prefix_in rules order (next - 1)) text ≡ false → NoneBegins rules order text next end → NoneBegins rules order text (get_or parents (next - 1) 0) end
  one_down text next from end one le within ended below here so_far k lower less = elim (below_or k next) [
    | inl above ↦ so_far k above less
    | inr under ↦ elim (decide k (next - 1)) [
      | inl same ↦ ap (λ n. begins (prefix_in rules order n) text) same ∙ here
      | inr apart ↦ none_skipped text (next - 1) (omega arith) (below (next - 1) (omega arith)) k lower (omega arith)
    ]
  ]

-- one more parent
pub one_more_parent : (rules : List Rule) (order parents : List ℕ) (i x : ℕ) → length parents ≡ i → x ≤ i → NoneBegins rules order (prefix_in rules order i) x i
    → IsLinked rules order parents → IsLinked rules order (parents ++ x ∷ [])
one_more_parent rules order parents i x size le none linked =
    let longer : length (parents ++ x ∷ []) ≡ length parents + 1 = length-append parents (x ∷ []) in
    let last : get_or (parents ++ x ∷ []) i 0 ≡ x = ap (λ n. get_or (parents ++ x ∷ []) n 0) (sym size) ∙ get_or-append_seam parents x [] 0 in record {
      down = λ j less. elim (decide j i) [
        | inl same ↦ let here : get_or (parents ++ x ∷ []) j 0 ≡ x = ap (λ n. get_or (parents ++ x ∷ []) n 0) same ∙ last in omega arith
        | inr apart ↦ let there : get_or (parents ++ x ∷ []) j 0 ≡ get_or parents j 0 = get_or-append parents (x ∷ []) 0 j (omega arith) in
            let down = linked.down j (omega arith) in omega arith
      ];
      begun = λ j less. elim (decide j i) [
        | inl same ↦ subst (λ n. NoneBegins rules order (prefix_in rules order n) (get_or (parents ++ x ∷ []) n 0) n) (sym same)
            (subst (λ n. NoneBegins rules order (prefix_in rules order i) n i) (sym last) none)
        | inr apart ↦ subst (λ n. NoneBegins rules order (prefix_in rules order j) n j) (sym (get_or-append parents (x ∷ []) 0 j (omega arith)))
            (linked.begun j (omega arith))
      ];
    }

pub no_parents : (rules : List Rule) (order : List ℕ) → IsLinked rules order []
no_parents rules order = record { down = λ i less. absurd (omega arith); begun = λ i less. absurd (omega arith) }

pub empty_table : IsTable (record { order = []; parents = [] }) []
empty_table = record {
  enabled = record { own = All-nil _; all = λ place is. absurd cc };
  by_prefix = λ i j le less. absurd (omega arith);
  linked = no_parents [] [];
  size = refl;
}

-- ---- the last prefix that is not behind a text

abbrev pub upto : List Rule → List ℕ → ℕ → Bool
upto rules text place = not (is_lt (bytes_cmp text (prefix_at rules place)))

text_order : IsStrictWeakOrder (λ (a b : List ℕ). is_lt (bytes_cmp a b))
text_order = ranks_by nat_list_cmp_total (λ (t : List ℕ). t)

not_is_true : (b : Bool) → not b ≡ true → b ≡ false
not_is_true true is = absurd cc
not_is_true false is = refl

not_is_false : (b : Bool) → not b ≡ false → b ≡ true
not_is_false true is = refl
not_is_false false is = absurd cc

pub parted : (rules : List Rule) (order text : List ℕ) → IsByPrefix rules order → IsPartitionedBy (upto rules text) order
parted rules order text by_prefix i j d le less is =
    let at_j : get_or order j d ≡ get_or order j 0 = get_or_default order j d 0 less in
    let at_i : get_or order i d ≡ get_or order i 0 = get_or_default order i d 0 (omega arith) in
    let over = not_is_true (is_lt (bytes_cmp text (prefix_in rules order j))) (subst (λ n. upto rules text n ≡ true) at_j is) in
    let under = text_order.chain text (prefix_in rules order j) (prefix_in rules order i) over (by_prefix i j le less) in
    subst (λ n. upto rules text n ≡ true) (sym at_i) (ap not under)

pub not_behind : (rules : List Rule) (text : List ℕ) (place : ℕ) → upto rules text place ≡ true → is_lt (bytes_cmp text (prefix_at rules place)) ≡ false
not_behind rules text place is = not_is_true (is_lt (bytes_cmp text (prefix_at rules place))) is

pub behind_none : (rules : List Rule) (text : List ℕ) (place : ℕ) → upto rules text place ≡ false → begins (prefix_at rules place) text ≡ false
behind_none rules text place is = not_true (begins (prefix_at rules place) text) (λ start.
    let forth : false ≡ true = sym (begins_before (prefix_at rules place) text start) ∙ not_is_false (is_lt (bytes_cmp text (prefix_at rules place))) is in absurd cc)

-- ---- what a rule asks of a text that its prefix begins, rule by rule on the way down

-- one of the rules that stand from there up in the table asks it
pub record IsAskedFrom (asked : ℕ → List Candidate) (order : List ℕ) (next : ℕ) (c : Candidate) : Type 0 where
  pub k : ℕ
  pub from : next ≤ k
  pub within : k < length order
  pub one : Among (asked (get_or order k 0)) c

-- a rule asks it
pub record IsAskedAt (asked : ℕ → List Candidate) (c : Candidate) : Type 0 where
  pub place : ℕ
  pub one : Among (asked place) c

module _ (rules : List Rule) (table : TableRecord) (is : IsTable table rules) (text : List ℕ) (asked : ℕ → List Candidate)
    (asks : (place : ℕ) (c : Candidate) → Among (asked place) c → (is_enabled rules place ≡ true) × (begins (prefix_at rules place) text ≡ true))
    (old : Option Candidate) where
  abbrev From : ℕ → Candidate → Type 0
  From next c = IsAskedFrom asked table.order next c

  begins_not : (k : ℕ) (c : Candidate) → Among (asked (get_or table.order k 0)) c → begins (prefix_in rules table.order k) text ≡ false → ⊥
  begins_not k c h none = let both : true ≡ false = sym (asks (get_or table.order k 0) c h).1 ∙ none in absurd cc

  pub none_asked : (next : ℕ) → NoneBegins rules table.order text next (length table.order) → IsFirstOf old (From next) old
  none_asked next none = none_looked old (From next) (λ c h. begins_not h.k c h.one (none h.k h.from h.within))

  pub one_asked : (next : ℕ) (mid new : Option Candidate) → 1 ≤ next → next ≤ length table.order → IsNotBelow rules table.order text next
      → IsFirstOf old (From next) mid → IsFirstOfList mid (asked (get_or table.order (next - 1) 0)) new → IsFirstOf old (From (get_or table.parents (next - 1) 0)) new
  one_asked next mid new one within below a b =
      let size = is.size in
      let down = is.linked.down (next - 1) (omega arith) in
      then_looked old mid new (From next) (Among (asked (get_or table.order (next - 1) 0))) (From (get_or table.parents (next - 1) 0)) a b
      (λ c h. record { k = h.k; from = let from = h.from in omega arith; within = h.within; one = h.one })
      (λ c h. record { k = next - 1; from = down; within = omega arith; one = h })
      (λ c h. elim (below_or h.k next) [
        | inl above ↦ inl (record { k = h.k; from = above; within = h.within; one = h.one })
        | inr under ↦ elim (decide h.k (next - 1)) [
          | inl same ↦ inr (subst (λ n. Among (asked (get_or table.order n 0)) c) same h.one)
          | inr apart ↦ absurd (begins_not h.k c h.one (none_skipped rules table.order table.parents is.by_prefix is.linked (omega arith) text (next - 1) (omega arith)
              (below (next - 1) (omega arith)) h.k h.from (omega arith)))
        ]
      ])

  pub all_asked : (next : ℕ) (new : Option Candidate) → next ≤ 0 → IsFirstOf old (From next) new → IsFirstOf old (IsAskedAt asked) new
  all_asked next new none first = same_looked old new (From next) (IsAskedAt asked) first
      (λ c h. record { place = get_or table.order h.k 0; one = h.one })
      (λ c h.
      let found = is.enabled.all h.place (asks h.place c h.one).0 in
      let at : get_or table.order found.0 0 ≡ h.place = get_or_default table.order found.0 0 h.place found.1 ∙ found.2 in record {
        k = found.0;
        from = omega arith;
        within = found.1;
        one = subst (λ n. Among (asked n) c) (sym at) h.one;
      })
