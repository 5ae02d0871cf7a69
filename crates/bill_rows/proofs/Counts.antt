-- How often what passes a test stands in a list, and lists that are told by it.
use Rattle.std.proofs.Common.{◌≡◌, ℕ, ◌+◌, List, [], ◌∷◌, map, refl, ap, sym, ◌∙◌, Bool, true, false, ◌&&◌, ◌||◌, cond, Ordering, arith}
use Rattle.std.specs.Prelude.{filter, count_by}
use Rattle.std.specs.declared.cmp.Ordering.TheVariants.{Less, Equal, Greater}
use Rattle.std.specs.Ordering.{match_ordering, is_eq}
use Rattle.std.specs.List.{AllByRecursion, list_any}
use Rattle.std.proofs.lemmas.List.Sums.{sum_by-cons}
use Rattle.sqlite_value.specs.Order.{Row, value_cmp}
use Rattle.sqlite.specs.Tree.{put_row, rowid}
use Rattle.sqlite_rules.specs.Edit.{is_taken}

-- 1 for a test that was passed
abbrev pub as_count : Bool → ℕ
as_count b = cond b 1 0

pub count-cons : {X : Type 0} (p : X → Bool) (x : X) (xs : List X) → count_by p (x ∷ xs) ≡ as_count (p x) + count_by p xs
count-cons p x xs = sum_by-cons (λ y. as_count (p y)) x xs

pub count-map : {X Y : Type 0} (p : Y → Bool) (f : X → Y) (xs : List X) → count_by p (map f xs) ≡ count_by (λ x. p (f x)) xs
count-map p f [] = refl
count-map p f (x ∷ xs) = count-cons p (f x) (map f xs) ∙ (ap (λ n. as_count (p (f x)) + n) (count-map p f xs) ∙ sym (count-cons (λ y. p (f y)) x xs))

count-filter_at : {X : Type 0} (p q : X → Bool) (x : X) (xs : List X) (b : Bool) → q x ≡ b → count_by p (filter q xs) ≡ count_by (λ y. q y && p y) xs
    → count_by p (cond b (x ∷ filter q xs) (filter q xs)) ≡ as_count (b && p x) + count_by (λ y. q y && p y) xs
count-filter_at p q x xs true is h = count-cons p x (filter q xs) ∙ ap (λ n. as_count (p x) + n) h
count-filter_at p q x xs false is h = h ∙ omega arith

pub count-filter : {X : Type 0} (p q : X → Bool) (xs : List X) → count_by p (filter q xs) ≡ count_by (λ x. q x && p x) xs
count-filter p q [] = refl
count-filter p q (x ∷ xs) =
    count-filter_at p q x xs (q x) refl (count-filter p q xs) ∙ sym (count-cons (λ y. q y && p y) x xs)

-- ---- a row that is put in under a rowid of its own

either_false : (a b : Bool) → (a || b) ≡ false → (a ≡ false) × (b ≡ false)
either_false true b h = absurd cc
either_false false b h = (refl, h)

module _ (new : Row) where
  put_count_at : (p : Row → Bool) (o : Ordering) (r : Row) (rs rest : List Row) → value_cmp (rowid r) (rowid new) ≡ o → is_eq o ≡ false
      → count_by p rest ≡ as_count (p new) + count_by p rs
      → count_by p (match_ordering o (r ∷ rest) (new ∷ rs) (new ∷ r ∷ rs)) ≡ as_count (p new) + count_by p (r ∷ rs)
  put_count_at p Less r rs rest is apart h = count-cons p r rest ∙ omega (arith, h, count-cons p r rs)
  put_count_at p Equal r rs rest is apart h = absurd cc
  put_count_at p Greater r rs rest is apart h = count-cons p new (r ∷ rs)

  pub put_count : (p : Row → Bool) (rows : List Row) → is_taken rows new ≡ false → count_by p (put_row new rows) ≡ as_count (p new) + count_by p rows
  put_count p [] fresh = count-cons p new []
  put_count p (r ∷ rs) fresh =
      let parts = either_false (is_eq (value_cmp (rowid r) (rowid new))) (is_taken rs new) fresh in
      put_count_at p (value_cmp (rowid r) (rowid new)) r rs (put_row new rs) refl parts.0 (put_count p rs parts.1)

  put_filter_at : (p : Row → Bool) (o : Ordering) (r : Row) (rs rest : List Row) → p new ≡ false → is_eq o ≡ false → filter p rest ≡ filter p rs
      → filter p (match_ordering o (r ∷ rest) (new ∷ rs) (new ∷ r ∷ rs)) ≡ filter p (r ∷ rs)
  put_filter_at p Less r rs rest misses apart h = ap (λ l. cond (p r) (r ∷ l) l) h
  put_filter_at p Equal r rs rest misses apart h = absurd cc
  put_filter_at p Greater r rs rest misses apart h = rw misses refl

  -- a test that the row does not pass finds what it found
  pub put_filter : (p : Row → Bool) (rows : List Row) → is_taken rows new ≡ false → p new ≡ false → filter p (put_row new rows) ≡ filter p rows
  put_filter p [] fresh misses = rw misses refl
  put_filter p (r ∷ rs) fresh misses =
      let parts = either_false (is_eq (value_cmp (rowid r) (rowid new))) (is_taken rs new) fresh in
      put_filter_at p (value_cmp (rowid r) (rowid new)) r rs (put_row new rs) misses parts.0 (put_filter p rs parts.1 misses)

  put_any_at : (p : Row → Bool) (o : Ordering) (r : Row) (rs rest : List Row) → is_eq o ≡ false → list_any p rest ≡ (p new || list_any p rs)
      → list_any p (match_ordering o (r ∷ rest) (new ∷ rs) (new ∷ r ∷ rs)) ≡ (p new || (p r || list_any p rs))
  put_any_at p Less r rs rest apart h = ap (λ b. p r || b) h ∙ swapped (p r) (p new) (list_any p rs) where
    swapped : (a b c : Bool) → (a || (b || c)) ≡ (b || (a || c))
    swapped true true c = refl
    swapped true false c = refl
    swapped false b c = refl
  put_any_at p Equal r rs rest apart h = absurd cc
  put_any_at p Greater r rs rest apart h = refl

  pub put_any : (p : Row → Bool) (rows : List Row) → is_taken rows new ≡ false → list_any p (put_row new rows) ≡ (p new || list_any p rows)
  put_any p [] fresh = refl
  put_any p (r ∷ rs) fresh =
      let parts = either_false (is_eq (value_cmp (rowid r) (rowid new))) (is_taken rs new) fresh in
      put_any_at p (value_cmp (rowid r) (rowid new)) r rs (put_row new rs) parts.0 (put_any p rs parts.1)

  put_all_at : (P : Row → Type 0) (o : Ordering) (r : Row) (rs rest : List Row) → P new → P r → AllByRecursion P rs → AllByRecursion P rest
      → AllByRecursion P (match_ordering o (r ∷ rest) (new ∷ rs) (new ∷ r ∷ rs))
  put_all_at P Less r rs rest here first all h = (first, h)
  put_all_at P Equal r rs rest here first all h = (here, all)
  put_all_at P Greater r rs rest here first all h = (here, (first, all))

  pub put_all : (P : Row → Type 0) (rows : List Row) → P new → AllByRecursion P rows → AllByRecursion P (put_row new rows)
  put_all P [] here all = (here, tt)
  put_all P (r ∷ rs) here all = put_all_at P (value_cmp (rowid r) (rowid new)) r rs (put_row new rs) here all.0 all.1 (put_all P rs here all.1)
