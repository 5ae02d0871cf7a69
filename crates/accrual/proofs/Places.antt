-- Reading and writing one place of the rows.
use Rattle.std.proofs.Common.{◌≡◌, ◌≢◌, ◌⊎◌, inl, inr, ◌<◌, ◌≤◌, ◌+◌, ◌-◌, ℕ, List, [], ◌++◌, length, get_or, refl, ap, sym, ◌∙◌, arith, subst}
use Rattle.std.proofs.Math.ListN.{set, get_or-eq_default}
use Rattle.std.specs.Prelude.{replicate}
use Rattle.std.proofs.lemmas.Bool.Decides.{nat_tests}
use Rattle.std.proofs.lemmas.Grind.{common_steps}
use Rattle.std.proofs.lemmas.List.{get_or-set_same, get_or-set_other, get_or_default, get_or_append_left, get_or-append_right, get_or-replicate, length-replicate, length-append}
use Rattle.accrual.specs.declared.rows.Numbers.{Numbers}
use Rattle.accrual.specs.declared.rows.Rows.{Rows}
use Rattle.accrual.proofs.Cases.{by_less, by_same}
use Rattle.accrual.specs.Rows.{nothing, kept_in, HasRowIn, IsPut, IsRowPut}

-- nothing is kept before the first row and after the last one
pub kept_before : (rows : Rows) (month rank : ℕ) → month < rows.first → kept_in rows month rank ≡ nothing
unfolding kept_in
kept_before rows month rank less = grind (arith, nat_tests)

pub kept_behind : (rows : Rows) (month rank : ℕ) → rows.first + length rows.rows.items ≤ month → kept_in rows month rank ≡ nothing
unfolding kept_in
kept_behind rows month rank more = grind (arith, nat_tests, common_steps)

pub kept_row : (rows : Rows) (month rank : ℕ) → HasRowIn rows month → kept_in rows month rank ≡ get_or (get_or rows.rows.items (month - rows.first) []) rank nothing
unfolding kept_in
kept_row rows month rank has = grind (arith, nat_tests)

-- what is kept, wherever the month lies
pub ruleset kept_anywhere = (kept_before, kept_behind, kept_row)

-- the same rows everywhere keep the same
pub kept_same : (old new : Rows) (month rank : ℕ) → new.first ≡ old.first → length new.rows.items ≡ length old.rows.items
    → (HasRowIn old month → get_or (get_or new.rows.items (month - new.first) []) rank nothing ≡ get_or (get_or old.rows.items (month - old.first) []) rank nothing)
    → kept_in new month rank ≡ kept_in old month rank
kept_same old new month rank first as_many same =
    by_less month old.first
    (λ less. kept_before new month rank (omega (arith, less, first)) ∙ sym (kept_before old month rank less))
    (λ from. by_less month (old.first + length old.rows.items)
    (λ inside. kept_row new month rank (omega (arith, from, first), omega (arith, inside, first, as_many)) ∙ (same (from, inside) ∙ sym (kept_row old month rank (from, inside))))
    (λ behind. kept_behind new month rank (omega (arith, behind, first, as_many)) ∙ sym (kept_behind old month rank behind)))

-- one element of one list was exchanged
other_list : (lists : List (List Numbers)) (list : List Numbers) (kept : Numbers) (i j r rank : ℕ) → j ≢ i
    → get_or (get_or (set lists i (set list rank kept)) j []) r nothing ≡ get_or (get_or lists j []) r nothing
other_list lists list kept i j r rank other = ap (λ (l : List Numbers). get_or l r nothing) (get_or-set_other lists i j (set list rank kept) [] other)

other_place : (lists : List (List Numbers)) (list : List Numbers) (kept : Numbers) (i j r rank : ℕ) → (j ≢ i) ⊎ (r ≢ rank) → i < length lists → list ≡ get_or lists i list
    → get_or (get_or (set lists i (set list rank kept)) j []) r nothing ≡ get_or (get_or lists j []) r nothing
other_place lists list kept i j r rank (inl other) small is = other_list lists list kept i j r rank other
other_place lists list kept i j r rank (inr other) small is =
    by_same j i
    (λ same.
    let here : get_or (set lists i (set list rank kept)) j [] ≡ set list rank kept =
    subst (λ k. get_or (set lists i (set list rank kept)) k [] ≡ set list rank kept) (sym same)
    (get_or-set_same lists i (set list rank kept) [] small) in
    let was : get_or lists j [] ≡ list = subst (λ k. get_or lists k [] ≡ list) (sym same) (get_or_default lists i [] list small ∙ sym is) in
    ap (λ (l : List Numbers). get_or l r nothing) here ∙ (get_or-set_other list rank r kept nothing other ∙ sym (ap (λ (l : List Numbers). get_or l r nothing) was)))
    (λ differs. other_list lists list kept i j r rank differs)

differs_too : (month m first r rank : ℕ) → first ≤ month → first ≤ m → (m ≢ month) ⊎ (r ≢ rank) → (m - first ≢ month - first) ⊎ (r ≢ rank)
differs_too month m first r rank a b (inl other) = inl (omega (arith, a, b, other))
differs_too month m first r rank a b (inr other) = inr other

pub put_is : (old new : Rows) (month rank : ℕ) (kept : Numbers) (list : List Numbers) → HasRowIn old month → rank < 6 → list ≡ get_or old.rows.items (month - old.first) list → length list ≡ 6
    → new.first ≡ old.first → new.rows.items ≡ set old.rows.items (month - old.first) (set list rank kept) → length new.rows.items ≡ length old.rows.items
    → IsPut old new month rank kept
put_is old new month rank kept list has small is six first items as_many = record {
  there =
      let here : get_or new.rows.items (month - old.first) [] ≡ set list rank kept =
      ap (λ (l : List (List Numbers)). get_or l (month - old.first) []) items
      ∙ get_or-set_same old.rows.items (month - old.first) (set list rank kept) [] (omega (arith, has)) in
      let at : get_or (set list rank kept) rank nothing ≡ kept = get_or-set_same list rank kept nothing (omega (arith, small, six)) in
      let row = kept_row new month rank (omega (arith, has, first), omega (arith, has, first, as_many)) in
      row ∙ (ap (λ k. get_or (get_or new.rows.items (month - k) []) rank nothing) first ∙ (ap (λ (l : List Numbers). get_or l rank nothing) here ∙ at));
  others = λ m r other. kept_same old new m r first as_many (λ row.
      ap (λ k. get_or (get_or new.rows.items (m - k) []) r nothing) first ∙ (ap (λ (l : List (List Numbers)). get_or (get_or l (m - old.first) []) r nothing) items
      ∙ other_place old.rows.items list kept (month - old.first) (m - old.first) r rank (differs_too month m old.first r rank has.0 row.0 other) (omega (arith, has)) is));
  first = first;
  as_many = as_many;
}

pub row_put_is : (old new : Rows) (month : ℕ) (row : List Numbers) → HasRowIn old month → new.first ≡ old.first → new.rows.items ≡ set old.rows.items (month - old.first) row
    → length new.rows.items ≡ length old.rows.items → IsRowPut old new month row
row_put_is old new month row has first items as_many = record {
  there = λ r.
      let here : get_or new.rows.items (month - old.first) [] ≡ row =
      ap (λ (l : List (List Numbers)). get_or l (month - old.first) []) items
      ∙ get_or-set_same old.rows.items (month - old.first) row [] (omega (arith, has)) in
      kept_row new month r (omega (arith, has, first), omega (arith, has, first, as_many))
      ∙ (ap (λ k. get_or (get_or new.rows.items (month - k) []) r nothing) first ∙ ap (λ (l : List Numbers). get_or l r nothing) here);
  others = λ m r other. kept_same old new m r first as_many (λ there.
      ap (λ k. get_or (get_or new.rows.items (m - k) []) r nothing) first ∙ (ap (λ (l : List (List Numbers)). get_or (get_or l (m - old.first) []) r nothing) items
      ∙ ap (λ (l : List Numbers). get_or l r nothing) (get_or-set_other old.rows.items (month - old.first) (m - old.first) row [] (omega (arith, has, there, other)))));
  first = first;
  as_many = as_many;
}

-- rows that were added in front or at the end have nothing
abbrev pub IsEmptied : List (List Numbers) → Type 0
IsEmptied more = (i r : ℕ) → get_or (get_or more i []) r nothing ≡ nothing

pub emptied : (n : ℕ) → IsEmptied (replicate n (replicate 6 nothing))
emptied n i r =
    by_less i n
    (λ less. ap (λ (l : List Numbers). get_or l r nothing) (get_or-replicate n i (replicate 6 nothing) [] less) ∙ one_row r)
    (λ more. ap (λ (l : List Numbers). get_or l r nothing) (get_or-eq_default (replicate n (replicate 6 nothing)) [] (omega (arith, more, length-replicate n (replicate 6 nothing)))))
  where
    one_row : (r : ℕ) → get_or (replicate 6 nothing) r nothing ≡ nothing
    one_row r =
        by_less r 6
        (λ less. get_or-replicate 6 r nothing nothing less)
        (λ more. get_or-eq_default (replicate 6 nothing) nothing (omega (arith, more)))

-- if there are no rows nothing is kept, and they may begin in any month
pub kept_none : (rows : Rows) (month rank : ℕ) → length rows.rows.items ≡ 0 → kept_in rows month rank ≡ nothing
kept_none rows month rank none = by_less month rows.first (λ less. kept_before rows month rank less) (λ from. kept_behind rows month rank (omega (arith, from, none)))

pub kept_nowhere : (old new : Rows) (month rank : ℕ) → length old.rows.items ≡ 0 → length new.rows.items ≡ 0 → kept_in new month rank ≡ kept_in old month rank
kept_nowhere old new month rank a b = kept_none new month rank b ∙ sym (kept_none old month rank a)

pub kept_extended : (old new : Rows) (more : List (List Numbers)) (month rank : ℕ) → IsEmptied more → new.first ≡ old.first → new.rows.items ≡ old.rows.items ++ more
    → kept_in new month rank ≡ kept_in old month rank
kept_extended old new more month rank none first items =
    let size : length new.rows.items ≡ length old.rows.items + length more = ap length items ∙ length-append old.rows.items more in
    by_less month old.first
    (λ less. kept_before new month rank (omega (arith, less, first)) ∙ sym (kept_before old month rank less))
    (λ from. by_less month (old.first + length old.rows.items)
    (λ inside.
    let e : get_or new.rows.items (month - new.first) [] ≡ get_or old.rows.items (month - old.first) [] =
    ap (λ k. get_or new.rows.items (month - k) []) first
    ∙ (ap (λ (l : List (List Numbers)). get_or l (month - old.first) []) items
    ∙ get_or_append_left old.rows.items more [] (month - old.first) (omega (arith, from, inside))) in
    kept_row new month rank (omega (arith, from, first), omega (arith, inside, first, size)) ∙ (ap (λ (l : List Numbers). get_or l rank nothing) e ∙ sym (kept_row old month rank (from, inside))))
    (λ behind. by_less month (new.first + length new.rows.items)
    (λ within.
    let e : get_or new.rows.items (month - new.first) [] ≡ get_or more (month - old.first - length old.rows.items) [] =
    ap (λ k. get_or new.rows.items (month - k) []) first
    ∙ (ap (λ (l : List (List Numbers)). get_or l (month - old.first) []) items
    ∙ get_or-append_right old.rows.items more (length old.rows.items) (month - old.first) [] refl
    (omega (arith, behind))) in
    kept_row new month rank (omega (arith, from, first), within)
    ∙ (ap (λ (l : List Numbers). get_or l rank nothing) e
    ∙ (none (month - old.first - length old.rows.items) rank ∙ sym (kept_behind old month rank behind))))
    (λ beyond. kept_behind new month rank beyond ∙ sym (kept_behind old month rank behind))))

pub kept_preceded : (old new : Rows) (more : List (List Numbers)) (month rank : ℕ) → IsEmptied more → new.first + length more ≡ old.first → new.rows.items ≡ more ++ old.rows.items
    → kept_in new month rank ≡ kept_in old month rank
kept_preceded old new more month rank none first items =
    let size : length new.rows.items ≡ length more + length old.rows.items = ap length items ∙ length-append more old.rows.items in
    by_less month new.first
    (λ less. kept_before new month rank less ∙ sym (kept_before old month rank (omega (arith, less, first))))
    (λ from. by_less month old.first
    (λ before.
    let e : get_or new.rows.items (month - new.first) [] ≡ get_or more (month - new.first) [] =
    ap (λ (l : List (List Numbers)). get_or l (month - new.first) []) items ∙ get_or_append_left more old.rows.items [] (month - new.first) (omega (arith, from, before, first)) in
    kept_row new month rank (from, omega (arith, before, first, size))
    ∙ (ap (λ (l : List Numbers). get_or l rank nothing) e ∙ (none (month - new.first) rank ∙ sym (kept_before old month rank before))))
    (λ since. by_less month (old.first + length old.rows.items)
    (λ inside.
    let e : get_or new.rows.items (month - new.first) [] ≡ get_or old.rows.items (month - new.first - length more) [] =
    ap (λ (l : List (List Numbers)). get_or l (month - new.first) []) items ∙ get_or-append_right more old.rows.items (length more) (month - new.first) [] refl (omega (arith, since, first)) in
    let k : month - new.first - length more ≡ month - old.first = omega (arith, since, first) in
    kept_row new month rank (from, omega (arith, inside, first, size))
    ∙ (ap (λ (l : List Numbers). get_or l rank nothing) (e ∙ ap (λ n. get_or old.rows.items n []) k) ∙ sym (kept_row old month rank (since, inside))))
    (λ behind. kept_behind new month rank (omega (arith, behind, first, size)) ∙ sym (kept_behind old month rank behind))))
