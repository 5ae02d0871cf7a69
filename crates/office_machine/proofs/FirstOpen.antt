-- The first month that does not count as closed is a month.
use Rattle.std.proofs.Common.{◌≡◌, ℕ, suc, zero, ◌+◌, ◌≤◌, ◌<◌, List, [], ◌∷◌, map, length, refl, ap, sym, ◌∙◌, subst, arith, Option, Some, None}
use Rattle.std.specs.Prelude.{MatchOption, IfSome, option_map}
use Rattle.moments.specs.Time.{end_of_time}
use Rattle.moments.specs.Months.{months, month_start, month_end}
use Rattle.moments.proofs.Calendar.{month_small}
use Rattle.tariff.specs.Prices.{Prices}
use Rattle.office_snapshot.specs.Snapshots.{first_open_of}
use Rattle.plain_office.specs.Office.{Office}
use Rattle.plain_office.specs.Orderly.{IsOrderlyRecords, IsOrderlyUntil, IsBlank, FollowEachOther, last_end}
use Rattle.office_machine.specs.Standing.{Records, StandsForOffice}

abbrev Month : Type 0
Month = ℕ × Prices

abbrev numbers : List Month → List ℕ
numbers closed = map (λ (month : Month). month.0) closed

last_is : (first : ℕ) (month : Month) (others : List Month) → FollowEachOther first (numbers (month ∷ others)) → last_end (month ∷ others) ≡ month_start (first + length (month ∷ others))
last_is first month [] follow =
    let same : month.0 + 1 ≡ first + 1 = ap (λ (n : ℕ). n + 1) follow.0 in
    ap month_start same
last_is first month (next ∷ others) follow =
    let more = last_is (first + 1) next others follow.1 in
    let same : first + 1 + length (next ∷ others) ≡ first + length (month ∷ next ∷ others) = omega arith in
    more ∙ ap month_start same

module _ (first last : ℕ) (small : first < months) (before : last < end_of_time) where
  by_closed : (closed : List Month) → FollowEachOther first (numbers closed) → last_end closed ≤ last → first + length closed < months
  by_closed [] follow until = omega (arith, small)
  by_closed (month ∷ others) follow until =
      month_small (first + length (month ∷ others)) last (subst (λ (n : ℕ). n ≤ last) (last_is first month others follow) until) before

open_small : (p : Office) (first last : ℕ) → IsOrderlyRecords p → p.first_month ≡ Some first → p.last ≡ Some last → first < months → last < end_of_time → first + length p.closed < months
open_small p first last h is_first is_last small before =
    by_closed first last small before p.closed
    (subst (λ (o : Option ℕ). IfSome o (λ month. FollowEachOther month (numbers p.closed))) is_first h.months)
    (subst (λ (o : Option ℕ). MatchOption o (IsBlank p) (λ moment. IsOrderlyUntil moment p)) is_last h.moments).closed

-- no first month if no command was accepted
none_first : (p : Office) → IsOrderlyRecords p → p.last ≡ None → p.first_month ≡ None
none_first p h is = (subst (λ (o : Option ℕ). MatchOption o (IsBlank p) (λ moment. IsOrderlyUntil moment p)) is h.moments).first_month

not_both : (o : Option ℕ) (n : ℕ) → o ≡ Some n → o ≡ None → ⊥
not_both o n some none = absurd cc

-- ---- in memory

module _ (records : Records) (p : Office) (stands : StandsForOffice records p) where
  by_last : (last : Option ℕ) → p.last ≡ last → IfSome last (λ last. last < end_of_time) → (first : ℕ) → records.first_month ≡ Some first → first < months → first + length p.closed < months
  by_last None is before first is_first small = absurd (not_both p.first_month first (sym stands.first_month ∙ is_first) (none_first p stands.orderly.records is))
  by_last (Some last) is before first is_first small = open_small p first last stands.orderly.records (sym stands.first_month ∙ is_first) is small before

  pub small_open : IfSome records.last (λ last. last < end_of_time) → (first : ℕ) → records.first_month ≡ Some first → first < months → first + length records.closed < months
  small_open before first is_first small =
      subst (λ (l : List Month). first + length l < months) (sym stands.closed)
      (by_last p.last refl (subst (λ (o : Option ℕ). IfSome o (λ last. last < end_of_time)) stands.last before) first is_first small)

  pub some_open : (first : ℕ) → records.first_month ≡ Some first → Some (first + length records.closed) ≡ first_open_of p
  some_open first is_first =
      ap (λ (l : List Month). Some (first + length l)) stands.closed ∙ ap (λ (o : Option ℕ). option_map (λ month. month + length p.closed) o) (sym is_first ∙ stands.first_month)

  pub none_open : records.first_month ≡ None → None ≡ first_open_of p
  none_open is = ap (λ (o : Option ℕ). option_map (λ month. month + length p.closed) o) (sym is ∙ stands.first_month)
