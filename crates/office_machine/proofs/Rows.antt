-- The lines of a report, in the steps of its loops.
use Rattle.std.proofs.Common.{◌≡◌, ◌⊎◌, inl, inr, ℕ, eqb, true, false, arith, map, ◌<◌, ◌≤◌, List, [], ◌∷◌, ◌++◌, refl, sym, ap, ◌∙◌, Bool, flat_map, append_assoc}
use Rattle.std.specs.List.{AllByRecursion}
use Rattle.std.specs.Ordering.{is_eq, nat_cmp}
use Rattle.std.specs.Cmp.{nat_cmp_is}
use Rattle.std.specs.declared.cmp.Ordering.TheVariants.{Less, Equal, Greater}
use Rattle.std.proofs.lemmas.Bool.{cases_lt}
use Rattle.std.proofs.lemmas.Bool.Decides.{eqb_tells}
use Rattle.class_rules.specs.Classes.{all_classes}
use Rattle.accrual.specs.Books.{Book, IsBookedBy}
use Rattle.accrual.specs.Totals.{AreTotalsOf}
use Rattle.office_base.specs.Maps.{at_number}
use Rattle.tariff.specs.Prices.{Prices}
use Rattle.plain_office.specs.Office.{Account, book_of}
use Rattle.plain_office.specs.Charges.{class_lines, class_meters, metered_lines}
use Rattle.office_types.specs.declared.reply.ClassMeters.{ClassMeters}
use Rattle.office_types.specs.declared.reply.ReportLine.{ReportLine}
use Rattle.bucket_account.specs.Counting.{AccountRecord}
use Rattle.office_machine.specs.AnswerParts.{closed_at, entry_lines, IsBookedIn}
use Rattle.office_machine.specs.Standing.{StandForAccounts}

-- ---- the prices of a closed month

same_test : (a b : ℕ) → is_eq (nat_cmp a b) ≡ eqb b a
same_test a b = by (eqb_tells b a) where
  apart : (b ≡ a → ⊥) → (a < b) ⊎ (b ≤ a) → is_eq (nat_cmp a b) ≡ false
  apart differ (inl lt) = ap is_eq (sym (nat_cmp_is a b Less lt))
  apart differ (inr le) = ap is_eq (sym (nat_cmp_is a b Greater (omega (arith, le, differ))))

  by : ((eqb b a ≡ true) × (b ≡ a)) ⊎ ((eqb b a ≡ false) × (b ≡ a → ⊥)) → is_eq (nat_cmp a b) ≡ eqb b a
  by (inl told) = ap is_eq (sym (nat_cmp_is a b Equal (sym told.1))) ∙ sym told.0
  by (inr told) = apart told.1 (cases_lt a b) ∙ sym told.0

pub closed_is : (month : ℕ) (closed : List (ℕ × Prices)) → closed_at month closed ≡ at_number month closed
closed_is month [] = refl
closed_is month (entry ∷ closed) = by (eqb entry.0 month) refl (closed_is month closed) where
  by : (b : Bool) → eqb entry.0 month ≡ b → closed_at month closed ≡ at_number month closed → closed_at month (entry ∷ closed) ≡ at_number month (entry ∷ closed)
  by true is rest = let test = same_test month entry.0 ∙ is in rw (is, test) refl
  by false is rest = let test = same_test month entry.0 ∙ is in rw (is, test) rest

-- ---- one turn of the loop over the buckets

module _ (tariff : Prices) (month t : ℕ) where
  -- the buckets that are left stand for these, whose lines are to come
  pub record Left (left : List (List ℕ × AccountRecord)) (lines : List ReportLine) (plainly : List (List ℕ × Account)) : Type 0 where
    pub rest : List (List ℕ × Account)
    pub stand : StandForAccounts left rest
    pub booked : AllByRecursion (IsBookedIn t) rest
    pub lines_are : lines ++ flat_map (entry_lines tariff month t) rest ≡ flat_map (entry_lines tariff month t) plainly

  abbrev pub IsListing : List (List ℕ × AccountRecord) → List (List ℕ × AccountRecord) → List ReportLine → Type 0
  IsListing all left lines = (plainly : List (List ℕ × Account)) → StandForAccounts all plainly → AllByRecursion (IsBookedIn t) plainly → Left left lines plainly

  module _ (entry : List ℕ × AccountRecord) (left : List (List ℕ × AccountRecord)) (old new : List ReportLine) (used : List ClassMeters)
      (added : new ≡ old ++ flat_map (metered_lines tariff month entry.0) used) (reads : (book : Book)
      → AreTotalsOf entry.1.meters book → IsBookedBy t book → used ≡ map (class_meters month t book) all_classes)
    where
      more : (plainly rest : List (List ℕ × Account)) → StandForAccounts (entry ∷ left) rest
          → AllByRecursion (IsBookedIn t) rest
          → old ++ flat_map (entry_lines tariff month t) rest ≡ flat_map (entry_lines tariff month t) plainly
          → Left left new plainly
      more plainly [] stand booked is = absurd stand
      more plainly (first ∷ rest) stand booked is =
          let here : flat_map (metered_lines tariff month entry.0) used ≡ entry_lines tariff month t first =
          ap (λ (l : List ClassMeters). flat_map (metered_lines tariff month entry.0) l) (reads (book_of first.1.books) stand.0.account.meters booked.0)
          ∙ ap (λ (name : List ℕ). flat_map (class_lines tariff month t name (book_of first.1.books)) all_classes) stand.0.name in
          record {
            rest = rest;
            stand = stand.1;
            booked = booked.1;
            lines_are =
                ap (λ (l : List ReportLine). l ++ flat_map (entry_lines tariff month t) rest) (added ∙ ap (λ (l : List ReportLine). old ++ l) here)
                ∙ append_assoc old (entry_lines tariff month t first) (flat_map (entry_lines tariff month t) rest) ∙ is;
          }

      pub went_on : (all : List (List ℕ × AccountRecord)) → IsListing all (entry ∷ left) old → IsListing all left new
      went_on all h plainly stand booked = let so_far = h plainly stand booked in more plainly so_far.rest so_far.stand so_far.booked so_far.lines_are
