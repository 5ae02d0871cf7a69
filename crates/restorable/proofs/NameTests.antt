-- Names that rise, first months that rise, and closed months that follow each other.
use Rattle.std.proofs.Common.{◌≡◌, ℕ, ◌+◌, ◌<◌, ◌≤◌, true, List, [], ◌∷◌, map, refl, ap, arith}
use Rattle.std.specs.Prelude.{Option, Some, None}
use Rattle.std.specs.Bool.{Decides, IsTrue}
use Rattle.std.specs.Cmp.Lexicographic.{nat_list_cmp_total}
use Rattle.std.specs.Ordering.{is_lt}
use Rattle.std.specs.List.{AllByRecursion}
use Rattle.std.specs.declared.cmp.Ordering.{Ordering}
use Rattle.std.specs.declared.cmp.Ordering.TheVariants.{Less, Equal, Greater}
use Rattle.std.proofs.lemmas.Bool.{and_parts, and_from, leb-true, le-leb}
use Rattle.moments.specs.Months.{month_end}
use Rattle.office_base.specs.Maps.{bytes_cmp, Rises}
use Rattle.tariff.specs.Prices.{Prices}
use Rattle.plain_office.specs.Office.{Account, empty_books}
use Rattle.plain_office.specs.Orderly.{FirstMonthsRise, FollowEachOther, last_end}
use Rattle.office_snapshot.specs.Snapshots.{BucketPartRecord}
use Rattle.restorable.specs.Tests.{names_rise, is_above, rise_from, follow}
use Rattle.restorable.proofs.Lists.{both, eq, every}

-- ---- names

-- a bucket as an office has it, whose books are not looked at
abbrev pub account_of : BucketPartRecord → List ℕ × Account
account_of part = (part.name, record { bucket = part.bucket; books = empty_books })

is_less : (r : Ordering) → is_lt r ≡ true → r ≡ Less
is_less Less is = refl
is_less Equal is = absurd cc
is_less Greater is = absurd cc

between : (a b c : List ℕ) → IsTrue (is_lt (bytes_cmp a b)) → IsTrue (is_lt (bytes_cmp b c)) → IsTrue (is_lt (bytes_cmp a c))
between a b c ab bc = ap is_lt (nat_list_cmp_total.trans a b c (is_less (bytes_cmp a b) ab) (is_less (bytes_cmp b c) bc))

abbrev Above : List ℕ → List ℕ × Account → Type 0
Above name other = IsTrue (is_lt (bytes_cmp name other.0))

all_above : (name : List ℕ) (parts : List BucketPartRecord) → names_rise (Some name) parts ≡ true → AllByRecursion (Above name) (map account_of parts)
all_above name [] e = tt
all_above name (part ∷ parts) e =
    let h = and_parts _ _ e in
    (h.0, every (Above part.name) (Above name) (λ other up. between name part.name other.0 h.0 up) (map account_of parts) (all_above part.name parts h.1))

names_to : (before : Option (List ℕ)) (parts : List BucketPartRecord) → names_rise before parts ≡ true → Rises bytes_cmp (map account_of parts)
names_to before [] e = tt
names_to before (part ∷ parts) e = let h = and_parts _ _ e in (all_above part.name parts h.1, names_to (Some part.name) parts h.1)

abbrev Past : Option (List ℕ) → List ℕ × Account → Type 0
Past before other = IsTrue (is_above before other.0)

names_back : (before : Option (List ℕ)) (parts : List BucketPartRecord) → AllByRecursion (Past before) (map account_of parts) → Rises bytes_cmp (map account_of parts) → names_rise before parts ≡ true
names_back before [] all rises = refl
names_back before (part ∷ parts) all rises = and_from _ _ all.0 (names_back (Some part.name) parts rises.0 rises.1)

past_none : (es : List (List ℕ × Account)) → AllByRecursion (Past None) es
past_none [] = tt
past_none (e ∷ es) = (refl, past_none es)

pub names_decide : (parts : List BucketPartRecord) → Decides (names_rise None parts) (Rises bytes_cmp (map account_of parts))
names_decide parts = (names_to None parts, names_back None parts (past_none (map account_of parts)))

-- ---- tariffs

abbrev From : ℕ → Prices → Type 0
From n tariff = n ≤ tariff.from

first_to : (n : ℕ) (ts : List Prices) → rise_from (λ t. t.from) n ts ≡ true → AllByRecursion (From n) ts × FirstMonthsRise ts
first_to n [] e = (tt, tt)
first_to n (t ∷ ts) e =
    let h = and_parts _ _ e in
    let more = first_to (t.from + 1) ts h.1 in
    let low : n ≤ t.from = leb-true _ _ h.0 in (
      (low, every (From (t.from + 1)) (From n) (λ o up. omega (arith, low, up)) ts more.0),
      (every (From (t.from + 1)) (λ o. t.from < o.from) (λ o up. omega (arith, up)) ts more.0, more.1),
    )

first_back : (n : ℕ) (ts : List Prices) → AllByRecursion (From n) ts → FirstMonthsRise ts → rise_from (λ t. t.from) n ts ≡ true
first_back n [] all rise = refl
first_back n (t ∷ ts) all rise =
    and_from _ _ (le-leb n t.from all.0) (first_back (t.from + 1) ts (every (λ o. t.from < o.from) (From (t.from + 1)) (λ o up. omega (arith, up)) ts rise.0) rise.1)

from_zero : (ts : List Prices) → AllByRecursion (From 0) ts
from_zero [] = tt
from_zero (t ∷ ts) = (omega arith, from_zero ts)

pub tariffs_decide : (ts : List Prices) → Decides (rise_from (λ t. t.from) 0 ts) (FirstMonthsRise ts)
tariffs_decide ts = (λ e. (first_to 0 ts e).1, first_back 0 ts (from_zero ts))

-- ---- closed months

pub follow_decides : (n : ℕ) (closed : List (ℕ × Prices)) → Decides (follow (λ month. month.0) n closed) (FollowEachOther n (map (λ month. month.0) closed))
follow_decides n [] = (λ e. tt, λ f. refl)
follow_decides n (month ∷ closed) = both _ _ (eq month.0 n) (follow_decides (n + 1) closed)

-- the end of the last of these months, and this moment if there is none
abbrev pub end_after : ℕ → List (ℕ × Prices) → ℕ
end_after end [] = end
end_after end (month ∷ closed) = end_after (month_end month.0) closed

more_from : (end : ℕ) (month : ℕ × Prices) (closed : List (ℕ × Prices)) → end_after end (month ∷ closed) ≡ last_end (month ∷ closed)
more_from end month [] = refl
more_from end month (next ∷ closed) = more_from (month_end month.0) next closed

pub end_from : (closed : List (ℕ × Prices)) → end_after 0 closed ≡ last_end closed
end_from [] = refl
end_from (month ∷ closed) = more_from 0 month closed
