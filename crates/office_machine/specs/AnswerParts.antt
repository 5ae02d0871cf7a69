-- What the parts of a query's answer return, in the words of the plain office.
use Rattle.std.specs.Prelude.{◌≡◌, ◌⊎◌, ℕ, ◌==◌, nat_le, Option, Some, option_map, Result, Err, List, [], ◌∷◌, flat_map, if◌then◌else◌}
use Rattle.std.specs.List.{find}
use Rattle.accrual.specs.Books.{IsBookedBy}
use Rattle.class_rules.specs.Classes.{all_classes}
use Rattle.tariff.specs.Prices.{Prices}
use Rattle.plain_office.specs.Office.{Account, book_of}
use Rattle.plain_office.specs.Charges.{class_lines}
use Rattle.office_types.specs.declared.reply.Reply.{Reply}
use Rattle.office_types.specs.declared.reply.ReportLine.{ReportLine}
use Rattle.office_types.specs.declared.refusal.Refusal.{Refusal}
use Rattle.office_types.specs.declared.refusal.Refusal.TheVariants.{NoMemory}

-- this is the answer, or memory ran out
abbrev pub IsAnswer : Result Reply Refusal → Result Reply Refusal → Type 0
IsAnswer expected result = (result ≡ expected) ⊎ (result ≡ Err NoMemory)

-- ---- a report

-- the prices with which a month was closed
abbrev pub closed_at : ℕ → List (ℕ × Prices) → Option Prices
closed_at month closed = option_map (λ entry. entry.1) (find (λ entry. entry.0 == month) closed)

-- the last of these tariffs that begins by a month, or else the one that was found before
abbrev pub latest : ℕ → Option Prices → List Prices → Option Prices
latest month found [] = found
latest month found (tariff ∷ tariffs) = latest month (if nat_le tariff.from month then Some tariff else found) tariffs

-- the lines of a bucket of the plain office
abbrev pub entry_lines : Prices → ℕ → ℕ → List ℕ × Account → List ReportLine
entry_lines tariff month t entry = flat_map (class_lines tariff month t entry.0 (book_of entry.1.books)) all_classes

-- nothing is booked of it after the moment
abbrev pub IsBookedIn : ℕ → List ℕ × Account → Type 0
IsBookedIn t entry = IsBookedBy t (book_of entry.1.books)
