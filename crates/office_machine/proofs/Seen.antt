-- The office as its fields make it, which is the office that callers see.
use Rattle.std.proofs.Common.{◌≡◌, ℕ, true, sym, subst}
use Rattle.plain_office.specs.Office.{Office}
use Rattle.plain_office.specs.Run.{is_not_before}
use Rattle.office_machine.specs.Standing.{Records, StandsForOffice}

-- what the fields make
abbrev pub seen : {a b : Records} → a ≡ b → Records
seen {a} {b} same = a

pub seen_later : {a b : Records} (t : ℕ) → a ≡ b → is_not_before b.last t ≡ true → is_not_before a.last t ≡ true
seen_later {a} {b} t same later = subst (λ (r : Records). is_not_before r.last t ≡ true) (sym same) later

pub seen_stands : {a b : Records} {p : Office} → a ≡ b → StandsForOffice b p → StandsForOffice a p
seen_stands {a} {b} {p} same stands = subst (λ (r : Records). StandsForOffice r p) (sym same) stands
