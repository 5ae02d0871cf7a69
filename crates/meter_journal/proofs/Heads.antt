-- The head of a journal file.
use Rattle.std.proofs.Common.{◌≡◌, ◌⊎◌, inl, inr, ⊎_elim, ℕ, ◌≤◌, Bool, true, false, List, [], ◌∷◌, ◌++◌, length, get_or, take, drop, refl, sym, ◌∙◌, ap, subst, arith, length-append, append_assoc}
use Rattle.std.specs.Prelude.{Decides, ◌↔◌}
use Rattle.std.specs.Str.{bytes_eq}
use Rattle.std.specs.List.{flat_map}
use Rattle.std.proofs.lemmas.Bool.{cases_lt, cases_eq}
use Rattle.std.proofs.lemmas.Slice.Eq.{bytes_eq-Decides}
use Rattle.office_types.specs.declared.command.Entry.{Entry}
use Rattle.entry_codec.specs.Spelling.{spelling}
use Rattle.meter_journal.specs.History.{mark, header, framed, journal_bytes, HasHistory}
use Rattle.meter_journal.specs.Reading.{IsNotMade, IsMade, IsForeign}

pub mark_in : (file : List ℕ) → take 9 (drop 1 file) ≡ drop 1 (take 10 file)
mark_in [] = refl
mark_in (x ∷ file) = refl

-- ---- each file is exactly one of the three

decided : (b : Bool) (P : Type 0) → Decides b P → P ⊎ (P → ⊥)
decided true P is = inl (is.0 refl)
decided false P is = inr (λ p. let no_test = is.1 p in cc)

pub head_is : (file : List ℕ) → IsMade file ⊎ (IsNotMade file ⊎ IsForeign file)
head_is file = elim (cases_lt (length file) 11) [
  | inl short ↦ inr (inl (inl short))
  | inr long ↦ elim (cases_eq (get_or file 0 0) 0xA5) [
    | inl is_open ↦ ⊎_elim (λ is. inl (long, is_open, is)) (λ other. inr (inr (inr (long, is_open, other))))
        (decided (bytes_eq (take 9 (drop 1 file)) mark) (take 9 (drop 1 file) ≡ mark) (bytes_eq-Decides (take 9 (drop 1 file)) mark))
    | inr shut ↦ elim (cases_lt 11 (length file)) [
      | inl longer ↦ inr (inr (inl (longer, shut)))
      | inr most ↦ inr (inl (inr (omega (arith, long, most), shut)))
    ]
  ]
]

pub made_not_none : (file : List ℕ) → IsMade file → IsNotMade file → ⊥
made_not_none file made (inl short) = absurd (omega (arith, made.0, short))
made_not_none file made (inr closed) = closed.1 made.1

pub made_not_foreign : (file : List ℕ) → IsMade file → IsForeign file → ⊥
made_not_foreign file made (inl closed) = closed.1 made.1
made_not_foreign file made (inr other) = other.2 made.2

pub none_not_foreign : (file : List ℕ) → IsNotMade file → IsForeign file → ⊥
none_not_foreign file (inl short) (inl longer) = absurd (omega (arith, short, longer.0))
none_not_foreign file (inl short) (inr other) = absurd (omega (arith, short, other.0))
none_not_foreign file (inr closed) (inl longer) = absurd (omega (arith, closed.0, longer.0))
none_not_foreign file (inr closed) (inr other) = closed.1 other.1

-- a foreign file is neither of the others
pub foreign_is : (file : List ℕ) → IsForeign file ↔ ((IsNotMade file → ⊥) × (IsMade file → ⊥))
foreign_is file = (
  λ foreign. (λ none. none_not_foreign file none foreign, λ made. made_not_foreign file made foreign),
  λ neither. ⊎_elim (λ made. absurd (neither.1 made)) (⊎_elim (λ none. absurd (neither.0 none)) (λ foreign. foreign)) (head_is file),
)

-- ---- the head of a made file

pub made_head : (file : List ℕ) → IsMade file → header ≡ take 10 file
made_head [] made = absurd (omega (arith, made.0))
made_head (x ∷ file) made = ap (λ (k : ℕ). k ∷ mark) (sym made.1) ∙ ap (λ (l : List ℕ). x ∷ l) (sym made.2)

from_header : (rest file : List ℕ) → file ≡ header ++ rest → 1 ≤ length rest → IsMade file
from_header rest file is some = subst IsMade (sym is) (omega (arith, some), refl, refl)

-- a file with a history is made
pub history_made : (entries : List Entry) (file : List ℕ) → HasHistory entries file → IsMade file
unfolding journal_bytes
history_made entries file has =
    let frames = flat_map (λ (e : Entry). 0xA5 ∷ framed (spelling e)) entries in
    from_header (frames ++ has.gate ∷ has.rest) file (has.parts ∙ append_assoc header frames (has.gate ∷ has.rest)) (omega (arith, length-append frames (has.gate ∷ has.rest)))
