-- The moments that the clock of a load returns.
use Rattle.std.proofs.Common.{◌≡◌, ℕ, zero, suc, List, [], ◌∷◌, ◌++◌, Some, refl, ap, sym, ◌∙◌, subst, arith}
use Rattle.std.specs.Io.KnownBytes.{Appends}
use Rattle.generator.specs.Places.{next_place, place_after}
use Rattle.generator.specs.Clocks.{moments_told}
use Rattle.generator.specs.declared.place.Place.{Place}
use Rattle.generator.proofs.PlaceLemmas.{made_next, after_next}

told_next : (number made : ℕ) → moments_told number (suc made) ≡ moments_told number made ++ (place_after number (suc made)).moment ∷ []
unfolding moments_told
told_next number made = refl

-- the moment of one command more
pub told_more : (number : ℕ) (old new : Place) → old ≡ place_after number old.made → new ≡ next_place old
    → Appends (Some (moments_told number old.made)) (Some (moments_told number new.made)) (new.moment ∷ [])
told_more number old new stands is =
    let made : new.made ≡ suc old.made = omega (arith, ap (λ (p : Place). p.made) is, made_next old) in
    let at_new : new ≡ place_after number new.made = after_next number old new stands is in
    let here : new ≡ place_after number (suc old.made) = subst (λ (n : ℕ). new ≡ place_after number n) made at_new in
    subst (λ (n : ℕ). moments_told number n ≡ moments_told number old.made ++ new.moment ∷ []) (sym made)
    (told_next number old.made ∙ ap (λ (p : Place). moments_told number old.made ++ p.moment ∷ []) (sym here))

-- what a call of the clock rests on
pub ruleset told_facts = (told_more, after_next, made_next)

-- ---- what was told tells the number, and how many

-- the first of a list, or 0
abbrev first : List ℕ → ℕ
first [] = 0
first (n ∷ ns) = n

-- the last one, or 0
abbrev last : List ℕ → ℕ
last [] = 0
last (n ∷ []) = n
last (n ∷ m ∷ ns) = last (m ∷ ns)

last_push : (ns : List ℕ) (n : ℕ) → last (ns ++ n ∷ []) ≡ n
last_push [] n = refl
last_push (m ∷ []) n = refl
last_push (m ∷ k ∷ ns) n = last_push (k ∷ ns) n

abbrev IsFrom : ℕ → List ℕ → Type 0
IsFrom number [] = ⊥
IsFrom number (n ∷ ns) = n ≡ number

from_push : (number : ℕ) (ns : List ℕ) (n : ℕ) → IsFrom number ns → IsFrom number (ns ++ n ∷ [])
from_push number [] n from = absurd from
from_push number (m ∷ ns) n from = from

from_first : (number : ℕ) (ns : List ℕ) → IsFrom number ns → first ns ≡ number
from_first number [] from = absurd from
from_first number (m ∷ ns) from = from

from_number : (number made : ℕ) → IsFrom number (moments_told number made)
unfolding moments_told
from_number number zero = refl
from_number number (suc made) = from_push number (moments_told number made) (place_after number (suc made)).moment (from_number number made)

-- a clock that told the moment of one command more is one of the same number, and that moment is the one that was told
pub tells : (number made other more moment : ℕ) → more ≡ suc made → Appends (Some (moments_told number made)) (Some (moments_told other more)) (moment ∷ [])
    → (other ≡ number) × (moment ≡ (place_after number (suc made)).moment)
tells number made other more moment is appends =
    let same : other ≡ number =
    sym (from_first other (moments_told other more) (from_number other more)) ∙ ap first appends
    ∙ from_first number (moments_told number made ++ moment ∷ []) (from_push number (moments_told number made) moment (from_number number made)) in
    let here : moments_told number (suc made) ≡ moments_told number made ++ moment ∷ [] =
    subst (λ (n : ℕ). moments_told n (suc made) ≡ moments_told number made ++ moment ∷ []) same
    (subst (λ (n : ℕ). moments_told other n ≡ moments_told number made ++ moment ∷ []) is appends) in (
      same,
      sym (last_push (moments_told number made) moment) ∙ ap last (sym here) ∙ ap last (told_next number made)
          ∙ last_push (moments_told number made) (place_after number (suc made)).moment,
    )
