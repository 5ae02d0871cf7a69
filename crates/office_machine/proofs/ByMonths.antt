-- Tariffs by their first months: one more of them, and the one in force.
use Rattle.std.proofs.Common.{◌≡◌, ◌∙◌, ℕ, List, [], ◌∷◌, ◌++◌, filter, reverse, refl, ap, sym, Bool, true, false, cond, append_assoc}
use Rattle.std.specs.Prelude.{Option, Some, None, nat_lt, nat_le, find}
use Rattle.std.specs.Option.{option_or}
use Rattle.std.proofs.lemmas.List.{reverse-append}
use Rattle.std.proofs.lemmas.List.Folds.{find-append}
use Rattle.tariff.specs.Prices.{Prices}
use Rattle.plain_office.specs.Charges.{in_force}
use Rattle.plain_office.specs.Step.{with_tariff}
use Rattle.office_machine.specs.AnswerParts.{latest}

-- the earlier ones, the tariff, and the later ones
pub put_together : (tariff : Prices) (from : ℕ) (others none one two three : List Prices) → from ≡ tariff.from → none ≡ []
    → one ≡ none ++ filter (λ (other : Prices). nat_lt other.from from) others → two ≡ one ++ tariff ∷ []
    → three ≡ two ++ filter (λ (other : Prices). nat_lt from other.from) others → three ≡ with_tariff tariff others
put_together tariff from others none one two three same a b c d =
    let earlier = filter (λ (other : Prices). nat_lt other.from from) others in
    let later = filter (λ (other : Prices). nat_lt from other.from) others in
    d ∙ ap (λ (l : List Prices). l ++ later) (c ∙ ap (λ (l : List Prices). l ++ tariff ∷ []) (b ∙ ap (λ (l : List Prices). l ++ earlier) a))
    ∙ append_assoc earlier (tariff ∷ []) later
    ∙ ap (λ (m : ℕ). filter (λ (other : Prices). nat_lt other.from m) others ++ tariff ∷ filter (λ (other : Prices). nat_lt m other.from) others) same

module _ (month : ℕ) where
  abbrev holds : Prices → Bool
  holds tariff = nat_le tariff.from month

  -- the first tariff holds if no later one does
  first_or : (tariff : Prices) (tariffs : List Prices) → in_force month (tariff ∷ tariffs) ≡ option_or (in_force month tariffs) (cond (holds tariff) (Some tariff) None)
  first_or tariff tariffs = ap (find holds) (reverse-append (tariff ∷ []) tariffs) ∙ find-append holds (reverse tariffs) (tariff ∷ [])

  regroup : (tariff : Prices) (found : Option Prices) (o : Option Prices) (b : Bool)
      → option_or o (cond b (Some tariff) found) ≡ option_or (option_or o (cond b (Some tariff) None)) found
  regroup tariff found (Some other) b = refl
  regroup tariff found None true = refl
  regroup tariff found None false = refl

  latest_or : (found : Option Prices) (tariffs : List Prices) → latest month found tariffs ≡ option_or (in_force month tariffs) found
  latest_or found [] = refl
  latest_or found (tariff ∷ tariffs) =
      latest_or (cond (holds tariff) (Some tariff) found) tariffs ∙ regroup tariff found (in_force month tariffs) (holds tariff)
      ∙ ap (λ (o : Option Prices). option_or o found) (sym (first_or tariff tariffs))

  or_none : (o : Option Prices) → option_or o None ≡ o
  or_none (Some tariff) = refl
  or_none None = refl

  pub latest_is : (tariffs : List Prices) → latest month None tariffs ≡ in_force month tariffs
  latest_is tariffs = latest_or None tariffs ∙ or_none (in_force month tariffs)
