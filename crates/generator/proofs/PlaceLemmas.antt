-- Places after commands.
use Rattle.std.proofs.Common.{◌≡◌, ℕ, zero, suc, ◌+◌, ◌%◌, ◌≤◌, min, Bool, true, false, cond, refl, ap, sym, ◌∙◌, subst, arith}
use Rattle.std.specs.Prelude.{nat_lt}
use Rattle.moments.specs.Time.{last_moment}
use Rattle.generator.specs.Draws.{draw, state_after}
use Rattle.generator.specs.Places.{place_before, next_place, kind_drawn, draws_of, place_after}
use Rattle.generator.specs.declared.place.Place.{Place}

-- the place after one of the first commands, or another one
first_place : Place → Place
first_place place = record place { made = place.made + 1 }

later_place : Place → Place
later_place place = record {
  made = place.made + 1;
  moment = min (place.moment + draw 0 place.state % 21_600_000) last_moment;
  state = state_after (draws_of (kind_drawn place.state)) (state_after 4 place.state);
}

made_by : (b : Bool) (place : Place) → (cond b (first_place place) (later_place place)).made ≡ place.made + 1
unfolding first_place later_place
made_by true place = refl
made_by false place = refl

-- the next place is one command further
pub made_next : (place : Place) → (next_place place).made ≡ place.made + 1
unfolding first_place later_place
made_next place = made_by (nat_lt place.made 8) place

within_by : (b : Bool) (place : Place) → place.moment ≤ last_moment → (cond b (first_place place) (later_place place)).moment ≤ last_moment
unfolding first_place later_place
within_by true place within = within
within_by false place within = omega arith

within_next : (place : Place) → place.moment ≤ last_moment → (next_place place).moment ≤ last_moment
unfolding first_place later_place
within_next place within = within_by (nat_lt place.made 8) place within

later_by : (b : Bool) (place : Place) → place.moment ≤ last_moment → place.moment ≤ (cond b (first_place place) (later_place place)).moment
unfolding first_place later_place
later_by true place within = omega arith
later_by false place within = omega (arith, within)

later_next : (place : Place) → place.moment ≤ last_moment → place.moment ≤ (next_place place).moment
unfolding first_place later_place
later_next place within = later_by (nat_lt place.made 8) place within

-- ---- after as many commands

pub made_after : (number n : ℕ) → (place_after number n).made ≡ n
unfolding place_after
made_after number zero = refl
made_after number (suc n) = let one = made_next (place_after number n) in omega (arith, one, made_after number n)

pub within_after : (number n : ℕ) → (place_after number n).moment ≤ last_moment
unfolding place_after
within_after number zero = omega arith
within_after number (suc n) = within_next (place_after number n) (within_after number n)

-- time does not go back
pub later_after : (number n : ℕ) → (place_after number n).moment ≤ (place_after number (suc n)).moment
unfolding place_after
later_after number n = later_next (place_after number n) (within_after number n)

-- a place after some commands, and the next one
pub after_next : (number : ℕ) (old new : Place) → old ≡ place_after number old.made → new ≡ next_place old → new ≡ place_after number new.made
unfolding place_after
after_next number old new stands is =
    let made : new.made ≡ suc old.made = omega (arith, ap (λ (p : Place). p.made) is, made_next old) in
    subst (λ (n : ℕ). new ≡ place_after number n) (sym made) (is ∙ ap next_place stands)

-- before the first command
pub first_after : (number : ℕ) (place : Place) → place ≡ place_before number → place ≡ place_after number place.made
unfolding place_after
first_after number place is = subst (λ (p : Place). p ≡ place_after number p.made) (sym is) refl
