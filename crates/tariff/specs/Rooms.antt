-- The tiers of a class as a type stores them: an array of eight, with filler after the last tier.
use Rattle.std.specs.Prelude.{◌≡◌, ℕ, ◌-◌, ◌≤◌, true, List, ◌++◌, length, take, replicate, None}
use Rattle.std.proofs.Common.{ap, sym, ◌∙◌}
use Rattle.tariff.specs.declared.tiers.Tier.{Tier}
use Rattle.tariff.specs.declared.tiers.Tiers.TheInside.{Inside}
use Rattle.tariff.specs.Prices.{are_tiers}

-- the filler after the last tier
abbrev pub no_tier : Tier
no_tier = record { upto = None; price = 0 }

-- the tiers in the array
abbrev pub tiers_in : Inside → List Tier
tiers_in t = take t.count t.room

-- the array is valid: its tiers are valid, they fit in it, and only filler follows
pub record IsRoom (t : Inside) : Type 0 where
  pub fits : t.count ≤ 8
  pub kept : are_tiers (take t.count t.room) ≡ true
  pub rest : t.room ≡ take t.count t.room ++ replicate (8 - t.count) no_tier
  pub count : length (take t.count t.room) ≡ t.count

-- the array of these tiers
abbrev pub room_of : List Tier → Inside
room_of tiers = record { room = tiers ++ replicate (8 - length tiers) no_tier; count = length tiers }

-- the array of the tiers of a valid array is that array
pub room_again : (t : Inside) → IsRoom t → room_of (tiers_in t) ≡ t
room_again t h =
    ap (λ (n : ℕ). record { room = take t.count t.room ++ replicate (8 - n) no_tier; count = n }) h.count
    ∙ ap (λ (r : List Tier). record { room = r; count = t.count }) (sym h.rest)
