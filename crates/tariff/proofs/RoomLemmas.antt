-- Putting tiers into their array.
use Rattle.std.proofs.Common.{◌≡◌, ◌≤◌, ◌∙◌, ap, ap₂, sym, subst, List, ◌++◌, length, drop, replicate, true}
use Rattle.std.specs.Prelude.{nat_le}
use Rattle.std.proofs.Math.Seq.{take-append_seam}
use Rattle.std.proofs.lemmas.List.{drop-replicate}
use Rattle.std.proofs.lemmas.Bool.{and_parts, leb-true}
use Rattle.tariff.specs.declared.tiers.Tier.{Tier}
use Rattle.tariff.specs.Prices.{are_tiers, are_priced, have_ends, rise_from}
use Rattle.tariff.specs.Rooms.{IsRoom, no_tier}

module _ (ts : List Tier) (all : are_tiers ts ≡ true) where
  few : length ts ≤ 8
  few =
      let ends = and_parts (have_ends ts) (are_priced ts) all in
      leb-true (length ts) 8 (and_parts (nat_le (length ts) 8) (rise_from 0 ts) ends.0).0

  in_room : IsRoom (record { room = ts ++ drop (length ts) (replicate 8 no_tier); count = length ts })
  in_room =
      let back = take-append_seam ts (drop (length ts) (replicate 8 no_tier)) in
      record {
        fits = few;
        kept = ap are_tiers back ∙ all;
        rest = ap₂ (λ (a b : List Tier). a ++ b) (sym back) (drop-replicate (length ts) 8 no_tier);
        count = ap length back;
      }

  -- the tiers as they were put there
  pub put_in_room : (new : List Tier) → new ≡ ts → IsRoom (record { room = new ++ drop (length ts) (replicate 8 no_tier); count = length ts })
  put_in_room new is = subst (λ (n : List Tier). IsRoom (record { room = n ++ drop (length ts) (replicate 8 no_tier); count = length ts })) (sym is) in_room
