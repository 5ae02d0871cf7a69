-- One number more.
use Rattle.std.proofs.Common.{◌≡◌, ℕ, suc, ◌+◌, ◌-◌, ◌^◌, ◌<◌, min, List, [], ◌∷◌, ◌++◌, Some, ap, subst, arith}
use Rattle.std.specs.Io.KnownBytes.{Appends}
use Rattle.desk_core.specs.Clocks.{number_at, numbers_told}

pub one_told : (moments : List ℕ) (old new number : ℕ) → new ≡ min (old + 1) (2 ^ 64 - 1) → new < 2 ^ 64 - 1 → number ≡ number_at moments old
    → Appends (Some (numbers_told moments old)) (Some (numbers_told moments new)) (number ∷ [])
one_told moments old new number rose small is =
    let next : new ≡ suc old = omega (arith, rose, small) in
    subst (λ (n : ℕ). numbers_told moments n ≡ numbers_told moments old ++ number ∷ []) (ap (λ (n : ℕ). n) (next_is next)) (ap (λ (x : ℕ). numbers_told moments old ++ x ∷ []) (back is))
  where
    back : number ≡ number_at moments old → number_at moments old ≡ number
    back e = cc

    next_is : new ≡ suc old → suc old ≡ new
    next_is e = cc
