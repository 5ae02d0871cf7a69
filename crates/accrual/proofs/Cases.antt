-- Cases on two numbers, and on a test.
use Rattle.std.proofs.Common.{◌≡◌, ◌≢◌, ◌<◌, ◌≤◌, ℕ, Bool, true, false, refl, arith}
use Rattle.std.specs.Prelude.{nat_lt, if◌then◌else◌}
use Rattle.std.proofs.lemmas.Bool.Decides.{nat_tests}

-- two numbers are in order or not, and the same or not
less_case : {P : Type 0} (a b : ℕ) (t : Bool) → nat_lt a b ≡ t → (a < b → P) → (b ≤ a → P) → P
less_case a b true e less more = less (grind (arith, nat_tests))
less_case a b false e less more = more (grind (arith, nat_tests))

pub by_less : {P : Type 0} (a b : ℕ) → (a < b → P) → (b ≤ a → P) → P
by_less a b less more = less_case a b _ refl less more

pub by_same : {P : Type 0} (a b : ℕ) → (a ≡ b → P) → (a ≢ b → P) → P
by_same a b same other = by_less a b (λ l. other (omega (arith, l))) (λ m. by_less b a (λ l. other (omega (arith, l))) (λ n. same (omega (arith, m, n))))

pub none_added : (t : Bool) → ◌≡◌ {A = ℕ} (if t then 0 else 0) 0
none_added true = refl
none_added false = refl

pub if_less : (t : Bool) (n : ℕ) → (if t then n else 0) ≤ n
if_less true n = omega arith
if_less false n = omega arith
