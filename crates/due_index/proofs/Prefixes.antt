-- A text that begins a key begins every text that is between the two in the order of the keys.
use Rattle.std.proofs.Common.{◌≡◌, ℕ, List, [], ◌∷◌, refl, sym, subst, Bool, true, false, ◌&&◌, length, take, arith}
use Rattle.std.specs.Prelude.{nat_eq}
use Rattle.std.specs.Cmp.{ranked}
use Rattle.std.specs.List.{starts_with}
use Rattle.std.specs.Cmp.Lexicographic.{pointwise}
use Rattle.std.specs.declared.cmp.Ordering.{Ordering}
use Rattle.std.specs.declared.cmp.Ordering.TheVariants.{Less, Equal, Greater}
use Rattle.std.specs.Ordering.{nat_cmp, ordering_then, is_lt}
use Rattle.std.proofs.lemmas.Bool.Decides.{nat_tests}
use Rattle.office_base.specs.Maps.{bytes_cmp}

pub same_byte : (x z : ℕ) → nat_eq x z ≡ true → x ≡ z
same_byte x z is = grind (arith, nat_tests)

itself : (x : ℕ) → nat_eq x x ≡ true
itself x = grind (arith, nat_tests)

pub both : (a b : Bool) → (a && b) ≡ true → (a ≡ true) × (b ≡ true)
both true b is = (refl, is)
both false b is = absurd cc

between_by : (x y z : ℕ) (o p rest more : Ordering) → nat_cmp y x ≡ o → nat_cmp z y ≡ p → x ≡ z → is_lt (ordering_then o rest) ≡ false
    → is_lt (ordering_then p more) ≡ false → (x ≡ y) × (is_lt rest ≡ false) × (is_lt more ≡ false)
between_by x y z Less p rest more yx zy same h k = absurd cc
between_by x y z Equal Less rest more yx zy same h k = absurd cc
between_by x y z Equal Equal rest more yx zy same h k = (sym (ranked y x Equal (sym yx)), h, k)
between_by x y z Equal Greater rest more yx zy same h k =
    let one = ranked y x Equal (sym yx) in let two = ranked z y Greater (sym zy) in absurd (omega (arith, one, two, same))
between_by x y z Greater Less rest more yx zy same h k = absurd cc
between_by x y z Greater Equal rest more yx zy same h k =
    let one = ranked y x Greater (sym yx) in let two = ranked z y Equal (sym zy) in absurd (omega (arith, one, two, same))
between_by x y z Greater Greater rest more yx zy same h k =
    let one = ranked y x Greater (sym yx) in let two = ranked z y Greater (sym zy) in absurd (omega (arith, one, two, same))

-- it begins the key, and the other one stands between it and the key: so it begins the other one
pub begins_between : (start other key : List ℕ) → starts_with nat_eq key start ≡ true → is_lt (bytes_cmp other start) ≡ false
    → is_lt (bytes_cmp key other) ≡ false → starts_with nat_eq other start ≡ true
begins_between [] other key begins above below = refl
begins_between (x ∷ xs) other [] begins above below = absurd cc
begins_between (x ∷ xs) [] (z ∷ zs) begins above below = absurd cc
begins_between (x ∷ xs) (y ∷ ys) (z ∷ zs) begins above below =
    let split = both (nat_eq x z) (pointwise nat_eq xs (take (length xs) zs)) begins in
    let next = between_by x y z (nat_cmp y x) (nat_cmp z y) (bytes_cmp ys xs) (bytes_cmp zs ys) refl refl (same_byte x z split.0) above below in
    subst (λ b. (nat_eq x b && pointwise nat_eq xs (take (length xs) ys)) ≡ true) next.0
    (subst (λ b. (b && pointwise nat_eq xs (take (length xs) ys)) ≡ true) (sym (itself x)) (begins_between xs ys zs split.1 next.1 next.2))
