-- Numbers in digits, and lists that are read item by item.
use Rattle.std.proofs.Common.{◌≡◌, ℕ, ◌+◌, ◌<◌, ◌^◌, List, [], ◌∷◌, ◌++◌, map, take, length, get_or, ap, sym, ◌∙◌, refl, true}
use Rattle.std.proofs.lemmas.List.{take_more}
use Rattle.std.specs.Prelude.{decimal}
use Rattle.std.specs.Str.{bytes_eq}
use Rattle.std.specs.Str.Parse.{digits_value}
use Rattle.std.proofs.lemmas.Slice.Eq.{bytes_eq-Decides}
use Rattle.bill_rows.proofs.Posted.{digits_back}

pub spelled : (a b : List ℕ) → bytes_eq a b ≡ true → b ≡ a
spelled a b h = sym ((bytes_eq-Decides a b).0 h)

pub digits_of_text : (text : List ℕ) (n : ℕ) → text ≡ decimal n → n < 2 ^ 128 → digits_value 10 text ≡ n
digits_of_text text n is small = ap (digits_value 10) is ∙ digits_back n small

map_push : {X Y : Type 0} (f : X → Y) (xs : List X) (x : X) → map f (xs ++ x ∷ []) ≡ map f xs ++ f x ∷ []
map_push f [] x = refl
map_push f (y ∷ ys) x = ap (λ l. f y ∷ l) (map_push f ys x)

-- one more item, after those so far
pub map_more : {X Y : Type 0} (f : X → Y) (xs : List X) (i : ℕ) (x : X) (y : Y) (ys : List Y) → i < length xs → x ≡ get_or xs i x → y ≡ f x → ys ≡ map f (take i xs)
    → ys ++ y ∷ [] ≡ map f (take (i + 1) xs)
map_more f xs i x y ys within is made so_far =
    (λ j. so_far j ++ made j ∷ []) ∙ (sym (map_push f (take i xs) x) ∙ ap (map f) ((λ j. take i xs ++ is j ∷ []) ∙ sym (take_more xs i x within)))
