-- What is written in a combined format is read again, and what is read was written so.
use Rattle.std.proofs.Common.{◌≡◌, ℕ, zero, suc, Bool, true, false, eqb, List, [], ◌∷◌, ◌++◌, length, Option, Some, None, refl, sym, ap, subst, ◌∙◌, append_assoc, arith}
use Rattle.std.specs.List.{flat_map, list_all}
use Rattle.std.specs.Int.{w8}
use Rattle.std.proofs.lemmas.Bool.{and_parts, and_from, eqb-true}
use Rattle.std.proofs.lemmas.Bool.Decides.{nat_tests}
use Rattle.std.proofs.lemmas.Option.{same_Some}
use Rattle.entry_codec.specs.Formats.{Format, ◌>>=◌, number, front_items}
use Rattle.entry_codec.proofs.Bytes.{IsBytes}
use Rattle.entry_codec.proofs.FormatLaws.{IsFormat, IsCode, bind_some, IsBytes-rest, coded-IsFormat, number-IsFormat, wide8}
use Rattle.checkpoint.specs.Combining.{after, exactly, some_written, some_has, as_some, as_none, is_nothing, renamed, flags, flag_format}

pub after-IsFormat : {X Y : Type 0} (first : Format X) (second : X → Format Y) → IsFormat first → ((x : X) → IsFormat (second x)) → IsFormat (after first second)
after-IsFormat {X = X} {Y = Y} first second law_first law_second = record { again = again; takes = takes }
  where
    again : (p : X × Y) (rest : List ℕ) → (after first second).has p ≡ true → (after first second).front ((first.written p.0 ++ (second p.0).written p.1) ++ rest) ≡ Some (p, rest)
    again p rest has =
        let parts = and_parts _ _ has in
        ap (λ (b : List ℕ). (after first second).front b) (append_assoc (first.written p.0) ((second p.0).written p.1) rest)
        ∙ ap (λ (o : Option (X × List ℕ)). o >>= λ x. (second x.0).front x.1 >>= λ y. Some ((x.0, y.0), y.1)) (law_first.again p.0 ((second p.0).written p.1 ++ rest) parts.0)
        ∙ ap (λ (o : Option (Y × List ℕ)). o >>= λ y. Some ((p.0, y.0), y.1)) ((law_second p.0).again p.1 rest parts.1)

    takes : (bytes : List ℕ) (x : (X × Y) × List ℕ) → IsBytes bytes → (after first second).front bytes ≡ Some x
        → (bytes ≡ (first.written x.0.0 ++ (second x.0.0).written x.0.1) ++ x.1) × ((after first second).has x.0 ≡ true)
    takes bytes x fits e =
        let a = bind_some (first.front bytes) (λ x. (second x.0).front x.1 >>= λ y. Some ((x.0, y.0), y.1)) x e in
        let b = bind_some ((second a.0.0).front a.0.1) (λ y. Some ((a.0.0, y.0), y.1)) x a.2 in
        let t = law_first.takes bytes a.0 fits a.1 in
        let u = (law_second a.0.0).takes a.0.1 b.0 (IsBytes-rest (first.written a.0.0) a.0.1 (subst IsBytes t.0 fits)) b.1 in
        let whole : bytes ≡ (first.written a.0.0 ++ (second a.0.0).written b.0.0) ++ b.0.1 =
        t.0 ∙ ap (λ (r : List ℕ). first.written a.0.0 ++ r) u.0 ∙ sym (append_assoc (first.written a.0.0) ((second a.0.0).written b.0.0) b.0.1) in
        subst (λ (y : (X × Y) × List ℕ). (bytes ≡ (first.written y.0.0 ++ (second y.0.0).written y.0.1) ++ y.1) × ((after first second).has y.0 ≡ true))
        (same_Some ((a.0.0, b.0.0), b.0.1) x b.2) (whole, and_from _ _ t.1 u.1)

-- items one after the other
items_again : {X : Type 0} (format : Format X) → IsFormat format → (n : ℕ) (xs : List X) (rest : List ℕ) → length xs ≡ n → list_all format.has xs ≡ true
    → front_items format n (flat_map format.written xs ++ rest) ≡ Some (xs, rest)
unfolding front_items
items_again format law zero [] rest len has = refl
items_again format law (suc n) [] rest len has = absurd (omega (arith, len))
items_again format law zero (x ∷ xs) rest len has = absurd (omega (arith, len))
items_again {X = X} format law (suc n) (x ∷ xs) rest len has =
    let parts = and_parts _ _ has in
    ap (λ (b : List ℕ). front_items format (suc n) b) (append_assoc (format.written x) (flat_map format.written xs) rest)
    ∙ ap (λ (o : Option (X × List ℕ)). o >>= λ y. front_items format n y.1 >>= λ ys. Some (y.0 ∷ ys.0, ys.1)) (law.again x (flat_map format.written xs ++ rest) parts.0)
    ∙ ap (λ (o : Option (List X × List ℕ)). o >>= λ ys. Some (x ∷ ys.0, ys.1)) (items_again format law n xs rest (omega (arith, len)) parts.1)

record AreItems {X : Type 0} (format : Format X) (n : ℕ) (bytes : List ℕ) (x : List X × List ℕ) : Type 0 where
  count : length x.0 ≡ n
  parts : bytes ≡ flat_map format.written x.0 ++ x.1
  has : list_all format.has x.0 ≡ true

items_take : {X : Type 0} (format : Format X) → IsFormat format → (n : ℕ) (bytes : List ℕ) (x : List X × List ℕ) → IsBytes bytes → front_items format n bytes ≡ Some x → AreItems format n bytes x
unfolding front_items
items_take format law zero bytes x fits e = subst (AreItems format zero bytes) (same_Some ([], bytes) x e) (record { count = refl; parts = refl; has = refl })
items_take format law (suc n) bytes x fits e =
    let a = bind_some (format.front bytes) (λ y. front_items format n y.1 >>= λ ys. Some (y.0 ∷ ys.0, ys.1)) x e in
    let b = bind_some (front_items format n a.0.1) (λ ys. Some (a.0.0 ∷ ys.0, ys.1)) x a.2 in
    let t = law.takes bytes a.0 fits a.1 in
    let u = items_take format law n a.0.1 b.0 (IsBytes-rest (format.written a.0.0) a.0.1 (subst IsBytes t.0 fits)) b.1 in
    subst (AreItems format (suc n) bytes) (same_Some (a.0.0 ∷ b.0.0, b.0.1) x b.2) (record {
      count = ap suc u.count;
      parts = t.0 ∙ ap (λ (r : List ℕ). format.written a.0.0 ++ r) u.parts ∙ sym (append_assoc (format.written a.0.0) (flat_map format.written b.0.0) b.0.1);
      has = and_from _ _ t.1 u.has;
    })

same_eqb : (m n : ℕ) → m ≡ n → eqb m n ≡ true
same_eqb m n is = grind (arith, nat_tests)

pub exactly-IsFormat : {X : Type 0} (n : ℕ) (format : Format X) → IsFormat format → IsFormat (exactly n format)
exactly-IsFormat {X = X} n format law = record { again = again; takes = takes }
  where
    again : (xs : List X) (rest : List ℕ) → (exactly n format).has xs ≡ true → front_items format n (flat_map format.written xs ++ rest) ≡ Some (xs, rest)
    again xs rest has = let parts = and_parts _ _ has in items_again format law n xs rest (eqb-true _ _ parts.0) parts.1

    takes : (bytes : List ℕ) (x : List X × List ℕ) → IsBytes bytes → front_items format n bytes ≡ Some x
        → (bytes ≡ flat_map format.written x.0 ++ x.1) × ((exactly n format).has x.0 ≡ true)
    takes bytes x fits e = let u = items_take format law n bytes x fits e in (u.parts, and_from _ _ (same_eqb (length x.0) n u.count) u.has)

pub as_some-IsFormat : {X : Type 0} (format : Format X) → IsFormat format → IsFormat (as_some format)
as_some-IsFormat {X = X} format law = record { again = again; takes = takes }
  where
    again : (o : Option X) (rest : List ℕ) → some_has format o ≡ true → (as_some format).front (some_written format o ++ rest) ≡ Some (o, rest)
    again None rest has = absurd cc
    again (Some x) rest has = ap (λ (o : Option (X × List ℕ)). o >>= λ y. Some (Some y.0, y.1)) (law.again x rest has)

    takes : (bytes : List ℕ) (x : Option X × List ℕ) → IsBytes bytes → (as_some format).front bytes ≡ Some x
        → (bytes ≡ some_written format x.0 ++ x.1) × (some_has format x.0 ≡ true)
    takes bytes x fits e =
        let a = bind_some (format.front bytes) (λ y. Some (Some y.0, y.1)) x e in
        let t = law.takes bytes a.0 fits a.1 in
        subst (λ (y : Option X × List ℕ). (bytes ≡ some_written format y.0 ++ y.1) × (some_has format y.0 ≡ true)) (same_Some (Some a.0.0, a.0.1) x a.2) t

pub as_none-IsFormat : {X : Type 0} → IsFormat (as_none {X = X})
as_none-IsFormat {X = X} = record { again = again; takes = takes }
  where
    again : (o : Option X) (rest : List ℕ) → is_nothing o ≡ true → (as_none {X = X}).front ([] ++ rest) ≡ Some (o, rest)
    again None rest has = refl
    again (Some x) rest has = absurd cc

    takes : (bytes : List ℕ) (x : Option X × List ℕ) → IsBytes bytes → (as_none {X = X}).front bytes ≡ Some x → (bytes ≡ [] ++ x.1) × (is_nothing x.0 ≡ true)
    takes bytes x fits e = subst (λ (y : Option X × List ℕ). (bytes ≡ [] ++ y.1) × (is_nothing y.0 ≡ true)) (same_Some (None, bytes) x e) (refl, refl)

pub renamed-IsCode : {X Y : Type 0} (code : Y → X) (value : X → Y) → ((y : Y) → value (code y) ≡ y) → ((x : X) → code (value x) ≡ x) → IsCode (renamed code value)
renamed-IsCode {X = X} {Y = Y} code value there back = record {
  again = λ y has. ap (λ (z : Y). Some z) (there y);
  back = λ x y e. (sym (ap code (same_Some (value x) y e)) ∙ back x, refl);
}

flags-IsCode : IsCode flags
flags-IsCode = record { again = again; back = back }
  where
    again : (b : Bool) → flags.has b ≡ true → flags.value (flags.code b) ≡ Some b
    again true has = refl
    again false has = refl

    back : (n : ℕ) (b : Bool) → flags.value n ≡ Some b → (flags.code b ≡ n) × (flags.has b ≡ true)
    back n true e = (grind (arith, nat_tests), refl)
    back n false e = (grind (arith, nat_tests), refl)

pub flag-IsFormat : IsFormat flag_format
unfolding flag_format
flag-IsFormat = coded-IsFormat (number w8) flags (number-IsFormat w8 wide8) flags-IsCode
