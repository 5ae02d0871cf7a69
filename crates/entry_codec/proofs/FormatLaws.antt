-- What is written in a format is read again, and what is read was written so.
use Rattle.std.proofs.Common.{◌≡◌, ℕ, zero, suc, ◌^◌, ◌<◌, ◌≤◌, Bool, true, false, ◌&&◌, cond, if◌then◌else◌, ltb, List, [], ◌∷◌, ◌++◌, length, take, drop, Option, Some, None, refl, sym, ap, subst}
use Rattle.std.proofs.Common.{◌∙◌, append_assoc, arith, length-append, take-append-drop}
use Rattle.std.specs.List.{flat_map, list_all}
use Rattle.std.specs.Int.{Width, w8, w16, w32, w64, byte_len, from_be_bytes, to_be_bytes}
use Rattle.std.proofs.lemmas.Bool.{ltb-false, ltb-true, le-ltb, lt-ltb, and_parts, and_from}
use Rattle.std.proofs.lemmas.List.{take_at, drop_at, length-take}
use Rattle.std.proofs.lemmas.Nat.{be_bytes_2, be_bytes_4, be_bytes_8, from_be_bytes-to_be_bytes_2, from_be_bytes-to_be_bytes_4, from_be_bytes-to_be_bytes_8}
use Rattle.std.proofs.lemmas.Option.{same_Some, cond_some}
use Rattle.entry_codec.specs.Formats.{Format, ◌>>=◌, split, number, counted_text, ◌such_that◌, pair, front_items, list, Code, coded}
use Rattle.entry_codec.proofs.Bytes.{IsBytes, IsBytes-drop, IsBytes-take}

-- the two laws of a format
pub record IsFormat {X : Type 0} (format : Format X) : Type 0 where
  pub again : (x : X) (rest : List ℕ) → format.has x ≡ true → format.front (format.written x ++ rest) ≡ Some (x, rest)
  pub takes : (bytes : List ℕ) (x : X × List ℕ) → IsBytes bytes → format.front bytes ≡ Some x → (bytes ≡ format.written x.0 ++ x.1) × (format.has x.0 ≡ true)

-- ---- steps

pub bind_some : {A B : Type 0} (o : Option A) (f : A → Option B) (y : B) → (o >>= f) ≡ Some y → (x : A) × (o ≡ Some x) × (f x ≡ Some y)
bind_some (Some x) f y e = (x, refl, e)
bind_some None f y e = absurd cc

pub if_none : {A : Type 0} (b : Bool) (x y : A) → cond b None (Some x) ≡ Some y → (b ≡ false) × (x ≡ y)
if_none true x y e = absurd cc
if_none false x y e = (refl, cc)

-- the parts of bytes are bytes
pub IsBytes-front : (front rest : List ℕ) → IsBytes (front ++ rest) → IsBytes front
IsBytes-front front rest fits = subst IsBytes (take_at front rest (length front) refl) (IsBytes-take (length front) (front ++ rest) fits)

pub IsBytes-rest : (front rest : List ℕ) → IsBytes (front ++ rest) → IsBytes rest
IsBytes-rest front rest fits = subst IsBytes (drop_at front rest (length front) refl) (IsBytes-drop (length front) (front ++ rest) fits)

pub split_takes : (n : ℕ) (bytes : List ℕ) (x : List ℕ × List ℕ) → split n bytes ≡ Some x → (bytes ≡ x.0 ++ x.1) × (length x.0 ≡ n)
split_takes n bytes x e =
    let g = if_none (ltb (length bytes) n) (take n bytes, drop n bytes) x e in
    let long : n ≤ length bytes = ltb-false _ _ g.0 in
    let len : length (take n bytes) ≡ n = omega (arith, length-take n bytes) in
    subst (λ (y : List ℕ × List ℕ). (bytes ≡ y.0 ++ y.1) × (length y.0 ≡ n)) g.1 (sym (take-append-drop n bytes), len)

pub split_again : (n : ℕ) (front rest : List ℕ) → length front ≡ n → split n (front ++ rest) ≡ Some (front, rest)
split_again n front rest len =
    let long : ltb (length (front ++ rest)) n ≡ false = le-ltb _ _ (omega (arith, len, length-append front rest)) in
    rw (long, take_at front rest n len, drop_at front rest n len) refl

-- ---- numbers

-- numbers of this width and their bytes
pub record IsWide (w : Width) : Type 0 where
  pub len : (n : ℕ) → length (to_be_bytes w n) ≡ byte_len w
  pub back : (bytes : List ℕ) → length bytes ≡ byte_len w → IsBytes bytes → to_be_bytes w (from_be_bytes w bytes) ≡ bytes
  pub again : (n : ℕ) → n < 256 ^ byte_len w → from_be_bytes w (to_be_bytes w n) ≡ n
  pub below : (bytes : List ℕ) → IsBytes bytes → from_be_bytes w bytes < 256 ^ byte_len w

pub wide8 : IsWide w8
wide8 = record {
  len = λ n. refl;
  back = back_8;
  again = λ n lt. again_8 n lt;
  below = λ bytes fits. omega (arith, fits 0);
}
  where
    back_8 : (bytes : List ℕ) → length bytes ≡ 1 → IsBytes bytes → to_be_bytes w8 (from_be_bytes w8 bytes) ≡ bytes
    back_8 [] len fits = absurd (omega (arith, len))
    back_8 (b ∷ []) len fits = ap (λ n. n ∷ []) (omega (arith, fits 0))
    back_8 (b ∷ c ∷ bytes) len fits = absurd (omega (arith, len))

    again_8 : (n : ℕ) → n < 256 → from_be_bytes w8 (to_be_bytes w8 n) ≡ n
    again_8 n lt = omega arith

pub wide16 : IsWide w16
wide16 = record {
  len = λ n. refl;
  back = λ bytes len fits. be_bytes_2 bytes _ len fits refl;
  again = λ n lt. from_be_bytes-to_be_bytes_2 n lt;
  below = λ bytes fits. omega (arith, fits 0, fits 1);
}

pub wide32 : IsWide w32
wide32 = record {
  len = λ n. refl;
  back = λ bytes len fits. be_bytes_4 bytes _ len fits refl;
  again = λ n lt. from_be_bytes-to_be_bytes_4 n lt;
  below = λ bytes fits. omega (arith, fits 0, fits 1, fits 2, fits 3);
}

pub wide64 : IsWide w64
wide64 = record {
  len = λ n. refl;
  back = λ bytes len fits. be_bytes_8 bytes _ len fits refl;
  again = λ n lt. from_be_bytes-to_be_bytes_8 n lt;
  below = λ bytes fits. omega (arith, fits 0, fits 1, fits 2, fits 3, fits 4, fits 5, fits 6, fits 7);
}

pub number-IsFormat : (w : Width) → IsWide w → IsFormat (number w)
number-IsFormat w wide = record {
  again = λ n rest has. rw (split_again (byte_len w) (to_be_bytes w n) rest (wide.len n), wide.again n (ltb-true _ _ has)) refl;
  takes = takes;
}
  where
    takes : (bytes : List ℕ) (x : ℕ × List ℕ) → IsBytes bytes → (number w).front bytes ≡ Some x → (bytes ≡ to_be_bytes w x.0 ++ x.1) × ((number w).has x.0 ≡ true)
    takes bytes x fits e =
        let b = bind_some (split (byte_len w) bytes) (λ parts. Some (from_be_bytes w parts.0, parts.1)) x e in
        let s = split_takes (byte_len w) bytes b.0 b.1 in
        let front : IsBytes b.0.0 = IsBytes-front b.0.0 b.0.1 (subst IsBytes s.0 fits) in
        let is : bytes ≡ to_be_bytes w (from_be_bytes w b.0.0) ++ b.0.1 = s.0 ∙ ap (λ (t : List ℕ). t ++ b.0.1) (sym (wide.back b.0.0 s.1 front)) in
        subst (λ (y : ℕ × List ℕ). (bytes ≡ to_be_bytes w y.0 ++ y.1) × ((number w).has y.0 ≡ true)) (same_Some (from_be_bytes w b.0.0, b.0.1) x b.2)
        (is, lt-ltb _ _ (wide.below b.0.0 front))

-- ---- combinations

pub text-IsFormat : (count : Format ℕ) → IsFormat count → IsFormat (counted_text count)
text-IsFormat count law = record {
  again = λ t rest has. ap (λ (b : List ℕ). count.front b >>= λ n. split n.0 n.1) (append_assoc (count.written (length t)) t rest)
      ∙ ap (λ (o : Option (ℕ × List ℕ)). o >>= λ n. split n.0 n.1) (law.again (length t) (t ++ rest) has) ∙ split_again (length t) t rest refl;
  takes = takes;
}
  where
    takes : (bytes : List ℕ) (x : List ℕ × List ℕ) → IsBytes bytes → (counted_text count).front bytes ≡ Some x → (bytes ≡ (count.written (length x.0) ++ x.0) ++ x.1) × (count.has (length x.0) ≡ true)
    takes bytes x fits e =
        let b = bind_some (count.front bytes) (λ n. split n.0 n.1) x e in
        let n = law.takes bytes b.0 fits b.1 in
        let s = split_takes b.0.0 b.0.1 x b.2 in
        let whole : bytes ≡ count.written b.0.0 ++ (x.0 ++ x.1) = n.0 ∙ ap (λ (t : List ℕ). count.written b.0.0 ++ t) s.0 in
        subst (λ (k : ℕ). (bytes ≡ (count.written k ++ x.0) ++ x.1) × (count.has k ≡ true)) (sym s.1) (whole ∙ sym (append_assoc (count.written b.0.0) x.0 x.1), n.1)

pub such_that-IsFormat : {X : Type 0} (format : Format X) (test : X → Bool) → IsFormat format → IsFormat (format such_that test)
such_that-IsFormat {X = X} format test law = record {
  again = λ x rest has. ap (λ (o : Option (X × List ℕ)). o >>= λ y. if test y.0 then Some y else None) (law.again x rest (and_parts _ _ has).0)
      ∙ ap (λ (b : Bool). if b then Some (x, rest) else None) (and_parts _ _ has).1;
  takes = takes;
}
  where
    takes : (bytes : List ℕ) (x : X × List ℕ) → IsBytes bytes → (format such_that test).front bytes ≡ Some x → (bytes ≡ format.written x.0 ++ x.1) × ((format such_that test).has x.0 ≡ true)
    takes bytes x fits e =
        let b = bind_some (format.front bytes) (λ y. if test y.0 then Some y else None) x e in
        let g = cond_some (test b.0.0) b.0 x b.2 in
        let t = law.takes bytes b.0 fits b.1 in
        subst (λ (y : X × List ℕ). (bytes ≡ format.written y.0 ++ y.1) × ((format such_that test).has y.0 ≡ true)) g.1 (t.0, and_from _ _ t.1 g.0)

pub pair-IsFormat : {X Y : Type 0} (first : Format X) (second : Format Y) → IsFormat first → IsFormat second → IsFormat (pair first second)
pair-IsFormat {X = X} {Y = Y} first second law_first law_second = record { again = again; takes = takes }
  where
    again : (p : X × Y) (rest : List ℕ) → (pair first second).has p ≡ true → (pair first second).front ((first.written p.0 ++ second.written p.1) ++ rest) ≡ Some (p, rest)
    again p rest has =
        let parts = and_parts _ _ has in
        ap (λ (b : List ℕ). (pair first second).front b) (append_assoc (first.written p.0) (second.written p.1) rest)
        ∙ ap (λ (o : Option (X × List ℕ)). o >>= λ x. second.front x.1 >>= λ y. Some ((x.0, y.0), y.1)) (law_first.again p.0 (second.written p.1 ++ rest) parts.0)
        ∙ ap (λ (o : Option (Y × List ℕ)). o >>= λ y. Some ((p.0, y.0), y.1)) (law_second.again p.1 rest parts.1)

    takes : (bytes : List ℕ) (x : (X × Y) × List ℕ) → IsBytes bytes → (pair first second).front bytes ≡ Some x
        → (bytes ≡ (first.written x.0.0 ++ second.written x.0.1) ++ x.1) × ((pair first second).has x.0 ≡ true)
    takes bytes x fits e =
        let a = bind_some (first.front bytes) (λ x. second.front x.1 >>= λ y. Some ((x.0, y.0), y.1)) x e in
        let b = bind_some (second.front a.0.1) (λ y. Some ((a.0.0, y.0), y.1)) x a.2 in
        let t = law_first.takes bytes a.0 fits a.1 in
        let u = law_second.takes a.0.1 b.0 (IsBytes-rest (first.written a.0.0) a.0.1 (subst IsBytes t.0 fits)) b.1 in
        let whole : bytes ≡ (first.written a.0.0 ++ second.written b.0.0) ++ b.0.1 =
        t.0 ∙ ap (λ (r : List ℕ). first.written a.0.0 ++ r) u.0 ∙ sym (append_assoc (first.written a.0.0) (second.written b.0.0) b.0.1) in
        subst (λ (y : (X × Y) × List ℕ). (bytes ≡ (first.written y.0.0 ++ second.written y.0.1) ++ y.1) × ((pair first second).has y.0 ≡ true))
        (same_Some ((a.0.0, b.0.0), b.0.1) x b.2) (whole, and_from _ _ t.1 u.1)

-- items one after the other
items_again : {X : Type 0} (format : Format X) → IsFormat format → (xs : List X) (rest : List ℕ) → list_all format.has xs ≡ true
    → front_items format (length xs) (flat_map format.written xs ++ rest) ≡ Some (xs, rest)
unfolding front_items
items_again format law [] rest has = refl
items_again {X = X} format law (x ∷ xs) rest has =
    let parts = and_parts _ _ has in
    ap (λ (b : List ℕ). front_items format (length (x ∷ xs)) b) (append_assoc (format.written x) (flat_map format.written xs) rest)
    ∙ ap (λ (o : Option (X × List ℕ)). o >>= λ y. front_items format (length xs) y.1 >>= λ ys. Some (y.0 ∷ ys.0, ys.1)) (law.again x (flat_map format.written xs ++ rest) parts.0)
    ∙ ap (λ (o : Option (List X × List ℕ)). o >>= λ ys. Some (x ∷ ys.0, ys.1)) (items_again format law xs rest parts.1)

-- what was read as n items
record AreItems {X : Type 0} (format : Format X) (n : ℕ) (bytes : List ℕ) (x : List X × List ℕ) : Type 0 where
  count : length x.0 ≡ n
  parts : bytes ≡ flat_map format.written x.0 ++ x.1
  has : list_all format.has x.0 ≡ true

items_take : {X : Type 0} (format : Format X) → IsFormat format → (n : ℕ) (bytes : List ℕ) (x : List X × List ℕ) → IsBytes bytes → front_items format n bytes ≡ Some x → AreItems format n bytes x
unfolding front_items
items_take format law zero bytes x fits e = subst (AreItems format zero bytes) (same_Some ([], bytes) x e) (record { count = refl; parts = refl; has = refl })
items_take format law (suc n) bytes x fits e =
    let a = bind_some (format.front bytes) (λ y. front_items format n y.1 >>= λ ys. Some (y.0 ∷ ys.0, ys.1)) x e in
    let b = bind_some (front_items format n a.0.1) (λ ys. Some (a.0.0 ∷ ys.0, ys.1)) x a.2 in
    let t = law.takes bytes a.0 fits a.1 in
    let u = items_take format law n a.0.1 b.0 (IsBytes-rest (format.written a.0.0) a.0.1 (subst IsBytes t.0 fits)) b.1 in
    subst (AreItems format (suc n) bytes) (same_Some (a.0.0 ∷ b.0.0, b.0.1) x b.2) (record {
      count = ap suc u.count;
      parts = t.0 ∙ ap (λ (r : List ℕ). format.written a.0.0 ++ r) u.parts ∙ sym (append_assoc (format.written a.0.0) (flat_map format.written b.0.0) b.0.1);
      has = and_from _ _ t.1 u.has;
    })

pub list-IsFormat : {X : Type 0} (count : Format ℕ) (format : Format X) → IsFormat count → IsFormat format → IsFormat (list count format)
list-IsFormat {X = X} count format law_count law = record { again = again; takes = takes }
  where
    again : (xs : List X) (rest : List ℕ) → (list count format).has xs ≡ true → (list count format).front ((count.written (length xs) ++ flat_map format.written xs) ++ rest) ≡ Some (xs, rest)
    again xs rest has =
        let parts = and_parts _ _ has in
        ap (λ (b : List ℕ). (list count format).front b) (append_assoc (count.written (length xs)) (flat_map format.written xs) rest)
        ∙ ap (λ (o : Option (ℕ × List ℕ)). o >>= λ n. front_items format n.0 n.1) (law_count.again (length xs) (flat_map format.written xs ++ rest) parts.0)
        ∙ items_again format law xs rest parts.1

    takes : (bytes : List ℕ) (x : List X × List ℕ) → IsBytes bytes → (list count format).front bytes ≡ Some x
        → (bytes ≡ (count.written (length x.0) ++ flat_map format.written x.0) ++ x.1) × ((list count format).has x.0 ≡ true)
    takes bytes x fits e =
        let a = bind_some (count.front bytes) (λ n. front_items format n.0 n.1) x e in
        let t = law_count.takes bytes a.0 fits a.1 in
        let u = items_take format law a.0.0 a.0.1 x (IsBytes-rest (count.written a.0.0) a.0.1 (subst IsBytes t.0 fits)) a.2 in
        let whole : bytes ≡ (count.written a.0.0 ++ flat_map format.written x.0) ++ x.1 =
        t.0 ∙ ap (λ (r : List ℕ). count.written a.0.0 ++ r) u.parts ∙ sym (append_assoc (count.written a.0.0) (flat_map format.written x.0) x.1) in
        subst (λ (k : ℕ). (bytes ≡ (count.written k ++ flat_map format.written x.0) ++ x.1) × (count.has k && list_all format.has x.0 ≡ true)) (sym u.count) (whole, and_from _ _ t.1 u.has)

-- a value is written as one other, and it is the only one that is
pub record IsCode {X Y : Type 0} (kept : Code X Y) : Type 0 where
  pub again : (y : Y) → kept.has y ≡ true → kept.value (kept.code y) ≡ Some y
  pub back : (x : X) (y : Y) → kept.value x ≡ Some y → (kept.code y ≡ x) × (kept.has y ≡ true)

pub coded-IsFormat : {X Y : Type 0} (format : Format X) (kept : Code X Y) → IsFormat format → IsCode kept → IsFormat (coded format kept)
coded-IsFormat {X = X} {Y = Y} format kept law code_law = record { again = again; takes = takes }
  where
    again : (y : Y) (rest : List ℕ) → (coded format kept).has y ≡ true → (coded format kept).front (format.written (kept.code y) ++ rest) ≡ Some (y, rest)
    again y rest has =
        let parts = and_parts _ _ has in
        ap (λ (o : Option (X × List ℕ)). o >>= λ x. kept.value x.0 >>= λ z. Some (z, x.1)) (law.again (kept.code y) rest parts.0)
        ∙ ap (λ (o : Option Y). o >>= λ z. Some (z, rest)) (code_law.again y parts.1)

    takes : (bytes : List ℕ) (y : Y × List ℕ) → IsBytes bytes → (coded format kept).front bytes ≡ Some y → (bytes ≡ format.written (kept.code y.0) ++ y.1) × ((coded format kept).has y.0 ≡ true)
    takes bytes y fits e =
        let a = bind_some (format.front bytes) (λ x. kept.value x.0 >>= λ z. Some (z, x.1)) y e in
        let b = bind_some (kept.value a.0.0) (λ z. Some (z, a.0.1)) y a.2 in
        let t = law.takes bytes a.0 fits a.1 in
        let c = code_law.back a.0.0 b.0 b.1 in
        let whole : bytes ≡ format.written (kept.code b.0) ++ a.0.1 = t.0 ∙ ap (λ (n : X). format.written n ++ a.0.1) (sym c.0) in
        let has : format.has (kept.code b.0) ≡ true = ap format.has c.0 ∙ t.1 in
        subst (λ (z : Y × List ℕ). (bytes ≡ format.written (kept.code z.0) ++ z.1) × ((coded format kept).has z.0 ≡ true)) (same_Some (b.0, a.0.1) y b.2) (whole, and_from _ _ has c.1)
