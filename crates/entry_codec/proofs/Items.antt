-- Reading items one after the other, as a loop does.
use Rattle.std.proofs.Common.{◌≡◌, ℕ, zero, suc, ◌-◌, ◌+◌, ◌≤◌, ◌<◌, List, [], ◌∷◌, ◌++◌, length, Option, Some, None, Result, Ok, Err, false, if◌then◌else◌, refl, sym, ap, subst, ◌∙◌, append_assoc}
use Rattle.std.proofs.Common.{arith}
use Rattle.std.specs.Result.{is_ok, is_err}
use Rattle.std.proofs.lemmas.List.{append-nil}
use Rattle.std.proofs.lemmas.Option.{same_Some}
use Rattle.entry_codec.specs.Formats.{Format, ◌>>=◌, front_items}
use Rattle.entry_codec.proofs.FormatLaws.{bind_some}

-- what was read before, and what is still read
abbrev pub with_front : {X : Type 0} → List X → Option (List X × List ℕ) → Option (List X × List ℕ)
with_front front read = read >>= λ x. Some (front ++ x.0, x.1)

regroup : {X : Type 0} (front : List X) (x : X) (read : Option (List X × List ℕ)) → with_front front (read >>= λ xs. Some (x ∷ xs.0, xs.1)) ≡ with_front (front ++ x ∷ []) read
regroup {X = X} front x (Some read) = ap (λ (xs : List X). Some (xs, read.1)) (sym (append_assoc front (x ∷ []) read.0))
regroup front x None = refl

pub goes_on : {X : Type 0} (format : Format X) (front : List X) (count i : ℕ) (bytes : List ℕ) (x : X) (after : List ℕ) (total : Option (List X × List ℕ)) → i < count
    → format.front bytes ≡ Some (x, after) → with_front front (front_items format (count - i) bytes) ≡ total
    → with_front (front ++ x ∷ []) (front_items format (count - (i + 1)) after) ≡ total
unfolding front_items
goes_on format front count i bytes x after total lt h so_far =
    let k : count - i ≡ suc (count - (i + 1)) = omega arith in
    let one : with_front front (front_items format (count - i) bytes) ≡ with_front (front ++ x ∷ []) (front_items format (count - (i + 1)) after) =
    rw (k, h) (regroup front x (front_items format (count - (i + 1)) after)) in
    sym one ∙ so_far

pub ends : {X : Type 0} (format : Format X) (front : List X) (count i : ℕ) (bytes : List ℕ) (total : Option (List X × List ℕ)) → i < count → format.front bytes ≡ None
    → with_front front (front_items format (count - i) bytes) ≡ total → total ≡ None
unfolding front_items
ends {X = X} format front count i bytes total lt h so_far =
    let k : count - i ≡ suc (count - (i + 1)) = omega arith in
    let one : with_front front (front_items format (count - i) bytes) ≡ None = rw (k, h) refl in
    sym so_far ∙ one

pub is_done : {X : Type 0} (format : Format X) (front : List X) (count i : ℕ) (bytes : List ℕ) (total : Option (List X × List ℕ)) → count ≤ i
    → with_front front (front_items format (count - i) bytes) ≡ total → total ≡ Some (front, bytes)
unfolding front_items
is_done {X = X} format front count i bytes total le so_far =
    let k : count - i ≡ 0 = omega arith in
    let one : with_front front (front_items format (count - i) bytes) ≡ Some (front, bytes) = rw k (ap (λ (xs : List X). Some (xs, bytes)) (append-nil front)) in
    sym so_far ∙ one

-- what was pushed without an error
pub pushed : {A B E : Type 0} (r : Result A E) (new before after : List B) → is_err r ≡ false → new ≡ (if is_ok r then after else before) → new ≡ after
pushed (Ok a) new before after none is = is
pushed (Err e) new before after none is = absurd cc

-- as many items as were asked for
pub length-items : {X : Type 0} (format : Format X) (n : ℕ) (bytes : List ℕ) (x : List X × List ℕ) → front_items format n bytes ≡ Some x → length x.0 ≡ n
unfolding front_items
length-items {X = X} format zero bytes x e = subst (λ (y : List X × List ℕ). length y.0 ≡ 0) (same_Some ([], bytes) x e) refl
length-items {X = X} format (suc n) bytes x e =
    let a = bind_some (format.front bytes) (λ y. front_items format n y.1 >>= λ ys. Some (y.0 ∷ ys.0, ys.1)) x e in
    let b = bind_some (front_items format n a.0.1) (λ ys. Some (a.0.0 ∷ ys.0, ys.1)) x a.2 in
    subst (λ (y : List X × List ℕ). length y.0 ≡ suc n) (same_Some (a.0.0 ∷ b.0.0, b.0.1) x b.2) (ap suc (length-items format n a.0.1 b.0 b.1))
