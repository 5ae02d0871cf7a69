-- Lists of bills without a difference are equal.
use Rattle.std.proofs.Common.{◌≡◌, ℕ, List, [], ◌∷◌, refl, Bool, true, false, ◌&&◌, eqb, Some, None, cond}
use Rattle.std.specs.Str.{bytes_eq}
use Rattle.std.proofs.lemmas.Bool.{and_parts, eqb-true}
use Rattle.std.proofs.lemmas.Slice.Eq.{bytes_eq-Decides}
use Rattle.bill_book.specs.declared.bill.Bill.{Bill}
use Rattle.bill_posting.specs.Differences.{is_same_bill, first_difference}

same_number : (a b : ℕ) → eqb a b ≡ true → a ≡ b
same_number a b h = eqb-true a b h

same_bill : (kept asked : Bill) → is_same_bill kept asked ≡ true → kept ≡ asked
same_bill kept asked h =
    let outer = and_parts (bytes_eq kept.bucket asked.bucket && eqb kept.total asked.total) (eqb kept.lines asked.lines) h in
    let inner = and_parts (bytes_eq kept.bucket asked.bucket) (eqb kept.total asked.total) outer.0 in
    let bucket = (bytes_eq-Decides kept.bucket asked.bucket).0 inner.0 in
    let total = same_number kept.total asked.total inner.1 in
    let lines = same_number kept.lines asked.lines outer.1 in
    λ i. record { bucket = bucket i; total = total i; lines = lines i }

same_more : (kept asked : Bill) (keeps asks : List Bill) (b : Bool) → is_same_bill kept asked ≡ b
    → cond b (first_difference keeps asks) (Some (Some kept, Some asked)) ≡ None → (first_difference keeps asks ≡ None → keeps ≡ asks) → kept ∷ keeps ≡ asked ∷ asks
same_more kept asked keeps asks true is h more = let e = same_bill kept asked is in let r = more h in cc
same_more kept asked keeps asks false is h more = absurd cc

pub same_bills : (kept asked : List Bill) → first_difference kept asked ≡ None → kept ≡ asked
same_bills [] [] h = refl
same_bills (k ∷ ks) [] h = absurd cc
same_bills [] (a ∷ more) h = absurd cc
same_bills (k ∷ ks) (a ∷ more) h = same_more k a ks more (is_same_bill k a) refl h (same_bills ks more)
