-- Members that are put into an object in another order.
use Rattle.std.proofs.Common.{◌≡◌, ℕ, List, Ordering, Less, Equal, Greater, nat_cmp, is_eq, refl, sym, ap, ◌∙◌}
use Rattle.std.proofs.lemmas.Cmp.{nat_list_cmp_total, tied_itself}
use Rattle.std.proofs.lemmas.Map.Text.{is_eq-slice_cmp}
use Rattle.std.proofs.lemmas.Slice.Eq.{bytes_eq-Decides}
use Rattle.std.specs.Cmp.Lexicographic.{slice_cmp}
use Rattle.std.specs.Ordering.{match_ordering, ordering_reverse}
use Rattle.serde_json.specs.Data.{Data, Members, no_members, member, put}

abbrev pub order : List ℕ → List ℕ → Ordering
order = slice_cmp nat_cmp

pub same_name : (k l : List ℕ) → order k l ≡ Equal → k ≡ l
same_name k l is = (bytes_eq-Decides k l).0 (sym (is_eq-slice_cmp k l) ∙ ap is_eq is)

pub tied : (k l : List ℕ) → k ≡ l → order k l ≡ Equal
tied k l is = ap (λ q. order q l) is ∙ tied_itself nat_list_cmp_total l

back : (a b : List ℕ) (o : Ordering) → order a b ≡ o → order b a ≡ ordering_reverse o
back a b o is = nat_list_cmp_total.antisymm b a ∙ ap ordering_reverse is

-- the second value of a name stays
pub put_twice : (k : List ℕ) (d e : Data) (ms : Members) → put k d (put k e ms) ≡ put k d ms
put_twice k d e no_members = rw (tied_itself nat_list_cmp_total k) refl
put_twice k d e (member l f ms) = go (order k l) refl (put_twice k d e ms)
  where
    go : (o : Ordering) → order k l ≡ o → put k d (put k e ms) ≡ put k d ms
        → put k d (match_ordering o (member k e (member l f ms)) (member l e ms) (member l f (put k e ms)))
        ≡ match_ordering o (member k d (member l f ms)) (member l d ms) (member l f (put k d ms))
    go Less is more = rw (tied_itself nat_list_cmp_total k) refl
    go Equal is more = rw is refl
    go Greater is more = rw is (ap (member l f) more)

pub put_twice_at : (k l : List ℕ) (d e : Data) (ms : Members) → k ≡ l → put k d (put l e ms) ≡ put k d ms
put_twice_at k l d e ms same = ap (λ q. put k d (put q e ms)) (sym same) ∙ put_twice k d e ms

-- members of two names go in in either order
pub put_other : (k l : List ℕ) (d e : Data) (ms : Members) → (k ≡ l → ⊥) → put k d (put l e ms) ≡ put l e (put k d ms)
put_other k l d e no_members other = go (order k l) refl
  where
    go : (o : Ordering) → order k l ≡ o → put k d (member l e no_members) ≡ put l e (member k d no_members)
    go Less is = let flipped : order l k ≡ Greater = back k l Less is in rw (is, flipped) refl
    go Equal is = absurd (other (same_name k l is))
    go Greater is = let flipped : order l k ≡ Less = back k l Greater is in rw (is, flipped) refl
put_other k l d e (member m f ms) other = go (order k m) refl (order l m) refl (order k l) refl (put_other k l d e ms other)
  where
    go : (o : Ordering) → order k m ≡ o → (p : Ordering) → order l m ≡ p → (q : Ordering) → order k l ≡ q
        → put k d (put l e ms) ≡ put l e (put k d ms)
        → put k d (match_ordering p (member l e (member m f ms)) (member m e ms) (member m f (put l e ms)))
        ≡ put l e (match_ordering o (member k d (member m f ms)) (member m d ms) (member m f (put k d ms)))
    go Less km Less lm Less kl more = let lk : order l k ≡ Greater = back k l Less kl in rw (kl, lk, lm) refl
    go Less km Less lm Equal kl more = absurd (other (same_name k l kl))
    go Less km Less lm Greater kl more = let lk : order l k ≡ Less = back k l Greater kl in rw (kl, lk, km) refl
    go Less km Equal lm q kl more =
        let less : order k l ≡ Less = ap (order k) (same_name l m lm) ∙ km in
        let lk : order l k ≡ Greater = back k l Less less in
        rw (km, lk, lm) refl
    go Less km Greater lm q kl more =
        let less : order k l ≡ Less = nat_list_cmp_total.trans k m l km (back l m Greater lm) in
        let lk : order l k ≡ Greater = back k l Less less in
        rw (km, lk, lm) refl
    go Equal km Less lm q kl more =
        let less : order l k ≡ Less = ap (order l) (same_name k m km) ∙ lm in
        let after : order k l ≡ Greater = back l k Less less in
        rw (after, km, lm) refl
    go Equal km Equal lm q kl more = absurd (other (same_name k m km ∙ sym (same_name l m lm)))
    go Equal km Greater lm q kl more = rw (km, lm) refl
    go Greater km Less lm q kl more =
        let less : order l k ≡ Less = nat_list_cmp_total.trans l m k lm (back k m Greater km) in
        let after : order k l ≡ Greater = back l k Less less in
        rw (after, km, lm) refl
    go Greater km Equal lm q kl more = rw (km, lm) refl
    go Greater km Greater lm q kl more = rw (km, lm) (ap (member m f) more)
