-- Values that are read one after another, up to the first fault.
use Rattle.std.proofs.Common.{◌≡◌, sym, ap, refl, List, [], ◌∷◌, ◌++◌, Option, Some, None, IfSome, Result, Ok, Err, append_assoc}
use Rattle.office_base.specs.Results.{◌>>=◌}

-- what was found, and what is found later
unfoldable pub joined : {X E : Type 0} → List X → Result (List X) E → Result (List X) E
joined xs (Ok ys) = Ok (xs ++ ys)
joined xs (Err e) = Err e

pub joined-nil : {X E : Type 0} (r : Result (List X) E) → joined [] r ≡ r
unfolding joined
joined-nil (Ok ys) = refl
joined-nil (Err e) = refl

pub joined-push : {X E : Type 0} (xs : List X) (x : X) (r : Result (List X) E) → joined xs (r >>= λ ys. Ok (x ∷ ys)) ≡ joined (xs ++ x ∷ []) r
unfolding joined
joined-push xs x (Ok ys) = ap Ok (sym (append_assoc xs (x ∷ []) ys))
joined-push xs x (Err e) = refl

-- what is told of a part is told of the whole
pub told_on : {Y Y' E : Type 0} (told : Option E) (part : Result Y E) (whole : Result Y' E)
    → ((e : E) → part ≡ Err e → whole ≡ Err e) → IfSome told (λ e. part ≡ Err e) → IfSome told (λ e. whole ≡ Err e)
told_on None part whole pass is = tt
told_on (Some e) part whole pass is = pass e is
