-- The bytes of the writes of a disk in memory, one after another.
use Rattle.std.proofs.Common.{◌≡◌, ℕ, zero, suc, ◌+◌, ◌-◌, ◌≤◌, List, [], ◌∷◌, ◌++◌, length, take, drop, refl, ◌∙◌, ap, arith, length-append}
use Rattle.std.proofs.lemmas.List.{take_all, take-append-le, drop-append-le, length-drop}
use Rattle.disk_core.specs.declared.call_list.DiskCall.{DiskCall}
use Rattle.disk_core.specs.Kept.{Call, count_of, call_of, count_all, calls_of}

-- the bytes behind those of these calls
unfoldable pub rest_of : List DiskCall → List ℕ → List ℕ
rest_of [] bytes = bytes
rest_of (call ∷ calls) bytes = rest_of calls (drop (count_of call) bytes)

-- no calls
pub calls_of-none : (bytes : List ℕ) → calls_of [] bytes ≡ []
unfolding calls_of
calls_of-none bytes = refl

pub count_all-none : count_all [] ≡ 0
unfolding count_all
count_all-none = refl

pub rest_of-none : (bytes : List ℕ) → rest_of [] bytes ≡ bytes
unfolding rest_of
rest_of-none bytes = refl

-- one more call has the bytes behind those of the others
pub calls_of-push : (calls : List DiskCall) (call : DiskCall) (bytes : List ℕ)
    → calls_of (calls ++ call ∷ []) bytes ≡ calls_of calls bytes ++ call_of call (take (count_of call) (rest_of calls bytes)) ∷ []
unfolding calls_of rest_of
calls_of-push [] call bytes = refl
calls_of-push (c ∷ calls) call bytes =
    ap (λ (l : List Call). call_of c (take (count_of c) bytes) ∷ l) (calls_of-push calls call (drop (count_of c) bytes))

pub rest_of-push : (calls : List DiskCall) (call : DiskCall) (bytes : List ℕ)
    → rest_of (calls ++ call ∷ []) bytes ≡ drop (count_of call) (rest_of calls bytes)
unfolding rest_of
rest_of-push [] call bytes = refl
rest_of-push (c ∷ calls) call bytes = rest_of-push calls call (drop (count_of c) bytes)

pub count_all-push : (calls : List DiskCall) (call : DiskCall) → count_all (calls ++ call ∷ []) ≡ count_all calls + count_of call
unfolding count_all
count_all-push [] call = omega arith
count_all-push (c ∷ calls) call = omega (arith, count_all-push calls call)

-- as many calls as are kept
pub length-calls_of : (calls : List DiskCall) (bytes : List ℕ) → length (calls_of calls bytes) ≡ length calls
unfolding calls_of
length-calls_of [] bytes = refl
length-calls_of (c ∷ calls) bytes = ap suc (length-calls_of calls (drop (count_of c) bytes))

-- the first of them
pub take-calls_of : (n : ℕ) (calls : List DiskCall) (bytes : List ℕ) → calls_of (take n calls) bytes ≡ take n (calls_of calls bytes)
unfolding calls_of
take-calls_of zero calls bytes = refl
take-calls_of (suc n) [] bytes = refl
take-calls_of (suc n) (c ∷ calls) bytes =
    ap (λ (l : List Call). call_of c (take (count_of c) bytes) ∷ l) (take-calls_of n calls (drop (count_of c) bytes))

-- of no more bytes than all
pub count_all-take : (n : ℕ) (calls : List DiskCall) → count_all (take n calls) ≤ count_all calls
unfolding count_all
count_all-take zero calls = omega arith
count_all-take (suc n) [] = omega arith
count_all-take (suc n) (c ∷ calls) = omega (arith, count_all-take n calls)

pub length-rest_of : (calls : List DiskCall) (bytes : List ℕ) → length (rest_of calls bytes) ≡ length bytes - count_all calls
unfolding rest_of count_all
length-rest_of [] bytes = omega arith
length-rest_of (c ∷ calls) bytes =
    omega (arith, length-rest_of calls (drop (count_of c) bytes), length-drop (count_of c) bytes)

-- more bytes behind those of these calls change none of them
pub calls_of-more : (calls : List DiskCall) (bytes more : List ℕ) → count_all calls ≤ length bytes
    → calls_of calls (bytes ++ more) ≡ calls_of calls bytes
unfolding calls_of count_all
calls_of-more [] bytes more le = refl
calls_of-more (c ∷ calls) bytes more le =
    let n = count_of c in
    let within : n ≤ length bytes = omega (arith, le) in
    let tail : calls_of calls (drop n (bytes ++ more)) ≡ calls_of calls (drop n bytes) =
    ap (calls_of calls) (drop-append-le n bytes more within)
    ∙ calls_of-more calls (drop n bytes) more (omega (arith, le, length-drop n bytes)) in
    ap (λ (l : List ℕ). call_of c l ∷ calls_of calls (drop n (bytes ++ more))) (take-append-le n bytes more within)
    ∙ ap (λ (l : List Call). call_of c (take n bytes) ∷ l) tail

pub rest_of-more : (calls : List DiskCall) (bytes more : List ℕ) → count_all calls ≤ length bytes
    → rest_of calls (bytes ++ more) ≡ rest_of calls bytes ++ more
unfolding rest_of count_all
rest_of-more [] bytes more le = refl
rest_of-more (c ∷ calls) bytes more le =
    let n = count_of c in
    ap (rest_of calls) (drop-append-le n bytes more (omega (arith, le)))
    ∙ rest_of-more calls (drop n bytes) more (omega (arith, le, length-drop n bytes))

empty_of_length : (xs : List ℕ) → length xs ≡ 0 → xs ≡ []
empty_of_length [] is = refl
empty_of_length (x ∷ xs) is = absurd (omega (arith, is))

rest_of-all : (calls : List DiskCall) (bytes : List ℕ) → count_all calls ≡ length bytes → rest_of calls bytes ≡ []
rest_of-all calls bytes all = empty_of_length _ (omega (arith, length-rest_of calls bytes, all))

module _ (calls new : List DiskCall) (call : DiskCall) (bytes more all : List ℕ) (own : count_of call ≡ length more)
    (pushed : new ≡ calls ++ call ∷ []) (put : all ≡ bytes ++ more) (whole : count_all calls ≡ length bytes) where
  -- one more call, whose bytes are put behind the others
  pub kept_more : calls_of new all ≡ calls_of calls bytes ++ call_of call more ∷ []
  kept_more =
      ap (λ (l : List DiskCall). calls_of l all) pushed
      ∙ ap (λ (l : List ℕ). calls_of (calls ++ call ∷ []) l) put
      ∙ calls_of-push calls call (bytes ++ more)
      ∙ ap (λ (l : List ℕ). calls_of calls (bytes ++ more) ++ call_of call (take (count_of call) l) ∷ []) behind
      ∙ ap (λ (l : List ℕ). calls_of calls (bytes ++ more) ++ call_of call l ∷ []) (take_all (count_of call) more (omega (arith, own)))
      ∙ ap (λ (l : List Call). l ++ call_of call more ∷ []) (calls_of-more calls bytes more (omega (arith, whole)))
    where
      behind : rest_of calls (bytes ++ more) ≡ more
      behind = rest_of-more calls bytes more (omega (arith, whole)) ∙ ap (λ (l : List ℕ). l ++ more) (rest_of-all calls bytes whole)

  -- all are of as many bytes as there are then
  pub whole_more : count_all new ≡ length all
  whole_more =
      let counts : count_all new ≡ count_all calls + count_of call = ap count_all pushed ∙ count_all-push calls call in
      let size : length all ≡ length bytes + length more = ap (λ (l : List ℕ). length l) put ∙ length-append bytes more in
      omega (arith, counts, size, own, whole)
