-- A field that an entry has several times, as fields and as a list.
use Rattle.std.proofs.Common.{◌≡◌, ◌∙◌, ◌+◌, ◌-◌, ◌<◌, ◌≤◌, ℕ, zero, suc, true, List, [], ◌∷◌, ◌++◌, length, get_or, take, drop, Result, Ok, Err, refl, sym, ap, append_assoc, arith}
use Rattle.std.specs.List.{list_all, flat_map}
use Rattle.std.proofs.Math.ListN.{set}
use Rattle.std.proofs.lemmas.List.{append-nil, take_more_set, length-set, take_all}
use Rattle.std.proofs.lemmas.Bool.{and_parts, and_from}
use Rattle.office_base.specs.Results.{◌>>=◌}
use Rattle.entry_codec.specs.Fields.{Field, ValueOf, format}
use Rattle.entry_codec.specs.Kinds.{Values}
use Rattle.entry_codec.specs.Spelling.{written_values, are_values}
use Rattle.entry_codec.specs.declared.fault.EntryFault.{EntryFault}
use Rattle.entry_codec.specs.declared.fault.EntryFault.TheVariants as faults
use Rattle.entry_codec.specs.Formats.{Format}
use Rattle.entry_codec.specs.Reading.{EntryGives, value_at, values_at, items_at}

-- the fault is that of reading, unless memory ran out
abbrev pub IsFaultOf : {Y : Type 0} → EntryFault → Result Y ℕ → Type 0
IsFaultOf {Y} e read = EntryGives (λ (y : Y). y) (Err e) read

step_after : {A B C : Type 0} (r : Result A ℕ) (g : A → B) (f : B → Result C ℕ) → ((r >>= λ y. Ok (g y)) >>= f) ≡ (r >>= λ y. f (g y))
step_after (Ok x) g f = refl
step_after (Err at) g f = refl

-- nothing more is done
pub only_ok : {A : Type 0} (r : Result A ℕ) → (r >>= λ x. Ok x) ≡ r
only_ok (Ok x) = refl
only_ok (Err at) = refl

module _ (field : Field) (none : ValueOf field) where
  abbrev Value : Type 0
  Value = ValueOf field

  -- the first elements, and the default if there are none
  abbrev pub firsts : ℕ → List Value → List Value
  firsts zero xs = []
  firsts (suc n) xs = get_or xs 0 none ∷ firsts n (drop 1 xs)

  pub firsts_all : (n : ℕ) (xs : List Value) → length xs ≡ n → firsts n xs ≡ xs
  firsts_all zero [] is = refl
  firsts_all zero (x ∷ xs) is = absurd (omega (arith, is))
  firsts_all (suc n) [] is = absurd (omega (arith, is))
  firsts_all (suc n) (x ∷ xs) is = let less : length xs ≡ n = omega (arith, is) in ap (λ (ys : List Value). x ∷ ys) (firsts_all n xs less)

  -- the field so often, and then other fields
  abbrev pub times : ℕ → List Field → List Field
  times zero fields = fields
  times (suc n) fields = field ∷ times n fields

  abbrev pub joined : (n : ℕ) (fields : List Field) → List Value → Values fields → Values (times n fields)
  joined zero fields xs values = values
  joined (suc n) fields xs values = (get_or xs 0 none, joined n fields (drop 1 xs) values)

  -- ---- reading

  -- the other fields after these
  abbrev pub then_fields : {B : Type 0} (n : ℕ) (fields : List Field) (total : ℕ) → (Values (times n fields) × List ℕ → Result B ℕ) → List Value × List ℕ → Result B ℕ
  then_fields n fields total f s = values_at fields total s.1 >>= λ v. f (joined n fields s.0 v.0, v.1)

  -- the first one, and then the others
  reads_by : {B : Type 0} (n : ℕ) (fields : List Field) (total : ℕ) (f : Values (times (suc n) fields) × List ℕ → Result B ℕ) (r : Result (Value × List ℕ) ℕ)
      → ((x : Value × List ℕ) → (values_at (times n fields) total x.1 >>= λ o. f ((x.0, o.0), o.1)) ≡ (items_at (format field) n total x.1 >>= then_fields n fields total (λ o. f ((x.0, o.0), o.1))))
      → ((r >>= λ first. values_at (times n fields) total first.1 >>= λ others. Ok ((first.0, others.0), others.1)) >>= f)
      ≡ ((r >>= λ first. items_at (format field) n total first.1 >>= λ others. Ok (first.0 ∷ others.0, others.1)) >>= then_fields (suc n) fields total f)
  reads_by n fields total f (Err at) others = refl
  reads_by n fields total f (Ok x) others =
      step_after (values_at (times n fields) total x.1) (λ o. ((x.0, o.0), o.1)) f ∙ others x
      ∙ sym (step_after (items_at (format field) n total x.1) (λ o. (x.0 ∷ o.0, o.1)) (then_fields (suc n) fields total f))

  pub reads : {B : Type 0} (n : ℕ) (fields : List Field) (total : ℕ) (bytes : List ℕ) (f : Values (times n fields) × List ℕ → Result B ℕ) → (values_at (times n fields) total bytes >>= f)
      ≡ (items_at (format field) n total bytes >>= then_fields n fields total f)
  unfolding items_at
  reads zero fields total bytes f = refl
  reads (suc n) fields total bytes f = reads_by n fields total f (value_at (format field) total bytes) (λ x. reads n fields total x.1 (λ o. f ((x.0, o.0), o.1)))

  -- ---- writing

  abbrev w : Value → List ℕ
  w = (format field).written

  pub written_times : (n : ℕ) (fields : List Field) (xs : List Value) (values : Values fields)
      → written_values (times n fields) (joined n fields xs values)
      ≡ flat_map w (firsts n xs) ++ written_values fields values
  written_times zero fields xs values = refl
  written_times (suc n) fields xs values =
      ap (λ (l : List ℕ). w (get_or xs 0 none) ++ l) (written_times n fields (drop 1 xs) values) ∙ sym (append_assoc (w (get_or xs 0 none)) (flat_map w (firsts n (drop 1 xs))) (written_values fields values))

  pub have_times : (n : ℕ) (fields : List Field) (xs : List Value) (values : Values fields) → list_all (format field).has (firsts n xs) ≡ true → are_values fields values ≡ true
      → are_values (times n fields) (joined n fields xs values) ≡ true
  have_times zero fields xs values all others = others
  have_times (suc n) fields xs values all others =
      let parts = and_parts ((format field).has (get_or xs 0 none)) (list_all (format field).has (firsts n (drop 1 xs))) all in
      and_from _ _ parts.0 (have_times n fields (drop 1 xs) values parts.1 others)

-- ---- the loop

module _ {X : Type 0} (format : Format X) where
  abbrev pub Read : Type 0
  Read = Result (List X × List ℕ) ℕ

  -- what was read before, and what is still read
  abbrev pub with_front : List X → Read → Read
  with_front front read = read >>= λ x. Ok (front ++ x.0, x.1)

  regroup : (front : List X) (x : X) (read : Read) → with_front front (read >>= λ xs. Ok (x ∷ xs.0, xs.1)) ≡ with_front (front ++ x ∷ []) read
  regroup front x (Ok read) = ap (λ (xs : List X). Ok (xs, read.1)) (sym (append_assoc front (x ∷ []) read.0))
  regroup front x (Err at) = refl

  goes_on : (front : List X) (n i total : ℕ) (bytes : List ℕ) (x : X) (after : List ℕ) (all : Read) → i < n
      → value_at format total bytes ≡ Ok (x, after) → with_front front (items_at format (n - i) total bytes) ≡ all
      → with_front (front ++ x ∷ []) (items_at format (n - (i + 1)) total after) ≡ all
  unfolding items_at
  goes_on front n i total bytes x after all lt h so_far =
      let k : n - i ≡ suc (n - (i + 1)) = omega arith in
      let one : with_front front (items_at format (n - i) total bytes) ≡ with_front (front ++ x ∷ []) (items_at format (n - (i + 1)) total after) =
      rw (k, h) (regroup front x (items_at format (n - (i + 1)) total after)) in
      sym one ∙ so_far

  stops : (front : List X) (n i total : ℕ) (bytes : List ℕ) (at : ℕ) (all : Read) → i < n → value_at format total bytes ≡ Err at
      → with_front front (items_at format (n - i) total bytes) ≡ all → all ≡ Err at
  unfolding items_at
  stops front n i total bytes at all lt h so_far =
      let k : n - i ≡ suc (n - (i + 1)) = omega arith in
      let one : with_front front (items_at format (n - i) total bytes) ≡ Err at = rw (k, h) refl in
      sym so_far ∙ one

  is_done : (front : List X) (n i total : ℕ) (bytes : List ℕ) (all : Read) → n ≤ i → with_front front (items_at format (n - i) total bytes) ≡ all → all ≡ Ok (front, bytes)
  unfolding items_at
  is_done front n i total bytes all le so_far =
      let k : n - i ≡ 0 = omega arith in
      let one : with_front front (items_at format (n - i) total bytes) ≡ Ok (front, bytes) = rw k (ap (λ (xs : List X). Ok (xs, bytes)) (append-nil front)) in
      sym so_far ∙ one

  pub after_one : (room : List X) (i total : ℕ) (bytes : List ℕ) (x : X) (after : List ℕ) (all : Read) → i < length room → value_at format total bytes ≡ Ok (x, after)
      → with_front (take i room) (items_at format (length room - i) total bytes) ≡ all
      → with_front (take (i + 1) (set room i x)) (items_at format (length (set room i x) - (i + 1)) total after) ≡ all
  after_one room i total bytes x after all lt h so_far =
      let front : take (i + 1) (set room i x) ≡ take i room ++ x ∷ [] = take_more_set room i x lt in
      let size : length (set room i x) ≡ length room = length-set room i x in
      rw (front, size) (goes_on (take i room) (length room) i total bytes x after all lt h so_far)

  pub fails_after : (room : List X) (i total : ℕ) (bytes : List ℕ) (e : EntryFault) (all : Read) → i < length room → IsFaultOf e (value_at format total bytes)
      → with_front (take i room) (items_at format (length room - i) total bytes) ≡ all → IsFaultOf e all
  fails_after room i total bytes faults.NoMemory all lt h so_far = tt
  fails_after room i total bytes (faults.BadEntry at) all lt h so_far = stops (take i room) (length room) i total bytes at all lt h so_far

  pub all_read : (room : List X) (i total : ℕ) (bytes : List ℕ) (all : Read) → length room ≤ i
      → with_front (take i room) (items_at format (length room - i) total bytes) ≡ all → all ≡ Ok (room, bytes)
  all_read room i total bytes all le so_far = is_done (take i room) (length room) i total bytes all le so_far ∙ ap (λ (l : List X). Ok (l, bytes)) (take_all i room le)
