-- The buckets of their heads and lists, one after the other.
use Rattle.std.proofs.Common.{◌≡◌, ◌∙◌, ℕ, List, [], ◌∷◌, ◌++◌, Option, Some, None, option_map, refl, sym, ap, append_assoc}
use Rattle.std.proofs.lemmas.List.{append-nil}
use Rattle.stacks.specs.Stacks.{StackRecord}
use Rattle.uploads.specs.Uploads.{UploadRecord}
use Rattle.accrual.specs.declared.monthly.MonthSums.{MonthSums}
use Rattle.office_snapshot.specs.Snapshots.{BucketPartRecord}
use Rattle.checkpoint.specs.Parts.{Head}
use Rattle.checkpoint.specs.Bodies.{bucket_of, joined}

-- the stacks of a bucket
abbrev S : Type 0
S = List (List ℕ × StackRecord)

-- its uploads
abbrev U : Type 0
U = List (ℕ × UploadRecord)

-- its sums
abbrev M : Type 0
M = List MonthSums

-- and all that stands of it
abbrev P : Type 0
P = BucketPartRecord

-- these parts, and those of what is left, are all
pub record IsJoining (parts : List P) (hs : List Head) (ss : List S) (us : List U) (ms : List M) (total : Option (List P)) : Type 0 where
  pub is : option_map (λ (others : List P). parts ++ others) (joined hs ss us ms) ≡ total

-- one part more in front of the others
regroup : (parts : List P) (part : P) (read : Option (List P))
    → option_map (λ (others : List P). (parts ++ part ∷ []) ++ others) read ≡ option_map (λ (others : List P). parts ++ others) (option_map (λ (others : List P). part ∷ others) read)
regroup parts part (Some others) = ap Some (append_assoc parts (part ∷ []) others)
regroup parts part None = refl

module _ (parts : List P) (hs : List Head) (ss : List S) (us : List U) (ms : List M) (total : Option (List P)) (so_far : IsJoining parts hs ss us ms total) where
  -- nothing is left of any of them
  pub join_ends : hs ≡ [] → ss ≡ [] → us ≡ [] → ms ≡ [] → total ≡ Some parts
  join_ends a b c d =
      let one : joined hs ss us ms ≡ Some [] = rw (a, b, c, d) refl in
      sym so_far.is ∙ ap (option_map (λ (others : List P). parts ++ others)) one ∙ ap Some (append-nil parts)

  -- one bucket more
  pub join_more : (h : Head) (hs' : List Head) (s : S) (ss' : List S) (u : U) (us' : List U) (m : M) (ms' : List M) (new : List P)
      → hs ≡ h ∷ hs' → ss ≡ s ∷ ss' → us ≡ u ∷ us' → ms ≡ m ∷ ms' → new ≡ parts ++ bucket_of h s u m ∷ [] → IsJoining new hs' ss' us' ms' total
  join_more h hs' s ss' u us' m ms' new a b c d pushed =
      let one : joined hs ss us ms ≡ option_map (λ (others : List P). bucket_of h s u m ∷ others) (joined hs' ss' us' ms') = rw (a, b, c, d) refl in
      record {
        is = ap (λ (front : List P). option_map (λ (others : List P). front ++ others) (joined hs' ss' us' ms')) pushed ∙ regroup parts (bucket_of h s u m) (joined hs' ss' us' ms')
            ∙ sym (ap (option_map (λ (others : List P). parts ++ others)) one) ∙ so_far.is;
      }
