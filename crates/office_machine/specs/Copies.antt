-- The buckets in memory, copied.
use Rattle.std.specs.Prelude.{◌≡◌, ℕ, List, [], ◌∷◌}
use Rattle.office_base.specs.Maps.{with_name}
use Rattle.bucket_account.specs.Counting.{AccountRecord}
use Rattle.bucket_account.specs.Standing.{IsCopyOf}

-- the copy has the same name, and a copy of the account
pub record IsCopiedFrom (copy entry : List ℕ × AccountRecord) : Type 0 where
  pub name : copy.0 ≡ entry.0
  pub account : IsCopyOf copy.1 entry.1

-- the buckets are copied one by one: as many, and in the same order
abbrev pub AreCopiesOf : List (List ℕ × AccountRecord) → List (List ℕ × AccountRecord) → Type 0
AreCopiesOf [] [] = Unit {0}
AreCopiesOf [] (entry ∷ entries) = ⊥
AreCopiesOf (copy ∷ copies) [] = ⊥
AreCopiesOf (copy ∷ copies) (entry ∷ entries) = IsCopiedFrom copy entry × AreCopiesOf copies entries

-- a copy of the account was written under the name
pub record HasCopyOf (name : List ℕ) (account : AccountRecord) (before after : List (List ℕ × AccountRecord)) : Type 0 where
  pub copy : AccountRecord
  pub is : IsCopyOf copy account
  pub written : after ≡ with_name name copy before
