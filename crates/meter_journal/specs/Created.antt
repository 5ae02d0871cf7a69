-- What a journal file may be while it is made.
use Rattle.std.specs.Prelude.{◌≡◌, ◌⊎◌, ℕ, ◌≤◌, List, [], length}
use Rattle.std.specs.List.{Contains}
use Rattle.disk_core.specs.Files.{State, IsImage}
use Rattle.disk_core.specs.Fronts.{KeepsFront}
use Rattle.meter_journal.specs.History.{HasHistory}
use Rattle.meter_journal.specs.Reading.{IsNotMade}

-- each image of the journal file is not made, or made and empty; the other files are as they were
pub record NoneOrEmpty (first s : State) : Type 0 where
  pub journal : (image : List ℕ) → IsImage s.journal image → IsNotMade image ⊎ HasHistory [] image
  pub slot0 : s.slot0 ≡ first.slot0
  pub slot1 : s.slot1 ≡ first.slot1

-- the journal file has at most m bytes in each image, and its first k bytes stay; the other files are as they were
pub record Bounded (m k : ℕ) (front : List ℕ) (first s : State) : Type 0 where
  pub journal : KeepsFront k front s.journal
  pub lengths : (n : ℕ) → Contains s.journal.lengths n → n ≤ m
  pub seen_length : length s.journal.seen ≤ m
  pub slot0 : s.slot0 ≡ first.slot0
  pub slot1 : s.slot1 ≡ first.slot1

-- each image of the journal file is one from before, or not made, or made and empty; the other files are as they were
pub record BeforeOrEmpty (first s : State) : Type 0 where
  pub journal : (image : List ℕ) → IsImage s.journal image → IsImage first.journal image
      ⊎ (IsNotMade image ⊎ HasHistory [] image)
  pub slot0 : s.slot0 ≡ first.slot0
  pub slot1 : s.slot1 ≡ first.slot1
