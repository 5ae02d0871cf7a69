-- What a call puts out.
use Rattle.std.specs.Prelude.{◌≡◌, ◌⊎◌, ◌++◌, ℕ, List, Option, Some, None, Result, Ok, Err, take}
use Rattle.std.specs.Io.KnownBytes.{Appends}
use Rattle.office_base.specs.Faults.{Rose}

-- these bytes were put out, or a front of them where the call failed
abbrev pub PutsOut : {E : Type 0} → Option (List ℕ) → Option (List ℕ) → List ℕ → Result Unit E → Type 0
PutsOut old new bytes (Ok x) = Appends old new bytes
PutsOut old new bytes (Err e) = (n : ℕ) × Appends old new (take n bytes)

-- these bytes were put out last, if it is known what was put out
abbrev pub EndsWith : Option (List ℕ) → List ℕ → Type 0
EndsWith None bytes = Unit {0}
EndsWith (Some all) bytes = (before : List ℕ) × (all ≡ before ++ bytes)

-- these bytes stand somewhere in the text
abbrev pub IsPartOf : List ℕ → List ℕ → Type 0
IsPartOf bytes text = (before : List ℕ) × (after : List ℕ) × (before ++ (bytes ++ after) ≡ text)

-- the line was noted, and no fault was counted; or it was lost but for a front of it, and a fault was
abbrev pub NotesLine : Option (List ℕ) → Option (List ℕ) → List ℕ → ℕ → ℕ → Type 0
NotesLine old new line before after =
    (Appends old new line × (after ≡ before)) ⊎ (((n : ℕ) × Appends old new (take n line)) × Rose before after)
