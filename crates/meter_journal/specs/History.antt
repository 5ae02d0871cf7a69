-- What a journal file stands for: a list of entries, each after an open gate. A gate is one byte, which commits what
-- follows it: A5 is open, any other byte is closed.
use Rattle.std.specs.Prelude.{◌≡◌, ◌≢◌, ◌⊎◌, ℕ, ◌+◌, ◌^◌, ◌≤◌, List, [], ◌∷◌, ◌++◌, length}
use Rattle.std.specs.List.{flat_map, AllByRecursion, Contains}
use Rattle.std.specs.Int.{w32, to_be_bytes}
use Rattle.office_types.specs.declared.command.Entry.{Entry}
use Rattle.entry_codec.specs.Spelling.{EntryFits, spelling}
use Rattle.disk_core.specs.Files.{State, IsImage, synced_file}

-- the mark of a journal file, the text METERJRN1
abbrev pub mark : List ℕ
mark = 0x4D ∷ 0x45 ∷ 0x54 ∷ 0x45 ∷ 0x52 ∷ 0x4A ∷ 0x52 ∷ 0x4E ∷ 0x31 ∷ []

-- what comes before the first gate: the open gate of the file, and its mark
abbrev pub header : List ℕ
header = 0xA5 ∷ mark

-- a length in four bytes, and that many bytes
abbrev pub framed : List ℕ → List ℕ
framed bytes = to_be_bytes w32 (length bytes) ++ bytes

-- the head, and then these entries, each after an open gate
unfoldable pub journal_bytes : List ℕ → List Entry → List ℕ
journal_bytes head entries = head ++ flat_map (λ e. 0xA5 ∷ framed (spelling e)) entries

-- the place of the gate after these entries
abbrev pub end_gate : List ℕ → List Entry → ℕ
end_gate head entries = length (journal_bytes head entries)

-- after this head a file has these entries, up to the first gate that is not open; a frame ends within bounds, with the
-- gate after it
pub record HasEntries (head : List ℕ) (entries : List Entry) (file : List ℕ) : Type 0 where
  pub gate : ℕ
  pub rest : List ℕ
  pub parts : file ≡ journal_bytes head entries ++ gate ∷ rest
  pub closed : gate ≢ 0xA5
  pub each : AllByRecursion EntryFits entries
  pub small : (entries ≡ []) ⊎ (end_gate head entries + 1 ≤ 2 ^ 45)

-- a file that is made has these entries
abbrev pub HasHistory : List Entry → List ℕ → Type 0
HasHistory entries file = HasEntries header entries file

-- the journal file is its only image and has these entries, and its end gate is at this place; the bytes of its head
-- are not looked at
pub record IsAtRest (head : List ℕ) (s : State) (gate : ℕ) (entries : List Entry) : Type 0 where
  pub bytes : List ℕ
  pub on_disk : s.journal ≡ synced_file bytes
  pub history : HasEntries head entries bytes
  pub end : gate ≡ end_gate head entries

-- the journal file has at most this many bytes, and so has each image of it
abbrev pub IsNoLonger : ℕ → State → Type 0
IsNoLonger most s = (n : ℕ) → Contains s.journal.lengths n → n ≤ most

-- each image of the journal file has these entries, with one more or without; the other files are as they were
pub record BeforeOrAfter (head : List ℕ) (entries : List Entry) (entry : Entry) (first s : State) : Type 0 where
  pub journal : (image : List ℕ) → IsImage s.journal image → HasEntries head entries image
      ⊎ HasEntries head (entries ++ entry ∷ []) image
  pub slot0 : s.slot0 ≡ first.slot0
  pub slot1 : s.slot1 ≡ first.slot1
