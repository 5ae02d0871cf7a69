-- What reading a journal file gives, at each gate.
use Rattle.std.specs.Prelude.{◌≡◌, ◌≢◌, ◌⊎◌, ℕ, ◌+◌, ◌<◌, ◌≤◌, ◌^◌, List, [], ◌∷◌, ◌++◌, length, get_or, take, drop, Option, Some, None, Result, Ok, Err, IsErrOf, nat_lt, nat_le, ◌==◌, ◌||◌, if◌then◌else◌}
use Rattle.std.specs.Int.{w32, from_be_bytes}
use Rattle.std.specs.List.{AllByRecursion}
use Rattle.office_base.specs.Faults.{Rose}
use Rattle.office_types.specs.declared.command.Entry.{Entry}
use Rattle.entry_codec.specs.Reading.{entry_of}
use Rattle.entry_codec.specs.Spelling.{EntryFits, spelling}
use Rattle.meter_journal.specs.declared.fault.OpenFault.{OpenFault}
use Rattle.meter_journal.specs.declared.fault.OpenFault.TheVariants as faults
use Rattle.meter_journal.specs.History.{mark, journal_bytes, end_gate}

-- the file is too short, or just long enough with a closed gate at its head
abbrev pub IsNotMade : List ℕ → Type 0
IsNotMade file = (length file < 11) ⊎ ((length file ≡ 11) × (get_or file 0 0 ≢ 0xA5))

-- the file has an open gate at its head, the mark, and a gate after it
abbrev pub IsMade : List ℕ → Type 0
IsMade file = (11 ≤ length file) × (get_or file 0 0 ≡ 0xA5) × (take 9 (drop 1 file) ≡ mark)

-- the file is longer and its head is closed, or its head is open and the mark is another
abbrev pub IsForeign : List ℕ → Type 0
IsForeign file = ((11 < length file) × (get_or file 0 0 ≢ 0xA5))
    ⊎ ((11 ≤ length file) × (get_or file 0 0 ≡ 0xA5) × (take 9 (drop 1 file) ≢ mark))

-- what opening answers over these bytes
abbrev pub HeadGives : {T : Type 0} → Result T OpenFault → List ℕ → Type 0
HeadGives (Ok x) file = IsMade file
HeadGives (Err faults.NotMade) file = IsNotMade file
HeadGives (Err faults.Foreign) file = IsForeign file
HeadGives (Err faults.StoreFault) file = Unit {0}
HeadGives (Err (faults.Damaged at)) file = ⊥
HeadGives (Err faults.NoMemory) file = ⊥

-- what creating answers if it fails
abbrev pub CreateFails : OpenFault → List ℕ → Type 0
CreateFails faults.NotMade file = ⊥
CreateFails faults.Foreign file = IsForeign file
CreateFails faults.StoreFault file = Unit {0}
CreateFails (faults.Damaged at) file = ⊥
CreateFails faults.NoMemory file = ⊥

-- where reading starts: at this place, or at the first gate
abbrev pub from_or_first : Option ℕ → ℕ
from_or_first (Some place) = place
from_or_first None = 10

-- what is at a gate: the end, an entry and the place of the next gate, or a damaged frame
pub data Frame : Type 0 where
  Ended : Frame
  Whole : Entry → ℕ → Frame
  Broken : Frame

-- a frame by what its bytes are read as, with the place of the next gate; damaged if they are not an entry
abbrev pub entry_frame : ℕ → Result Entry ℕ → Frame
entry_frame next (Ok e) = Whole e next
entry_frame next (Err at) = Broken

-- the n bytes after the length, as an entry
abbrev pub entry_frame_at : ℕ → ℕ → List ℕ → Frame
entry_frame_at gate n file = entry_frame (gate + 5 + n) (entry_of (take n (drop (gate + 5) file)))

-- the length after the gate
abbrev pub size_at : ℕ → List ℕ → ℕ
size_at gate file = from_be_bytes w32 (take 4 (drop (gate + 1) file))

-- the frame after an open gate: it ends within the file and within 2^45 bytes, with the gate after it; else it is
-- damaged
unfoldable pub body_at : ℕ → List ℕ → Frame
body_at gate file =
    if nat_lt (length file) (gate + 5) then Broken
    else (if nat_lt (length file) (gate + 6 + size_at gate file) || nat_lt (2 ^ 45) (gate + 6 + size_at gate file)
    then Broken
    else entry_frame_at gate (size_at gate file) file)

-- what is at the gate at this place; damaged if the place is not within the file
unfoldable pub frame_at : ℕ → List ℕ → Frame
frame_at gate file =
    if nat_le (length file) gate then Broken
    else (if get_or file gate 0 == 0xA5 then body_at gate file else Ended)

-- what a function that reads at a gate answers if it fails
abbrev pub FrameFails : OpenFault → ℕ → Frame → Type 0
FrameFails faults.NoMemory gate frame = Unit {0}
FrameFails faults.StoreFault gate frame = Unit {0}
FrameFails (faults.Damaged at) gate frame = (at ≡ gate) × (frame ≡ Broken)
FrameFails faults.NotMade gate frame = ⊥
FrameFails faults.Foreign gate frame = ⊥

-- what a function that reads after an open gate answers
abbrev pub BodyGives : Result (Entry × ℕ) OpenFault → ℕ → Frame → Type 0
BodyGives (Ok x) gate frame = frame ≡ Whole x.0 x.1
BodyGives (Err e) gate frame = FrameFails e gate frame

-- what a function that reads at a gate answers
abbrev pub FrameGives : Result (Option (Entry × ℕ)) OpenFault → ℕ → Frame → Type 0
FrameGives (Ok (Some x)) gate frame = frame ≡ Whole x.0 x.1
FrameGives (Ok None) gate frame = frame ≡ Ended
FrameGives (Err e) gate frame = FrameFails e gate frame

-- what reading the next entry answers, and where the next reading starts
abbrev pub NextGives : Result (Option Entry) OpenFault → ℕ → ℕ → Frame → Type 0
NextGives (Ok (Some e)) old new frame = frame ≡ Whole e new
NextGives (Ok None) old new frame = (new ≡ old) × (frame ≡ Ended)
NextGives (Err e) old new frame = (new ≡ old) × FrameFails e old frame

-- what reading the next entry answers on every disk: an entry in range, and the next gate is after its frame; else the
-- place stays
abbrev pub Advances : Result (Option Entry) OpenFault → ℕ → ℕ → Type 0
Advances (Ok (Some e)) old new = EntryFits e × (new ≡ old + 5 + length (spelling e))
Advances (Ok None) old new = new ≡ old
Advances (Err e) old new = new ≡ old

-- a count of faults never falls; with StoreFault it rose, and with any other answer it is as before
pub record HasStoreCause {T : Type 0} (before now : ℕ) (result : Result T OpenFault) : Type 0 where
  pub later : before ≤ now
  pub failed : IsErrOf result faults.StoreFault → Rose before now
  pub quiet : (IsErrOf result faults.StoreFault → ⊥) → now ≡ before

-- after this head the file has these entries, up to the gate at this place
pub record HasPrefix (head : List ℕ) (entries : List Entry) (gate : ℕ) (file : List ℕ) : Type 0 where
  pub parts : file ≡ journal_bytes head entries ++ drop gate file
  pub size : gate ≡ end_gate head entries
  pub each : AllByRecursion EntryFits entries
  pub small : (entries ≡ []) ⊎ (gate + 1 ≤ 2 ^ 45)

-- what is at the gate after the first of these entries: the end after all of them, or else the next one
abbrev pub HasNextAt : List Entry → List Entry → ℕ → List ℕ → Type 0
HasNextAt front entries gate file =
    ((front ≡ entries) × (frame_at gate file ≡ Ended))
    ⊎ ((e : Entry) × (more : List Entry) × (entries ≡ front ++ e ∷ more)
    × (frame_at gate file ≡ Whole e (gate + 5 + length (spelling e))))
