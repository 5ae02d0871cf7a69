-- Parts of a file: what they hold is what the file holds there.
use Rattle.std.proofs.Common.{◌≡◌, ◌⊎◌, inl, inr, ◌∙◌, ℕ, ◌+◌, ◌-◌, ◌≤◌, List, [], length, take, drop, get_or, sym, ap, subst, refl, arith}
use Rattle.std.proofs.lemmas.List.{drop-drop, drop-take, take-take, get_or-take, get_or-drop}
use Rattle.meter_journal.specs.Reading.{Frame, FrameFails}
use Rattle.meter_journal.specs.Windows.{IsPart}
use Rattle.meter_journal.specs.declared.fault.OpenFault.{OpenFault}
use Rattle.meter_journal.specs.declared.fault.OpenFault.TheVariants.{StoreFault, NoMemory}

-- no bytes are in every file
pub no_part : (at : ℕ) (bytes file : List ℕ) → bytes ≡ [] → IsPart at bytes file
no_part at bytes file none = subst (λ (l : List ℕ). IsPart at l file) (sym none) refl

-- the bytes after the first k
behind : (at k m : ℕ) (bytes file : List ℕ) → length bytes ≡ k + m → IsPart at bytes file → drop k bytes ≡ take m (drop (at + k) file)
behind at k m bytes file size part =
    ap (λ (l : List ℕ). drop k l) (part ∙ ap (λ (n : ℕ). take n (drop at file)) size)
    ∙ drop-take k m (drop at file)
    ∙ ap (λ (l : List ℕ). take m l) (drop-drop k at file)

-- n bytes from a place inside of the part are those of the file
pub part_at : (at from n : ℕ) (bytes file : List ℕ) → at ≤ from → from + n ≤ at + length bytes → IsPart at bytes file
    → take n (drop (from - at) bytes) ≡ take n (drop from file)
part_at at from n bytes file after within part =
    let k = from - at in
    let m = length bytes - k in
    ap (λ (l : List ℕ). take n l) (behind at k m bytes file (omega (arith, after, within)) part)
    ∙ take-take n m (drop (at + k) file) (omega (arith, after, within))
    ∙ ap (λ (j : ℕ). take n (drop j file)) (omega (arith, after))

-- the first of one byte
pub byte_at : (at : ℕ) (file : List ℕ) → get_or (take 1 (drop at file)) 0 0 ≡ get_or file at 0
byte_at at file =
    get_or-take 1 (drop at file) 0 0 (omega arith) ∙ get_or-drop at file 0 0 ∙ ap (λ (k : ℕ). get_or file k 0) (omega arith)

-- a disk that fails, and memory that runs out, are no fault of a frame
pub no_frame : (e : OpenFault) (gate : ℕ) (frame : Frame) → (e ≡ StoreFault) ⊎ (e ≡ NoMemory) → FrameFails e gate frame
no_frame e gate frame (inl is) = subst (λ (f : OpenFault). FrameFails f gate frame) (sym is) tt
no_frame e gate frame (inr is) = subst (λ (f : OpenFault). FrameFails f gate frame) (sym is) tt
