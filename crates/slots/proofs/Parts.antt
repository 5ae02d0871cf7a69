-- What a crash leaves of a slot while it is written.
use Rattle.std.proofs.Common.{◌≡◌, ◌≢◌, ◌⊎◌, inl, inr, ⊎_elim, ℕ, zero, suc, max, ◌+◌, ◌^◌, ◌<◌, ◌≤◌, List, [], ◌∷◌, ◌++◌, length, get_or, take, drop, refl, sym, ◌∙◌, ap, subst, arith}
use Rattle.std.specs.List.{Contains}
use Rattle.std.proofs.lemmas.Grind.{same_number_lists}
use Rattle.std.proofs.lemmas.List.{length-take, length-drop, get_or-take, get_or-drop, drop-drop, drop_more}
use Rattle.disk_core.specs.declared.disk.FileNo.{FileNo}
use Rattle.disk_core.specs.Files.{File, State, IsImage, Covers, Part, put, wrote, reread, with_file, synced_file}
use Rattle.disk_core.specs.Fronts.{KeepsFront}
use Rattle.disk_core.proofs.Crash.{front_image, front_synced, synced_image, reread_image}
use Rattle.slots.specs.Slots.{text_of, HoldsBody}
use Rattle.slots.specs.Saving.{Kept, kept, Holds, HasOldOrNew, IsInPart, IsShut, IsToShut, IsWritten}
use Rattle.slots.proofs.OneFile.{with-with}
use Rattle.slots.proofs.Texts.{is_open, long, holds_behind, one_position, one_body}

-- ---- one write

-- no place outside the range was written
outside : (at n i : ℕ) → ((at ≤ i) × (i < at + n) → ⊥) → Covers ((at, n) ∷ []) i → ⊥
outside at n i out (inl here) = out here
outside at n i out (inr none) = none

two_lengths : (a b n : ℕ) → Contains (a ∷ b ∷ []) n → (n ≡ a) ⊎ (n ≡ b)
two_lengths a b n (zero, lt, is) = inl (sym is)
two_lengths a b n (suc zero, lt, is) = inr (sym is)
two_lengths a b n (suc (suc k), lt, is) = absurd (omega (arith, lt))

-- each image after a write is what a part of it leaves
module _ (at n : ℕ) (bytes seen image : List ℕ) (le : at ≤ length bytes) (part : Part at n bytes seen)
    (is : IsImage (wrote at n seen (synced_file bytes)) image) where
  lengths : (length image ≡ length seen) ⊎ (length image ≡ length bytes)
  lengths = two_lengths (length seen) (length bytes) (length image) is.one_length

  shorter : length bytes ≤ length image
  shorter = ⊎_elim (λ same. omega (arith, same, part.no_shorter)) (λ same. omega (arith, same)) lengths

  longer : length image ≤ max (length bytes) (at + n)
  longer = ⊎_elim (λ same. omega (arith, same, part.no_longer)) (λ same. omega (arith, same)) lengths

  same_at : (i : ℕ) → i < length image → i < length bytes → ((at ≤ i) × (i < at + n) → ⊥) → get_or image i 0 ≡ get_or bytes i 0
  same_at i lt old out = is.others_stay i lt old (outside at n i out)

  pub image_in_part : Part at n bytes image
  image_in_part = record {
    before = same_number_lists (take at image) (take at bytes)
        (omega (arith, length-take at image, length-take at bytes, le, shorter))
        (λ i low.
        let below : i < at = omega (arith, length-take at image, low) in
        get_or-take at image i 0 below
        ∙ same_at i (omega (arith, below, le, shorter)) (omega (arith, below, le)) (λ here. omega (arith, here.0, below))
        ∙ sym (get_or-take at bytes i 0 below));
    after = same_number_lists (drop (at + n) image) (drop (at + n) bytes)
        (omega (arith, length-drop (at + n) image, length-drop (at + n) bytes, shorter, longer))
        (λ i low.
        let within : at + n + i < length image = omega (arith, length-drop (at + n) image, low) in
        get_or-drop (at + n) image i 0
        ∙ same_at (at + n + i) within (omega (arith, within, longer)) (λ here. omega (arith, here.1))
        ∙ sym (get_or-drop (at + n) bytes i 0));
    no_shorter = shorter;
    no_longer = longer;
  }

pub part_start : (at n : ℕ) (bytes : List ℕ) (f : File) → f ≡ synced_file bytes → IsInPart at n bytes f
part_start at n bytes f is image is_image =
    subst (Part at n bytes) (sym (synced_image bytes image (subst (λ (x : File). IsImage x image) is is_image)))
    (record { before = refl; after = refl; no_shorter = omega arith; no_longer = omega arith })

pub part_wrote : (at n : ℕ) (bytes seen : List ℕ) (f : File) → f ≡ synced_file bytes → at ≤ length bytes → Part at n f.seen seen
    → IsInPart at n bytes (wrote at n seen f)
part_wrote at n bytes seen f is le part image is_image =
    image_in_part at n bytes seen image le (subst (λ (x : File). Part at n x.seen seen) is part)
    (subst (λ (x : File). IsImage (wrote at n seen x) image) is is_image)

pub part_synced : (at n : ℕ) (bytes : List ℕ) (f : File) → IsInPart at n bytes f → IsImage f f.seen → IsInPart at n bytes (synced_file f.seen)
part_synced at n bytes f each own image is_image = subst (Part at n bytes) (sym (synced_image f.seen image is_image)) (each f.seen own)

pub part_reread : (at n : ℕ) (bytes seen : List ℕ) (f : File) → IsInPart at n bytes f → IsInPart at n bytes (reread seen f)
part_reread at n bytes seen f each image is_image = each image (reread_image f seen image is_image)

-- ---- an old slot or the new one

pub old_start : (bytes : List ℕ) (new : Kept) (f : File) → f ≡ synced_file bytes → HasOldOrNew bytes new f
old_start bytes new f is image old is_image holds =
    inl (subst (Holds old) (synced_image bytes image (subst (λ (x : File). IsImage x image) is is_image)) holds)

-- while the gate is closed: if it was open the old slot is there or none, and in an empty file is none
pub while_shut : (bytes : List ℕ) (new : Kept) (f : File) → IsToShut bytes → IsInPart 0 1 bytes f → HasOldOrNew bytes new f
while_shut bytes new f (inl empty) each image old is_image holds =
    let part = each image is_image in
    absurd (omega (arith, part.no_longer, ap length empty, long holds))
while_shut bytes new f (inr (rest, parts)) each image old is_image holds =
    let part = each image is_image in
    let same : image ≡ bytes =
    drop_more image 0 0 (omega (arith, long holds))
    ∙ ap (λ (g : ℕ). g ∷ drop 1 image) (is_open holds)
    ∙ ap (λ (l : List ℕ). 0xA7 ∷ l) (part.after ∙ ap (λ (l : List ℕ). drop 1 l) parts)
    ∙ sym parts in
    inl (subst (Holds old) same holds)

-- after a closed gate there is none
pub behind_shut : (bytes : List ℕ) (new : Kept) (f : File) (gate : ℕ) → gate ≢ 0xA7 → KeepsFront 1 (gate ∷ []) f → HasOldOrNew bytes new f
behind_shut bytes new f gate closed keeps image old is_image holds =
    let front = front_image 1 (gate ∷ []) f image keeps is_image in
    let first : get_or image 0 0 ≡ gate = sym (get_or-take 1 image 0 0 (omega arith)) ∙ ap (λ (l : List ℕ). get_or l 0 0) front.0 in
    absurd (closed (sym first ∙ is_open holds))

-- while the gate is opened: none, or the new one
pub while_opened : (old_bytes bytes tail : List ℕ) (new : Kept) (gate : ℕ) (f : File) → new.position < 2 ^ 64 → length new.body < 2 ^ 64
    → bytes ≡ gate ∷ (text_of new.position new.body ++ tail) → IsInPart 0 1 bytes f → HasOldOrNew old_bytes new f
while_opened old_bytes bytes tail new gate f small_position small_body parts each image old is_image holds =
    let part = each image is_image in
    let same : image ≡ 0xA7 ∷ (text_of new.position new.body ++ tail) =
    drop_more image 0 0 (omega (arith, long holds))
    ∙ ap (λ (g : ℕ). g ∷ drop 1 image) (is_open holds)
    ∙ ap (λ (l : List ℕ). 0xA7 ∷ l) (part.after ∙ ap (λ (l : List ℕ). drop 1 l) parts) in
    let stands : HoldsBody new.position new.body image = holds_behind new.position new.body image tail small_position small_body same in
    let place = one_position old.position new.position old.body new.body image holds stands in
    let text = one_body old.position new.position old.body new.body image holds stands in
    inr (λ i. kept (place i) (text i))

-- ---- what is written

pub shut_by : (bytes : List ℕ) → IsShut (put 0 (0 ∷ []) bytes)
shut_by bytes = record { gate = 0; rest = drop 1 bytes; parts = refl; closed = omega arith }

-- the text after a gate
pub with_text : (gate : ℕ) (rest text : List ℕ) → put 1 text (gate ∷ rest) ≡ gate ∷ (text ++ drop (length text) rest)
with_text gate rest text = ap (λ (l : List ℕ). gate ∷ (text ++ l)) (sym (drop-drop (length text) 1 (gate ∷ rest)))

-- the gate opened
pub with_gate : (gate : ℕ) (rest : List ℕ) → put 0 (0xA7 ∷ []) (gate ∷ rest) ≡ 0xA7 ∷ rest
with_gate gate rest = refl

pub front_of_shut : (bytes : List ℕ) (f : File) (shut : IsShut bytes) → f ≡ synced_file bytes → KeepsFront 1 (shut.gate ∷ []) f
front_of_shut bytes f shut is =
    subst (KeepsFront 1 (shut.gate ∷ [])) (sym is)
    (front_synced 1 (shut.gate ∷ []) bytes (omega (arith, ap length shut.parts)) (ap (λ (l : List ℕ). take 1 l) shut.parts))

-- the slot once its gate is open
pub opened_slot : (file : FileNo) (new : Kept) (gate : ℕ) (tail seen written : List ℕ) (first mid s : State)
    → new.position < 2 ^ 64 → length new.body < 2 ^ 64 → seen ≡ gate ∷ (text_of new.position new.body ++ tail)
    → mid ≡ with_file file (synced_file written) first
    → s ≡ with_file file (synced_file (put 0 (0xA7 ∷ []) seen)) mid
    → IsWritten file new first s
opened_slot file new gate tail seen written first mid s small_position small_body seen_is from now =
    let bytes = put 0 (0xA7 ∷ []) seen in
    let parts : bytes ≡ 0xA7 ∷ (text_of new.position new.body ++ tail) =
    ap (put 0 (0xA7 ∷ [])) seen_is ∙ with_gate gate (text_of new.position new.body ++ tail) in
    record {
      bytes = bytes;
      holds = holds_behind new.position new.body bytes tail small_position small_body parts;
      state = now ∙ ap (with_file file (synced_file bytes)) from ∙ with-with file (synced_file bytes) (synced_file written) first;
    }
