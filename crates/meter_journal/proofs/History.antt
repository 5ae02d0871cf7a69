-- What a journal file has while an entry is added.
use Rattle.std.proofs.Common.{◌≡◌, ◌⊎◌, inl, inr, ℕ, zero, suc, replicate, ◌+◌, ◌*◌, ◌^◌, ◌<◌, ◌≤◌, List, [], ◌∷◌, ◌++◌, length, get_or, take, drop, refl, sym, ◌∙◌, ap}
use Rattle.std.proofs.Common.{subst, arith, append-nil, append_assoc, length-append, take-append-drop, Result, Ok, Err}
use Rattle.std.specs.Prelude.{OnOk}
use Rattle.std.specs.List.{flat_map, AllByRecursion}
use Rattle.std.proofs.lemmas.Bool.{cases_eq}
use Rattle.std.proofs.lemmas.List.{take_at, drop_at, drop-drop, take-replicate}
use Rattle.std.proofs.lemmas.List.{flat_map_more}
use Rattle.office_types.specs.declared.command.Entry.{Entry}
use Rattle.entry_codec.specs.Spelling.{EntryFits, spelling}
use Rattle.entry_codec.proofs.Sizes.{spelling_long}
use Rattle.disk_core.specs.Files.{File, State, IsImage, put, synced_file}
use Rattle.disk_core.specs.Fronts.{KeepsFront, KeepsJournal, IsButOne}
use Rattle.disk_core.proofs.Crash.{front_image, front_synced, synced_image}
use Rattle.meter_journal.specs.History.{framed, journal_bytes, end_gate, HasEntries, IsAtRest, BeforeOrAfter}

length-framed : (entry : List ℕ) → length (framed entry) ≡ 4 + length entry
length-framed entry = omega arith

pub whole-push : (head : List ℕ) (entries : List Entry) (entry : Entry) → journal_bytes head (entries ++ entry ∷ []) ≡ journal_bytes head entries ++ 0xA5 ∷ framed (spelling entry)
unfolding journal_bytes
whole-push head entries entry = sym (flat_map_more (λ e. 0xA5 ∷ framed (spelling e)) head entries entry)

pub each-push : (entries : List Entry) (entry : Entry) → AllByRecursion EntryFits entries → EntryFits entry → AllByRecursion EntryFits (entries ++ entry ∷ [])
each-push [] entry each fits = (fits, tt)
each-push (e ∷ entries) entry each fits = (each.0, each-push entries entry each.1 fits)

pub whole-none : (head : List ℕ) → journal_bytes head [] ≡ head
unfolding journal_bytes
whole-none head = append-nil head

-- the end gate of no entries, and of one entry more
pub end_gate-none : (head : List ℕ) → end_gate head [] ≡ length head
end_gate-none head = ap length (whole-none head)

pub end_gate-push : (head : List ℕ) (entries : List Entry) (entry : Entry) → end_gate head (entries ++ entry ∷ []) ≡ end_gate head entries + 5 + length (spelling entry)
end_gate-push head entries entry = omega (arith, ap length (whole-push head entries entry), length-append (journal_bytes head entries) (0xA5 ∷ framed (spelling entry)), length-framed (spelling entry))

frames_long : (entries : List Entry) → 14 * length entries ≤ length (flat_map (λ e. 0xA5 ∷ framed (spelling e)) entries)
frames_long [] = omega arith
frames_long (e ∷ entries) = omega (
  arith,
  frames_long entries,
  spelling_long e,
  length-append (0xA5 ∷ framed (spelling e)) (flat_map (λ (e : Entry). 0xA5 ∷ framed (spelling e)) entries),
)

-- a frame has a gate, a length and nine bytes at least
pub gate_high : (head : List ℕ) (entries : List Entry) → 14 * length entries ≤ end_gate head entries
unfolding journal_bytes
gate_high head entries =
    omega (arith, frames_long entries, length-append head (flat_map (λ (e : Entry). 0xA5 ∷ framed (spelling e)) entries))

-- a file whose front is base and a byte
module _ (base : List ℕ) (p : ℕ) (size : p ≡ length base) where
  front_of : (gate : ℕ) (rest : List ℕ) → take (p + 1) (base ++ gate ∷ rest) ≡ base ++ gate ∷ []
  front_of gate rest =
      ap (λ (l : List ℕ). take (p + 1) l) (sym (append_assoc base (gate ∷ []) rest))
      ∙ take_at (base ++ gate ∷ []) rest (p + 1) (omega (arith, length-append base (gate ∷ []), size))

  behind : (gate : ℕ) (rest : List ℕ) → drop (p + 1) (base ++ gate ∷ rest) ≡ rest
  behind gate rest =
      ap (λ (l : List ℕ). drop (p + 1) l) (sym (append_assoc base (gate ∷ []) rest))
      ∙ drop_at (base ++ gate ∷ []) rest (p + 1) (omega (arith, length-append base (gate ∷ []), size))

  pub from_front : (gate : ℕ) (image : List ℕ) → take (p + 1) image ≡ base ++ gate ∷ [] → image ≡ base ++ gate ∷ drop (p + 1) image
  from_front gate image is = sym (take-append-drop (p + 1) image) ∙ ap (λ (l : List ℕ). l ++ drop (p + 1) image) is ∙ append_assoc base (gate ∷ []) (drop (p + 1) image)

  pub staged : (gate : ℕ) (rest text : List ℕ) → put (p + 1) text (base ++ gate ∷ rest) ≡ base ++ gate ∷ (text ++ drop (length text) rest)
  staged gate rest text =
      ap (λ (l : List ℕ). l ++ text ++ drop (p + 1 + length text) (base ++ gate ∷ rest)) (front_of gate rest)
      ∙ ap (λ (l : List ℕ). (base ++ gate ∷ []) ++ text ++ l)
      (sym (drop-drop (length text) (p + 1) (base ++ gate ∷ rest)) ∙ ap (λ (l : List ℕ). drop (length text) l) (behind gate rest))
      ∙ append_assoc (base ++ gate ∷ []) text (drop (length text) rest)
      ∙ append_assoc base (gate ∷ []) (text ++ drop (length text) rest)

  pub gated : (gate g : ℕ) (rest : List ℕ) → take p (base ++ gate ∷ rest) ++ g ∷ drop (p + 1) (base ++ gate ∷ rest) ≡ base ++ g ∷ rest
  gated gate g rest =
      ap (λ (l : List ℕ). l ++ g ∷ drop (p + 1) (base ++ gate ∷ rest)) (take_at base (gate ∷ rest) p (sym size))
      ∙ ap (λ (l : List ℕ). base ++ g ∷ l) (behind gate rest)

module _ (head : List ℕ) (entries : List Entry) (p : ℕ) (size : p ≡ length (journal_bytes head entries)) where
  -- the front alone tells the entries
  pub kept_by_front : (bytes image : List ℕ) → HasEntries head entries bytes → take (p + 1) image ≡ take (p + 1) bytes → HasEntries head entries image
  kept_by_front bytes image h same = record {
    gate = h.gate;
    rest = drop (p + 1) image;
    parts = from_front (journal_bytes head entries) p size h.gate image (same ∙ ap (λ (l : List ℕ). take (p + 1) l) h.parts ∙ front_of (journal_bytes head entries) p size h.gate h.rest);
    closed = h.closed;
    each = h.each;
    small = h.small;
  }

  -- an entry that fits, by its bytes
  module _ (entry : Entry) (bytes : List ℕ) (fits : EntryFits entry) (is : bytes ≡ spelling entry) where
    whole_more : journal_bytes head (entries ++ entry ∷ []) ≡ journal_bytes head entries ++ 0xA5 ∷ framed bytes
    whole_more = whole-push head entries entry ∙ ap (λ (l : List ℕ). journal_bytes head entries ++ 0xA5 ∷ framed l) (sym is)

    pub length_more : length (journal_bytes head (entries ++ entry ∷ [])) ≡ p + 5 + length bytes
    length_more = omega (arith, size, ap length whole_more, length-append (journal_bytes head entries) (0xA5 ∷ framed bytes), length-framed bytes)

    module _ (each : AllByRecursion EntryFits entries) (room : p + 6 + length bytes ≤ 2 ^ 45) where
      pub opened : (rest image : List ℕ) → image ≡ journal_bytes head entries ++ 0xA5 ∷ (framed bytes ++ 0 ∷ rest) → HasEntries head (entries ++ entry ∷ []) image
      opened rest image parts = record {
        gate = 0;
        rest = rest;
        parts = parts ∙ sym (append_assoc (journal_bytes head entries) (0xA5 ∷ framed bytes) (0 ∷ rest)) ∙ ap (λ (l : List ℕ). l ++ 0 ∷ rest) (sym whole_more);
        closed = omega arith;
        each = each-push entries entry each fits;
        small = inr (omega (arith, room, length_more));
      }

      -- a file with a frame after any gate has its entry or not
      pub gate_tells : (g : ℕ) (rest image : List ℕ) → image ≡ journal_bytes head entries ++ g ∷ (framed bytes ++ 0 ∷ rest) → HasEntries head entries image
          ⊎ HasEntries head (entries ++ entry ∷ []) image
      gate_tells g rest image parts = elim (cases_eq g 0xA5) [
        | inl is_open ↦ inr (opened rest image (parts ∙ ap (λ (k : ℕ). journal_bytes head entries ++ k ∷ (framed bytes ++ 0 ∷ rest)) is_open))
        | inr shut ↦ inl (record { gate = g; rest = framed bytes ++ 0 ∷ rest; parts = parts; closed = shut; each = each; small = inr (omega (arith, room, size)) })
      ]

abbrev zeros : ℕ → List ℕ
zeros n = replicate n 0

zeros_begin : (n : ℕ) → 1 ≤ n → (k : ℕ) × (zeros n ≡ 0 ∷ zeros k)
zeros_begin zero le = absurd (omega (arith, le))
zeros_begin (suc k) le = (k, refl)

-- the first of some zeros
pub first_zeros : (xs : List ℕ) (m n : ℕ) → xs ≡ zeros m → 1 ≤ n → n ≤ m → (k : ℕ) × (take n xs ≡ 0 ∷ zeros k)
first_zeros xs m n is some le =
    let begin = zeros_begin n some in
    (begin.0, ap (λ (l : List ℕ). take n l) is ∙ take-replicate n m 0 le ∙ begin.1)

-- each image of a file at rest has its entries
pub each_image : (head : List ℕ) (s : State) (gate : ℕ) (entries : List Entry) → IsAtRest head s gate entries → (image : List ℕ) → IsImage s.journal image → HasEntries head entries image
each_image head s gate entries rest image is =
    subst (HasEntries head entries) (sym (synced_image rest.bytes image (subst (λ (f : File). IsImage f image) rest.on_disk is))) rest.history

-- an entry is added to a journal at rest
module _ {head : List ℕ} {entries : List Entry} {p : ℕ} {first : State} (at_rest : IsAtRest head first p entries) where
  abbrev bytes : List ℕ
  bytes = at_rest.bytes

  pub long : p + 1 ≤ length bytes
  long = omega (
    arith,
    ap length at_rest.history.parts,
    length-append (journal_bytes head entries) (at_rest.history.gate ∷ at_rest.history.rest),
    at_rest.end,
  )

  pub seen_is : first.journal.seen ≡ bytes
  seen_is = ap (λ (f : File). f.seen) at_rest.on_disk

  pub keeps_start : KeepsJournal (p + 1) (take (p + 1) bytes) first first
  keeps_start = record {
    journal = subst (KeepsFront (p + 1) (take (p + 1) bytes)) (sym at_rest.on_disk)
        (front_synced (p + 1) (take (p + 1) bytes) bytes long refl);
    slot0 = refl;
    slot1 = refl;
  }

  pub before : (entry : Entry) (s : State) → KeepsJournal (p + 1) (take (p + 1) bytes) first s → BeforeOrAfter head entries entry first s
  before entry s keeps = record {
    journal = λ image is_image.
        let front = front_image (p + 1) (take (p + 1) bytes) s.journal image keeps.journal is_image in
        inl (kept_by_front head entries p at_rest.end bytes image at_rest.history front.0);
    slot0 = keeps.slot0;
    slot1 = keeps.slot1;
  }

  -- text are the bytes of the entry, and fill is what was written after the closed gate
  module _ (text fill : List ℕ) where
    abbrev behind_fill : List ℕ
    behind_fill = drop (length (framed text ++ 0 ∷ fill)) at_rest.history.rest

    abbrev tail : List ℕ
    tail = fill ++ behind_fill

    -- the file with the frame after the closed gate
    abbrev pub with_frame : List ℕ
    with_frame = put (p + 1) (framed text ++ 0 ∷ fill) bytes

    with_frame_is : with_frame ≡ journal_bytes head entries ++ at_rest.history.gate ∷ (framed text ++ 0 ∷ tail)
    with_frame_is =
        ap (λ (l : List ℕ). put (p + 1) (framed text ++ 0 ∷ fill) l) at_rest.history.parts
        ∙ staged (journal_bytes head entries) p at_rest.end at_rest.history.gate at_rest.history.rest (framed text ++ 0 ∷ fill)
        ∙ ap (λ (l : List ℕ). journal_bytes head entries ++ at_rest.history.gate ∷ l) (append_assoc (framed text) (0 ∷ fill) behind_fill)

    with_gate : (g : ℕ) → take p with_frame ++ g ∷ drop (p + 1) with_frame ≡ journal_bytes head entries ++ g ∷ (framed text ++ 0 ∷ tail)
    with_gate g =
        ap (λ (l : List ℕ). take p l ++ g ∷ drop (p + 1) l) with_frame_is
        ∙ gated (journal_bytes head entries) p at_rest.end at_rest.history.gate g (framed text ++ 0 ∷ tail)

    pub longer : p < length with_frame
    longer = omega (
      arith,
      ap length with_frame_is,
      length-append (journal_bytes head entries) (at_rest.history.gate ∷ (framed text ++ 0 ∷ tail)),
      at_rest.end,
    )

    module _ (entry : Entry) (fits : EntryFits entry) (is : text ≡ spelling entry) (room : p + 6 + length text ≤ 2 ^ 45) where
      pub after : (mid s : State) → mid.slot0 ≡ first.slot0 → mid.slot1 ≡ first.slot1 → IsButOne p with_frame mid s
          → BeforeOrAfter head entries entry first s
      after mid s slot0 slot1 but = record {
        journal = λ image is_image.
            let g = get_or image p 0 in
            gate_tells head entries p at_rest.end entry text fits is at_rest.history.each room g tail image
            (but.journal image is_image ∙ with_gate g);
        slot0 = but.slot0 ∙ slot0;
        slot1 = but.slot1 ∙ slot1;
      }

      pub done : {T E : Type 0} (result : Result T E) (new : State)
          → OnOk result (new.journal ≡ synced_file (put p (0xA5 ∷ []) with_frame))
          → OnOk result (IsAtRest head new (p + 5 + length text) (entries ++ entry ∷ []))
      done (Ok x) new on_disk =
          let file = put p (0xA5 ∷ []) with_frame in
          record {
            bytes = file;
            on_disk = on_disk;
            history = opened head entries p at_rest.end entry text fits is at_rest.history.each room tail file
                (append_assoc (take p with_frame) (0xA5 ∷ []) (drop (p + 1) with_frame) ∙ with_gate 0xA5);
            end = sym (length_more head entries p at_rest.end entry text fits is);
          }
      done (Err e) new on_disk = tt
