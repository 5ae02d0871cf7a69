-- Reading returns the entries that the file has.
use Rattle.std.proofs.Common.{subst, inl, inr, ⊎_elim, ◌<◌, ◌≡◌, ◌≢◌, ℕ, ◌+◌, ◌^◌, ◌≤◌, Bool, true, false, cond, eqb, ltb, ◌||◌, List, [], ◌∷◌, ◌++◌, length, get_or}
use Rattle.std.proofs.Common.{take, drop, Option, Some, None, Result, Ok, Err, refl, sym, ap, ◌∙◌, append_assoc, take-append-drop, arith}
use Rattle.std.specs.Prelude.{nat_le}
use Rattle.std.specs.Int.{w32, to_be_bytes}
use Rattle.std.proofs.lemmas.Bool.{eqb-true, eqb-false, ltb-false, leb-false}
use Rattle.std.proofs.lemmas.Nat.{be_bytes_4}
use Rattle.std.proofs.lemmas.List.{length-take, length-drop, drop-drop, drop_more}
use Rattle.office_types.specs.declared.command.Entry.{Entry}
use Rattle.entry_codec.specs.Reading.{entry_of}
use Rattle.entry_codec.specs.Spelling.{EntryFits, entry_limit, spelling}
use Rattle.entry_codec.proofs.Bytes.{IsBytes, IsBytes-drop, IsBytes-take}
use Rattle.entry_codec.proofs.Laws.{entry_takes}
use Rattle.entry_codec.proofs.Sizes.{spelling_short}
use Rattle.meter_journal.specs.History.{framed, journal_bytes, HasEntries, IsAtRest}
use Rattle.disk_core.specs.Files.{File, State, synced_file}
use Rattle.meter_journal.specs.Reading.{Frame, Ended, Whole, Broken, entry_frame, entry_frame_at, size_at, body_at, frame_at, NextGives, HasPrefix}
use Rattle.meter_journal.proofs.History.{whole-none, whole-push, end_gate-push, each-push}

not_broken : (b : Bool) (f : Frame) (e : Entry) (n : ℕ) → cond b Broken f ≡ Whole e n → (b ≡ false) × (f ≡ Whole e n)
not_broken true f e n is = absurd cc
not_broken false f e n is = (refl, is)

not_ended : (b : Bool) (f : Frame) (e : Entry) (n : ℕ) → cond b f Ended ≡ Whole e n → (b ≡ true) × (f ≡ Whole e n)
not_ended true f e n is = (refl, is)
not_ended false f e n is = absurd cc

whole_of : (r : Result Entry ℕ) (next : ℕ) (e : Entry) (n : ℕ) → entry_frame next r ≡ Whole e n → (r ≡ Ok e) × (next ≡ n)
whole_of (Ok x) next e n is = (cc, cc)
whole_of (Err at) next e n is = absurd cc

neither : (a b : Bool) → a || b ≡ false → (a ≡ false) × (b ≡ false)
neither true b is = absurd cc
neither false b is = (refl, is)

record Body (gate : ℕ) (file : List ℕ) (e : Entry) (next : ℕ) : Type 0 where
  long : gate + 5 ≤ length file
  fits : gate + 6 + size_at gate file ≤ length file
  small : gate + 6 + size_at gate file ≤ 2 ^ 45
  entry : entry_of (take (size_at gate file) (drop (gate + 5) file)) ≡ Ok e
  next_is : next ≡ gate + 5 + size_at gate file

body_is : (gate : ℕ) (file : List ℕ) (e : Entry) (next : ℕ) → body_at gate file ≡ Whole e next → Body gate file e next
unfolding body_at
body_is gate file e next is =
    let n = size_at gate file in
    let a = not_broken (ltb (length file) (gate + 5)) (cond (ltb (length file) (gate + 6 + n) || ltb (2 ^ 45) (gate + 6 + n)) Broken (entry_frame_at gate n file)) e next is in
    let b = not_broken (ltb (length file) (gate + 6 + n) || ltb (2 ^ 45) (gate + 6 + n)) (entry_frame_at gate n file) e next a.1 in
    let t = neither (ltb (length file) (gate + 6 + n)) (ltb (2 ^ 45) (gate + 6 + n)) b.0 in
    let c = whole_of (entry_of (take n (drop (gate + 5) file))) (gate + 5 + n) e next b.1 in
    record { long = ltb-false _ _ a.0; fits = ltb-false _ _ t.0; small = ltb-false _ _ t.1; entry = c.0; next_is = sym c.1 }

-- the frame as bytes
framed_is : (gate : ℕ) (file : List ℕ) (e : Entry) (next : ℕ) → IsBytes file → Body gate file e next
    → (drop (gate + 1) file ≡ framed (spelling e) ++ drop next file) × EntryFits e × (next ≡ gate + 5 + length (spelling e))
framed_is gate file e next bytes body =
    let n = size_at gate file in
    let number_on = drop (gate + 1) file in
    let entry_on = drop (gate + 5) file in
    let read = entry_takes (take n entry_on) e (IsBytes-take n entry_on (IsBytes-drop (gate + 5) file bytes)) body.entry in
    let size : length (spelling e) ≡ n =
    omega (arith, ap length read.1, length-take n entry_on, length-drop (gate + 5) file, body.fits) in
    let number : to_be_bytes w32 n ≡ take 4 number_on =
    be_bytes_4 (take 4 number_on) n (omega (arith, length-take 4 number_on, length-drop (gate + 1) file, body.long))
    (IsBytes-take 4 number_on (IsBytes-drop (gate + 1) file bytes)) refl in
    let after_number : drop 4 number_on ≡ entry_on = drop-drop 4 (gate + 1) file ∙ ap (λ (k : ℕ). drop k file) (omega arith) in
    let after_entry : drop n entry_on ≡ drop next file = drop-drop n (gate + 5) file ∙ ap (λ (k : ℕ). drop k file) (sym body.next_is) in
    let entry_parts : drop 4 number_on ≡ spelling e ++ drop next file =
    after_number
    ∙ sym (take-append-drop n entry_on)
    ∙ ap (λ (l : List ℕ). l ++ drop n entry_on) read.1
    ∙ ap (λ (l : List ℕ). spelling e ++ l) after_entry in
    let parts : number_on ≡ to_be_bytes w32 n ++ (spelling e ++ drop next file) =
    sym (take-append-drop 4 number_on)
    ∙ ap (λ (l : List ℕ). l ++ drop 4 number_on) (sym number)
    ∙ ap (λ (l : List ℕ). to_be_bytes w32 n ++ l) entry_parts in (
      parts
          ∙ ap (λ (k : ℕ). to_be_bytes w32 k ++ (spelling e ++ drop next file)) (sym size)
          ∙ sym (append_assoc (to_be_bytes w32 (length (spelling e))) (spelling e) (drop next file)),
      read.0,
      body.next_is ∙ ap (λ (k : ℕ). gate + 5 + k) (sym size),
    )

-- the body of a whole frame
whole_body : (gate : ℕ) (file : List ℕ) (e : Entry) (next : ℕ) → frame_at gate file ≡ Whole e next
    → (get_or file gate 0 ≡ 0xA5) × Body gate file e next
unfolding frame_at
whole_body gate file e next is =
    let a = not_broken (nat_le (length file) gate) (cond (eqb (get_or file gate 0) 0xA5) (body_at gate file) Ended) e next is in
    let b = not_ended (eqb (get_or file gate 0) 0xA5) (body_at gate file) e next a.1 in
    (eqb-true _ _ b.0, body_is gate file e next b.1)

-- it ends after its gate, within the file and within 2^45 bytes
pub frame_next : (gate : ℕ) (file : List ℕ) (e : Entry) (next : ℕ) → frame_at gate file ≡ Whole e next
    → (gate < next) × (next < length file) × (next ≤ 2 ^ 45)
frame_next gate file e next is =
    let body = (whole_body gate file e next is).1 in
    (omega (arith, body.next_is), omega (arith, body.next_is, body.fits), omega (arith, body.next_is, body.small))

pub prefix_start : (head : List ℕ) (gate : ℕ) (file : List ℕ) → head ≡ take gate file → length head ≡ gate → HasPrefix head [] gate file
prefix_start head gate file is size = record {
  parts = sym (take-append-drop gate file) ∙ ap (λ (l : List ℕ). l ++ drop gate file) (sym is ∙ sym (whole-none head));
  size = omega (arith, size, ap length (whole-none head));
  each = tt;
  small = inl refl;
}

pub prefix_more : (head : List ℕ) (entries : List Entry) (gate : ℕ) (file : List ℕ) (e : Entry) (next : ℕ) → IsBytes file
    → HasPrefix head entries gate file → frame_at gate file ≡ Whole e next → HasPrefix head (entries ++ e ∷ []) next file
prefix_more head entries gate file e next bytes prefix is =
    let stands = whole_body gate file e next is in
    let body = stands.1 in
    let f = framed_is gate file e next bytes body in
    let frame = 0xA5 ∷ framed (spelling e) in
    let here : drop gate file ≡ 0xA5 ∷ (framed (spelling e) ++ drop next file) =
    drop_more file gate 0 (omega (arith, body.long)) ∙ (λ i. stands.0 i ∷ f.0 i) in
    record {
      parts = prefix.parts
          ∙ ap (λ (l : List ℕ). journal_bytes head entries ++ l) here
          ∙ sym (append_assoc (journal_bytes head entries) frame (drop next file))
          ∙ ap (λ (l : List ℕ). l ++ drop next file) (sym (whole-push head entries e));
      size = omega (arith, f.2, prefix.size, end_gate-push head entries e);
      each = each-push entries e prefix.each f.1;
      small = inr (omega (arith, body.small, body.next_is));
    }

never_ended : (a b : Bool) (next : ℕ) (r : Result Entry ℕ) → cond a Broken (cond b Broken (entry_frame next r)) ≢ Ended
never_ended true b next r is = cc
never_ended false true next r is = cc
never_ended false false next (Ok e) is = cc
never_ended false false next (Err at) is = cc

body_goes_on : (gate : ℕ) (file : List ℕ) → body_at gate file ≢ Ended
unfolding body_at
body_goes_on gate file is =
    let n = size_at gate file in
    never_ended (ltb (length file) (gate + 5)) (ltb (length file) (gate + 6 + n) || ltb (2 ^ 45) (gate + 6 + n)) (gate + 5 + n)
    (entry_of (take n (drop (gate + 5) file))) is

-- a frame that claims more bytes than an entry has
module _ (gate : ℕ) (file : List ℕ) (bytes : IsBytes file) (long : entry_limit < size_at gate file) where
  broken : (f : Frame) → body_at gate file ≡ f → body_at gate file ≡ Broken
  broken Ended is = absurd (body_goes_on gate file is)
  broken Broken is = is
  broken (Whole e next) is =
      let body = body_is gate file e next is in
      let f = framed_is gate file e next bytes body in
      absurd (omega (arith, spelling_short e f.1, f.2, body.next_is, long))

  pub body_long : body_at gate file ≡ Broken
  body_long = broken (body_at gate file) refl

closed_gate : (a b : Bool) (f : Frame) → f ≢ Ended → cond a Broken (cond b f Ended) ≡ Ended → (a ≡ false) × (b ≡ false)
closed_gate true b f not is = absurd cc
closed_gate false true f not is = absurd (not is)
closed_gate false false f not is = (refl, refl)

pub prefix_end : (head : List ℕ) (entries : List Entry) (gate : ℕ) (file : List ℕ) → HasPrefix head entries gate file → frame_at gate file ≡ Ended → HasEntries head entries file
unfolding frame_at
prefix_end head entries gate file prefix is =
    let t = closed_gate (nat_le (length file) gate) (eqb (get_or file gate 0) 0xA5) (body_at gate file) (body_goes_on gate file) is in
    record {
      gate = get_or file gate 0;
      rest = drop (gate + 1) file;
      parts = prefix.parts ∙ ap (λ (l : List ℕ). journal_bytes head entries ++ l) (drop_more file gate 0 (leb-false _ _ t.0));
      closed = eqb-false _ _ t.1;
      each = prefix.each;
      small = ⊎_elim inl (λ le. inr (omega (arith, le, prefix.size))) prefix.small;
    }

next_whole : (o : Option Entry) (e : Entry) (old new : ℕ) (frame : Frame) → o ≡ Some e → NextGives (Ok o) old new frame → frame ≡ Whole e new
next_whole o e old new frame is gives = subst (λ (x : Option Entry). NextGives (Ok x) old new frame) is gives

next_ended : (o : Option Entry) (old new : ℕ) (frame : Frame) → o ≡ None → NextGives (Ok o) old new frame → (new ≡ old) × (frame ≡ Ended)
next_ended o old new frame is gives = subst (λ (x : Option Entry). NextGives (Ok x) old new frame) is gives

-- a journal is read on: its files are still those of the start
module _ {head : List ℕ} {entries : List Entry} {gate : ℕ} {file : List ℕ} {first mid : State} (prefix : HasPrefix head entries gate file)
    (same : mid ≡ first) (on_disk : first.journal ≡ synced_file file) where
  seen : mid.journal.seen ≡ file
  seen = ap (λ (s : State). s.journal.seen) same ∙ ap (λ (f : File). f.seen) on_disk

  -- one entry more
  pub read_more : (next : ℕ) (o : Option Entry) (e : Entry) → ((i : ℕ) → get_or first.journal.seen i 0 < 256) → o ≡ Some e
      → NextGives (Ok o) gate next (frame_at gate mid.journal.seen) → HasPrefix head (entries ++ e ∷ []) next file
  read_more next o e bytes is gives =
      let whole_frame : frame_at gate file ≡ Whole e next =
      sym (ap (frame_at gate) seen) ∙ next_whole o e gate next (frame_at gate mid.journal.seen) is gives in
      let small : IsBytes file = subst (λ (l : List ℕ). (i : ℕ) → get_or l i 0 < 256) (ap (λ (f : File). f.seen) on_disk) bytes in
      prefix_more head entries gate file e next small prefix whole_frame

  -- after the last entry
  pub read_end : (new : State) (next : ℕ) (o : Option Entry) → new ≡ mid → o ≡ None
      → NextGives (Ok o) gate next (frame_at gate mid.journal.seen) → IsAtRest head new next entries
  read_end new next o still is gives =
      let told = next_ended o gate next (frame_at gate mid.journal.seen) is gives in
      record {
        bytes = file;
        on_disk = ap (λ (s : State). s.journal) (still ∙ same) ∙ on_disk;
        history = prefix_end head entries gate file prefix (sym (ap (frame_at gate) seen) ∙ told.1);
        end = told.0 ∙ prefix.size;
      }
