-- After a head a file has one list of entries, and reading returns it.
use Rattle.std.proofs.Common.{◌≡◌, ◌≢◌, ◌⊎◌, inl, inr, ⊎_elim, ℕ, ◌+◌, ◌^◌, ◌<◌, ◌≤◌, eqb, ltb, false, List, [], ◌∷◌, ◌++◌, length, get_or, take, drop, refl, sym, ◌∙◌}
use Rattle.std.proofs.Common.{ap, subst, append_assoc, length-append, Ok, arith}
use Rattle.std.specs.Prelude.{nat_le}
use Rattle.std.specs.List.{flat_map, AllByRecursion}
use Rattle.std.specs.Int.{w32, to_be_bytes, from_be_bytes}
use Rattle.std.proofs.lemmas.Bool.{lt-leb, le-ltb, ne_eqb}
use Rattle.std.proofs.lemmas.Nat.{from_be_bytes-to_be_bytes_4}
use Rattle.std.proofs.lemmas.List.{take_at, drop_at, append_cancel_left, get_or-drop, length-drop, drop-drop}
use Rattle.office_types.specs.declared.command.Entry.{Entry}
use Rattle.entry_codec.specs.Reading.{entry_of}
use Rattle.entry_codec.specs.Spelling.{EntryFits, spelling}
use Rattle.entry_codec.proofs.Laws.{entry_again, spelling_tells}
use Rattle.entry_codec.proofs.Sizes.{entry_small}
use Rattle.meter_journal.specs.History.{framed, journal_bytes, end_gate, HasEntries}
use Rattle.meter_journal.specs.Reading.{Ended, Whole, Broken, size_at, body_at, frame_at, HasPrefix, HasNextAt}

abbrev Frames : List Entry → List ℕ
Frames entries = flat_map (λ e. 0xA5 ∷ framed (spelling e)) entries

text_small : (e : Entry) → EntryFits e → length (spelling e) < 2 ^ 32
text_small e fits = entry_small (spelling e) (e, fits, refl)

-- framed bytes tell their bytes and what follows
apart : (a b x y : List ℕ) → length a < 2 ^ 32 → length b < 2 ^ 32 → framed a ++ x ≡ framed b ++ y → (a ≡ b) × (x ≡ y)
apart a b x y small_a small_b is =
    let la = to_be_bytes w32 (length a) in
    let lb = to_be_bytes w32 (length b) in
    let joined : la ++ (a ++ x) ≡ lb ++ (b ++ y) = sym (append_assoc la a x) ∙ is ∙ append_assoc lb b y in
    let number : la ≡ lb = sym (take_at la (a ++ x) 4 refl) ∙ ap (λ (l : List ℕ). take 4 l) joined ∙ take_at lb (b ++ y) 4 refl in
    let size : length a ≡ length b = sym (from_be_bytes-to_be_bytes_4 (length a) small_a) ∙ ap (λ (l : List ℕ). from_be_bytes w32 l) number ∙ from_be_bytes-to_be_bytes_4 (length b) small_b in
    let rest : a ++ x ≡ b ++ y = sym (drop_at la (a ++ x) 4 refl) ∙ ap (λ (l : List ℕ). drop 4 l) joined ∙ drop_at lb (b ++ y) 4 refl in (
      sym (take_at a x (length a) refl) ∙ ap (λ (l : List ℕ). take (length a) l) rest ∙ take_at b y (length a) (sym size),
      sym (drop_at a x (length a) refl) ∙ ap (λ (l : List ℕ). drop (length a) l) rest ∙ drop_at b y (length a) (sym size),
    )

first_of_list : (x y : ℕ) (xs ys : List ℕ) → x ∷ xs ≡ y ∷ ys → x ≡ y
first_of_list x y xs ys is = ap (λ (l : List ℕ). get_or l 0 0) is

-- what stands after a front: a closed gate and no entry more, or the next entry and what follows it
abbrev Behind : (front entries : List Entry) (d : List ℕ) (g : ℕ) (rest : List ℕ) → Type 0
Behind front entries d g rest = ((front ≡ entries) × (d ≡ g ∷ rest))
    ⊎ ((e : Entry) × (more : List Entry) × (entries ≡ front ++ e ∷ more) × EntryFits e × (d ≡ 0xA5 ∷ (framed (spelling e) ++ (Frames more ++ g ∷ rest))))

behind_more : (f : Entry) (front entries : List Entry) (d : List ℕ) (g : ℕ) (rest : List ℕ) → Behind front entries d g rest → Behind (f ∷ front) (f ∷ entries) d g rest
behind_more f front entries d g rest (inl x) = inl (ap (λ (l : List Entry). f ∷ l) x.0, x.1)
behind_more f front entries d g rest (inr x) = inr (x.0, x.1, ap (λ (l : List Entry). f ∷ l) x.2, x.3, x.4)

behind : (front entries : List Entry) (d : List ℕ) (g : ℕ) (rest : List ℕ) → AllByRecursion EntryFits front → AllByRecursion EntryFits entries → g ≢ 0xA5
    → Frames front ++ d ≡ Frames entries ++ g ∷ rest → Behind front entries d g rest
behind [] [] d g rest all each shut is = inl (refl, is)
behind [] (e ∷ entries) d g rest all each shut is = inr (e, entries, refl, each.0, is ∙ ap (λ (l : List ℕ). 0xA5 ∷ l) (append_assoc (framed (spelling e)) (Frames entries) (g ∷ rest)))
behind (f ∷ front) [] d g rest all each shut is = absurd (shut (sym (first_of_list 0xA5 g ((framed (spelling f) ++ Frames front) ++ d) rest is)))
behind (f ∷ front) (e ∷ entries) d g rest all each shut is =
    let joined : framed (spelling f) ++ (Frames front ++ d) ≡ framed (spelling e) ++ (Frames entries ++ g ∷ rest) =
    sym (append_assoc (framed (spelling f)) (Frames front) d) ∙ ap (λ (l : List ℕ). drop 1 l) is ∙ append_assoc (framed (spelling e)) (Frames entries) (g ∷ rest) in
    let both = apart (spelling f) (spelling e) (Frames front ++ d) (Frames entries ++ g ∷ rest) (text_small f all.0) (text_small e each.0) joined in
    let same : f ≡ e = spelling_tells f e all.0 each.0 both.0 in
    let later : Behind (f ∷ front) (f ∷ entries) d g rest = behind_more f front entries d g rest (behind front entries d g rest all.1 each.1 shut both.1) in
    subst (λ (x : Entry). Behind (f ∷ front) (x ∷ entries) d g rest) same later

-- after one head
behind_head : (head : List ℕ) (front entries : List Entry) (d file : List ℕ) (has : HasEntries head entries file)
    → AllByRecursion EntryFits front → file ≡ journal_bytes head front ++ d → Behind front entries d has.gate has.rest
unfolding journal_bytes
behind_head head front entries d file has all parts =
    behind front entries d has.gate has.rest all has.each has.closed
    (append_cancel_left head (Frames front ++ d) (Frames entries ++ has.gate ∷ has.rest)
    (sym (append_assoc head (Frames front) d) ∙ sym parts ∙ has.parts ∙ append_assoc head (Frames entries) (has.gate ∷ has.rest)))

not_behind : (a b : List Entry) (g h : ℕ) (x y : List ℕ) → g ≢ 0xA5 → Behind a b (g ∷ x) h y → a ≡ b
not_behind a b g h x y shut (inl same) = same.0
not_behind a b g h x y shut (inr t) = absurd (shut (first_of_list g 0xA5 x (framed (spelling t.0) ++ (Frames t.1 ++ h ∷ y)) t.4))

-- a file holds one list of entries
pub entries_unique : (head : List ℕ) (a b : List Entry) (file : List ℕ) → HasEntries head a file → HasEntries head b file → a ≡ b
entries_unique head a b file first second =
    not_behind a b first.gate second.gate first.rest second.rest first.closed (behind_head head a b (first.gate ∷ first.rest) file second first.each first.parts)

-- ---- what reading gives at a gate

inside : (gate : ℕ) (file d : List ℕ) → drop gate file ≡ d → 1 ≤ length d → gate + length d ≡ length file
inside gate file d is some = omega (arith, some, ap length is, length-drop gate file)

byte_is : (gate g : ℕ) (file rest : List ℕ) → drop gate file ≡ g ∷ rest → get_or file gate 0 ≡ g
byte_is gate g file rest is = ap (λ (k : ℕ). get_or file k 0) (omega arith) ∙ sym (get_or-drop gate file 0 0) ∙ ap (λ (l : List ℕ). get_or l 0 0) is

ended_is : (gate g : ℕ) (file rest : List ℕ) → drop gate file ≡ g ∷ rest → g ≢ 0xA5 → frame_at gate file ≡ Ended
unfolding frame_at
ended_is gate g file rest is shut =
    let long : nat_le (length file) gate ≡ false = lt-leb (length file) gate (omega (arith, inside gate file (g ∷ rest) is (omega arith))) in
    let closed : eqb (get_or file gate 0) 0xA5 ≡ false = ne_eqb (get_or file gate 0) 0xA5 (λ same. shut (sym (byte_is gate g file rest is) ∙ same)) in
    rw (long, closed) refl

-- the frame of an entry stands after an open gate, with something after it, in bounds
record Stands (gate : ℕ) (file : List ℕ) (e : Entry) (tail : List ℕ) : Type 0 where
  fits : EntryFits e
  parts : drop gate file ≡ 0xA5 ∷ (framed (spelling e) ++ tail)
  some : 1 ≤ length tail
  room : gate + 6 + length (spelling e) ≤ 2 ^ 45

module _ (gate : ℕ) (file : List ℕ) (e : Entry) (tail : List ℕ) (stands : Stands gate file e tail) where
  abbrev n : ℕ
  n = length (spelling e)

  long : gate + 6 + n ≤ length file
  long = omega (
    arith,
    inside gate file (0xA5 ∷ (framed (spelling e) ++ tail)) stands.parts (omega arith),
    length-append (framed (spelling e)) tail,
    length-append (to_be_bytes w32 n) (spelling e),
    stands.some,
  )

  after_gate : drop (gate + 1) file ≡ to_be_bytes w32 n ++ (spelling e ++ tail)
  after_gate = ap (λ (k : ℕ). drop k file) (omega arith) ∙ sym (drop-drop 1 gate file) ∙ ap (λ (l : List ℕ). drop 1 l) stands.parts ∙ append_assoc (to_be_bytes w32 n) (spelling e) tail

  size_is : size_at gate file ≡ n
  size_is =
      ap (λ (l : List ℕ). from_be_bytes w32 (take 4 l)) after_gate
      ∙ ap (λ (l : List ℕ). from_be_bytes w32 l) (take_at (to_be_bytes w32 n) (spelling e ++ tail) 4 refl)
      ∙ from_be_bytes-to_be_bytes_4 n (text_small e stands.fits)

  after_size : drop (gate + 5) file ≡ spelling e ++ tail
  after_size = ap (λ (k : ℕ). drop k file) (omega arith) ∙ sym (drop-drop 4 (gate + 1) file) ∙ ap (λ (l : List ℕ). drop 4 l) after_gate ∙ drop_at (to_be_bytes w32 n) (spelling e ++ tail) 4 refl

  entry_is : entry_of (take n (drop (gate + 5) file)) ≡ Ok e
  entry_is = ap (λ (l : List ℕ). entry_of (take n l)) after_size ∙ ap entry_of (take_at (spelling e) tail n refl) ∙ entry_again e stands.fits

  body_is : body_at gate file ≡ Whole e (gate + 5 + n)
  unfolding body_at
  body_is =
      let a : ltb (length file) (gate + 5) ≡ false = le-ltb (length file) (gate + 5) (omega (arith, long)) in
      let b : ltb (length file) (gate + 6 + n) ≡ false = le-ltb (length file) (gate + 6 + n) long in
      let c : ltb (2 ^ 45) (gate + 6 + n) ≡ false = le-ltb (2 ^ 45) (gate + 6 + n) stands.room in
      rw (a, size_is, b, c, entry_is) refl

  whole_is : frame_at gate file ≡ Whole e (gate + 5 + n)
  unfolding frame_at
  whole_is =
      let inner : nat_le (length file) gate ≡ false = lt-leb (length file) gate (omega (arith, long)) in
      rw (inner, byte_is gate 0xA5 file (framed (spelling e) ++ tail) stands.parts, body_is) refl

some_entries : (front more : List Entry) (e : Entry) → front ++ e ∷ more ≢ []
some_entries [] more e is = cc
some_entries (f ∷ front) more e is = cc

goes_on_by : (head : List ℕ) (front entries : List Entry) (gate : ℕ) (file : List ℕ) (has : HasEntries head entries file)
    → HasPrefix head front gate file → Behind front entries (drop gate file) has.gate has.rest → HasNextAt front entries gate file
goes_on_by head front entries gate file has prefix (inl x) = inl (x.0, ended_is gate has.gate file has.rest x.1 has.closed)
goes_on_by head front entries gate file has prefix (inr x) =
    let e = x.0 in
    let tail = Frames x.1 ++ has.gate ∷ has.rest in
    let small : end_gate head entries + 1 ≤ 2 ^ 45 = ⊎_elim (λ none. absurd (some_entries front x.1 e (sym x.2 ∙ none))) (λ le. le) has.small in
    let room : gate + 6 + length (spelling e) ≤ 2 ^ 45 = omega (
      arith,
      small,
      ap length has.parts,
      length-append (journal_bytes head entries) (has.gate ∷ has.rest),
      inside gate file (0xA5 ∷ (framed (spelling e) ++ tail)) x.4 (omega arith),
      length-append (framed (spelling e)) tail,
      length-append (to_be_bytes w32 (length (spelling e))) (spelling e),
      length-append (Frames x.1) (has.gate ∷ has.rest),
    ) in
    inr (e, x.1, x.2, whole_is gate file e tail (record { fits = x.3; parts = x.4; some = omega (arith, length-append (Frames x.1) (has.gate ∷ has.rest)); room = room }))

-- a file that holds these entries is read without damage up to its end
pub goes_on : (head : List ℕ) (front entries : List Entry) (gate : ℕ) (file : List ℕ) → HasEntries head entries file → HasPrefix head front gate file → HasNextAt front entries gate file
goes_on head front entries gate file has prefix = goes_on_by head front entries gate file has prefix (behind_head head front entries (drop gate file) file has prefix.each prefix.parts)

unbroken : (front entries : List Entry) (gate : ℕ) (file : List ℕ) → HasNextAt front entries gate file → frame_at gate file ≢ Broken
unbroken front entries gate file (inl x) is = let both = sym x.1 ∙ is in cc
unbroken front entries gate file (inr x) is = let both = sym x.3 ∙ is in cc

pub never_broken : (head : List ℕ) (front entries : List Entry) (gate : ℕ) (file : List ℕ) → HasEntries head entries file → HasPrefix head front gate file → frame_at gate file ≢ Broken
never_broken head front entries gate file has prefix = unbroken front entries gate file (goes_on head front entries gate file has prefix)
