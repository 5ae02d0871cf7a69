-- A history, cut at one of its gates.
use Rattle.std.proofs.Common.{◌≡◌, inl, inr, ⊎_elim, ℕ, ◌+◌, ◌^◌, ◌<◌, ◌≤◌, List, [], ◌∷◌, ◌++◌, length, take, drop, Option, Some, None, refl, sym, ◌∙◌, ap, subst, arith, append_assoc, append-nil, length-append, take-append-drop}
use Rattle.std.specs.Prelude.{IsSome, option_and_then}
use Rattle.std.specs.List.{flat_map, AllByRecursion}
use Rattle.std.proofs.lemmas.Grind.{flat_map-append}
use Rattle.std.proofs.lemmas.List.{take_at, drop_at}
use Rattle.office_types.specs.declared.command.Entry.{Entry}
use Rattle.plain_office.specs.Office.{Office}
use Rattle.plain_office.specs.Run.{run, run_from, accept}
use Rattle.entry_codec.specs.Spelling.{EntryFits, spelling}
use Rattle.meter_journal.specs.History.{framed, journal_bytes, end_gate, header, HasEntries, IsAtRest}
use Rattle.meter_journal.specs.Reading.{HasPrefix}
use Rattle.meter_journal.proofs.History.{whole-none}

-- the entries behind others, as those behind a longer head
pub bytes_parted : (head : List ℕ) (before after : List Entry) → journal_bytes head (before ++ after) ≡ journal_bytes (journal_bytes head before) after
unfolding journal_bytes
bytes_parted head before after =
    ap (λ (l : List ℕ). head ++ l) (flat_map-append (λ (e : Entry). 0xA5 ∷ framed (spelling e)) before after)
    ∙ sym (append_assoc head (flat_map (λ (e : Entry). 0xA5 ∷ framed (spelling e)) before) (flat_map (λ (e : Entry). 0xA5 ∷ framed (spelling e)) after))

pub each_parted : (before after : List Entry) → AllByRecursion EntryFits (before ++ after) → AllByRecursion EntryFits before × AllByRecursion EntryFits after
each_parted [] after each = (tt, each)
each_parted (e ∷ before) after each = let rest = each_parted before after each.1 in ((each.0, rest.0), rest.1)

pub run_parted : (start : Option Office) (before after : List Entry) → run_from start (before ++ after) ≡ run_from (run_from start before) after
run_parted start [] after = refl
run_parted start (e ∷ before) after = run_parted (option_and_then (λ p. accept p e) start) before after

-- from the empty office
pub run_since : (before after : List Entry) (office : Office) → run before ≡ Some office → run (before ++ after) ≡ run_from (Some office) after
unfolding run
run_since before after office is = run_parted (Some _) before after ∙ ap (λ (o : Option Office). run_from o after) is

abbrev Frames : List Entry → List ℕ
Frames entries = flat_map (λ e. 0xA5 ∷ framed (spelling e)) entries

journal_is : (head : List ℕ) (entries : List Entry) → journal_bytes head entries ≡ head ++ Frames entries
unfolding journal_bytes
journal_is head entries = refl

-- the bytes before a gate
pub front_is : (head file : List ℕ) (before after : List Entry) → HasEntries head (before ++ after) file
    → take (end_gate head before) file ≡ journal_bytes head before
front_is head file before after has =
    let base = journal_bytes head before in
    let tail = Frames after ++ has.gate ∷ has.rest in
    let parts : file ≡ base ++ tail =
    has.parts
    ∙ ap (λ (l : List ℕ). l ++ has.gate ∷ has.rest) (bytes_parted head before after ∙ journal_is base after)
    ∙ append_assoc base (Frames after) (has.gate ∷ has.rest) in
    ap (λ (l : List ℕ). take (end_gate head before) l) parts ∙ take_at base tail (end_gate head before) refl

-- a gate lies within the file, and not behind the end gate
pub gate_inside : (head file : List ℕ) (before after : List Entry) → HasEntries head (before ++ after) file → end_gate head before < length file
gate_inside head file before after has =
    let base = journal_bytes head before in
    omega (
      arith,
      ap length has.parts,
      length-append (journal_bytes head (before ++ after)) (has.gate ∷ has.rest),
      ap length (bytes_parted head before after ∙ journal_is base after),
      length-append base (Frames after),
    )

pub gate_low : (head : List ℕ) (before after : List Entry) → end_gate head before ≤ end_gate head (before ++ after)
gate_low head before after =
    let base = journal_bytes head before in
    omega (arith, ap length (bytes_parted head before after ∙ journal_is base after), length-append base (Frames after))

no_tail : (before after : List Entry) → before ++ after ≡ [] → after ≡ []
no_tail [] after is = is
no_tail (e ∷ before) after is = absurd cc

-- behind the bytes before a gate a file has the entries from that gate on
pub tail_has : (head file : List ℕ) (before after : List Entry) → HasEntries head (before ++ after) file → HasEntries (journal_bytes head before) after file
tail_has head file before after has = record {
  gate = has.gate;
  rest = has.rest;
  parts = has.parts ∙ ap (λ (l : List ℕ). l ++ has.gate ∷ has.rest) (bytes_parted head before after);
  closed = has.closed;
  each = (each_parted before after has.each).1;
  small = ⊎_elim (λ none. inl (no_tail before after none))
      (λ le. inr (subst (λ (l : List ℕ). length l + 1 ≤ 2 ^ 45) (bytes_parted head before after) le)) has.small;
}
