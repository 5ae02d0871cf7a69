-- The entries of a journal behind a place, read and done again one by one.
use Rattle.std.proofs.Common.{◌≡◌, ◌⊎◌, ℕ, ◌+◌, ◌<◌, ◌≤◌, ◌^◌, Bool, eqb, cond, true, List, [], ◌∷◌, ◌++◌, length, take, get_or, sym, ap, ◌∙◌, subst, refl, Option, Some, None, Ok, Err, inl, inr, ⊎_elim, arith, length-append, replicate}
use Rattle.std.specs.List.{AllByRecursion}
use Rattle.std.specs.Prelude.{IsTrue, nat_le}
use Rattle.std.proofs.lemmas.Bool.{cases_lt, le-leb}
use Rattle.std.proofs.lemmas.List.{length-take, length-replicate, take-append-le}
use Rattle.disk_core.specs.declared.disk.Disk as disks
use Rattle.disk_core.specs.Files.{State}
use Rattle.plain_office.specs.Office.{Office}
use Rattle.plain_office.specs.Run.{run_from, accept}
use Rattle.office_types.specs.declared.command.Entry.{Entry}
use Rattle.bucket_account.specs.Standing.{most_commands}
use Rattle.office_machine.specs.Once.{OfficeView, StandsFor}
use Rattle.entry_codec.proofs.Bytes.{IsBytes}
use Rattle.meter_journal.specs.declared.fault.OpenFault.{OpenFault}
use Rattle.meter_journal.specs.declared.fault.OpenFault.TheVariants as faults
use Rattle.entry_codec.specs.Spelling.{EntryFits, spelling}
use Rattle.meter_journal.specs.History.{end_gate, HasEntries}
use Rattle.meter_journal.specs.Reading.{IsMade, NextGives, Advances, HasPrefix, frame_at, body_at, Frame, Whole, Ended, Broken}
use Rattle.meter_journal.proofs.History.{each-push, end_gate-none, end_gate-push, gate_high}
use Rattle.meter_journal.proofs.Prefix.{prefix_start, prefix_more, prefix_end, frame_next}
use Rattle.desk_core.specs.Damage.{Start, IsDamagedFrom, ReplayFails, HasReplayed}
use Rattle.desk_core.specs.Offices.{StandsSince}

-- the bytes before a place, with zeros behind a file that ends before it
unfoldable head_before : ℕ → List ℕ → List ℕ
head_before place file = take place (file ++ replicate place 0)

head_size : (place : ℕ) (file : List ℕ) → length (head_before place file) ≡ place
unfolding head_before
head_size place file = omega (arith, length-take place (file ++ replicate place 0), length-append file (replicate place 0), length-replicate {A = ℕ} place 0)

head_is : (place : ℕ) (file : List ℕ) → place ≤ length file → head_before place file ≡ take place file
unfolding head_before
head_is place file le = take-append-le place file (replicate place 0) le

-- the file ends before the place, at which reading still is; or these are the entries between the place and the gate
abbrev IsReadUpTo : ℕ → List ℕ → List Entry → ℕ → List ℕ → Type 0
IsReadUpTo place head entries gate file = ((entries ≡ []) × (gate ≡ place) × (length file < place))
    ⊎ ((head ≡ take place file) × (place ≤ length file) × HasPrefix head entries gate file)

-- the entries up to this gate were read, on every disk; on one that tells they are those of its journal file
pub record HasRead {D : Type 0} (d : disks.Ghosts D) (first : OfficeView) (place : ℕ) (disk : D) (gate : ℕ) (office : OfficeView) : Type 0 where
  pub entries : List Entry
  pub each : AllByRecursion EntryFits entries
  pub stands : (start : Office) → StandsFor first start → StandsSince start entries office
  pub counted : office.records.accepted ≤ length entries
  pub head : List ℕ
  pub place_is : length head ≡ place
  pub end : gate ≡ end_gate head entries
  pub small : (entries ≡ []) ⊎ (gate ≤ 2 ^ 45)
  pub prefix : IsTrue d.tells → (file : List ℕ) → (d.state disk).journal.seen ≡ file → IsMade file → IsReadUpTo place head entries gate file

-- the next entry is taken as far as the office can count
few_by : (accepted gate : ℕ) (head : List ℕ) (entries : List Entry) → accepted ≤ length entries → gate ≡ end_gate head entries → (entries ≡ []) ⊎ (gate ≤ 2 ^ 45) → accepted < most_commands
few_by accepted gate head entries counted end (inl none) = omega (arith, counted, ap length none)
few_by accepted gate head entries counted end (inr small) = omega (arith, counted, end, small, gate_high head entries)

-- where a gate is closed, the file goes on
not_ended : Broken ≡ Ended → ⊥
not_ended is = cc

pub ended_inside : (gate : ℕ) (file : List ℕ) → frame_at gate file ≡ Ended → gate < length file
unfolding frame_at
ended_inside gate file is = elim (cases_lt gate (length file)) [
  | inl lt ↦ lt
  | inr ge ↦
      let past : nat_le (length file) gate ≡ true = le-leb (length file) gate ge in
      absurd (not_ended (sym (ap (λ (b : Bool). cond b Broken (cond (eqb (get_or file gate 0) 0xA5) (body_at gate file) Ended)) past) ∙ is))
]

seen_is : (first mid : State) (file : List ℕ) → mid ≡ first → first.journal.seen ≡ file → mid.journal.seen ≡ file
seen_is first mid file same reads = ap (λ (s : State). s.journal.seen) same ∙ reads

whole_of : (o : Option Entry) (e : Entry) (gate next : ℕ) (seen file : List ℕ) → o ≡ Some e → seen ≡ file → NextGives (Ok o) gate next (frame_at gate seen) → frame_at gate file ≡ Whole e next
whole_of o e gate next seen file is same gives =
    ap (frame_at gate) (sym same) ∙ subst (λ (x : Option Entry). NextGives (Ok x) gate next (frame_at gate seen)) is gives

ended_of : (o : Option Entry) (gate next : ℕ) (seen file : List ℕ) → o ≡ None → seen ≡ file → NextGives (Ok o) gate next (frame_at gate seen) → frame_at gate file ≡ Ended
ended_of o gate next seen file is same gives =
    let told : (next ≡ gate) × (frame_at gate seen ≡ Ended) = subst (λ (x : Option Entry). NextGives (Ok x) gate next (frame_at gate seen)) is gives in
    ap (frame_at gate) (sym same) ∙ told.1

module _ {D : Type 0} (d : disks.Ghosts D) where
  pub none_read : (disk : D) (place gate : ℕ) (office : OfficeView) → gate ≡ place → office.records.accepted ≡ 0 → HasRead d office place disk gate office
  none_read disk place gate office here none =
      let seen = (d.state disk).journal.seen in
      let head = head_before place seen in
      record {
        entries = [];
        each = tt;
        stands = λ start stands. record { plain = start; is_run = refl; stands = stands; counted = omega (arith, none) };
        counted = omega (arith, none);
        head = head;
        place_is = head_size place seen;
        end = here ∙ sym (head_size place seen) ∙ sym (end_gate-none head);
        small = inl refl;
        prefix = λ tells file reads made. elim (cases_lt (length file) place) [
          | inl short ↦ inl (refl, here, short)
          | inr long ↦
              let is : head ≡ take place file = ap (head_before place) reads ∙ head_is place file long in
              inr (
                is,
                long,
                prefix_start head gate file (is ∙ ap (λ (k : ℕ). take k file) (sym here)) (omega (arith, head_size place seen, here)),
              )
        ];
      }

  pub few_read : (first : OfficeView) (place : ℕ) (disk : D) (gate : ℕ) (office : OfficeView) → HasRead d first place disk gate office → office.records.accepted < most_commands
  few_read first place disk gate office read = few_by office.records.accepted gate read.head read.entries read.counted read.end read.small

  module _ (first : OfficeView) (place : ℕ) (disk mid : D) (gate next : ℕ) (office : OfficeView) (read : HasRead d first place disk gate office)
      (same : IsTrue d.tells → d.state mid ≡ d.state disk) where
    one_prefix : (o : Option Entry) (e : Entry) (tells : IsTrue d.tells) → ((i : ℕ) → get_or (d.state disk).journal.seen i 0 < 256) → o ≡ Some e
        → NextGives (Ok o) gate next (frame_at gate (d.state mid).journal.seen)
        → (file : List ℕ) (reads : (d.state disk).journal.seen ≡ file) → IsReadUpTo place read.head read.entries gate file
        → IsReadUpTo place read.head (read.entries ++ e ∷ []) next file
    one_prefix o e tells bytes is gives file reads (inl (none, here, short)) =
        let frame = whole_of o e gate next (d.state mid).journal.seen file is (seen_is (d.state disk) (d.state mid) file (same tells) reads) gives in
        let inside = frame_next gate file e next frame in
        absurd (omega (arith, here, short, inside.0, inside.1))
    one_prefix o e tells bytes is gives file reads (inr (head, long, prefix)) =
        let frame = whole_of o e gate next (d.state mid).journal.seen file is (seen_is (d.state disk) (d.state mid) file (same tells) reads) gives in
        inr (head, long, prefix_more read.head read.entries gate file e next (subst IsBytes reads bytes) prefix frame)

    pub one_read : (after : OfficeView) (o : Option Entry) (e : Entry) → (IsTrue d.tells → (i : ℕ) → get_or (d.state disk).journal.seen i 0 < 256) → o ≡ Some e
        → (IsTrue d.tells → NextGives (Ok o) gate next (frame_at gate (d.state mid).journal.seen)) → Advances (Ok o) gate next → next ≤ 2 ^ 45
        → ((start : Office) (entries : List Entry) → StandsSince start entries office → StandsSince start (entries ++ e ∷ []) after)
        → after.records.accepted ≡ office.records.accepted + 1 → HasRead d first place disk next after
    one_read after o e bytes is gives advances small taken counted =
        let passed : EntryFits e × (next ≡ gate + 5 + length (spelling e)) = subst (λ (x : Option Entry). Advances (Ok x) gate next) is advances in
        record {
          entries = read.entries ++ e ∷ [];
          each = each-push read.entries e read.each passed.0;
          stands = λ start stands. taken start read.entries (read.stands start stands);
          counted = omega (arith, counted, read.counted, length-append read.entries (e ∷ []));
          head = read.head;
          place_is = read.place_is;
          end = omega (arith, passed.1, read.end, end_gate-push read.head read.entries e);
          small = inr small;
          prefix = λ tells file reads made. one_prefix o e tells (bytes tells) is (gives tells) file reads (read.prefix tells file reads made);
        }

    rests : (o : Option Entry) (tells : IsTrue d.tells) → o ≡ None → NextGives (Ok o) gate next (frame_at gate (d.state mid).journal.seen)
        → (file : List ℕ) (reads : (d.state disk).journal.seen ≡ file) → IsReadUpTo place read.head read.entries gate file
        → (read.head ≡ take place file) × HasEntries read.head read.entries file
    rests o tells is gives file reads (inl (none, here, short)) =
        let frame = ended_of o gate next (d.state mid).journal.seen file is (seen_is (d.state disk) (d.state mid) file (same tells) reads) gives in
        absurd (omega (arith, here, short, ended_inside gate file frame))
    rests o tells is gives file reads (inr (head, long, prefix)) =
        let frame = ended_of o gate next (d.state mid).journal.seen file is (seen_is (d.state disk) (d.state mid) file (same tells) reads) gives in
        (head, prefix_end read.head read.entries gate file prefix frame)

    pub all_read : (o : Option Entry) → o ≡ None → (IsTrue d.tells → NextGives (Ok o) gate next (frame_at gate (d.state mid).journal.seen))
        → Advances (Ok o) gate next → HasReplayed d first place disk next office
    all_read o is gives advances =
        let here : next ≡ gate = subst (λ (x : Option Entry). Advances (Ok x) gate next) is advances in record {
          entries = read.entries;
          each = read.each;
          stands = read.stands;
          head = read.head;
          place_is = read.place_is;
          end = here ∙ read.end;
          small = subst (λ (k : ℕ). (read.entries ≡ []) ⊎ (k ≤ 2 ^ 45)) (sym here) read.small;
          reads = λ tells file reads made. rests o tells is (gives tells) file reads (read.prefix tells file reads made);
        }

    -- ---- why it fails

    -- a frame that breaks
    broken_from : (start : Office) (stands : StandsFor first start) (file : List ℕ) → frame_at gate file ≡ Broken → IsReadUpTo place read.head read.entries gate file
        → IsDamagedFrom (record { office = start; place = place }) gate file
    broken_from start stands file broken (inl (none, here, short)) = inl (short, here)
    broken_from start stands file broken (inr (head, long, prefix)) =
        let since = read.stands start stands in
        inr (record {
          inside = long;
          entries = read.entries;
          office = since.plain;
          before = subst (λ (h : List ℕ). HasPrefix h read.entries gate file) head prefix;
          is_run = since.is_run;
          breaks = inl broken;
        })

    -- an entry that is not accepted
    refused_from : (start : Office) (stands : StandsFor first start) (file : List ℕ) (e : Entry) → frame_at gate file ≡ Whole e next
        → ((p : Office) → StandsFor office p → accept p e ≡ None) → IsReadUpTo place read.head read.entries gate file
        → IsDamagedFrom (record { office = start; place = place }) gate file
    refused_from start stands file e frame refused (inl (none, here, short)) =
        let inside = frame_next gate file e next frame in
        absurd (omega (arith, here, short, inside.0, inside.1))
    refused_from start stands file e frame refused (inr (head, long, prefix)) =
        let since = read.stands start stands in
        inr (record {
          inside = long;
          entries = read.entries;
          office = since.plain;
          before = subst (λ (h : List ℕ). HasPrefix h read.entries gate file) head prefix;
          is_run = since.is_run;
          breaks = inr (e, next, frame, refused since.plain since.stands);
        })

    module _ (tells : IsTrue d.tells) (file : List ℕ) (reads : (d.state disk).journal.seen ≡ file) (made : IsMade file) where
      abbrev seen_here : (d.state mid).journal.seen ≡ file
      seen_here = seen_is (d.state disk) (d.state mid) file (same tells) reads

      next_by : (fault : OpenFault) → NextGives (Err fault) gate next (frame_at gate file) → ReplayFails fault first place file
      next_by faults.NotMade gives = absurd gives.1
      next_by faults.Foreign gives = absurd gives.1
      next_by (faults.Damaged at) gives = λ start stands.
          subst (λ (k : ℕ). IsDamagedFrom (record { office = start; place = place }) k file) (sym gives.1.0)
          (broken_from start stands file gives.1.1 (read.prefix tells file reads made))
      next_by faults.StoreFault gives = tt
      next_by faults.NoMemory gives = tt

      pub next_fails : (fault : OpenFault) → NextGives (Err fault) gate next (frame_at gate (d.state mid).journal.seen) → ReplayFails fault first place file
      next_fails fault gives = next_by fault (subst (λ (l : List ℕ). NextGives (Err fault) gate next (frame_at gate l)) seen_here gives)

      pub take_fails : (fault : OpenFault) (o : Option Entry) (e : Entry) → o ≡ Some e → NextGives (Ok o) gate next (frame_at gate (d.state mid).journal.seen)
          → (fault ≡ faults.NoMemory) ⊎ ((fault ≡ faults.Damaged gate) × ((p : Office) → StandsFor office p → accept p e ≡ None)) → ReplayFails fault first place file
      take_fails fault o e is gives (inl want) = subst (λ (f : OpenFault). ReplayFails f first place file) (sym want) tt
      take_fails fault o e is gives (inr (damaged, refused)) =
          subst (λ (f : OpenFault). ReplayFails f first place file) (sym damaged) (λ start stands.
          refused_from start stands file e (whole_of o e gate next (d.state mid).journal.seen file is seen_here gives) refused (read.prefix tells file reads made))
