-- A call on a desk: from what the office and the journal did to the list of calls that the desk stands for.
use Rattle.std.proofs.Common.{◌≡◌, inl, inr, ⊎_elim, ℕ, ◌≤◌, Bool, true, List, [], ◌∷◌, ◌++◌, Option, Some, Result, Ok, Err, refl, sym, subst, arith}
use Rattle.std.specs.Prelude.{IsSome, IsSomeAnd}
use Rattle.office_base.specs.Faults.{Rose}
use Rattle.disk_core.specs.declared.disk.Disk as disks
use Rattle.disk_core.specs.Files.{State, IsImage}
use Rattle.disk_core.specs.Moments.{KeepsTo}
use Rattle.disk_core.proofs.Laws.{DiskLaws}
use Rattle.disk_core.proofs.Time.{started, weakened}
use Rattle.plain_office.specs.Office.{Office}
use Rattle.plain_office.specs.Run.{run}
use Rattle.office_types.specs.declared.command.Entry.{Entry}
use Rattle.meter_journal.specs.History.{header, HasEntries, IsAtRest, BeforeOrAfter}
use Rattle.meter_journal.proofs.History.{each_image}
use Rattle.meter_journal.proofs.Unique.{entries_unique}
use Rattle.desk_core.specs.declared.fault.DeskFault.{DeskFault}
use Rattle.desk_core.specs.declared.fault.DeskFault.TheVariants as faults
use Rattle.desk_core.specs.Answers.{Answer, Call}
use Rattle.desk_core.specs.Calls.{AreLegal, IsLegal, faults_after}
use Rattle.desk_core.specs.Histories.{HasAcceptedHistory}
use Rattle.desk_core.specs.Serving.{AreToldBy, IsToldBy}
use Rattle.desk_core.proofs.OneCallMore.{HasImageOf, last_faults, InCall, IsKept, Makes}

-- ---- one call alone

pub one_legal : (honest : Bool) (limit told : ℕ) (call : Call) (before after : List Entry) (p : Office) → run before ≡ Some p
    → IsLegal honest limit told call.ask call.said p before after → AreLegal honest limit told (call ∷ []) before after
one_legal honest limit told call before after p is legal =
    (after, subst (λ (o : Option Office). IsSomeAnd o (λ office. IsLegal honest limit told call.ask call.said office before after)) (sym is) legal, refl)

pub rose_later : (a b c : ℕ) → a ≤ b → Rose b c → Rose a c
rose_later a b c le rose = omega (arith, le, rose)

pub then_later : (a b c : ℕ) → Rose a b → b ≤ c → Rose a c
then_later a b c rose later = omega (arith, rose, later)

last_next : (first now : ℕ) (said : Result Answer DeskFault) → first ≤ now → IsToldBy now said → faults_after first said ≤ now
last_next first now (Ok answer) le told = le
last_next first now (Err (faults.StoreFault number count)) le told = told
last_next first now (Err faults.JournalFull) le told = le
last_next first now (Err (faults.Broken fault)) le told = le
last_next first now (Err faults.NoMemory) le told = le

pub last_below : (first now : ℕ) (calls : List Call) → first ≤ now → AreToldBy now calls → last_faults first calls ≤ now
last_below first now [] le told = le
last_below first now (call ∷ calls) le told = last_below (faults_after first call.said) now calls (last_next first now call.said le told.0) told.1

-- ---- histories of images

pub some_run : (before : List Entry) (p : Office) → run before ≡ Some p → IsSome (run before)
some_run before p is = subst (λ (o : Option Office). IsSome o) (sym is) refl

pub rest_image : (s : State) (gate : ℕ) (before : List Entry) (p : Office) → IsAtRest header s gate before → run before ≡ Some p
    → (image : List ℕ) → IsImage s.journal image → HasAcceptedHistory before image
rest_image s gate before p rest is image has = record { entries = each_image header s gate before rest image has; accepted = some_run before p is }

pub unique : (h before : List Entry) (image : List ℕ) → HasAcceptedHistory h image → HasEntries header before image → h ≡ before
unique h before image has entries = entries_unique header h before image has.entries entries

module _ {D : Type 0} {d : disks.Ghosts D} (laws : DiskLaws d) where
  -- ---- what a call makes of the disk, where the journal lay at rest on it

  module _ (old : D) (gate : ℕ) (before : List Entry) (p : Office) (rest : IsAtRest header (d.state old) gate before)
      (is_run : run before ≡ Some p) (reads : IsImage (d.state old).journal (d.state old).journal.seen)
      (limit last : ℕ) (call : Call) where
    abbrev Rule : List Entry → Type 0
    Rule after = AreLegal true limit last (call ∷ []) before after

    abbrev In : State → Type 0
    In s = InCall d old limit last call before s

    settled : HasImageOf (d.state old) before
    settled = record { image = (d.state old).journal.seen; is_image = reads; has = rest_image (d.state old) gate before p rest is_run (d.state old).journal.seen reads }

    still : In (d.state old)
    still = record {
      sound = λ image is. (before, rest_image (d.state old) gate before p rest is_run image is);
      each = λ image h is has. inl (record { image = image; is_image = is; has = has });
    }

    pub makes_still : (new : D) → new ≡ old → Rule before → IsKept d new call.said → IsToldBy (d.fault_count new) call.said → Makes d old new limit last call
    makes_still new same rule kept told = record {
      settled = before;
      is_settled = settled;
      run = subst (λ (z : D). KeepsTo d old z In) (sym same) (started d old In (laws.only_now old) still);
      done = λ image h is has.
          let here = subst (λ (z : D). IsImage (d.state z).journal image) same is in
          subst Rule (sym (unique h before image has (each_image header (d.state old) gate before rest image here))) rule;
      kept = kept;
      faults = (subst (λ (z : D). d.fault_count old ≤ d.fault_count z) (sym same) (omega arith), told);
    }

    module _ (entry : Entry) (q : Office) (is_more : run (before ++ entry ∷ []) ≡ Some q) (grown : Rule (before ++ entry ∷ [])) where
      in_call : (s : State) → BeforeOrAfter header before entry (d.state old) s → In s
      in_call s both = record {
        sound = λ image is. ⊎_elim (λ (e : HasEntries header before image). (before, record { entries = e; accepted = some_run before p is_run }))
            (λ (e : HasEntries header (before ++ entry ∷ []) image). (before ++ entry ∷ [], record { entries = e; accepted = some_run (before ++ entry ∷ []) q is_more })) (both.journal image is);
        each = λ image h is has. ⊎_elim (λ (e : HasEntries header before image). inl (subst (λ (x : List Entry). HasImageOf (d.state old) x) (sym (unique h before image has e)) settled))
            (λ (e : HasEntries header (before ++ entry ∷ []) image). inr (subst Rule (sym (unique h (before ++ entry ∷ []) image has e)) grown)) (both.journal image is);
      }

      pub makes_grown : (new : D) (end : ℕ) → KeepsTo d old new (BeforeOrAfter header before entry (d.state old)) → IsAtRest header (d.state new) end (before ++ entry ∷ [])
          → IsKept d new call.said → (d.fault_count old ≤ d.fault_count new) × IsToldBy (d.fault_count new) call.said → Makes d old new limit last call
      makes_grown new end kept_to rest_new kept told = record {
        settled = before;
        is_settled = settled;
        run = weakened In kept_to in_call;
        done = λ image h is has. subst Rule (sym (unique h (before ++ entry ∷ []) image has (each_image header (d.state new) end (before ++ entry ∷ []) rest_new image is))) grown;
        kept = kept;
        faults = told;
      }

      pub makes_failed : (new : D) → Rule before → KeepsTo d old new (BeforeOrAfter header before entry (d.state old))
          → IsKept d new call.said → (d.fault_count old ≤ d.fault_count new) × IsToldBy (d.fault_count new) call.said → Makes d old new limit last call
      makes_failed new rule kept_to kept told = record {
        settled = before;
        is_settled = settled;
        run = weakened In kept_to in_call;
        done = λ image h is has. ⊎_elim (λ (e : HasEntries header before image). subst Rule (sym (unique h before image has e)) rule)
            (λ (e : HasEntries header (before ++ entry ∷ []) image). subst Rule (sym (unique h (before ++ entry ∷ []) image has e)) grown) (kept_to.now.journal image is);
        kept = kept;
        faults = told;
      }
