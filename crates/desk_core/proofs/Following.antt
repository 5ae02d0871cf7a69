-- A list of calls, followed from the opening on.
use Rattle.std.proofs.Common.{◌≡◌, ◌⊎◌, inl, inr, ⊎_elim, ℕ, ◌-◌, ◌^◌, ◌<◌, ◌≤◌, Bool, true, List, [], ◌∷◌, ◌++◌, Option, Some, None, Result, Ok, Err, refl, sym, ap, ◌∙◌, subst, arith, append_assoc}
use Rattle.std.specs.Prelude.{IsTrue}
use Rattle.std.specs.Io.KnownBytes.{Appends}
use Rattle.std.proofs.KnownBytes.{Appends-nil, Appends-trans}
use Rattle.std.proofs.lemmas.List.{append-nil}
use Rattle.office_base.specs.Faults.{Rose}
use Rattle.disk_core.specs.declared.disk.Disk as disks
use Rattle.disk_core.specs.Moments.{KeepsTo}
use Rattle.disk_core.proofs.Laws.{DiskLaws}
use Rattle.disk_core.proofs.Time.{started, joined}
use Rattle.office_types.specs.declared.command.Ask.{Ask}
use Rattle.desk_core.specs.declared.clock.Clock as clocks
use Rattle.desk_core.specs.Answers.{Answer, Call}
use Rattle.desk_core.specs.Submitting.{Submits}
use Rattle.desk_core.specs.Desk.{DeskView, StandsFor, TellsFault}
use Rattle.desk_core.specs.Serving.{Opened, Recoverable, KeepsSlots, IsToldBy, AreToldBy}
use Rattle.desk_core.proofs.OneCallMore.{told_later}
use Rattle.desk_core.specs.declared.fault.DeskFault.{DeskFault}
use Rattle.desk_core.specs.declared.fault.DeskFault.TheVariants as faults
use Rattle.desk_core.proofs.Serving.{rose_later}
use Rattle.desk_core.proofs.Narrowing.{recoverable_more}
use Rattle.desk_core.specs.Turns.{Moves}
use Rattle.desk_core.specs.Numbers.{BeginsWith, IsNumber, AreNumbers}
use Rattle.desk_core.specs.Runs.{stale_by}

rose_on : (a b c : ℕ) → Rose a b → b ≤ c → Rose a c
rose_on a b c rose le = omega (arith, rose, le)

tells_told : (said : Result Answer DeskFault) (before now : ℕ) → TellsFault said before now → IsToldBy now said
tells_told (Ok answer) before now told = tt
tells_told (Err (faults.StoreFault number count)) before now told = omega (arith, told.1)
tells_told (Err faults.JournalFull) before now told = tt
tells_told (Err (faults.Broken fault)) before now told = tt
tells_told (Err faults.NoMemory) before now told = tt

-- a number, then the others
begins_more : (said : Result Answer DeskFault) (numbers rest : List ℕ) → BeginsWith said numbers [] → BeginsWith said (numbers ++ rest) rest
begins_more (Ok answer) numbers rest is = ap (λ (xs : List ℕ). xs ++ rest) is
begins_more (Err (faults.StoreFault (Some number) count)) numbers rest is = ap (λ (xs : List ℕ). xs ++ rest) is
begins_more (Err (faults.StoreFault None count)) numbers rest is = ap (λ (xs : List ℕ). xs ++ rest) is
begins_more (Err faults.JournalFull) numbers rest is = (is.0, ap (λ (xs : List ℕ). xs ++ rest) is.1)
begins_more (Err (faults.Broken fault)) numbers rest is = ap (λ (xs : List ℕ). xs ++ rest) is
begins_more (Err faults.NoMemory) numbers rest (inl is) = inl (ap (λ (xs : List ℕ). xs ++ rest) is)
begins_more (Err faults.NoMemory) numbers rest (inr is) = inr (is.0, ap (λ (xs : List ℕ). xs ++ rest) is.1)

one_number : (said : Result Answer DeskFault) (a b c : Option (List ℕ)) (rest : List ℕ) → IsNumber a b said → Appends b c rest
    → (list : List ℕ) × BeginsWith said list rest × Appends a c list
one_number said a b c rest is more = (is.0 ++ rest, begins_more said is.0 rest is.1, Appends-trans a b c is.0 rest is.2 more)

module _ {D C : Type 0} (d : disks.Ghosts D) (k : clocks.Ghosts C) where
  abbrev pub Step : DeskView D C → Ask → Result Answer DeskFault → DeskView D C → Type 0
  Step old question said new = Submits d k old question said new

  abbrev pub Path : DeskView D C → List Call → DeskView D C → Type 0
  Path old calls new = Moves Step old calls new

  abbrev Stands : Opened → List Call → DeskView D C → Type 0
  Stands opened calls desk = StandsFor d opened calls desk

  -- ---- counts

  pub disk_later : (old new : DeskView D C) (calls : List Call) → Path old calls new → d.fault_count old.disk ≤ d.fault_count new.disk
  disk_later old new [] path = omega (arith, ap (λ (s : DeskView D C). d.fault_count s.disk) path)
  disk_later old new (call ∷ calls) path = omega (arith, path.1.disk_later, disk_later path.0 new calls path.2)

  pub clock_later : (old new : DeskView D C) (calls : List Call) → Path old calls new → k.count old.clock ≤ k.count new.clock
  clock_later old new [] path = omega (arith, ap (λ (s : DeskView D C). k.count s.clock) path)
  clock_later old new (call ∷ calls) path = omega (arith, path.1.clock_later, clock_later path.0 new calls path.2)

  pub numbers_told : (old new : DeskView D C) (calls : List Call) → Path old calls new → k.count new.clock < 2 ^ 64 - 1
      → (list : List ℕ) × AreNumbers calls list × Appends (k.told old.clock) (k.told new.clock) list
  numbers_told old new [] path few = ([], refl, subst (λ (s : DeskView D C). Appends (k.told old.clock) (k.told s.clock) []) (sym path) (Appends-nil (k.told old.clock)))
  numbers_told old new (call ∷ calls) path few =
      let later = numbers_told path.0 new calls path.2 few in
      let first = path.1.number (omega (arith, few, clock_later path.0 new calls path.2)) in
      let one = one_number call.said (k.told old.clock) (k.told path.0.clock) (k.told new.clock) later.0 first later.2 in
      (one.0, (later.0, one.1, later.1), one.2)

  pub stale_is : (old new : DeskView D C) (calls : List Call) → Path old calls new → new.stale ≡ stale_by old.stale calls
  stale_is old new [] path = ap (λ (s : DeskView D C). s.stale) path
  stale_is old new (call ∷ calls) path = stale_is path.0 new calls path.2 ∙ ap (λ (b : Bool). stale_by b calls) path.1.stale

  -- a desk grows stale only where the disk failed
  pub stale_rose : (old new : DeskView D C) (calls : List Call) → Path old calls new → new.stale ≡ true → (old.stale ≡ true) ⊎ Rose (d.fault_count old.disk) (d.fault_count new.disk)
  stale_rose old new [] path is = inl (sym (ap (λ (s : DeskView D C). s.stale) path) ∙ is)
  stale_rose old new (call ∷ calls) path is = ⊎_elim
      (λ mid. ⊎_elim (λ before. inl before) (λ rose. inr (rose_on (d.fault_count old.disk) (d.fault_count path.0.disk) (d.fault_count new.disk) rose
      (disk_later path.0 new calls path.2))) (path.1.grows_stale mid))
      (λ rose. inr (rose_later (d.fault_count old.disk) (d.fault_count path.0.disk) (d.fault_count new.disk) path.1.disk_later rose)) (stale_rose path.0 new calls path.2 is)

  -- each count that a fault of the store told is one of the disk
  pub told_by : (old new : DeskView D C) (calls : List Call) → Path old calls new → AreToldBy (d.fault_count new.disk) calls
  told_by old new [] path = tt
  told_by old new (call ∷ calls) path = (
    told_later call.said (d.fault_count path.0.disk) (d.fault_count new.disk) (disk_later path.0 new calls path.2) (tells_told call.said (d.fault_count old.disk) (d.fault_count path.0.disk) path.1.cause),
    told_by path.0 new calls path.2,
  )

  -- ---- what the desk stands for, and what each image had at every moment since the entry

  -- from the desk of the opening on
  pub record Followed (opening : D) (opened : Opened) (calls : List Call) (desk : DeskView D C) : Type 0 where
    pub stands : Stands opened calls desk
    pub ran : KeepsTo d opening desk.disk (Recoverable opened calls)
    pub slots : KeepsTo d opening desk.disk (KeepsSlots (d.state opening))

  follow_on : (opening : D) (opened : Opened) (so_far : List Call) (old new : DeskView D C) (calls : List Call)
      → Followed opening opened so_far old → Path old calls new → Followed opening opened (so_far ++ calls) new
  follow_on opening opened so_far old new [] followed path =
      subst (λ (s : DeskView D C). Followed opening opened (so_far ++ []) s) (sym path)
      (subst (λ (l : List Call). Followed opening opened l old) (sym (append-nil so_far)) followed)
  follow_on opening opened so_far old new (call ∷ calls) followed path =
      let went = path.1.stands opened so_far followed.stands in
      let next : Followed opening opened (so_far ++ call ∷ []) path.0 = record {
        stands = went.stands;
        ran = joined (Recoverable opened (so_far ++ call ∷ [])) followed.ran went.any_moment (recoverable_more opened so_far (call ∷ [])) (λ s p. p);
        slots =
            let run = followed.slots in
            joined (KeepsSlots (d.state opening)) run went.slots (λ s p. p) (λ s p. (p.0 ∙ run.now.0, p.1 ∙ run.now.1));
      } in
      subst (λ (l : List Call). Followed opening opened l new) (append_assoc so_far (call ∷ []) calls) (follow_on opening opened (so_far ++ call ∷ []) path.0 new calls next path.2)

  module _ (laws : DiskLaws d) where
    pub follow : (opened : Opened) (old new : DeskView D C) (calls : List Call) → Stands opened [] old → Path old calls new → Followed old.disk opened calls new
    follow opened old new calls stands path = follow_on old.disk opened [] old new calls (record {
      stands = stands;
      ran = started d old.disk (Recoverable opened []) (laws.only_now old.disk) (λ image is.
          let serves = stands.serves in
          let r = serves.left (d.moment old.disk) (d.state old.disk) image serves.later (omega arith) (laws.counts_now old.disk (d.moment old.disk) (omega arith)) is in
          (r.history, r.count, r.has, r.most, r.legal));
      slots = started d old.disk (KeepsSlots (d.state old.disk)) (laws.only_now old.disk) (refl, refl);
    }) path
