-- The calls by which a desk is reached are legal.
use Rattle.std.specs.Prelude.{◌≡◌, ℕ, ◌≤◌, Bool, true, List, [], ◌∷◌, ◌++◌, Result, IsTrue}
use Rattle.std.proofs.Common.{append_assoc, refl, sym, subst, arith}
use Rattle.std.proofs.lemmas.List.{append-nil}
use Rattle.disk_core.specs.declared.disk.Disk as disks
use Rattle.disk_core.specs.Files.{IsImage, file_in, seen_in}
use Rattle.disk_core.specs.declared.disk.FileNo.{FileNo}
use Rattle.disk_core.specs.declared.disk.FileNo.TheVariants.{Journal}
use Rattle.office_types.specs.declared.command.Ask.{Ask}
use Rattle.office_types.specs.declared.command.Entry.{Entry}
use Rattle.desk_core.specs.Answers.{Answer, Call}
use Rattle.desk_core.specs.Submitting.{Submits}
use Rattle.desk_core.specs.Calls.{AreLegal}
use Rattle.desk_core.specs.Desk.{DeskView, StandsFor}
use Rattle.desk_core.specs.Serving.{Opened, LegalOn}
use Rattle.desk_core.specs.Turns.{Moves, calls_from, Reaches, LegalSince}
use Rattle.desk_core.specs.declared.clock.Clock as clocks
use Rattle.desk_core.specs.declared.fault.DeskFault.{DeskFault}

-- calls that are legal over an honest disk are legal over this one, which is honest
pub honest_legal : (honest : Bool) (limit counted : ℕ) (calls : List Call) (before after : List Entry) → IsTrue honest
    → AreLegal true limit counted calls before after → AreLegal honest limit counted calls before after
honest_legal honest limit counted calls before after tells rule =
    subst (λ (b : Bool). AreLegal b limit counted calls before after) (sym tells) rule

module _ {D C : Type 0} (d : disks.Ghosts D) (k : clocks.Ghosts C) where
  abbrev Step : DeskView D C → Ask → Result Answer DeskFault → DeskView D C → Type 0
  Step = Submits d k

  -- a desk that stands for some calls stands, after more of them, for all
  pub stands_on : (opened : Opened) (done calls : List Call) (old new : DeskView D C) → StandsFor d opened done old
      → Moves Step old calls new
      → StandsFor d opened (done ++ calls) new
  stands_on opened done [] old new s same =
      subst (λ (list : List Call). StandsFor d opened list new) (sym (append-nil done))
      (subst (λ (z : DeskView D C). StandsFor d opened done z) (sym same) s)
  stands_on opened done (call ∷ calls) old new s path =
      subst (λ (list : List Call). StandsFor d opened list new) (append_assoc done (call ∷ []) calls)
      (stands_on opened (done ++ call ∷ []) calls path.0 new (path.1.stands opened done s).stands path.2)

  module _ (counts_now : (disk : D) (t : ℕ) → t ≤ d.moment disk → d.had_since disk t (d.state disk))
      (reads_image : IsTrue d.honest → (disk : D) (file : FileNo)
      → IsImage (file_in file (d.state disk)) (seen_in file (d.state disk))) where
    module _ (opened : Opened) (calls : List Call) (desk : DeskView D C) (s : StandsFor d opened calls desk) where
      abbrev Leads : Type 0
      Leads = (history : List Entry) × LegalOn d.honest opened calls history

      -- the history is that of the bytes that the disk reads
      legal : Leads
      legal =
          let serves = s.serves in
          let disk = desk.disk in
          let seen = (d.state disk).journal.seen in
          let own = reads_image s.tells disk Journal in
          let r = serves.left (d.moment disk) (d.state disk) seen serves.later (omega arith)
          (counts_now disk (d.moment disk) (omega arith)) own in (
            r.history,
            honest_legal d.honest opened.limit opened.faults calls opened.history r.history s.tells
                (serves.whole seen r.history own r.has),
          )

    -- the calls that lead from one desk to another are legal, whatever the first one stood for
    pub legal_since : (first desk : DeskView D C) (pairs : List (Ask × Result Answer DeskFault))
        → Reaches d k first desk pairs
        → LegalSince d first pairs
    legal_since first desk pairs path opened stood =
        legal opened (calls_from pairs) desk (stands_on opened [] (calls_from pairs) first desk stood path)
