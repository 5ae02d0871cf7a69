-- A month that can be billed is billed, where nothing fails.
use Rattle.std.proofs.Common.{◌≡◌, ◌⊎◌, ◌∙◌, inl, inr, ⊎_elim, eq-eqb, refl, sym, ap, subst, ℕ, true, List, [], ◌∷◌, Option, Some, None, Result, Ok, Err}
use Rattle.std.specs.Prelude.{IsTrue, is_some}
use Rattle.std.proofs.lemmas.Option.{same_Some}
use Rattle.std.proofs.lemmas.Slice.Eq.{bytes_eq-Decides}
use Rattle.disk_core.specs.declared.disk.Disk as disks
use Rattle.meter_journal.specs.History.{header}
use Rattle.meter_journal.specs.declared.fault.OpenFault.{OpenFault}
use Rattle.meter_journal.specs.declared.fault.OpenFault.TheVariants as faults
use Rattle.meter_journal.proofs.Unique.{entries_unique}
use Rattle.office_types.specs.declared.command.Entry.{Entry}
use Rattle.office_types.specs.declared.command.Query.TheVariants as query
use Rattle.office_types.specs.declared.reply.Reply.TheVariants as reply
use Rattle.plain_office.specs.Office.{Office}
use Rattle.bill_book.specs.declared.bill.Bill.{Bill}
use Rattle.bill_book.specs.declared.keeper.BillKeeper as keepers
use Rattle.bill_book.specs.Books.{Book, Told}
use Rattle.bill_posting.specs.declared.posting.Receipt.{Receipt}
use Rattle.bill_posting.specs.declared.posting.PostFault.{PostFault}
use Rattle.bill_posting.specs.declared.posting.PostFault.TheVariants.{OtherBills, KeeperFault, NoMemory}
use Rattle.bill_posting.specs.Bills.{bills_of}
use Rattle.bill_posting.specs.Differences.{is_same_bill, first_difference}
use Rattle.bill_posting.specs.Posting.{DoesPost}
use Rattle.desk_core.specs.declared.clock.Clock as clocks
use Rattle.desk_core.specs.Histories.{HasAcceptedHistory, IsSound}
use Rattle.desk_core.specs.Looking.{IsRead}
use Rattle.http_front.specs.declared.replies.Replies as sinks
use Rattle.office_commands.specs.Lines.{fault_exit}
use Rattle.office_commands.specs.Running.{Surroundings, around}
use Rattle.office_commands.specs.Billing.{IsClosed, Billing, TellsPosting, PostsLines, BillsAfter, BillsMonth, Bills, CanBill}

-- ---- the same bills have no difference

itself : (bill : Bill) → is_same_bill bill bill ≡ true
itself bill =
    rw ((bytes_eq-Decides bill.bucket bill.bucket).1 refl, eq-eqb bill.total bill.total refl, eq-eqb bill.lines bill.lines refl) refl

no_difference : (bills : List Bill) → first_difference bills bills ≡ None
no_difference [] = refl
no_difference (bill ∷ bills) = rw (itself bill) (no_difference bills)

module _ (month : ℕ) (bills : List Bill) (answer : Result Receipt PostFault) where
  -- so a book that has no bills of the month, or these, has no others
  no_others : (before after : Option Book) (book : Book) → before ≡ Some book → is_some after ≡ true
      → Told before after (λ old new. DoesPost month bills old new answer)
      → (book month ≡ None) ⊎ (book month ≡ Some bills) → (kept asked : Option Bill) → answer ≡ Err (OtherBills kept asked) → ⊥
  no_others None after book is some told free kept asked other = absurd cc
  no_others (Some old) None book is some told free kept asked other = absurd cc
  no_others (Some old) (Some new) book is some told free kept asked other =
      let does = subst (λ (a : Result Receipt PostFault). DoesPost month bills old new a) other told in
      let has : book month ≡ Some does.0 = ap (λ (b : Book). b month) (sym (same_Some old book is)) ∙ does.1 in
      ⊎_elim
      (λ none. differ_none none has)
      (λ these. differ_some (subst (λ (l : List Bill). first_difference l bills ≡ Some (kept, asked)) (same_Some does.0 bills (sym has ∙ these)) does.2))
      free
    where
      differ_none : {o : Option (List Bill)} {l : List Bill} → o ≡ None → o ≡ Some l → ⊥
      differ_none none some = absurd cc

      differ_some : first_difference bills bills ≡ Some (kept, asked) → ⊥
      differ_some some = let none = no_difference bills in absurd cc

-- ---- what is done

module _ (status : ℕ) where
  abbrev Billed : Type 0
  Billed = (status ≡ 0) ⊎ (status ≡ 6)

  module _ {W : Type 0} (w : sinks.Ghosts W) (old new : W) (four : status ≡ 4 → ⊥) (eleven : status ≡ 11 → ⊥) where
    answer_done : (answer : Result Receipt PostFault) → TellsPosting w answer old new status
        → ((kept asked : Option Bill) → answer ≡ Err (OtherBills kept asked) → ⊥) → Billed
    answer_done (Ok receipt) told other = ⊎_elim (λ all. inl all.0) (λ lost. absurd (four lost.0)) told
    answer_done (Err (OtherBills kept asked)) told other = absurd (other kept asked refl)
    answer_done (Err KeeperFault) told other = absurd (eleven told.0)
    answer_done (Err NoMemory) told other = inr told.status_is

    module _ {K : Type 0} (b : keepers.Ghosts K) (history : List Entry) (one : Billing K) (can : CanBill b history one) where
      after_done : (first : ℕ) → BillsAfter w b history one first old new status → Billed
      after_done first after =
          let closed : IsClosed one.month after.office =
          subst (λ (p : Office). IsClosed one.month p) (same_Some can.office after.office (sym can.is_run ∙ after.is_run)) can.closed in
          let bills = after.bills in
          let read : IsRead first (query.Report one.month) history (Ok (reply.Report bills.lines)) = record { plain = after.office; is_run = after.is_run; answered = bills.is_read closed } in
          ⊎_elim
          (λ billed. ⊎_elim
          (λ (posts : PostsLines w b bills.lines one old new status). answer_done posts.answer posts.told
          (no_others one.month (bills_of bills.lines) posts.answer (b.book one.old) (b.book one.new) can.book can.tells can.tells_still posts.posts
          (⊎_elim (λ none. inl none) (λ same. inr (same first bills.lines read)) can.free)))
          (λ out. inr out.0.status_is) billed.1)
          (λ unclosed. absurd (unclosed.0 closed)) bills.billed

  module _ (two : status ≡ 2 → ⊥) (five : status ≡ 5 → ⊥) where
    fault_done : (fault : OpenFault) → status ≡ fault_exit fault → Billed
    fault_done faults.StoreFault is = absurd (two is)
    fault_done faults.NotMade is = absurd (five is)
    fault_done faults.Foreign is = absurd (five is)
    fault_done (faults.Damaged at) is = absurd (five is)
    fault_done faults.NoMemory is = inr is

    module _ {D C W K : Type 0} (d : disks.Ghosts D) (k : clocks.Ghosts C) (w : sinks.Ghosts W) (b : keepers.Ghosts K) (one : Billing K)
        (tells : IsTrue d.honest) (history : List Entry) (can : CanBill b history one)
        (four : status ≡ 4 → ⊥) (eleven : status ≡ 11 → ⊥) (eight : status ≡ 8 → ⊥) where
      month_done : (first : ℕ) (old new : Surroundings D C W) → IsSound (d.state old.disk) → HasAcceptedHistory history (d.state old.disk).journal.seen
          → BillsMonth d w b one first old new status → Billed
      month_done first old new sound has m =
          let known = m.sound tells sound in
          let same : known.0 ≡ history = entries_unique header known.0 history (d.state old.disk).journal.seen known.1.entries has.entries in
          after_done w old.out new.out four eleven b history one can first
          (subst (λ (h : List Entry). BillsAfter w b h one first old.out new.out status) same known.2)

      pub bill_done : (old new : Surroundings D C W) → IsSound (d.state old.disk) → HasAcceptedHistory history (d.state old.disk).journal.seen → Bills d k w b one old new status → Billed
      bill_done old new sound has starts =
          ⊎_elim
          (λ does. ⊎_elim
          (λ m. month_done starts.first (around old.disk starts.clock old.out) new sound has m)
          (λ refused. fault_done refused.0.fault refused.0.refused.status_is) does.1)
          (λ ends. absurd (eight ends.1.status_is)) starts.does
