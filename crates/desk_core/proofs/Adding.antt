-- What the office's answer and the journal's append make of a call.
use Rattle.std.proofs.Common.{◌≡◌, ◌⊎◌, inl, inr, ℕ, ◌+◌, ◌^◌, ◌≤◌, Bool, true, false, ◌&&◌, List, [], ◌∷◌, ◌++◌, length, Option, Some, None, Result, Ok, Err, refl, sym, ap, ◌∙◌, subst, arith}
use Rattle.std.specs.Prelude.{IsTrue, IfSome, IsSomeAnd}
use Rattle.std.proofs.lemmas.Option.{same_Some}
use Rattle.office_base.specs.Faults.{Rose}
use Rattle.disk_core.specs.declared.disk.Disk as disks
use Rattle.plain_office.specs.Office.{Office}
use Rattle.plain_office.specs.Once.{kept_for, step_with}
use Rattle.plain_office.specs.Step.{is_accepted}
use Rattle.plain_office.specs.Run.{is_new, is_not_before}
use Rattle.office_types.specs.declared.command.Ask.{Ask}
use Rattle.office_types.specs.declared.command.Ask.TheVariants as ask
use Rattle.office_types.specs.declared.command.Entry.{Entry}
use Rattle.office_types.specs.declared.reply.Reply.{Reply}
use Rattle.office_types.specs.declared.refusal.Refusal.{Refusal}
use Rattle.office_types.specs.declared.refusal.Refusal.TheVariants.{NoMemory}
use Rattle.kept_replies.specs.Queue.{kept_in}
use Rattle.office_machine.specs.Standing.{accepted_after}
use Rattle.office_machine.specs.Once.{OfficeView, StandsFor, DoesOnce}
use Rattle.entry_codec.specs.Spelling.{EntryFits, spelling}
use Rattle.meter_journal.specs.History.{end_gate, IsAtRest}
use Rattle.meter_journal.proofs.History.{each-push, end_gate-push}
use Rattle.disk_core.specs.Tallies.{IsDurable}
use Rattle.desk_core.specs.declared.fault.DeskFault.{DeskFault}
use Rattle.desk_core.specs.declared.fault.DeskFault.TheVariants as faults
use Rattle.desk_core.specs.Answers.{Answer}
use Rattle.desk_core.specs.Asked.{Asked, asked, entry_of}
use Rattle.desk_core.specs.Desk.{DeskView, HoldsTail}
use Rattle.desk_core.specs.Offices.{Tail, StandsSince}
use Rattle.desk_core.specs.Answering.{call_time, AddsOrNot, IsAnswerOf, Stays, StoreFails, AddsEntry, CarriesOut, IsDoneAt, AnswersInTime}
use Rattle.desk_core.specs.Submitting.{RepliesTo, RepliesInTime}
use Rattle.desk_core.proofs.Offices.{answer_is, no_lack, reply_is, taken, more_after, same_after, fresh_in, unmoved_stands}

-- the end gate behind one entry more
pub end_by : (old new place : ℕ) (bytes : List ℕ) (before : Tail) (e : Entry) → old ≡ end_gate before.head before.entries → bytes ≡ spelling e
    → (place ≡ new) × (place ≡ old + 5 + length bytes) → new ≡ end_gate before.head (before.entries ++ e ∷ [])
end_by old new place bytes before e is spelled at = omega (arith, is, ap length spelled, at.0, at.1, end_gate-push before.head before.entries e)

-- two answers that are the same are accepted, or both are not
accepted_as : (one other : Result Reply Refusal) (b : Bool) → one ≡ other → is_accepted other ≡ b → is_accepted one ≡ b
accepted_as one other b same is = ap (λ (x : Result Reply Refusal). is_accepted x) same ∙ is

-- ---- which reply is given

pub asked_and : (question : Ask) (call : Asked) (P : Asked → Type 0) → asked question ≡ Some call → P call → IsSomeAnd (asked question) P
asked_and question call P is p = subst (λ (o : Option Asked). IsSomeAnd o P) (sym is) p

-- a command's reply is that of an ask that asks for it
pub replies_of : (t : ℕ) (call : Asked) (plain : Office) (reply : Result Reply Refusal) (view : OfficeView) (question : Ask) → asked question ≡ Some call
    → reply ≡ (step_with t call.token call.command plain).1 → StandsFor view (step_with t call.token call.command plain).0 → RepliesTo t question plain reply view
replies_of t call plain reply view (ask.Command command) is same stands = asked_and (ask.Command command) call
    (λ c. (reply ≡ (step_with t c.token c.command plain).1) × StandsFor view (step_with t c.token c.command plain).0) is (same, stands)
replies_of t call plain reply view (ask.Once token command) is same stands = asked_and (ask.Once token command) call
    (λ c. (reply ≡ (step_with t c.token c.command plain).1) × StandsFor view (step_with t c.token c.command plain).0) is (same, stands)
replies_of t call plain reply view (ask.Query query) is same stands = absurd cc

-- ---- what an ask asks for

-- an ask that asks for this command does with it what the command does
module _ {D C : Type 0} (d : disks.Ghosts D) (call : Asked) where
  pub done_of : (t : ℕ) (office : Office) (before : Tail) (old new : DeskView D C) (reply : Result Reply Refusal) (question : Ask) → asked question ≡ Some call
      → CarriesOut d t call office before old new reply → IsDoneAt d t question office before old new reply
  done_of t office before old new reply (ask.Command command) is done = subst (λ (c : Asked). CarriesOut d t c office before old new reply) (sym (same_Some _ _ is)) done
  done_of t office before old new reply (ask.Once token command) is done = subst (λ (c : Asked). CarriesOut d t c office before old new reply) (sym (same_Some _ _ is)) done
  done_of t office before old new reply (ask.Query query) is done = absurd cc

module _ {D C : Type 0} (d : disks.Ghosts D) where
  abbrev pub made : ℕ → ℕ → Result Reply Refusal → DeskView D C → Answer
  made t number reply desk = record { moment = t; told = number; reply = reply; position = desk.gate; disk_moment = d.moment desk.disk }

  pub is_made : (t m number : ℕ) (reply : Result Reply Refusal) (desk : DeskView D C) (said : Answer) → m ≡ t → said ≡ made m number reply desk → IsAnswerOf d.moment (call_time t number) desk said
  is_made t m number reply desk said at same = record {
    moment = ap (λ (a : Answer). a.moment) same ∙ at;
    told = ap (λ (a : Answer). a.told) same;
    position = ap (λ (a : Answer). a.position) same;
    disk_moment = ap (λ (a : Answer). a.disk_moment) same;
  }

  -- what a command does to a desk is told of what this view of it is
  pub seen_so : (t number : ℕ) (call : Asked) (bytes : List ℕ) (question : Ask) (before : Tail) (new : DeskView D C) (said : Result Answer DeskFault)
      → {inside desk : DeskView D C} → inside ≡ desk → bytes ≡ spelling (entry_of t call)
      → ((hold : HoldsTail d before inside) → inside.gate + 6 + length (spelling (entry_of t call)) ≤ inside.limit → IsTrue (is_not_before inside.office.records.last t)
      → IfSome call.token (λ one. kept_in one inside.office.kept.queue ≡ None)
      → AnswersInTime d (call_time t number) question hold.office.plain before inside new said)
      → (hold : HoldsTail d before desk) → desk.gate + 6 + length bytes ≤ desk.limit → IsTrue (is_not_before desk.office.records.last t)
      → IfSome call.token (λ one. kept_in one desk.office.kept.queue ≡ None)
      → AnswersInTime d (call_time t number) question hold.office.plain before desk new said
  seen_so t number call bytes question before new said is spelled does = subst
      (λ (desk : DeskView D C). (hold : HoldsTail d before desk) → desk.gate + 6 + length bytes ≤ desk.limit → IsTrue (is_not_before desk.office.records.last t)
      → IfSome call.token (λ one. kept_in one desk.office.kept.queue ≡ None)
      → AnswersInTime d (call_time t number) question hold.office.plain before desk new said) is
      (λ hold fits. does hold (omega (arith, fits, ap length spelled)))

  module _ (t number : ℕ) (before : Tail) (old : DeskView D C) (hold : HoldsTail d before old) where
    -- a desk that holds the same office, and the same disk and journal
    stayed_as : (new : DeskView D C) → HoldsTail d before (record old { office = new.office }) → new.disk ≡ old.disk → new.gate ≡ old.gate → new.limit ≡ old.limit → Stays d before old new
    stayed_as new same disk gate limit = record {
      holds = record {
        office = same.office;
        end = gate ∙ hold.end;
        each = hold.each;
        small = subst (λ (k : ℕ). (before.entries ≡ []) ⊎ (k ≤ 2 ^ 45)) (sym gate) same.small;
        limit = subst (λ (n : ℕ). n ≤ 2 ^ 45) (sym limit) hold.limit;
        at_rest = λ tells. subst (λ (z : D). IsAtRest before.head (d.state z) new.gate before.entries) (sym disk) (subst (λ (k : ℕ). IsAtRest before.head (d.state old.disk) k before.entries) (sym gate) (hold.at_rest tells));
      };
      disk = disk;
    }

    -- ---- a command, under whose token no reply is kept

    module _ (question : Ask) (call : Asked) (asks : asked question ≡ Some call) (new_one : IfSome call.token (λ one. kept_in one old.office.kept.queue ≡ None)) where
      abbrev Keeping : DeskView D C → Result Answer DeskFault → Type 0
      Keeping new said = AnswersInTime d (call_time t number) question hold.office.plain before old new said

      abbrev entry : Entry
      entry = entry_of t call

      abbrev expected : Office × Result Reply Refusal
      expected = step_with t call.token call.command hold.office.plain

      fresh : kept_for call.token hold.office.plain ≡ None
      fresh = fresh_in call.token old.office hold.office.plain hold.office.stands new_one

      -- so it is written where it is accepted
      written_as : (one other : Result Reply Refusal) (b : Bool) → one ≡ other → is_accepted other ≡ b → (is_new call.token hold.office.plain && is_accepted one) ≡ b
      written_as one other b same is = rw fresh (accepted_as one other b same is)

      -- in between each image has the entry or has it not
      abbrev Run : D → D → Type 0
      Run first x = AddsOrNot d before entry first x

      module _ (fits : old.gate + 6 + length (spelling entry) ≤ old.limit) where
        grown : EntryFits entry → (mid new : DeskView D C) (reply : Reply) (said : Answer) → is_accepted (Ok reply) ≡ true → IsTrue (is_not_before old.office.records.last t)
            → ((p : Office) → StandsFor old.office p → DoesOnce (step_with t call.token call.command p) p mid.office (Ok reply))
            → mid.office.records.accepted ≡ accepted_after (Ok reply) old.office.records.accepted → mid.disk ≡ old.disk → new.office ≡ mid.office → new.limit ≡ old.limit
            → AddsEntry d (call_time t number) (Ok reply) before entry mid new (Ok said) → CarriesOut d t call hold.office.plain before old new said.reply
        grown entry_fits mid new reply said accepts later all counted same office limit adds =
            let does = all hold.office.plain hold.office.stands in
            let replied : said.reply ≡ Ok reply = ap (λ (a : Answer). a.reply) adds.0 in
            let after = more_after before.entries entry old.office mid.office reply hold.office accepts later fresh does counted in
            record {
              told = replied ∙ (reply_is expected hold.office.plain mid.office reply does).0;
              fits = λ new. fits;
              grows = inl (
                written_as said.reply (Ok reply) true replied accepts,
                record {
                  holds = record {
                    office = subst (λ (o : OfficeView). StandsSince before.office (before.entries ++ entry ∷ []) o) (sym office) after;
                    end = adds.1;
                    each = each-push before.entries entry hold.each entry_fits;
                    small = inr (omega (arith, adds.1, fits, hold.end, hold.limit, end_gate-push before.head before.entries entry));
                    limit = subst (λ (n : ℕ). n ≤ 2 ^ 45) (sym limit) hold.limit;
                    at_rest = λ tells. (adds.2 tells).0;
                  };
                  run = λ tells. subst (λ (z : D). Run z new.disk) same (adds.2 tells).1;
                  durable = subst (λ (z : D). IsDurable (d.tally z) (d.tally new.disk)) same adds.3;
                  quiet = adds.4 ∙ ap d.fault_count same;
                },
              );
            }

        pub added : EntryFits entry → (mid new : DeskView D C) (reply : Reply) (said : Result Answer DeskFault) → is_accepted (Ok reply) ≡ true → IsTrue (is_not_before old.office.records.last t)
            → ((p : Office) → StandsFor old.office p → DoesOnce (step_with t call.token call.command p) p mid.office (Ok reply))
            → mid.office.records.accepted ≡ accepted_after (Ok reply) old.office.records.accepted → mid.disk ≡ old.disk → new.office ≡ mid.office → new.limit ≡ old.limit
            → AddsEntry d (call_time t number) (Ok reply) before entry mid new said → Keeping new said
        added entry_fits mid new reply (Ok said) accepts later all counted same office limit adds = (
          is_made t t number (Ok reply) new said refl adds.0,
          done_of d call t hold.office.plain before old new said.reply question asks (grown entry_fits mid new reply said accepts later all counted same office limit adds),
        )
        added entry_fits mid new reply (Err (faults.StoreFault (Some told) count)) accepts later all counted same office limit adds = (
          adds.0,
          adds.1,
          asked_and question call (λ one. StoreFails d hold.office.plain before (entry_of t one) old new) asks (record {
            accepted = λ p stands. (
              fresh_in call.token old.office p stands new_one,
              accepted_as (step_with t call.token call.command p).1 (Ok reply) true (sym (reply_is (step_with t call.token call.command p) p mid.office reply (all p stands)).0) accepts,
            );
            next = (
              expected.0,
              taken hold.office.plain entry mid.office reply fresh accepts (subst (λ (last : Option ℕ). IsTrue (is_not_before last t)) hold.office.stands.records.last later)
                  (all hold.office.plain hold.office.stands),
            );
            run = λ tells. subst (λ (z : D). Run z new.disk) same (adds.3 tells);
            rose = subst (λ (z : D). Rose (d.fault_count z) (d.fault_count new.disk)) same adds.2;
          }),
        )
        added entry_fits mid new reply (Err (faults.StoreFault None count)) accepts later all counted same office limit adds = absurd adds
        added entry_fits mid new reply (Err faults.JournalFull) accepts later all counted same office limit adds = absurd adds
        added entry_fits mid new reply (Err (faults.Broken fault)) accepts later all counted same office limit adds = absurd adds
        added entry_fits mid new reply (Err faults.NoMemory) accepts later all counted same office limit adds = absurd adds

        unaccepted_stays : (new : DeskView D C) (reply : Result Reply Refusal) → is_accepted reply ≡ false
            → DoesOnce expected hold.office.plain new.office reply → new.office.records.accepted ≡ accepted_after reply old.office.records.accepted
            → new.disk ≡ old.disk → new.gate ≡ old.gate → new.limit ≡ old.limit → Stays d before old new
        unaccepted_stays new reply not_accepted does counted disk gate limit =
            stayed_as new (record {
              office = same_after before.entries entry old.office new.office reply hold.office not_accepted fresh does counted;
              end = hold.end;
              each = hold.each;
              small = hold.small;
              limit = hold.limit;
              at_rest = hold.at_rest;
            }) disk gate limit

        -- an answer that is not accepted, and not for want of memory
        pub unaccepted : (m : ℕ) (new : DeskView D C) (reply : Result Reply Refusal) (said : Answer) → m ≡ t → is_accepted reply ≡ false
            → (reply ≡ Err NoMemory → ⊥) → DoesOnce expected hold.office.plain new.office reply
            → new.office.records.accepted ≡ accepted_after reply old.office.records.accepted → new.disk ≡ old.disk → new.gate ≡ old.gate
            → new.limit ≡ old.limit → said ≡ made m number reply new → Keeping new (Ok said)
        unaccepted m new reply said at not_accepted other does counted disk gate limit same =
            let replied : said.reply ≡ reply = ap (λ (a : Answer). a.reply) same in (
              is_made t m number reply new said at same,
              done_of d call t hold.office.plain before old new said.reply question asks (record {
                told = replied ∙ (answer_is expected hold.office.plain new.office reply other does).0;
                fits = λ new. fits;
                grows = inr (written_as said.reply reply false replied not_accepted, unaccepted_stays new reply not_accepted does counted disk gate limit);
              }),
            )

        pub wanting : (new : DeskView D C) (refusal : Refusal) → DoesOnce expected hold.office.plain new.office (Err refusal)
            → new.office.records.accepted ≡ accepted_after (Err refusal) old.office.records.accepted
            → new.disk ≡ old.disk → new.gate ≡ old.gate → new.limit ≡ old.limit → Keeping new (Err faults.NoMemory)
        wanting new refusal does counted disk gate limit = unaccepted_stays new (Err refusal) refl does counted disk gate limit

-- ---- the replies of each plain office that the one in memory stands for

module _ (t : ℕ) (question : Ask) (call : Asked) (asks : asked question ≡ Some call) (plain : Office) where
  abbrev Replied : Result Answer DeskFault → OfficeView → Type 0
  Replied said view = RepliesInTime t question plain said view

  -- an answer that is not for want of memory
  pub so_replied : (view : OfficeView) (reply : Result Reply Refusal) (said : Answer) → said.reply ≡ reply → (reply ≡ Err NoMemory → ⊥)
      → DoesOnce (step_with t call.token call.command plain) plain view reply → Replied (Ok said) view
  so_replied view reply said same other does =
      let both = answer_is (step_with t call.token call.command plain) plain view reply other does in
      replies_of t call plain said.reply view question asks (same ∙ both.0) both.1

  -- the answer to a command whose entry was added
  pub so_added : {D C : Type 0} (d : disks.Ghosts D) (number : ℕ) (before : Tail) (entry : Entry) (mid new : DeskView D C) (reply : Reply) (said : Result Answer DeskFault)
      → DoesOnce (step_with t call.token call.command plain) plain mid.office (Ok reply) → new.office ≡ mid.office
      → AddsEntry d (call_time t number) (Ok reply) before entry mid new said → Replied said new.office
  so_added d number before entry mid new reply (Ok said) does same adds =
      so_replied new.office (Ok reply) said (ap (λ (a : Answer). a.reply) adds.0) (no_lack reply)
      (subst (λ (o : OfficeView). DoesOnce (step_with t call.token call.command plain) plain o (Ok reply)) (sym same) does)
  so_added d number before entry mid new reply (Err (faults.StoreFault told count)) does same adds = tt
  so_added d number before entry mid new reply (Err faults.JournalFull) does same adds = absurd adds
  so_added d number before entry mid new reply (Err (faults.Broken fault)) does same adds = tt
  so_added d number before entry mid new reply (Err faults.NoMemory) does same adds = absurd adds

-- want of memory leaves the office
pub so_wanting : (t : ℕ) (call : Asked) (plain : Office) (view : OfficeView) (refusal : Refusal) → kept_for call.token plain ≡ None
    → DoesOnce (step_with t call.token call.command plain) plain view (Err refusal) → StandsFor view plain
so_wanting t call plain view refusal fresh does = unmoved_stands t call.token call.command plain view (Err refusal) fresh refl does
