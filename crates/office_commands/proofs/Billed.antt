-- What billing a month does.
use Rattle.std.proofs.Common.{◌≡◌, ◌⊎◌, ◌∙◌, inl, inr, ⊎_elim, refl, sym, ap, subst, arith, ℕ, true, false, List, [], Option, Some, None, Result, Ok, Err}
use Rattle.std.specs.Prelude.{is_some, OnOk, IsErrOf}
use Rattle.std.proofs.lemmas.Option.{same_Some}
use Rattle.office_base.specs.Maps.{at_number}
use Rattle.tariff.specs.Prices.{Prices}
use Rattle.office_types.specs.declared.command.Query.TheVariants as query
use Rattle.office_types.specs.declared.reply.Reply.{Reply}
use Rattle.office_types.specs.declared.reply.Reply.TheVariants as reply
use Rattle.office_types.specs.declared.reply.ReportLine.{ReportLine}
use Rattle.office_types.specs.declared.refusal.Refusal.{Refusal}
use Rattle.office_types.specs.declared.refusal.Refusal.TheVariants as refusal
use Rattle.plain_office.specs.Answers.{answer}
use Rattle.plain_office.specs.Charges.{kept_or, in_force, tariff_for, report_lines}
use Rattle.plain_office.specs.Office.{Office}
use Rattle.plain_office.specs.Orderly.{IsOrderly}
use Rattle.bill_book.specs.declared.bill.Bill.{Bill}
use Rattle.bill_book.specs.declared.keeper.BillKeeper as keepers
use Rattle.bill_book.specs.Books.{Book, Told}
use Rattle.bill_laws.proofs.Reports.{few_lines, few_buckets}
use Rattle.bill_posting.specs.declared.posting.Receipt.{Receipt}
use Rattle.bill_posting.specs.declared.posting.PostFault.{PostFault}
use Rattle.bill_posting.specs.declared.posting.PostFault.TheVariants.{OtherBills, KeeperFault, NoMemory}
use Rattle.bill_posting.specs.Posting.{DoesPost}
use Rattle.desk_core.specs.Calls.{moment_after}
use Rattle.desk_core.specs.Looking.{IsReplyOf}
use Rattle.http_front.specs.declared.replies.Replies as sinks
use Rattle.http_front.specs.declared.answering.SessionEnd.TheVariants as ends
use Rattle.office_commands.specs.Lines.{IsBillExit, open_month_note}
use Rattle.office_commands.specs.Billing.{IsClosed, Billing, LeavesKeeper, BillsBook, EndsBilling, TellsPosting, PostsReply, BillsBy, MayBePosted, IsPostExit, IsPosted}
use Rattle.office_commands.proofs.MonthTold.{with_prices}

-- ---- the report of a closed month

module _ (told month : ℕ) (p : Office) where
  abbrev t : ℕ
  t = moment_after told p.last

  abbrev Told_as : List ReportLine → Type 0
  Told_as lines = answer t (query.Report month) p ≡ Ok (reply.Report lines)

  closed_prices : (o : Option Prices) → at_number month p.closed ≡ o → is_some o ≡ true → (tariff : Prices) × (tariff_for month p ≡ Some tariff)
  closed_prices None is some = absurd cc
  closed_prices (Some tariff) is some = (tariff, ap (λ (o : Option Prices). kept_or o (in_force month p.tariffs)) is)

  -- there is one, since the prices of its closing were kept
  closed_lines : IsClosed month p → (lines : List ReportLine) × Told_as lines
  closed_lines closed =
      let found = closed_prices (at_number month p.closed) refl closed in
      (report_lines found.0 month t p, with_prices t month p found.0 found.1)

  pub may_be_posted : IsOrderly p → IsClosed month p → (r : Result Reply Refusal) → IsReplyOf told (query.Report month) p r → MayBePosted r
  may_be_posted orderly closed r read =
      let found = closed_lines closed in
      ⊎_elim
      (λ is. subst MayBePosted (sym (is ∙ found.1)) (few_lines t month p found.0 orderly found.1, few_buckets t month p found.0 orderly found.1))
      (λ lacks. subst MayBePosted (sym lacks) tt) read

  module _ {W K : Type 0} (w : sinks.Ghosts W) (b : keepers.Ghosts K) (one : Billing K) (same : one.month ≡ month) (old new : W) (status : ℕ) where
    pub billed_closed : IsClosed month p → (r : Result Reply Refusal) → IsReplyOf told (query.Report month) p r → PostsReply w b r one old new status
        → BillsBy w b p one told old new status
    billed_closed closed r read posts =
        let found = closed_lines closed in
        record {
          lines = found.0;
          is_read = λ _. subst (λ (m : ℕ). IsReplyOf told (query.Report m) p (Ok (reply.Report found.0))) (sym same) (inl (sym found.1));
          billed = inl (
            subst (λ (m : ℕ). IsClosed m p) (sym same) closed,
            ⊎_elim
                (λ is. inl (subst (λ (x : Result Reply Refusal). PostsReply w b x one old new status) (is ∙ found.1) posts))
                (λ lacks. inr (subst (λ (x : Result Reply Refusal). PostsReply w b x one old new status) lacks posts))
                read,
          );
        }

    pub billed_open : (IsClosed month p → ⊥) → EndsBilling w 12 open_month_note old new status → LeavesKeeper one
        → BillsBy w b p one told old new status
    billed_open unclosed ends leaves =
        let other : IsClosed one.month p → ⊥ = λ closed. unclosed (subst (λ (m : ℕ). IsClosed m p) same closed) in
        record {
          lines = [];
          is_read = λ closed. absurd (other closed);
          billed = inr (other, ends, leaves);
        }

-- ---- what becomes of the book

pub told_more : {P Q : Book → Book → Type 0} (before after : Option Book) → ((old new : Book) → P old new → Q old new) → Told before after P → Told before after Q
told_more (Some old) (Some new) more holds = more old new holds
told_more None (Some new) more holds = holds
told_more (Some old) None more holds = holds
told_more None None more holds = holds

module _ {W : Type 0} (w : sinks.Ghosts W) (month : ℕ) (bills : List Bill) (out_old out_new : W) (status : ℕ) where
  pub posted_book : (answer : Result Receipt PostFault) → TellsPosting w answer out_old out_new status → (old new : Book) → DoesPost month bills old new answer
      → BillsBook month bills status old new
  posted_book (Ok receipt) told old new (inl now) = record {
    done = λ _. now.1.posted;
    others = now.1.others;
    undone = λ not. inr (⊎_elim (λ zero. absurd (not zero.0)) (λ four. inl four.0) told, now.1);
  }
  posted_book (Ok receipt) told old new (inr before) = record {
    done = λ _. before.2 month ∙ before.1;
    others = λ other _. before.2 other;
    undone = λ _. inl before.2;
  }
  posted_book (Err (OtherBills kept asked)) told old new does = record {
    done = λ zero. absurd (omega (arith, zero, told.0));
    others = λ other _. does.3 other;
    undone = λ _. inl does.3;
  }
  posted_book (Err KeeperFault) told old new (inl same) = record {
    done = λ zero. absurd (omega (arith, zero, told.0));
    others = λ other _. same other;
    undone = λ _. inl same;
  }
  posted_book (Err KeeperFault) told old new (inr adds) = record {
    done = λ zero. absurd (omega (arith, zero, told.0));
    others = adds.others;
    undone = λ _. inr (inr told.0, adds);
  }
  posted_book (Err NoMemory) told old new same = record {
    done = λ zero. absurd (omega (arith, zero, told.status_is));
    others = λ other _. same other;
    undone = λ _. inl same;
  }

-- ---- causes

-- where the bills were posted
pub on_posted : {P : Type 0} (r : Result Receipt PostFault) → IsPosted r → OnOk r P → P
on_posted (Ok receipt) posted holds = holds
on_posted (Err fault) posted holds = absurd posted

-- where the keeper failed
pub of_keeper : (r : Result Receipt PostFault) → r ≡ Err KeeperFault → IsErrOf r KeeperFault
of_keeper r is = subst (λ (x : Result Receipt PostFault). IsErrOf x KeeperFault) (sym is) refl

-- ---- statuses

pub post_is_bill : (status : ℕ) → (status ≡ 12) ⊎ IsPostExit status → IsBillExit status
post_is_bill status (inl twelve) = inr (inl twelve)
post_is_bill status (inr (inl zero)) = inr (inr (inr (inl (ends.Ended, false, zero))))
post_is_bill status (inr (inr (inl four))) = inr (inr (inr (inl (ends.WriteFault, false, four))))
post_is_bill status (inr (inr (inr (inl six)))) = inr (inr (inr (inl (ends.NoMemory, false, six))))
post_is_bill status (inr (inr (inr (inr (inl eleven))))) = inl eleven
post_is_bill status (inr (inr (inr (inr (inr thirteen))))) = inr (inr (inl thirteen))
