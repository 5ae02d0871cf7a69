-- Calls that post months, one after another.
use Rattle.std.proofs.Common.{◌≡◌, ◌⊎◌, inl, inr, ℕ, List, [], ◌∷◌, ◌++◌, refl, ap, sym, ◌∙◌, subst, Some, None, Result, Ok, Err}
use Rattle.std.proofs.lemmas.Bool.{cases_eq}
use Rattle.bill_book.specs.declared.bill.Bill.{Bill}
use Rattle.bill_book.specs.Books.{Book, IsSameBook, AddsMonth}
use Rattle.bill_posting.specs.declared.posting.Receipt.{Receipt}
use Rattle.bill_posting.specs.declared.posting.PostFault.{PostFault}
use Rattle.bill_posting.specs.declared.posting.PostFault.TheVariants.{OtherBills, KeeperFault, NoMemory}
use Rattle.bill_posting.specs.Bills.{bills_of}
use Rattle.bill_posting.specs.Posting.{DoesPost}
use Rattle.bill_posting.specs.Laws.{Call, LeadTo, PostsFirst, ActsOnce}

-- a call leaves the book, or adds its month
data Step (month : ℕ) (bills : List Bill) (old new : Book) : Type 0 where
  left : IsSameBook old new → Step month bills old new
  put : AddsMonth month bills old new → Step month bills old new

step_of : (month : ℕ) (bills : List Bill) (old new : Book) (answer : Result Receipt PostFault) → DoesPost month bills old new answer → Step month bills old new
step_of month bills old new (Ok receipt) (inl now) = put now.1
step_of month bills old new (Ok receipt) (inr before) = left before.2
step_of month bills old new (Err (OtherBills kept asked)) d = left d.3
step_of month bills old new (Err KeeperFault) (inl same) = left same
step_of month bills old new (Err KeeperFault) (inr added) = put added
step_of month bills old new (Err NoMemory) d = left d

-- a month that was posted keeps its bills in a call
kept : (month : ℕ) (bills others : List Bill) (q : ℕ) (old new : Book) → Step month others old new → old q ≡ Some bills → new q ≡ Some bills
kept month bills others q old new (left same) had = same q ∙ had
kept month bills others q old new (put added) had = elim (cases_eq q month) [
  | inl is ↦ let e : old month ≡ Some bills = subst (λ m. old m ≡ Some bills) is had in absurd (let none = added.absent in cc)
  | inr not ↦ added.others q not ∙ had
]

stays : (month : ℕ) (bills : List Bill) (old : Book) (calls : List Call) (new : Book) → LeadTo old calls new → old month ≡ Some bills → new month ≡ Some bills
stays month bills old [] new led had = led month ∙ had
stays month bills old (call ∷ calls) new led had =
    stays month bills led.0 calls new led.2 (kept call.month bills (bills_of call.lines) month old led.0 (step_of call.month (bills_of call.lines) old led.0 call.answer led.1) had)

-- a call that was done leaves the bills that it asked for
posted : (call : Call) (receipt : Receipt) (old new : Book) → call.answer ≡ Ok receipt → DoesPost call.month (bills_of call.lines) old new call.answer → new call.month ≡ Some (bills_of call.lines)
posted call receipt old new is does = at_ok (subst (DoesPost call.month (bills_of call.lines) old new) is does) where
  at_ok : DoesPost call.month (bills_of call.lines) old new (Ok receipt) → new call.month ≡ Some (bills_of call.lines)
  at_ok (inl now) = now.1.posted
  at_ok (inr before) = before.2 call.month ∙ before.1

-- the calls go through a book between any two of them
through : (old : Book) (before after : List Call) (new : Book) → LeadTo old (before ++ after) new → (between : Book) × LeadTo old before between × LeadTo between after new
through old [] after new led = (old, (λ month. refl), led)
through old (call ∷ before) after new led =
    let rest = through led.0 before after new led.2 in
    (rest.0, (led.0, led.1, rest.1), rest.2)

done : (month : ℕ) (old : Book) (calls : List Call) (new : Book) → LeadTo old calls new → (before after : List Call) (call : Call) (receipt : Receipt)
    → calls ≡ before ++ call ∷ after → call.month ≡ month → call.answer ≡ Ok receipt → new month ≡ Some (bills_of call.lines)
done month old calls new led before after call receipt among of_month is =
    let parts = through old before (call ∷ after) new (subst (λ cs. LeadTo old cs new) among led) in
    let ends = parts.2 in
    let had : ends.0 call.month ≡ Some (bills_of call.lines) = posted call receipt parts.0 ends.0 is ends.1 in
    subst (λ m. new m ≡ Some (bills_of call.lines)) of_month (stays call.month (bills_of call.lines) ends.0 after new ends.2 had)

abbrev Firsts : ℕ → Book → List Call → Book → Type 0
Firsts month old calls new = (new month ≡ None) ⊎ ((bills : List Bill) × (new month ≡ Some bills) × PostsFirst month bills old calls new)

-- one call more before the others
earlier : (month : ℕ) (old between : Book) (call : Call) (calls : List Call) (new : Book) → DoesPost call.month (bills_of call.lines) old between call.answer
    → Firsts month between calls new → Firsts month old (call ∷ calls) new
earlier month old between call calls new does (inl none) = inl none
earlier month old between call calls new does (inr found) =
    let p = found.2 in
    inr (
      found.0,
      found.1,
      record {
        before = call ∷ p.before;
        first = p.first;
        after = p.after;
        among = ap (λ (cs : List Call). call ∷ cs) p.among;
        of_month = p.of_month;
        its_bills = p.its_bills;
        reached = p.reached;
        led = (between, does, p.led);
        unposted = p.unposted;
        next = p.next;
        does = p.does;
        posted = p.posted;
        goes_on = p.goes_on;
      },
    )

first_step : (month : ℕ) (old between : Book) (call : Call) (calls : List Call) (new : Book) → DoesPost call.month (bills_of call.lines) old between call.answer
    → LeadTo between calls new → old month ≡ None → (between month ≡ None → Firsts month between calls new)
    → Step call.month (bills_of call.lines) old between → Firsts month old (call ∷ calls) new
first_step month old between call calls new does led none more (left same) = earlier month old between call calls new does (more (same month ∙ none))
first_step month old between call calls new does led none more (put added) = elim (cases_eq month call.month) [
  | inl is ↦
      let had : between month ≡ Some (bills_of call.lines) = subst (λ m. between m ≡ Some (bills_of call.lines)) (sym is) added.posted in
      inr (
        bills_of call.lines,
        stays month (bills_of call.lines) between calls new led had,
        record {
          before = [];
          first = call;
          after = calls;
          among = refl;
          of_month = sym is;
          its_bills = refl;
          reached = old;
          led = λ q. refl;
          unposted = none;
          next = between;
          does = does;
          posted = had;
          goes_on = led;
        },
      )
  | inr not ↦ earlier month old between call calls new does (more (added.others month not ∙ none))
]

firsts : (month : ℕ) (old : Book) (calls : List Call) (new : Book) → LeadTo old calls new → old month ≡ None → Firsts month old calls new
firsts month old [] new led none = inl (led month ∙ none)
firsts month old (call ∷ calls) new led none =
    first_step month old led.0 call calls new led.1 led.2 none (firsts month led.0 calls new led.2)
    (step_of call.month (bills_of call.lines) old led.0 call.answer led.1)

pub acts_once : (month : ℕ) (old : Book) (calls : List Call) (new : Book) → LeadTo old calls new → ActsOnce month old calls new
acts_once month old calls new led = record {
  stays = λ bills. stays month bills old calls new led;
  first = firsts month old calls new led;
  done = done month old calls new led;
}
