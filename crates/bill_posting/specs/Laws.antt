-- Posting acts once.
use Rattle.std.specs.Prelude.{◌≡◌, ◌⊎◌, ℕ, List, [], ◌∷◌, ◌++◌, Some, None, Result, Ok}
use Rattle.bill_book.specs.declared.bill.Bill.{Bill}
use Rattle.bill_book.specs.Books.{Book, IsSameBook}
use Rattle.office_types.specs.declared.reply.ReportLine.{ReportLine}
use Rattle.bill_posting.specs.declared.posting.Receipt.{Receipt}
use Rattle.bill_posting.specs.declared.posting.PostFault.{PostFault}
use Rattle.bill_posting.specs.Bills.{bills_of}
use Rattle.bill_posting.specs.Posting.{DoesPost}

-- a call of `post_month`: the month, by its number, the lines of its report, and what was answered
pub record Call : Type 0 where
  pub month : ℕ
  pub lines : List ReportLine
  pub answer : Result Receipt PostFault

-- the calls, one after another, lead from one book to another
abbrev pub LeadTo : Book → List Call → Book → Type 0
LeadTo old [] new = IsSameBook old new
LeadTo old (call ∷ calls) new =
    (between : Book) × DoesPost call.month (bills_of call.lines) old between call.answer × LeadTo between calls new

-- The first of the calls that posted the month: before it the book had no bills for the month, and after it the book
-- had those of its report.
pub record PostsFirst (month : ℕ) (bills : List Bill) (old : Book) (calls : List Call) (new : Book) : Type 0 where
  pub before : List Call
  pub first : Call
  pub after : List Call
  pub among : calls ≡ before ++ first ∷ after
  pub of_month : first.month ≡ month
  pub its_bills : bills ≡ bills_of first.lines
  pub reached : Book
  pub led : LeadTo old before reached
  pub unposted : reached month ≡ None
  pub next : Book
  pub does : DoesPost first.month (bills_of first.lines) reached next first.answer
  pub posted : next month ≡ Some bills
  pub goes_on : LeadTo next after new

-- What calls do to a month. The bills that it had stay. If it had none, it has those of the first call that posted it,
-- or none if no call did. Every call that was done was asked for the bills that the month has.
pub record ActsOnce (month : ℕ) (old : Book) (calls : List Call) (new : Book) : Type 0 where
  pub stays : (bills : List Bill) → old month ≡ Some bills → new month ≡ Some bills
  pub first : old month ≡ None → (new month ≡ None)
      ⊎ ((bills : List Bill) × (new month ≡ Some bills) × PostsFirst month bills old calls new)
  pub done : (before after : List Call) (call : Call) (receipt : Receipt) → calls ≡ before ++ call ∷ after
      → call.month ≡ month → call.answer ≡ Ok receipt → new month ≡ Some (bills_of call.lines)
