-- The bills of a month's report (S3 User Guide, "Understanding your AWS billing and usage reports for Amazon S3": usage
-- is reported by bucket; that a bucket has one bill is our own).
use Rattle.std.specs.Prelude.{◌≡◌, ℕ, ◌+◌, Bool, List, [], Option, Some, None, map, filter, find, fold, sum_by}
use Rattle.std.specs.Prelude.{count_by, if◌then◌else◌}
use Rattle.std.specs.List.{list_any}
use Rattle.std.specs.Str.{bytes_eq}
use Rattle.std.specs.Map.{values_of}
use Rattle.office_base.specs.Maps.{at_name, with_name}
use Rattle.office_types.specs.declared.reply.ReportLine.{ReportLine}
use Rattle.bill_book.specs.declared.bill.Bill.{Bill}
use Rattle.bill_book.specs.Bills.{RiseByBucket}
use Rattle.bill_posting.specs.declared.tally.Tally.{Tally}

-- ---- the bills

-- a tally with one more line; the tally of that line if there is none
abbrev pub added : ReportLine → Option Tally → Tally
added line None = record { total = line.charge; lines = 1 }
added line (Some tally) = record { total = tally.total + line.charge; lines = tally.lines + 1 }

-- the tallies with the line added to that of its bucket
abbrev pub with_line : List (List ℕ × Tally) → ReportLine → List (List ℕ × Tally)
with_line tallies line = with_name line.bucket (added line (at_name line.bucket tallies)) tallies

-- the tallies of the buckets that have a line, in byte order
abbrev pub tallies_of : List ReportLine → List (List ℕ × Tally)
tallies_of lines = fold with_line [] lines

-- the bill of a bucket with this tally
abbrev pub bill_of : List ℕ × Tally → Bill
bill_of entry = record { bucket = entry.0; total = entry.1.total; lines = entry.1.lines }

-- one bill for each bucket that has a line, in byte order, with the sum of the charges and the number of its lines; the
-- law `bills_of_a_report` fixes the list by `AreBillsOf`, below
unfoldable pub bills_of : List ReportLine → List Bill
bills_of lines = map bill_of (tallies_of lines)

-- what all tallies charge together
abbrev pub tallied_total : List (List ℕ × Tally) → ℕ
tallied_total tallies = sum_by (λ (tally : Tally). tally.total) (values_of tallies)

-- how many lines all tallies have together
abbrev pub tallied_lines : List (List ℕ × Tally) → ℕ
tallied_lines tallies = sum_by (λ (tally : Tally). tally.lines) (values_of tallies)

-- ---- what they are

-- the line is one of this bucket
abbrev pub is_line_of : List ℕ → ReportLine → Bool
is_line_of bucket line = bytes_eq bucket line.bucket

-- the bill of a bucket, from all its lines; none if it has no line
abbrev pub own_bill : List ℕ → List ReportLine → Option Bill
own_bill bucket lines =
    if list_any (is_line_of bucket) lines then Some (record {
      bucket = bucket;
      total = sum_by (λ (line : ReportLine). line.charge) (filter (is_line_of bucket) lines);
      lines = count_by (is_line_of bucket) lines;
    })
    else None

-- the first bill of this bucket in a list
abbrev pub bill_in : List ℕ → List Bill → Option Bill
bill_in bucket bills = find (λ (bill : Bill). bytes_eq bucket bill.bucket) bills

-- The bills of a report: they are in byte order of their buckets, which differ. Each bucket has its own bill, or none
-- if it has no line.
pub record AreBillsOf (lines : List ReportLine) (bills : List Bill) : Type 0 where
  pub rise : RiseByBucket bills
  pub own : (bucket : List ℕ) → bill_in bucket bills ≡ own_bill bucket lines
