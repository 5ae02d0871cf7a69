-- The kept numbers by month and class.
use Rattle.std.specs.Prelude.{◌≡◌, ◌≢◌, ◌⊎◌, ℕ, zero, suc, ◌+◌, ◌-◌, ◌*◌, ◌^◌, ◌<◌, ◌≤◌, ◌&&◌, ◌==◌, List, [], length, get_or, nat_le}
use Rattle.std.specs.Prelude.{if◌then◌else◌}
use Rattle.moments.specs.Months.{months, month_length}
use Rattle.class_rules.specs.Classes.{rank_of}
use Rattle.class_rules.specs.Lines.{lines_of}
use Rattle.class_rules.specs.declared.class.Class.{Class}
use Rattle.class_rules.specs.declared.billing.Lines.{Lines}
use Rattle.accrual.specs.Meters.{bytes_in_class}
use Rattle.accrual.specs.declared.rows.Before.{Before}
use Rattle.accrual.specs.declared.rows.Numbers.{Numbers}
use Rattle.accrual.specs.declared.rows.Rows.{Rows}

-- what is kept for a class in a month for which nothing was booked
abbrev pub nothing : Numbers
nothing = record { edges = 0; arrived = 0; departed = 0; running = 0; lead = 0; early = 0; moves = 0 }

-- what is kept for the class with this rank in the month; nothing if there is no row
unfoldable pub kept_in : Rows → ℕ → ℕ → Numbers
kept_in rows month rank =
    if nat_le rows.first month then get_or (get_or rows.rows.items (month - rows.first) []) rank nothing else nothing

-- the month has a row: the rows are for consecutive months from the first on
abbrev pub HasRowIn : Rows → ℕ → Type 0
HasRowIn rows month = (rows.first ≤ month) × (month < rows.first + length rows.rows.items)

-- the numbers of one month and class were written; all others are unchanged
pub record IsPut (old new : Rows) (month rank : ℕ) (kept : Numbers) : Type 0 where
  pub there : kept_in new month rank ≡ kept
  pub others : (m r : ℕ) → (m ≢ month) ⊎ (r ≢ rank) → kept_in new m r ≡ kept_in old m r
  pub first : new.first ≡ old.first
  pub as_many : length new.rows.items ≡ length old.rows.items

-- the numbers of one month were written; all others are unchanged
pub record IsRowPut (old new : Rows) (month : ℕ) (row : List Numbers) : Type 0 where
  pub there : (r : ℕ) → kept_in new month r ≡ get_or row r nothing
  pub others : (m r : ℕ) → m ≢ month → kept_in new m r ≡ kept_in old m r
  pub first : new.first ≡ old.first
  pub as_many : length new.rows.items ≡ length old.rows.items

-- n at this month and rank, 0 at all others
abbrev pub at_place : ℕ → ℕ → ℕ → ℕ → ℕ → ℕ
at_place month rank m r n = if m == month && rank == r then n else 0

-- these numbers were added at one month and rank
pub record IsAdded (old new : Rows) (month rank : ℕ) (more : Numbers) : Type 0 where
  pub edges : (m r : ℕ) → (kept_in new m r).edges ≡ (kept_in old m r).edges + at_place month rank m r more.edges
  pub arrived : (m r : ℕ) → (kept_in new m r).arrived ≡ (kept_in old m r).arrived + at_place month rank m r more.arrived
  pub departed : (m r : ℕ)
      → (kept_in new m r).departed ≡ (kept_in old m r).departed + at_place month rank m r more.departed
  pub running : (m r : ℕ) → (kept_in new m r).running ≡ (kept_in old m r).running + at_place month rank m r more.running
  pub lead : (m r : ℕ) → (kept_in new m r).lead ≡ (kept_in old m r).lead + at_place month rank m r more.lead
  pub early : (m r : ℕ) → (kept_in new m r).early ≡ (kept_in old m r).early + at_place month rank m r more.early
  pub moves : (m r : ℕ) → (kept_in new m r).moves ≡ (kept_in old m r).moves + at_place month rank m r more.moves
  pub first : new.first ≡ old.first
  pub as_many : length new.rows.items ≡ length old.rows.items

-- the numbers can be added without leaving their range
pub record HasRoom (kept more : Numbers) : Type 0 where
  pub edges : kept.edges + more.edges < 2 ^ 128
  pub arrived : kept.arrived + more.arrived < 2 ^ 128
  pub departed : kept.departed + more.departed < 2 ^ 128
  pub running : kept.running + more.running < 2 ^ 128
  pub lead : kept.lead + more.lead < 2 ^ 128
  pub early : kept.early + more.early < 2 ^ 128
  pub moves : kept.moves + more.moves < 2 ^ 64

-- the numbers can be subtracted
pub record IsWithin (less kept : Numbers) : Type 0 where
  pub edges : less.edges ≤ kept.edges
  pub arrived : less.arrived ≤ kept.arrived
  pub departed : less.departed ≤ kept.departed
  pub running : less.running ≤ kept.running
  pub lead : less.lead ≤ kept.lead
  pub early : less.early ≤ kept.early
  pub moves : less.moves ≤ kept.moves

-- n in this month, 0 in all others
abbrev pub in_month : ℕ → ℕ → ℕ → ℕ
in_month month m n = if m == month then n else 0

-- what each byte counts of a stay without an end, in the month in which it began; ms is from the month's start to its
-- beginning
abbrev pub running_each : ℕ → Numbers
running_each ms = record { edges = 0; arrived = 0; departed = 0; running = 1; lead = ms; early = 0; moves = 0 }

-- what each byte counts of a stay that has ended, in the month in which it began; ms is from its beginning to the
-- month's end
abbrev pub arrived_each : ℕ → Numbers
arrived_each ms = record { edges = ms; arrived = 1; departed = 0; running = 0; lead = 0; early = 0; moves = 0 }

-- what each byte counts of a stay that has ended, in the month in which it ended; ms is from the month's start to its
-- end
abbrev pub departed_each : ℕ → Numbers
departed_each ms = record { edges = ms; arrived = 0; departed = 1; running = 0; lead = 0; early = 0; moves = 0 }

-- the numbers of this many bytes, given what each byte counts
abbrev pub weighed : ℕ → Numbers → Numbers
weighed bytes each = record {
  edges = bytes * each.edges;
  arrived = bytes * each.arrived;
  departed = bytes * each.departed;
  running = bytes * each.running;
  lead = bytes * each.lead;
  early = 0;
  moves = 0;
}

-- each byte counts as at most one byte, and for less than 2 ^ 32 milliseconds
pub record IsShort (each : Numbers) : Type 0 where
  pub edges : each.edges < 2 ^ 32
  pub arrived : each.arrived ≤ 1
  pub departed : each.departed ≤ 1
  pub running : each.running ≤ 1
  pub lead : each.lead < 2 ^ 32

-- what is kept for the month includes what stays with these lines count in it, so that they can be subtracted
pub record HasBooked (rows : Rows) (lines : Lines) (month : ℕ) (each : Numbers) : Type 0 where
  pub edges : (class : Class)
      → bytes_in_class class (lines_of lines) * each.edges ≤ (kept_in rows month (rank_of class)).edges
  pub arrived : (class : Class)
      → bytes_in_class class (lines_of lines) * each.arrived ≤ (kept_in rows month (rank_of class)).arrived
  pub departed : (class : Class)
      → bytes_in_class class (lines_of lines) * each.departed ≤ (kept_in rows month (rank_of class)).departed
  pub running : (class : Class)
      → bytes_in_class class (lines_of lines) * each.running ≤ (kept_in rows month (rank_of class)).running
  pub lead : (class : Class)
      → bytes_in_class class (lines_of lines) * each.lead ≤ (kept_in rows month (rank_of class)).lead

-- stays with these lines were booked in the month, given what each of their bytes counts
pub record IsBooked (old new : Rows) (lines : Lines) (month : ℕ) (each : Numbers) : Type 0 where
  pub edges : (m : ℕ) (class : Class)
      → (kept_in new m (rank_of class)).edges
      ≡ (kept_in old m (rank_of class)).edges + in_month month m (bytes_in_class class (lines_of lines) * each.edges)
  pub arrived : (m : ℕ) (class : Class)
      → (kept_in new m (rank_of class)).arrived
      ≡ (kept_in old m (rank_of class)).arrived
      + in_month month m (bytes_in_class class (lines_of lines) * each.arrived)
  pub departed : (m : ℕ) (class : Class)
      → (kept_in new m (rank_of class)).departed
      ≡ (kept_in old m (rank_of class)).departed
      + in_month month m (bytes_in_class class (lines_of lines) * each.departed)
  pub running : (m : ℕ) (class : Class)
      → (kept_in new m (rank_of class)).running
      ≡ (kept_in old m (rank_of class)).running
      + in_month month m (bytes_in_class class (lines_of lines) * each.running)
  pub lead : (m : ℕ) (class : Class)
      → (kept_in new m (rank_of class)).lead
      ≡ (kept_in old m (rank_of class)).lead + in_month month m (bytes_in_class class (lines_of lines) * each.lead)
  pub early : (m r : ℕ) → (kept_in new m r).early ≡ (kept_in old m r).early
  pub moves : (m r : ℕ) → (kept_in new m r).moves ≡ (kept_in old m r).moves
  pub first : new.first ≡ old.first
  pub as_many : length new.rows.items ≡ length old.rows.items

-- the numbers are below half of their range
pub record IsModest (kept : Numbers) : Type 0 where
  pub edges : kept.edges < 2 ^ 127
  pub arrived : kept.arrived < 2 ^ 127
  pub departed : kept.departed < 2 ^ 127
  pub running : kept.running < 2 ^ 127
  pub lead : kept.lead < 2 ^ 127
  pub early : kept.early < 2 ^ 127
  pub moves : kept.moves < 2 ^ 63

-- ---- sums over the months before one

-- the sum of one of the kept numbers over the first n months
unfoldable pub sum_to : (Numbers → ℕ) → Rows → ℕ → ℕ → ℕ
sum_to number rows rank zero = 0
sum_to number rows rank (suc n) = sum_to number rows rank n + number (kept_in rows n rank)

-- the bytes of the stays without an end that began before the month
abbrev pub running_to : Rows → ℕ → ℕ → ℕ
running_to rows rank month = sum_to (λ kept. kept.running) rows rank month

-- the bytes of the stays that have ended and began before the month
abbrev pub arrived_to : Rows → ℕ → ℕ → ℕ
arrived_to rows rank month = sum_to (λ kept. kept.arrived) rows rank month

-- the bytes of the stays that ended before the month
abbrev pub departed_to : Rows → ℕ → ℕ → ℕ
departed_to rows rank month = sum_to (λ kept. kept.departed) rows rank month

-- the sums of a class over the months before this one
pub record IsBefore (rows : Rows) (month rank : ℕ) (before : Before) : Type 0 where
  pub running : before.running ≡ running_to rows rank month
  pub arrived : before.arrived ≡ arrived_to rows rank month
  pub departed : before.departed ≡ departed_to rows rank month

-- sums that are all 0
abbrev pub none_before : Before
none_before = record { running = 0; arrived = 0; departed = 0 }

-- the sums of each class over the months before this one, by rank
abbrev pub AreBefore : Rows → ℕ → List Before → Type 0
AreBefore rows month sums =
    (class : Class) → IsBefore rows month (rank_of class) (get_or sums (rank_of class) none_before)

-- the byte-milliseconds counted for a month: its edges, and the whole month for all that arrived before it
unfoldable pub gross_in : Rows → ℕ → ℕ → ℕ
gross_in rows month rank = (kept_in rows month rank).edges + arrived_to rows rank month * month_length month

-- the excess in that count: the whole month for all that departed by its end
unfoldable pub excess_in : Rows → ℕ → ℕ → ℕ
excess_in rows month rank = departed_to rows rank (month + 1) * month_length month

-- the byte-milliseconds, inside the month, of the stays that have ended
unfoldable pub ended_in : Rows → ℕ → ℕ → ℕ
ended_in rows month rank = gross_in rows month rank - excess_in rows month rank

-- a stay with these lines has ended; ms gives its milliseconds in each month
pub record IsEnded (old new : Rows) (lines : Lines) (ms : ℕ → ℕ) : Type 0 where
  pub gain : (m : ℕ) (class : Class)
      → gross_in new m (rank_of class) + excess_in old m (rank_of class)
      ≡ gross_in old m (rank_of class) + excess_in new m (rank_of class) + bytes_in_class class (lines_of lines) * ms m
  pub grows : (m : ℕ) (class : Class) → excess_in old m (rank_of class) ≤ excess_in new m (rank_of class)
  pub edges : (m : ℕ) (class : Class)
      → (kept_in new m (rank_of class)).edges
      ≤ (kept_in old m (rank_of class)).edges + bytes_in_class class (lines_of lines) * 2 ^ 33
  pub arrived : (class : Class)
      → arrived_to new (rank_of class) months
      ≡ arrived_to old (rank_of class) months + bytes_in_class class (lines_of lines)
  pub departed : (class : Class)
      → departed_to new (rank_of class) months
      ≡ departed_to old (rank_of class) months + bytes_in_class class (lines_of lines)
  pub running : (m : ℕ) (class : Class)
      → (kept_in new m (rank_of class)).running ≡ (kept_in old m (rank_of class)).running
  pub lead : (m : ℕ) (class : Class) → (kept_in new m (rank_of class)).lead ≡ (kept_in old m (rank_of class)).lead
  pub early : (m r : ℕ) → (kept_in new m r).early ≡ (kept_in old m r).early
  pub moves : (m r : ℕ) → (kept_in new m r).moves ≡ (kept_in old m r).moves
  pub first : new.first ≡ old.first
  pub as_many : length new.rows.items ≡ length old.rows.items
