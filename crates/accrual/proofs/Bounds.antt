-- The bounds after each booking.
use Rattle.std.proofs.Common.{◌≡◌, ◌≤◌, ◌<◌, ◌+◌, ◌-◌, ◌*◌, ◌==◌, ℕ, Bool, true, false, length, refl, ap, sym, ◌∙◌, arith, subst}
use Rattle.std.specs.Prelude.{◌^◌, nat_lt, ◌&&◌, if◌then◌else◌}
use Rattle.std.proofs.lemmas.Bool.Decides.{nat_tests}
use Rattle.std.proofs.lemmas.Nat.{mul-le}
use Rattle.office_base.specs.Sizes.{largest_size}
use Rattle.moments.specs.Months.{months, month_length}
use Rattle.class_rules.specs.Classes.{rank_of, least_stay}
use Rattle.class_rules.specs.Lines.{lines_of}
use Rattle.class_rules.specs.declared.class.Class.{Class}
use Rattle.class_rules.specs.declared.class.Class.TheVariants.{Standard, StandardIa, OnezoneIa, GlacierIr, Glacier, DeepArchive}
use Rattle.class_rules.specs.declared.billing.Lines.{Lines}
use Rattle.accrual.specs.Meters.{bytes_in_class}
use Rattle.accrual.specs.Totals.{IsBilled, most_bookings}
use Rattle.accrual.specs.Bounds.{IsBounded}
use Rattle.accrual.specs.Sums.{IsSmall}
use Rattle.accrual.specs.declared.rows.Before.{Before}
use Rattle.accrual.specs.declared.rows.Numbers.{Numbers}
use Rattle.accrual.specs.declared.rows.Rows.{Rows}
use Rattle.accrual.specs.Rows.{nothing, kept_in, HasRoom, IsModest, IsWithin, IsBooked, IsEnded, IsAdded, IsBefore, running_each, arrived_each, running_to, arrived_to, departed_to, gross_in, excess_in, ended_in}
use Rattle.accrual.proofs.Cases.{if_less}
use Rattle.accrual.proofs.Changes.{lines_bytes}
use Rattle.accrual.proofs.Prefixes.{sum_more, sum_booked, sum_same, sum_least, one_least, sum_empty, gross_same, excess_same, ended_same, gross_is, excess_is, ended_is, ended_plain, past_is}
use Rattle.accrual.proofs.Summing.{nothing_small}

-- ---- what one booking adds

bytes_small : (lines : Lines) (class : Class) → IsBilled lines → bytes_in_class class (lines_of lines) < 2 ^ 44
bytes_small lines class billed =
    let b = lines_bytes lines class in
    let x = if_less (rank_of lines.class == rank_of class) lines.bytes in
    let y = if_less (0 == rank_of class) lines.standard in
    omega (arith, b, x, y, billed.0, billed.1)

product_less : (bytes ms : ℕ) → bytes < 2 ^ 44 → ms < 2 ^ 32 → bytes * ms ≤ 2 ^ 76
product_less bytes ms small short = let p = mul-le bytes ms (2 ^ 44) (2 ^ 32) (omega (arith, small)) (omega (arith, short)) in omega (arith, p)

-- what each byte of a running stay counts
one_byte : (t : Bool) (b : ℕ) → (if t then b * 1 else 0) ≤ b
one_byte true b = omega arith
one_byte false b = omega arith

no_byte : (t : Bool) (b : ℕ) → (if t then b * 0 else 0) ≡ 0
no_byte true b = omega arith
no_byte false b = refl

-- a running stay changes nothing of those that have ended
gross_running : (old new : Rows) (lines : Lines) (month ms m : ℕ) (class : Class) → IsBooked old new lines month (running_each ms) → gross_in new m (rank_of class) ≡ gross_in old m (rank_of class)
gross_running old new lines month ms m class begun =
    gross_same old new m (rank_of class)
    (let e = begun.edges m class in let n = no_byte (m == month) (bytes_in_class class (lines_of lines)) in omega (arith, e, n))
    (λ k. let e = begun.arrived k class in let n = no_byte (k == month) (bytes_in_class class (lines_of lines)) in omega (arith, e, n))

excess_running : (old new : Rows) (lines : Lines) (month ms m : ℕ) (class : Class) → IsBooked old new lines month (running_each ms) → excess_in new m (rank_of class) ≡ excess_in old m (rank_of class)
excess_running old new lines month ms m class begun =
    excess_same old new m (rank_of class) (λ k. let e = begun.departed k class in let n = no_byte (k == month) (bytes_in_class class (lines_of lines)) in omega (arith, e, n))

pub ended_running : (old new : Rows) (lines : Lines) (month ms m : ℕ) (class : Class) → IsBooked old new lines month (running_each ms) → ended_in new m (rank_of class) ≡ ended_in old m (rank_of class)
ended_running old new lines month ms m class begun = ended_same old new m (rank_of class) (gross_running old new lines month ms m class begun) (excess_running old new lines month ms m class begun)

arrived_running : (old new : Rows) (lines : Lines) (month ms : ℕ) (class : Class) → IsBooked old new lines month (running_each ms) → arrived_to new (rank_of class) months ≡ arrived_to old (rank_of class) months
arrived_running old new lines month ms class begun =
    sum_same (λ kept. kept.arrived) old new (rank_of class) months (λ k. let e = begun.arrived k class in let n = no_byte (k == month) (bytes_in_class class (lines_of lines)) in omega (arith, e, n))

departed_running : (old new : Rows) (lines : Lines) (month ms : ℕ) (class : Class) → IsBooked old new lines month (running_each ms) → departed_to new (rank_of class) months ≡ departed_to old (rank_of class) months
departed_running old new lines month ms class begun =
    sum_same (λ kept. kept.departed) old new (rank_of class) months (λ k. let e = begun.departed k class in let n = no_byte (k == month) (bytes_in_class class (lines_of lines)) in omega (arith, e, n))

running_running : (old new : Rows) (lines : Lines) (month ms : ℕ) (class : Class) → IsBooked old new lines month (running_each ms)
    → running_to new (rank_of class) months ≡ running_to old (rank_of class) months + (if nat_lt month months then bytes_in_class class (lines_of lines) * 1 else 0)
running_running old new lines month ms class begun =
    sum_booked (λ kept. kept.running) old new (rank_of class) month (bytes_in_class class (lines_of lines) * 1) months (λ m. begun.running m class)

pub bounded_begun : (old new : Rows) (booked : ℕ) (lines : Lines) (month ms : ℕ) → IsBounded old booked → booked < most_bookings → IsBilled lines → ms < 2 ^ 32
    → IsBooked old new lines month (running_each ms) → IsBounded new (booked + 1)
bounded_begun old new booked lines month ms bounded few billed short begun = record {
  run = let f = begun.first in let a = begun.as_many in let r = bounded.run in omega (arith, f, a, r);
  few = omega (arith, few);
  used = λ m class.
      let g = gross_running old new lines month ms m class begun in
      let x = excess_running old new lines month ms m class begun in
      let r = running_running old new lines month ms class begun in
      let o = bounded.used m class in
      let i = one_byte (nat_lt month months) (bytes_in_class class (lines_of lines)) in
      let s = bytes_small lines class billed in
      omega (arith, g, x, r, o, i, s);
  covered = λ m class.
      let g = gross_running old new lines month ms m class begun in
      let x = excess_running old new lines month ms m class begun in
      let o = bounded.covered m class in
      omega (arith, g, x, o);
  edges = λ m class.
      let e = begun.edges m class in
      let n = no_byte (m == month) (bytes_in_class class (lines_of lines)) in
      let r = running_running old new lines month ms class begun in
      let o = bounded.edges m class in
      let i = one_byte (nat_lt month months) (bytes_in_class class (lines_of lines)) in
      let s = bytes_small lines class billed in
      omega (arith, e, n, r, o, i, s);
  bytes = λ class.
      let a = arrived_running old new lines month ms class begun in
      let r = running_running old new lines month ms class begun in
      let o = bounded.bytes class in
      let i = one_byte (nat_lt month months) (bytes_in_class class (lines_of lines)) in
      let s = bytes_small lines class billed in
      omega (arith, a, r, o, i, s);
  balanced = λ class. departed_running old new lines month ms class begun ∙ (bounded.balanced class ∙ sym (arrived_running old new lines month ms class begun));
  lead = λ m class.
      let b = begun.lead m class in
      let o = bounded.lead m class in
      let i = if_less (m == month) (bytes_in_class class (lines_of lines) * ms) in
      let s = product_less (bytes_in_class class (lines_of lines)) ms (bytes_small lines class billed) short in
      omega (arith, b, o, i, s);
  early = λ m class. let b = begun.early m (rank_of class) in let o = bounded.early m class in omega (arith, b, o);
  moves = λ m class. let b = begun.moves m (rank_of class) in let o = bounded.moves m class in omega (arith, b, o);
}

-- what is left when a running stay is taken out
pub covered_finished : (old mid : Rows) (booked : ℕ) (lines : Lines) (month ms : ℕ) → IsBounded old booked → IsBooked mid old lines month (running_each ms)
    → (m : ℕ) (class : Class) → excess_in mid m (rank_of class) ≤ gross_in mid m (rank_of class)
covered_finished old mid booked lines month ms bounded begun m class =
    let g = gross_running mid old lines month ms m class begun in
    let x = excess_running mid old lines month ms m class begun in
    let v = bounded.covered m class in
    omega (arith, g, x, v)

-- a stay that was taken out has ended: its milliseconds in a month are no more than it counted for
pub counted_for : (bytes ms : ℕ) → ms < 2 ^ 32 → bytes * ms ≤ bytes * 2 ^ 32
counted_for bytes ms short = mul-le bytes ms bytes (2 ^ 32) (omega arith) (omega (arith, short))

pub bounded_ended : (old mid new : Rows) (booked : ℕ) (lines : Lines) (month lead : ℕ) (ms : ℕ → ℕ) → IsBounded old booked → month < months → ((m : ℕ) → ms m < 2 ^ 32)
    → IsBooked mid old lines month (running_each lead) → IsEnded mid new lines ms → IsBounded new booked
bounded_ended old mid new booked lines month lead ms bounded among short begun ended = record {
  run = let f = ended.first in let a = ended.as_many in let g = begun.first in let b = begun.as_many in let r = bounded.run in omega (arith, f, a, g, b, r);
  few = bounded.few;
  used = λ m class.
      let o = bounded.used m class in
      let v = bounded.covered m class in
      let g = gross_running mid old lines month lead m class begun in
      let x = excess_running mid old lines month lead m class begun in
      let e = ended.gain m class in
      let r = all_running class in
      let c = counted_for (bytes_in_class class (lines_of lines)) (ms m) (short m) in
      omega (arith, o, v, g, x, e, r, c);
  covered = λ m class.
      let v = bounded.covered m class in
      let g = gross_running mid old lines month lead m class begun in
      let x = excess_running mid old lines month lead m class begun in
      let e = ended.gain m class in
      omega (arith, v, g, x, e);
  edges = λ m class.
      let o = bounded.edges m class in
      let b = begun.edges m class in
      let n = no_byte (m == month) (bytes_in_class class (lines_of lines)) in
      let e = ended.edges m class in
      let r = all_running class in
      omega (arith, o, b, n, e, r);
  bytes = λ class.
      let o = bounded.bytes class in
      let a = arrived_running mid old lines month lead class begun in
      let e = ended.arrived class in
      let r = all_running class in
      omega (arith, o, a, e, r);
  balanced = λ class.
      let o = bounded.balanced class in
      let a = arrived_running mid old lines month lead class begun in
      let d = departed_running mid old lines month lead class begun in
      let e = ended.arrived class in
      let f = ended.departed class in
      omega (arith, o, a, d, e, f);
  lead = λ m class. let b = begun.lead m class in let e = ended.lead m class in let o = bounded.lead m class in omega (arith, b, e, o);
  early = λ m class. let b = begun.early m (rank_of class) in let e = ended.early m (rank_of class) in let o = bounded.early m class in omega (arith, b, e, o);
  moves = λ m class. let b = begun.moves m (rank_of class) in let e = ended.moves m (rank_of class) in let o = bounded.moves m class in omega (arith, b, e, o);
} where
  all_running : (class : Class) → running_to old (rank_of class) months ≡ running_to new (rank_of class) months + bytes_in_class class (lines_of lines)
  all_running class =
      let r = running_running mid old lines month lead class begun in
      let i : (if nat_lt month months then bytes_in_class class (lines_of lines) * 1 else 0) ≡ bytes_in_class class (lines_of lines) * 1 = grind (arith, nat_tests, among) in
      let s = sum_same (λ kept. kept.running) mid new (rank_of class) months (λ m. ended.running m class) in
      omega (arith, r, i, s)

-- an early quantity or a move
pub bounded_added : (old new : Rows) (booked month rank early moves : ℕ) → IsBounded old booked → booked < most_bookings → early ≤ 5 * 2 ^ 74 → moves ≤ 1
    → IsAdded old new month rank (record { edges = 0; arrived = 0; departed = 0; running = 0; lead = 0; early = early; moves = moves })
    → IsBounded new (booked + 1)
bounded_added old new booked month rank early moves bounded few small one added = record {
  run = let f = added.first in let a = added.as_many in let r = bounded.run in omega (arith, f, a, r);
  few = omega (arith, few);
  used = λ m class.
      let g = gross m class in
      let x = excess m class in
      let r = running class in
      let o = bounded.used m class in
      omega (arith, g, x, r, o);
  covered = λ m class. let g = gross m class in let x = excess m class in let o = bounded.covered m class in omega (arith, g, x, o);
  edges = λ m class. let e = same_edges m class in let r = running class in let o = bounded.edges m class in omega (arith, e, r, o);
  bytes = λ class. let a = arrived class in let r = running class in let o = bounded.bytes class in omega (arith, a, r, o);
  balanced = λ class. let a = arrived class in let d = departed class in let o = bounded.balanced class in omega (arith, a, d, o);
  lead = λ m class. let b = added.lead m (rank_of class) in let i = if_less (m == month && rank == rank_of class) 0 in let o = bounded.lead m class in omega (arith, b, i, o);
  early = λ m class. let b = added.early m (rank_of class) in let i = if_less (m == month && rank == rank_of class) early in let o = bounded.early m class in omega (arith, b, i, o, small);
  moves = λ m class. let b = added.moves m (rank_of class) in let i = if_less (m == month && rank == rank_of class) moves in let o = bounded.moves m class in omega (arith, b, i, o, one);
} where
  same_edges : (m : ℕ) (class : Class) → (kept_in new m (rank_of class)).edges ≡ (kept_in old m (rank_of class)).edges
  same_edges m class = let b = added.edges m (rank_of class) in let i = if_less (m == month && rank == rank_of class) 0 in omega (arith, b, i)

  same_arrived : (m : ℕ) (class : Class) → (kept_in new m (rank_of class)).arrived ≡ (kept_in old m (rank_of class)).arrived
  same_arrived m class = let b = added.arrived m (rank_of class) in let i = if_less (m == month && rank == rank_of class) 0 in omega (arith, b, i)

  same_departed : (m : ℕ) (class : Class) → (kept_in new m (rank_of class)).departed ≡ (kept_in old m (rank_of class)).departed
  same_departed m class = let b = added.departed m (rank_of class) in let i = if_less (m == month && rank == rank_of class) 0 in omega (arith, b, i)

  gross : (m : ℕ) (class : Class) → gross_in new m (rank_of class) ≡ gross_in old m (rank_of class)
  gross m class = gross_same old new m (rank_of class) (same_edges m class) (λ k. same_arrived k class)

  excess : (m : ℕ) (class : Class) → excess_in new m (rank_of class) ≡ excess_in old m (rank_of class)
  excess m class = excess_same old new m (rank_of class) (λ k. same_departed k class)

  arrived : (class : Class) → arrived_to new (rank_of class) months ≡ arrived_to old (rank_of class) months
  arrived class = sum_same (λ kept. kept.arrived) old new (rank_of class) months (λ k. same_arrived k class)

  departed : (class : Class) → departed_to new (rank_of class) months ≡ departed_to old (rank_of class) months
  departed class = sum_same (λ kept. kept.departed) old new (rank_of class) months (λ k. same_departed k class)

  running : (class : Class) → running_to new (rank_of class) months ≡ running_to old (rank_of class) months
  running class =
      sum_same (λ kept. kept.running) old new (rank_of class) months
      (λ k. let b = added.running k (rank_of class) in let i = if_less (k == month && rank == rank_of class) 0 in omega (arith, b, i))

-- ---- what the bounds give

-- all bytes for the longest month, with what has ended in it
pub all_used : (rows : Rows) (booked month : ℕ) (class : Class) → IsBounded rows booked
    → ended_in rows month (rank_of class) + (running_to rows (rank_of class) month + (kept_in rows month (rank_of class)).running) * 2 ^ 32 < 2 ^ 121
all_used rows booked month class bounded =
    let o = bounded.used month class in
    let v = bounded.covered month class in
    let e = ended_is rows month (rank_of class) in
    let f = bounded.few in
    let l = sum_least (λ kept. kept.running) refl rows (rank_of class) (month + 1) bounded.run in
    let m = sum_more (λ kept. kept.running) rows (rank_of class) month in
    omega (arith, o, v, e, f, l, m)

pub bounded_running : (rows : Rows) (booked n : ℕ) (class : Class) → IsBounded rows booked → running_to rows (rank_of class) n < 2 ^ 127
bounded_running rows booked n class bounded =
    let o = bounded.bytes class in
    let f = bounded.few in
    let l = sum_least (λ kept. kept.running) refl rows (rank_of class) n bounded.run in
    omega (arith, o, f, l)

pub bounded_arrived : (rows : Rows) (booked n : ℕ) (class : Class) → IsBounded rows booked → arrived_to rows (rank_of class) n < 2 ^ 88
bounded_arrived rows booked n class bounded =
    let o = bounded.bytes class in
    let f = bounded.few in
    let l = sum_least (λ kept. kept.arrived) refl rows (rank_of class) n bounded.run in
    omega (arith, o, f, l)

pub bounded_departed : (rows : Rows) (booked n : ℕ) (class : Class) → IsBounded rows booked → departed_to rows (rank_of class) n < 2 ^ 88
bounded_departed rows booked n class bounded =
    let o = bounded.bytes class in
    let d = bounded.balanced class in
    let f = bounded.few in
    let l = sum_least (λ kept. kept.departed) refl rows (rank_of class) n bounded.run in
    omega (arith, o, d, f, l)

-- whole months of what arrived
pub whole_small : (bytes ms : ℕ) → bytes < 2 ^ 89 → ms < 2 ^ 32 → bytes * ms < 2 ^ 122
whole_small bytes ms small short = let p = mul-le bytes ms (2 ^ 89) (2 ^ 32) (omega (arith, small)) (omega (arith, short)) in omega (arith, p)

pub bounded_edges : (rows : Rows) (booked month : ℕ) (class : Class) → IsBounded rows booked → (kept_in rows month (rank_of class)).edges < 2 ^ 122
bounded_edges rows booked month class bounded = let o = bounded.edges month class in let f = bounded.few in omega (arith, o, f)

pub bounded_early : (rows : Rows) (booked month : ℕ) (class : Class) → IsBounded rows booked → (kept_in rows month (rank_of class)).early < 2 ^ 121
bounded_early rows booked month class bounded = let o = bounded.early month class in let f = bounded.few in omega (arith, o, f)

pub bounded_moves : (rows : Rows) (booked month : ℕ) (class : Class) → IsBounded rows booked → (kept_in rows month (rank_of class)).moves < 2 ^ 63
bounded_moves rows booked month class bounded = let o = bounded.moves month class in let f = bounded.few in omega (arith, o, f)

pub bounded_modest : (rows : Rows) (booked month : ℕ) (class : Class) → IsBounded rows booked → IsModest (kept_in rows month (rank_of class))
bounded_modest rows booked month class bounded =
    let f = bounded.few in
    record {
      edges = let o = bounded_edges rows booked month class bounded in omega (arith, o);
      arrived = let o = bounded.bytes class in let l = one_least (λ kept. kept.arrived) refl rows (rank_of class) month bounded.run in omega (arith, o, l, f);
      departed = let o = bounded.bytes class in let d = bounded.balanced class in let l = one_least (λ kept. kept.departed) refl rows (rank_of class) month bounded.run in omega (arith, o, d, l, f);
      running = let o = bounded.bytes class in let l = one_least (λ kept. kept.running) refl rows (rank_of class) month bounded.run in omega (arith, o, l, f);
      lead = let o = bounded.lead month class in omega (arith, o, f);
      early = let o = bounded_early rows booked month class bounded in omega (arith, o);
      moves = bounded_moves rows booked month class bounded;
    }

-- without a running stay there is more room
less_modest : (small kept : Numbers) → IsModest kept → IsWithin small kept → IsModest small
less_modest small kept modest within = record {
  edges = omega (arith, modest.edges, within.edges);
  arrived = omega (arith, modest.arrived, within.arrived);
  departed = omega (arith, modest.departed, within.departed);
  running = omega (arith, modest.running, within.running);
  lead = omega (arith, modest.lead, within.lead);
  early = omega (arith, modest.early, within.early);
  moves = omega (arith, modest.moves, within.moves);
}

pub modest_finished : (old mid : Rows) (booked : ℕ) (lines : Lines) (month ms k : ℕ) (class : Class) → IsBounded old booked → IsBooked mid old lines month (running_each ms) → IsModest (kept_in mid k (rank_of class))
modest_finished old mid booked lines month ms k class bounded begun =
    less_modest (kept_in mid k (rank_of class)) (kept_in old k (rank_of class)) (bounded_modest old booked k class bounded)
    (record {
      edges = let e = begun.edges k class in omega (arith, e);
      arrived = let e = begun.arrived k class in omega (arith, e);
      departed = let e = begun.departed k class in omega (arith, e);
      running = let e = begun.running k class in omega (arith, e);
      lead = let e = begun.lead k class in omega (arith, e);
      early = let e = begun.early k (rank_of class) in omega (arith, e);
      moves = let e = begun.moves k (rank_of class) in omega (arith, e);
    })

-- and there is room after its arrival was booked
pub modest_arrived : (old mid next : Rows) (booked : ℕ) (lines : Lines) (month ms first x k : ℕ) (class : Class) → IsBounded old booked → IsBilled lines → x < 2 ^ 32
    → IsBooked mid old lines month (running_each ms) → IsBooked mid next lines first (arrived_each x) → IsModest (kept_in next k (rank_of class))
modest_arrived old mid next booked lines month ms first x k class bounded billed short begun arrived =
    let f = bounded.few in
    let s = bytes_small lines class billed in
    record {
      edges =
          let e = arrived.edges k class in
          let b = begun.edges k class in
          let o = bounded_edges old booked k class bounded in
          let i = if_less (k == first) (bytes_in_class class (lines_of lines) * x) in
          let p = product_less (bytes_in_class class (lines_of lines)) x s short in
          omega (arith, e, b, o, i, p);
      arrived =
          let e = arrived.arrived k class in
          let b = begun.arrived k class in
          let o = bounded.bytes class in
          let l = one_least (λ kept. kept.arrived) refl old (rank_of class) k bounded.run in
          let i = one_byte (k == first) (bytes_in_class class (lines_of lines)) in
          omega (arith, e, b, o, l, i, s, f);
      departed = let e = arrived.departed k class in let n = no_byte (k == first) (bytes_in_class class (lines_of lines)) in let o = (modest_finished old mid booked lines month ms k class bounded begun).departed in omega (arith, e, n, o);
      running = let e = arrived.running k class in let n = no_byte (k == first) (bytes_in_class class (lines_of lines)) in let o = (modest_finished old mid booked lines month ms k class bounded begun).running in omega (arith, e, n, o);
      lead = let e = arrived.lead k class in let n = no_byte (k == first) (bytes_in_class class (lines_of lines)) in let o = (modest_finished old mid booked lines month ms k class bounded begun).lead in omega (arith, e, n, o);
      early = let e = arrived.early k (rank_of class) in let o = (modest_finished old mid booked lines month ms k class bounded begun).early in omega (arith, e, o);
      moves = let e = arrived.moves k (rank_of class) in let o = (modest_finished old mid booked lines month ms k class bounded begun).moves in omega (arith, e, o);
    }

-- no class has a minimum storage duration of more than 180 days
pub least_small : (class : Class) → least_stay class ≤ 15_552_000_000
least_small Standard = omega arith
least_small StandardIa = omega arith
least_small OnezoneIa = omega arith
least_small GlacierIr = omega arith
least_small Glacier = omega arith
least_small DeepArchive = omega arith

pub owed_small : (class : Class) (bytes entered at : ℕ) → bytes ≤ largest_size + 32_768 → entered ≤ at → bytes * (entered + least_stay class - at) ≤ 5 * 2 ^ 74
owed_small class bytes entered at small later =
    let l = least_small class in
    let p = mul-le bytes (entered + least_stay class - at) (largest_size + 32_768) 15_552_000_000 small (omega (arith, l, later)) in
    omega (arith, p)

pub added_room : (rows : Rows) (booked month : ℕ) (class : Class) (early moves : ℕ) → IsBounded rows booked → early ≤ 5 * 2 ^ 74 → moves ≤ 1
    → HasRoom (kept_in rows month (rank_of class)) (record { edges = 0; arrived = 0; departed = 0; running = 0; lead = 0; early = early; moves = moves })
added_room rows booked month class early moves bounded small one =
    let m = bounded_modest rows booked month class bounded in
    record {
      edges = let o = m.edges in omega (arith, o);
      arrived = let o = m.arrived in omega (arith, o);
      departed = let o = m.departed in omega (arith, o);
      running = let o = m.running in omega (arith, o);
      lead = let o = m.lead in omega (arith, o);
      early = let o = m.early in omega (arith, o, small);
      moves = let o = m.moves in omega (arith, o, one);
    }

-- other rows with the same kept numbers
pub bounded_same : (old new : Rows) (booked : ℕ) → IsBounded old booked
    → ((month rank : ℕ) → kept_in new month rank ≡ kept_in old month rank) → new.first + length new.rows.items ≤ months
    → IsBounded new booked
bounded_same old new booked bounded same run = record {
  run = run;
  few = bounded.few;
  used = λ m class.
      let g = gross m class in
      let x = excess m class in
      let r = sum_same (λ kept. kept.running) old new (rank_of class) months (λ m. ap (λ (k : Numbers). k.running) (same m (rank_of class))) in
      let o = bounded.used m class in
      omega (arith, g, x, r, o);
  covered = λ m class. let g = gross m class in let x = excess m class in let o = bounded.covered m class in omega (arith, g, x, o);
  edges = λ m class.
      let e = ap (λ (k : Numbers). k.edges) (same m (rank_of class)) in
      let r = sum_same (λ kept. kept.running) old new (rank_of class) months (λ m. ap (λ (k : Numbers). k.running) (same m (rank_of class))) in
      let o = bounded.edges m class in
      omega (arith, e, r, o);
  bytes = λ class.
      let a = sum_same (λ kept. kept.arrived) old new (rank_of class) months (λ m. ap (λ (k : Numbers). k.arrived) (same m (rank_of class))) in
      let r = sum_same (λ kept. kept.running) old new (rank_of class) months (λ m. ap (λ (k : Numbers). k.running) (same m (rank_of class))) in
      let o = bounded.bytes class in
      omega (arith, a, r, o);
  balanced = λ class.
      let a = sum_same (λ kept. kept.arrived) old new (rank_of class) months (λ m. ap (λ (k : Numbers). k.arrived) (same m (rank_of class))) in
      let d = sum_same (λ kept. kept.departed) old new (rank_of class) months (λ m. ap (λ (k : Numbers). k.departed) (same m (rank_of class))) in
      let o = bounded.balanced class in
      omega (arith, a, d, o);
  lead = λ m class. subst (λ (k : Numbers). k.lead ≤ booked * 2 ^ 76) (sym (same m (rank_of class))) (bounded.lead m class);
  early = λ m class. subst (λ (k : Numbers). k.early < 2 ^ 120 + booked * 5 * 2 ^ 74) (sym (same m (rank_of class))) (bounded.early m class);
  moves = λ m class. subst (λ (k : Numbers). k.moves < 2 ^ 62 + booked) (sym (same m (rank_of class))) (bounded.moves m class);
} where
  gross : (m : ℕ) (class : Class) → gross_in new m (rank_of class) ≡ gross_in old m (rank_of class)
  gross m class = gross_same old new m (rank_of class) (ap (λ (k : Numbers). k.edges) (same m (rank_of class))) (λ k. ap (λ (n : Numbers). n.arrived) (same k (rank_of class)))

  excess : (m : ℕ) (class : Class) → excess_in new m (rank_of class) ≡ excess_in old m (rank_of class)
  excess m class = excess_same old new m (rank_of class) (λ k. ap (λ (n : Numbers). n.departed) (same k (rank_of class)))

-- rows with small sums, in which nothing is kept of a stay
pub bounded_small : (rows : Rows) → rows.first + length rows.rows.items ≤ months → ((month : ℕ) (class : Class) → IsSmall (kept_in rows month (rank_of class))) → IsBounded rows 0
bounded_small rows run small = record {
  run = run;
  few = omega arith;
  used = λ m class. let s = (small m class).edges in let r = running class in let p = plain m class in let g = p.0 in omega (arith, s, r, g);
  covered = λ m class. let p = plain m class in let x = p.1 in omega (arith, x);
  edges = λ m class. let s = (small m class).edges in let r = running class in omega (arith, s, r);
  bytes = λ class. let a = arrived class in let r = running class in omega (arith, a, r);
  balanced = λ class. let a = arrived class in let d = sum_empty (λ kept. kept.departed) rows (rank_of class) months (λ month. (small month class).departed) in omega (arith, a, d);
  lead = λ m class. let s = (small m class).lead in omega (arith, s);
  early = λ m class. let s = (small m class).early in omega (arith, s);
  moves = λ m class. let s = (small m class).moves in omega (arith, s);
} where
  plain : (m : ℕ) (class : Class) → (gross_in rows m (rank_of class) ≡ (kept_in rows m (rank_of class)).edges) × (excess_in rows m (rank_of class) ≡ 0)
  plain m class = ended_plain rows m (rank_of class) (λ k. (small k class).arrived) (λ k. (small k class).departed)

  running : (class : Class) → running_to rows (rank_of class) months ≡ 0
  running class = sum_empty (λ kept. kept.running) rows (rank_of class) months (λ month. (small month class).running)

  arrived : (class : Class) → arrived_to rows (rank_of class) months ≡ 0
  arrived class = sum_empty (λ kept. kept.arrived) rows (rank_of class) months (λ month. (small month class).arrived)

pub bounded_none : (rows : Rows) → rows.first ≡ 0 → length rows.rows.items ≡ 0 → ((month rank : ℕ) → kept_in rows month rank ≡ nothing) → IsBounded rows 0
bounded_none rows first none empty = bounded_small rows (omega (arith, first, none)) (λ m class. subst IsSmall (sym (empty m (rank_of class))) nothing_small)

-- ---- what has ended in a month, as it is computed

pub record EndedFits (rows : Rows) (month rank edges arrived gone length : ℕ) : Type 0 where
  pub arrivals : arrived * length < 2 ^ 122
  pub gross : edges + arrived * length < 2 ^ 123
  pub departures : gone * length < 2 ^ 122
  pub covered : gone * length ≤ edges + arrived * length
  pub exact : edges + arrived * length - gone * length ≡ ended_in rows month rank

ended_fits : (rows : Rows) (booked month : ℕ) (class : Class) → IsBounded rows booked → month_length month < 2 ^ 32
    → EndedFits rows month (rank_of class) (kept_in rows month (rank_of class)).edges (arrived_to rows (rank_of class) month)
    (departed_to rows (rank_of class) month + (kept_in rows month (rank_of class)).departed) (month_length month)
ended_fits rows booked month class bounded short =
    let b = bounded_arrived rows booked month class bounded in
    let a = whole_small (arrived_to rows (rank_of class) month) (month_length month) (omega (arith, b)) short in
    let e = bounded_edges rows booked month class bounded in
    let g = gross_is rows month (rank_of class) in
    let x = excess_is rows month (rank_of class) in
    let i = ended_is rows month (rank_of class) in
    let v = bounded.covered month class in
    let d = bounded_departed rows booked (month + 1) class bounded in
    let m = sum_more (λ kept. kept.departed) rows (rank_of class) month in
    let w = whole_small (departed_to rows (rank_of class) month + (kept_in rows month (rank_of class)).departed) (month_length month) (omega (arith, d, m)) short in
    record {
      arrivals = a;
      gross = omega (arith, a, e);
      departures = w;
      covered = omega (arith, v, g, x);
      exact = omega (arith, i, g, x);
    }

pub computed_fits : (rows : Rows) (booked month : ℕ) (class : Class) (kept : Numbers) (before : Before) (length : ℕ) → IsBounded rows booked → month_length month < 2 ^ 32
    → kept ≡ kept_in rows month (rank_of class) → IsBefore rows month (rank_of class) before → length ≡ month_length month
    → EndedFits rows month (rank_of class) kept.edges before.arrived (before.departed + kept.departed) length
computed_fits rows booked month class kept before length bounded short is_kept sums is_length =
    rw (is_kept, sums.arrived, sums.departed, is_length) (ended_fits rows booked month class bounded short)

-- the sums of what came before and of a month
pub record PastFits (before : Before) (kept : Numbers) : Type 0 where
  pub running : before.running + kept.running < 2 ^ 127
  pub arrived : before.arrived + kept.arrived < 2 ^ 88
  pub departed : before.departed + kept.departed < 2 ^ 88

pub past_fits : (rows : Rows) (booked month : ℕ) (class : Class) (kept : Numbers) (before : Before) → IsBounded rows booked
    → kept ≡ kept_in rows month (rank_of class) → IsBefore rows month (rank_of class) before → PastFits before kept
past_fits rows booked month class kept before bounded is sums =
    let p = past_is rows month (rank_of class) before kept is sums in
    record {
      running = let b = bounded_running rows booked (month + 1) class bounded in let e = p.running in omega (arith, b, e);
      arrived = let b = bounded_arrived rows booked (month + 1) class bounded in let e = p.arrived in omega (arith, b, e);
      departed = let b = bounded_departed rows booked (month + 1) class bounded in let e = p.departed in omega (arith, b, e);
    }
