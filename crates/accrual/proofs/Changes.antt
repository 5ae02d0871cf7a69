-- What two additions, one for each line, change together.
use Rattle.std.proofs.Common.{◌≡◌, ◌≤◌, ◌<◌, ◌+◌, ◌*◌, ◌==◌, ℕ, [], ◌∷◌, Bool, true, false, refl, ap, sym, ◌∙◌, arith, subst, length}
use Rattle.std.specs.Prelude.{if◌then◌else◌, ◌&&◌, ◌^◌}
use Rattle.std.proofs.lemmas.Bool.Decides.{nat_tests}
use Rattle.std.proofs.lemmas.Nat.{mul-le}
use Rattle.office_base.specs.Sizes.{largest_size}
use Rattle.class_rules.specs.Classes.{rank_of}
use Rattle.class_rules.specs.Lines.{lines_of}
use Rattle.class_rules.specs.declared.class.Class.{Class}
use Rattle.class_rules.specs.declared.billing.Lines.{Lines}
use Rattle.accrual.specs.Meters.{bytes_in_class}
use Rattle.accrual.specs.Totals.{IsBilled}
use Rattle.accrual.specs.declared.rows.Numbers.{Numbers}
use Rattle.accrual.specs.declared.rows.Rows.{Rows}
use Rattle.accrual.proofs.Cases.{none_added, if_less}
use Rattle.accrual.specs.Rows.{kept_in, IsAdded, IsBooked, IsModest, IsShort, HasRoom, IsWithin, HasBooked, HasRowIn, weighed, running_each, arrived_each, departed_each, at_place, in_month}

-- the bytes of a class in the lines
second_bytes : (class : Class) (own : Class) (bytes standard : ℕ) (t : Bool) → (standard == 0) ≡ t
    → bytes_in_class class ((own, bytes) ∷ (if t then [] else (Class.Standard, standard) ∷ []))
    ≡ (if rank_of own == rank_of class then bytes else 0) + (if 0 == rank_of class then standard else 0)
second_bytes class own bytes standard true e = grind (arith, nat_tests)
second_bytes class own bytes standard false e = grind (arith, nat_tests)

pub lines_bytes : (lines : Lines) (class : Class)
    → bytes_in_class class (lines_of lines)
    ≡ (if rank_of lines.class == rank_of class then lines.bytes else 0)
    + (if 0 == rank_of class then lines.standard else 0)
lines_bytes lines class = second_bytes class lines.class lines.bytes lines.standard _ refl

both_places : (t own second : Bool) (x y : ℕ) → (if t && own then x else 0) + (if t && second then y else 0) ≡ (if t then (if own then x else 0) + (if second then y else 0) else 0)
both_places true own second x y = refl
both_places false own second x y = refl

times_both : (own second : Bool) (x y ms : ℕ) → (if own then x * ms else 0) + (if second then y * ms else 0) ≡ ((if own then x else 0) + (if second then y else 0)) * ms
times_both true true x y ms = omega arith
times_both true false x y ms = omega arith
times_both false true x y ms = omega arith
times_both false false x y ms = omega arith

-- what two additions add at one place, each by what a byte counts
added_times : (lines : Lines) (class : Class) (month m each : ℕ)
    → at_place month (rank_of lines.class) m (rank_of class) (lines.bytes * each)
    + at_place month 0 m (rank_of class) (lines.standard * each)
    ≡ in_month month m (bytes_in_class class (lines_of lines) * each)
added_times lines class month m each =
    both_places (m == month) (rank_of lines.class == rank_of class) (0 == rank_of class) (lines.bytes * each) (lines.standard * each)
    ∙ ap (in_month month m) (times_both (rank_of lines.class == rank_of class) (0 == rank_of class) lines.bytes lines.standard each ∙ ap (λ b. b * each) (sym (lines_bytes lines class)))

pub booked_is : (old mid new : Rows) (lines : Lines) (month : ℕ) (each : Numbers)
    → IsAdded old mid month (rank_of lines.class) (weighed lines.bytes each)
    → IsAdded mid new month 0 (weighed lines.standard each)
    → IsBooked old new lines month each
booked_is old mid new lines month each a b = record {
  edges = λ m class. let x = a.edges m (rank_of class) in let y = b.edges m (rank_of class) in let s = added_times lines class month m each.edges in omega (arith, x, y, s);
  arrived = λ m class. let x = a.arrived m (rank_of class) in let y = b.arrived m (rank_of class) in let s = added_times lines class month m each.arrived in omega (arith, x, y, s);
  departed = λ m class. let x = a.departed m (rank_of class) in let y = b.departed m (rank_of class) in let s = added_times lines class month m each.departed in omega (arith, x, y, s);
  running = λ m class. let x = a.running m (rank_of class) in let y = b.running m (rank_of class) in let s = added_times lines class month m each.running in omega (arith, x, y, s);
  lead = λ m class. let x = a.lead m (rank_of class) in let y = b.lead m (rank_of class) in let s = added_times lines class month m each.lead in omega (arith, x, y, s);
  early = λ m r. let x = a.early m r in let y = b.early m r in let p = none_added (m == month && rank_of lines.class == r) in let q = none_added (m == month && 0 == r) in omega (arith, x, y, p, q);
  moves = λ m r. let x = a.moves m r in let y = b.moves m r in let p = none_added (m == month && rank_of lines.class == r) in let q = none_added (m == month && 0 == r) in omega (arith, x, y, p, q);
  first = b.first ∙ a.first;
  as_many = b.as_many ∙ a.as_many;
}

-- the same where the second line comes first
pub unbooked_is : (old mid new : Rows) (lines : Lines) (month : ℕ) (each : Numbers)
    → IsAdded old mid month 0 (weighed lines.standard each)
    → IsAdded mid new month (rank_of lines.class) (weighed lines.bytes each)
    → IsBooked old new lines month each
unbooked_is old mid new lines month each b a = record {
  edges = λ m class. let x = a.edges m (rank_of class) in let y = b.edges m (rank_of class) in let s = added_times lines class month m each.edges in omega (arith, x, y, s);
  arrived = λ m class. let x = a.arrived m (rank_of class) in let y = b.arrived m (rank_of class) in let s = added_times lines class month m each.arrived in omega (arith, x, y, s);
  departed = λ m class. let x = a.departed m (rank_of class) in let y = b.departed m (rank_of class) in let s = added_times lines class month m each.departed in omega (arith, x, y, s);
  running = λ m class. let x = a.running m (rank_of class) in let y = b.running m (rank_of class) in let s = added_times lines class month m each.running in omega (arith, x, y, s);
  lead = λ m class. let x = a.lead m (rank_of class) in let y = b.lead m (rank_of class) in let s = added_times lines class month m each.lead in omega (arith, x, y, s);
  early = λ m r. let x = a.early m r in let y = b.early m r in let p = none_added (m == month && rank_of lines.class == r) in let q = none_added (m == month && 0 == r) in omega (arith, x, y, p, q);
  moves = λ m r. let x = a.moves m r in let y = b.moves m r in let p = none_added (m == month && rank_of lines.class == r) in let q = none_added (m == month && 0 == r) in omega (arith, x, y, p, q);
  first = a.first ∙ b.first;
  as_many = a.as_many ∙ b.as_many;
}

-- a second line without bytes adds nothing
none_weighed : (t : Bool) (n each : ℕ) → n ≡ 0 → 0 ≡ (if t then n * each else 0)
none_weighed true n each e = rw e (omega arith)
none_weighed false n each e = refl

none_more : (x n : ℕ) → 0 ≡ n → x ≡ x + n
none_more x n e = omega (arith, e)

pub second_none : (rows : Rows) (lines : Lines) (month : ℕ) (each : Numbers) → lines.standard ≡ 0 → IsAdded rows rows month 0 (weighed lines.standard each)
second_none rows lines month each none = record {
  edges = λ m r. none_more _ _ (none_weighed (m == month && 0 == r) lines.standard each.edges none);
  arrived = λ m r. none_more _ _ (none_weighed (m == month && 0 == r) lines.standard each.arrived none);
  departed = λ m r. none_more _ _ (none_weighed (m == month && 0 == r) lines.standard each.departed none);
  running = λ m r. none_more _ _ (none_weighed (m == month && 0 == r) lines.standard each.running none);
  lead = λ m r. none_more _ _ (none_weighed (m == month && 0 == r) lines.standard each.lead none);
  early = λ m r. none_more _ _ (sym (none_added (m == month && 0 == r)));
  moves = λ m r. none_more _ _ (sym (none_added (m == month && 0 == r)));
  first = refl;
  as_many = refl;
}

-- ---- what each byte counts

pub short_running : (ms : ℕ) → ms < 2 ^ 32 → IsShort (running_each ms)
short_running ms short = record { edges = omega arith; arrived = omega arith; departed = omega arith; running = omega arith; lead = short }

pub short_arrived : (ms : ℕ) → ms < 2 ^ 32 → IsShort (arrived_each ms)
short_arrived ms short = record { edges = short; arrived = omega arith; departed = omega arith; running = omega arith; lead = omega arith }

pub short_departed : (ms : ℕ) → ms < 2 ^ 32 → IsShort (departed_each ms)
short_departed ms short = record { edges = short; arrived = omega arith; departed = omega arith; running = omega arith; lead = omega arith }

-- the same booking, with its month and its weights in other words
pub booked_at : {old new : Rows} {lines : Lines} {k : ℕ} {given : Numbers} (month : ℕ) (each : Numbers) → k ≡ month → given ≡ each → IsBooked old new lines k given → IsBooked old new lines month each
booked_at {old} {new} {lines} {k} {given} month each same is booked =
    subst (λ x. IsBooked old new lines month x) is (subst (λ m. IsBooked old new lines m given) same booked)

-- the months that have a row
pub row_kept : (old new : Rows) (month : ℕ) → new.first ≡ old.first → length new.rows.items ≡ length old.rows.items → HasRowIn old month → HasRowIn new month
row_kept old new month first as_many has = (omega (arith, first, has), omega (arith, first, as_many, has))

-- ---- room

product_small : (bytes ms : ℕ) → bytes ≤ largest_size + 32_768 → ms < 2 ^ 32 → bytes * ms < 2 ^ 75
product_small bytes ms small short = let p = mul-le bytes ms (largest_size + 32_768) (2 ^ 32) small (omega (arith, short)) in omega (arith, p)

byte_small : (bytes each : ℕ) → bytes ≤ largest_size + 32_768 → each ≤ 1 → bytes * each < 2 ^ 75
byte_small bytes each small one = product_small bytes each small (omega (arith, one))

pub first_room : (kept each : Numbers) (bytes : ℕ) → IsModest kept → IsShort each → bytes ≤ largest_size + 32_768 → HasRoom kept (weighed bytes each)
first_room kept each bytes modest short small = record {
  edges = let p = product_small bytes each.edges small short.edges in omega (arith, p, modest.edges);
  arrived = let p = byte_small bytes each.arrived small short.arrived in omega (arith, p, modest.arrived);
  departed = let p = byte_small bytes each.departed small short.departed in omega (arith, p, modest.departed);
  running = let p = byte_small bytes each.running small short.running in omega (arith, p, modest.running);
  lead = let p = product_small bytes each.lead small short.lead in omega (arith, p, modest.lead);
  early = omega (arith, modest.early);
  moves = omega (arith, modest.moves);
}

-- the second line has room where the first was added
pub second_room : (old mid : Rows) (lines : Lines) (month : ℕ) (each : Numbers)
    → IsAdded old mid month (rank_of lines.class) (weighed lines.bytes each) → IsModest (kept_in old month 0)
    → IsBilled lines → IsShort each
    → HasRoom (kept_in mid month 0) (weighed lines.standard each)
second_room old mid lines month each a modest billed short =
    let t = month == month && rank_of lines.class == 0 in
    record {
      edges = let e = a.edges month 0 in let i = if_less t (lines.bytes * each.edges) in let x = product_small lines.bytes each.edges billed.0 short.edges in let y = product_small lines.standard each.edges billed.1 short.edges in omega (arith, e, i, modest.edges, x, y);
      arrived = let e = a.arrived month 0 in let i = if_less t (lines.bytes * each.arrived) in let x = byte_small lines.bytes each.arrived billed.0 short.arrived in let y = byte_small lines.standard each.arrived billed.1 short.arrived in omega (arith, e, i, modest.arrived, x, y);
      departed = let e = a.departed month 0 in let i = if_less t (lines.bytes * each.departed) in let x = byte_small lines.bytes each.departed billed.0 short.departed in let y = byte_small lines.standard each.departed billed.1 short.departed in omega (arith, e, i, modest.departed, x, y);
      running = let e = a.running month 0 in let i = if_less t (lines.bytes * each.running) in let x = byte_small lines.bytes each.running billed.0 short.running in let y = byte_small lines.standard each.running billed.1 short.running in omega (arith, e, i, modest.running, x, y);
      lead = let e = a.lead month 0 in let i = if_less t (lines.bytes * each.lead) in let x = product_small lines.bytes each.lead billed.0 short.lead in let y = product_small lines.standard each.lead billed.1 short.lead in omega (arith, e, i, modest.lead, x, y);
      early = let e = a.early month 0 in let i = none_added t in omega (arith, e, i, modest.early);
      moves = let e = a.moves month 0 in let i = none_added t in omega (arith, e, i, modest.moves);
    }

-- ---- what was booked can be taken out, one line after the other

same_month : (month : ℕ) (t : Bool) (n : ℕ) → (if month == month && t then n else 0) ≡ (if t then n else 0)
same_month month t n = grind (arith, nat_tests)

-- the bytes of a line are among those of its class
own_bytes : (own other bytes standard each kept : ℕ) → ((if own == own then bytes else 0) + (if other == own then standard else 0)) * each ≤ kept → bytes * each ≤ kept
own_bytes own other bytes standard each kept le =
    let t : (if own == own then bytes else 0) ≡ bytes = grind (arith, nat_tests) in
    let d = over bytes (if other == own then standard else 0) each in
    let e = ap (λ n. (n + (if other == own then standard else 0)) * each) t in
    omega (arith, le, d, e)
  where
    over : (a b k : ℕ) → (a + b) * k ≡ a * k + b * k
    over a b k = omega arith

first_within : (lines : Lines) (each kept : ℕ) → bytes_in_class lines.class (lines_of lines) * each ≤ kept → lines.bytes * each ≤ kept
first_within lines each kept le =
    own_bytes (rank_of lines.class) 0 lines.bytes lines.standard each kept (subst (λ n. n * each ≤ kept) (lines_bytes lines lines.class) le)

pub within_first : (rows : Rows) (lines : Lines) (month : ℕ) (each : Numbers) → HasBooked rows lines month each
    → IsWithin (weighed lines.bytes each) (kept_in rows month (rank_of lines.class))
within_first rows lines month each has = record {
  edges = first_within lines each.edges _ (has.edges lines.class);
  arrived = first_within lines each.arrived _ (has.arrived lines.class);
  departed = first_within lines each.departed _ (has.departed lines.class);
  running = first_within lines each.running _ (has.running lines.class);
  lead = first_within lines each.lead _ (has.lead lines.class);
  early = omega arith;
  moves = omega arith;
}

second_within : (lines : Lines) (month each old mid : ℕ) → bytes_in_class Class.Standard (lines_of lines) * each ≤ old
    → old ≡ mid + at_place month (rank_of lines.class) month 0 (lines.bytes * each) → lines.standard * each ≤ mid
second_within lines month each old mid le added =
    let own = rank_of lines.class == 0 in
    let b = lines_bytes lines Class.Standard in
    let t = times_both own true lines.bytes lines.standard each in
    let bt : bytes_in_class Class.Standard (lines_of lines) * each ≡ (if own then lines.bytes * each else 0) + lines.standard * each = ap (λ n. n * each) b ∙ sym t in
    let s = same_month month own (lines.bytes * each) in
    omega (arith, le, added, bt, s)

pub within_second : (old mid : Rows) (lines : Lines) (month : ℕ) (each : Numbers) → HasBooked old lines month each → IsAdded mid old month (rank_of lines.class) (weighed lines.bytes each)
    → IsWithin (weighed lines.standard each) (kept_in mid month 0)
within_second old mid lines month each has a = record {
  edges = second_within lines month each.edges _ _ (has.edges Class.Standard) (a.edges month 0);
  arrived = second_within lines month each.arrived _ _ (has.arrived Class.Standard) (a.arrived month 0);
  departed = second_within lines month each.departed _ _ (has.departed Class.Standard) (a.departed month 0);
  running = second_within lines month each.running _ _ (has.running Class.Standard) (a.running month 0);
  lead = second_within lines month each.lead _ _ (has.lead Class.Standard) (a.lead month 0);
  early = omega arith;
  moves = omega arith;
}
