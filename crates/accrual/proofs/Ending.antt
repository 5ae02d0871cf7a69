-- A stay that has ended: its edges, and whole months from its arrival to its departure.
use Rattle.std.proofs.Common.{◌≡◌, ◌≤◌, ◌<◌, ◌+◌, ◌-◌, ◌*◌, ◌==◌, ℕ, Bool, true, false, refl, ap, sym, ◌∙◌, arith, subst}
use Rattle.std.specs.Prelude.{◌^◌, nat_lt, if◌then◌else◌}
use Rattle.std.proofs.lemmas.Bool.Decides.{nat_tests}
use Rattle.std.proofs.lemmas.Nat.{mul-le}
use Rattle.moments.specs.Months.{months, month_start, month_end, month_length, IsInMonth}
use Rattle.moments.proofs.Calendar.{first_day_order}
use Rattle.class_rules.specs.Classes.{rank_of}
use Rattle.class_rules.specs.Lines.{lines_of}
use Rattle.class_rules.specs.declared.class.Class.{Class}
use Rattle.class_rules.specs.declared.billing.Lines.{Lines}
use Rattle.accrual.specs.Meters.{bytes_in_class}
use Rattle.accrual.specs.Totals.{ms_within}
use Rattle.accrual.specs.declared.rows.Rows.{Rows}
use Rattle.accrual.specs.Rows.{in_month, IsBooked, IsEnded, arrived_each, departed_each, arrived_to, departed_to, gross_in, excess_in}
use Rattle.accrual.proofs.Windows.{month_order}
use Rattle.accrual.proofs.Cases.{by_less, by_same, if_less}
use Rattle.accrual.proofs.Prefixes.{sum_booked, gross_is}

-- the milliseconds that a stay counts in a month, on both sides
plain : (m first last s e from at x y : ℕ) → s ≤ e → first ≤ last → from ≤ at
    → (m < first → e ≤ from) → (m ≡ first → (s ≤ from) × ((from < e) × (x ≡ e - from))) → (first < m → from ≤ s)
    → (m < last → e ≤ at) → (m ≡ last → (s ≤ at) × ((at < e) × (y ≡ at - s))) → (last < m → at ≤ s)
    → (if m == first then x else 0) + (if m == last then y else 0) + (if nat_lt first m then e - s else 0)
    ≡ (if nat_lt last (m + 1) then e - s else 0) + ms_within s e from at
plain m first last s e from at x y order months past before in_first behind early in_last late =
    by_less m first
    (λ less.
    let a : (m == first) ≡ false = grind (arith, nat_tests) in
    let b : (m == last) ≡ false = grind (arith, nat_tests) in
    let c : nat_lt first m ≡ false = grind (arith, nat_tests) in
    let d : nat_lt last (m + 1) ≡ false = grind (arith, nat_tests) in
    let f = before less in
    rw (a, b, c, d) (omega (arith, f)))
    (λ from_first. by_same m first
    (λ here.
    let a : (m == first) ≡ true = grind (arith, nat_tests) in
    let c : nat_lt first m ≡ false = grind (arith, nat_tests) in
    let f = in_first here in
    by_same m last
    (λ both.
    let b : (m == last) ≡ true = grind (arith, nat_tests) in
    let d : nat_lt last (m + 1) ≡ true = grind (arith, nat_tests) in
    let g = in_last both in
    rw (a, b, c, d) (omega (arith, f.0, f.1.0, f.1.1, g.0, g.1.0, g.1.1, past)))
    (λ differs.
    let b : (m == last) ≡ false = grind (arith, nat_tests) in
    let d : nat_lt last (m + 1) ≡ false = grind (arith, nat_tests) in
    let g = early (omega (arith, here, differs, months)) in
    rw (a, b, c, d) (omega (arith, f.0, f.1.0, f.1.1, g))))
    (λ other.
    let a : (m == first) ≡ false = grind (arith, nat_tests) in
    let c : nat_lt first m ≡ true = grind (arith, nat_tests) in
    let f = behind (omega (arith, from_first, other)) in
    by_less m last
    (λ less.
    let b : (m == last) ≡ false = grind (arith, nat_tests) in
    let d : nat_lt last (m + 1) ≡ false = grind (arith, nat_tests) in
    let g = early less in
    rw (a, b, c, d) (omega (arith, f, g, order)))
    (λ from_last. by_same m last
    (λ there.
    let b : (m == last) ≡ true = grind (arith, nat_tests) in
    let d : nat_lt last (m + 1) ≡ true = grind (arith, nat_tests) in
    let g = in_last there in
    rw (a, b, c, d) (omega (arith, f, g.0, g.1.0, g.1.1)))
    (λ gone.
    let b : (m == last) ≡ false = grind (arith, nat_tests) in
    let d : nat_lt last (m + 1) ≡ true = grind (arith, nat_tests) in
    let g = late (omega (arith, from_last, gone)) in
    rw (a, b, c, d) (omega (arith, f, g))))))

-- the months are in the order of the moments in them
month_over : (m k : ℕ) → m < k → month_end m ≤ month_start k
month_over m k less = let o = first_day_order (m + 1) k (omega (arith, less)) in omega (arith, o)

in_order : (first last from at : ℕ) → IsInMonth first from → IsInMonth last at → from ≤ at → first ≤ last
in_order first last from at a b past =
    by_less last first
    (λ less. let o = month_over last first less in absurd (omega (arith, o, a.begun, b.not_over, past)))
    (λ more. more)

milliseconds : (m first last from at : ℕ) → IsInMonth first from → IsInMonth last at → from ≤ at
    → (if m == first then month_end first - from else 0) + (if m == last then at - month_start last else 0) + (if nat_lt first m then month_length m else 0)
    ≡ (if nat_lt last (m + 1) then month_length m else 0) + ms_within (month_start m) (month_end m) from at
milliseconds m first last from at a b past =
    plain m first last (month_start m) (month_end m) from at (month_end first - from) (at - month_start last)
    (month_order m) (in_order first last from at a b past) past
    (λ less. let o = month_over m first less in omega (arith, o, a.begun))
    (λ here. subst (λ k. (month_start k ≤ from) × ((from < month_end k) × (month_end first - from ≡ month_end k - from))) (sym here) (a.begun, (a.not_over, refl)))
    (λ more. let o = month_over first m more in omega (arith, o, a.not_over))
    (λ less. let o = month_over m last less in omega (arith, o, b.begun))
    (λ here. subst (λ k. (month_start k ≤ at) × ((at < month_end k) × (at - month_start last ≡ at - month_start k))) (sym here) (b.begun, (b.not_over, refl)))
    (λ more. let o = month_over last m more in omega (arith, o, b.not_over))

-- ---- the same for each byte

pull : (t : Bool) (b x : ℕ) → (if t then b * x else 0) ≡ b * (if t then x else 0)
pull true b x = refl
pull false b x = omega arith

pull_whole : (t : Bool) (b l : ℕ) → (if t then b * 1 else 0) * l ≡ b * (if t then l else 0)
pull_whole true b l = omega arith
pull_whole false b l = omega arith

by_bytes : (b x y z v w : ℕ) → x + y + z ≡ v + w → b * x + b * y + b * z ≡ b * v + b * w
by_bytes b x y z v w e = left b x y z ∙ (ap (λ n. b * n) e ∙ right b v w)
  where
    left : (b x y z : ℕ) → b * x + b * y + b * z ≡ b * (x + y + z)
    left b x y z = omega arith

    right : (b v w : ℕ) → b * (v + w) ≡ b * v + b * w
    right b v w = omega arith

byte_milliseconds : (m first last from at b : ℕ) → IsInMonth first from → IsInMonth last at → from ≤ at
    → in_month first m (b * (month_end first - from)) + in_month last m (b * (at - month_start last)) + (if nat_lt first m then b * 1 else 0) * month_length m
    ≡ (if nat_lt last (m + 1) then b * 1 else 0) * month_length m + b * ms_within (month_start m) (month_end m) from at
byte_milliseconds m first last from at b a c past =
    let p = pull (m == first) b (month_end first - from) in
    let q = pull (m == last) b (at - month_start last) in
    let r = pull_whole (nat_lt first m) b (month_length m) in
    let s = pull_whole (nat_lt last (m + 1)) b (month_length m) in
    rw (p, q, r, s) (by_bytes b _ _ _ _ _ (milliseconds m first last from at a c past))

none_booked : (t : Bool) (b : ℕ) → (if t then b * 0 else 0) ≡ 0
none_booked true b = omega arith
none_booked false b = refl

-- the sums that grow
arrivals : (a p l : ℕ) → (a + p) * l ≡ a * l + p * l
arrivals a p l = omega arith

gross_gain : (old mid new : Rows) (lines : Lines) (first last x y m : ℕ) (class : Class) → IsBooked old mid lines first (arrived_each x) → IsBooked mid new lines last (departed_each y)
    → gross_in new m (rank_of class) ≡ gross_in old m (rank_of class) + (in_month first m (bytes_in_class class (lines_of lines) * x) + in_month last m (bytes_in_class class (lines_of lines) * y)
    + (if nat_lt first m then bytes_in_class class (lines_of lines) * 1 else 0) * month_length m)
gross_gain old mid new lines first last x y m class a d =
    let e = a.edges m class in
    let f = d.edges m class in
    let s = sum_booked (λ kept. kept.arrived) old mid (rank_of class) first (bytes_in_class class (lines_of lines) * 1) m (λ m. a.arrived m class) in
    let t = sum_booked (λ kept. kept.arrived) mid new (rank_of class) last (bytes_in_class class (lines_of lines) * 0) m (λ m. d.arrived m class) in
    let n = none_booked (nat_lt last m) (bytes_in_class class (lines_of lines)) in
    let u : arrived_to new (rank_of class) m ≡ arrived_to old (rank_of class) m + (if nat_lt first m then bytes_in_class class (lines_of lines) * 1 else 0) = omega (arith, s, t, n) in
    let v = ap (λ n. n * month_length m) u ∙ arrivals _ _ (month_length m) in
    let g = gross_is new m (rank_of class) in
    let h = gross_is old m (rank_of class) in
    omega (arith, e, f, v, g, h)

excess_gain : (old mid new : Rows) (lines : Lines) (first last x y m : ℕ) (class : Class) → IsBooked old mid lines first (arrived_each x) → IsBooked mid new lines last (departed_each y)
    → excess_in new m (rank_of class) ≡ excess_in old m (rank_of class) + (if nat_lt last (m + 1) then bytes_in_class class (lines_of lines) * 1 else 0) * month_length m
unfolding excess_in
excess_gain old mid new lines first last x y m class a d =
    let s = sum_booked (λ kept. kept.departed) old mid (rank_of class) first (bytes_in_class class (lines_of lines) * 0) (m + 1) (λ m. a.departed m class) in
    let t = sum_booked (λ kept. kept.departed) mid new (rank_of class) last (bytes_in_class class (lines_of lines) * 1) (m + 1) (λ m. d.departed m class) in
    let n = none_booked (nat_lt first (m + 1)) (bytes_in_class class (lines_of lines)) in
    let u : departed_to new (rank_of class) (m + 1) ≡ departed_to old (rank_of class) (m + 1) + (if nat_lt last (m + 1) then bytes_in_class class (lines_of lines) * 1 else 0) = omega (arith, s, t, n) in
    ap (λ n. n * month_length m) u ∙ arrivals _ _ (month_length m)

edge_small : (t : Bool) (b x : ℕ) → x < 2 ^ 32 → (if t then b * x else 0) ≤ b * 2 ^ 32
edge_small t b x short =
    let i = if_less t (b * x) in
    let p = mul-le b x b (2 ^ 32) (omega arith) (omega (arith, short)) in
    omega (arith, i, p)

pub ended_stay_is : (old mid new : Rows) (lines : Lines) (first last from at : ℕ) → IsInMonth first from → IsInMonth last at → from ≤ at → first < months → last < months
    → month_end first - from < 2 ^ 32 → at - month_start last < 2 ^ 32
    → IsBooked old mid lines first (arrived_each (month_end first - from)) → IsBooked mid new lines last (departed_each (at - month_start last))
    → IsEnded old new lines (λ m. ms_within (month_start m) (month_end m) from at)
ended_stay_is old mid new lines first last from at is_first is_last past among among_too short short_too a d = record {
  gain = λ m class.
      let g = gross_gain old mid new lines first last _ _ m class a d in
      let x = excess_gain old mid new lines first last _ _ m class a d in
      let e = byte_milliseconds m first last from at (bytes_in_class class (lines_of lines)) is_first is_last past in
      omega (arith, g, x, e);
  grows = λ m class. let x = excess_gain old mid new lines first last _ _ m class a d in omega (arith, x);
  edges = λ m class.
      let e = a.edges m class in
      let f = d.edges m class in
      let p = edge_small (m == first) (bytes_in_class class (lines_of lines)) (month_end first - from) short in
      let q = edge_small (m == last) (bytes_in_class class (lines_of lines)) (at - month_start last) short_too in
      omega (arith, e, f, p, q);
  arrived = λ class.
      let s = sum_booked (λ kept. kept.arrived) old mid (rank_of class) first (bytes_in_class class (lines_of lines) * 1) months (λ m. a.arrived m class) in
      let t = sum_booked (λ kept. kept.arrived) mid new (rank_of class) last (bytes_in_class class (lines_of lines) * 0) months (λ m. d.arrived m class) in
      let n = none_booked (nat_lt last months) (bytes_in_class class (lines_of lines)) in
      let o : nat_lt first months ≡ true = grind (arith, nat_tests, among) in
      let i = ap (λ t. if t then bytes_in_class class (lines_of lines) * 1 else 0) o in
      omega (arith, s, t, n, i);
  departed = λ class.
      let s = sum_booked (λ kept. kept.departed) old mid (rank_of class) first (bytes_in_class class (lines_of lines) * 0) months (λ m. a.departed m class) in
      let t = sum_booked (λ kept. kept.departed) mid new (rank_of class) last (bytes_in_class class (lines_of lines) * 1) months (λ m. d.departed m class) in
      let n = none_booked (nat_lt first months) (bytes_in_class class (lines_of lines)) in
      let o : nat_lt last months ≡ true = grind (arith, nat_tests, among_too) in
      let i = ap (λ t. if t then bytes_in_class class (lines_of lines) * 1 else 0) o in
      omega (arith, s, t, n, i);
  running = λ m class.
      let e = a.running m class in
      let f = d.running m class in
      let p = none_booked (m == first) (bytes_in_class class (lines_of lines)) in
      let q = none_booked (m == last) (bytes_in_class class (lines_of lines)) in
      omega (arith, e, f, p, q);
  lead = λ m class.
      let e = a.lead m class in
      let f = d.lead m class in
      let p = none_booked (m == first) (bytes_in_class class (lines_of lines)) in
      let q = none_booked (m == last) (bytes_in_class class (lines_of lines)) in
      omega (arith, e, f, p, q);
  early = λ m r. d.early m r ∙ a.early m r;
  moves = λ m r. d.moves m r ∙ a.moves m r;
  first = d.first ∙ a.first;
  as_many = d.as_many ∙ a.as_many;
}
