-- What the kept numbers mean after each booking.
use Rattle.std.proofs.Common.{◌≡◌, ◌≤◌, ◌+◌, ◌-◌, ◌*◌, ◌==◌, ℕ, List, [], ◌∷◌, ◌++◌, length, Bool, true, false, refl, ap, sym, ◌∙◌, arith, subst}
use Rattle.std.specs.Prelude.{nat_lt, ◌&&◌, sum_by, if◌then◌else◌}
use Rattle.std.specs.List.{filter}
use Rattle.std.proofs.lemmas.Bool.Decides.{nat_tests}
use Rattle.std.proofs.lemmas.List.Sums.{sum_by-cons, sum_by-append, sum_by_push, length-filter}
use Rattle.moments.specs.Months.{month_start, month_end, IsInMonth}
use Rattle.class_rules.specs.Classes.{rank_of, least_stay}
use Rattle.class_rules.specs.Lines.{lines_of}
use Rattle.class_rules.specs.declared.class.Class.{Class}
use Rattle.class_rules.specs.declared.billing.Lines.{Lines}
use Rattle.accrual.specs.Books.{Stay, Early, Move, Book, empty_book, open_stay, ended_stay, book_with_stay, book_with_early, with_move}
use Rattle.accrual.specs.Meters.{bytes_in_class, is_in_month, same_class, early_quantity, move_count}
use Rattle.accrual.specs.Totals.{Totals, AreTotalsOf, HasOpenStay, with_early_of, ms_within, ended_ms, running_bytes, ended_sum, running_sum, lead_sum}
use Rattle.accrual.specs.declared.rows.Numbers.{Numbers}
use Rattle.accrual.specs.Rows.{nothing, kept_in, HasBooked, IsBooked, IsEnded, IsAdded, in_month, at_place, running_each, gross_in, excess_in, ended_in}
use Rattle.accrual.proofs.Cases.{none_added, by_same}
use Rattle.accrual.proofs.Bounds.{ended_running}
use Rattle.accrual.proofs.Prefixes.{gross_same, excess_same, ended_same, ended_is, ended_plain}
use Rattle.accrual.proofs.Windows.{in_month_is}
use Rattle.accrual.specs.declared.rows.Rows.{Rows}

-- ---- the sums of a book with one stay more

ended_push : (month : ℕ) (class : Class) (stay : Stay) (book : Book)
    → ended_sum month class (book_with_stay stay book) ≡ ended_sum month class book + bytes_in_class class stay.lines * ended_ms (month_start month) (month_end month) stay.from stay.to
unfolding ended_sum
ended_push month class stay book = sum_by_push (λ (stay : Stay). bytes_in_class class stay.lines * ended_ms (month_start month) (month_end month) stay.from stay.to) book.stays stay

running_push : (month : ℕ) (class : Class) (stay : Stay) (book : Book) → running_sum month class (book_with_stay stay book) ≡ running_sum month class book + running_bytes month class stay
unfolding running_sum
running_push month class stay book = sum_by_push (λ (stay : Stay). running_bytes month class stay) book.stays stay

lead_push : (month : ℕ) (class : Class) (stay : Stay) (book : Book)
    → lead_sum month class (book_with_stay stay book) ≡ lead_sum month class book + running_bytes month class stay * (stay.from - month_start month)
unfolding lead_sum
lead_push month class stay book = sum_by_push (λ (stay : Stay). running_bytes month class stay * (stay.from - month_start month)) book.stays stay

-- a change of the stays leaves the rest
early_stays : (month : ℕ) (class : Class) (stays : List Stay) (book : Book) → early_quantity month class (record book { stays = stays }) ≡ early_quantity month class book
unfolding early_quantity
early_stays month class stays book = refl

moves_stays : (month : ℕ) (class : Class) (stays : List Stay) (book : Book) → move_count month class (record book { stays = stays }) ≡ move_count month class book
unfolding move_count
moves_stays month class stays book = refl

-- ---- a stay without an end

once : (t : Bool) (b : ℕ) → (if t then b * 1 else 0) ≡ (if t then b else 0)
once true b = omega arith
once false b = refl

-- what it has in the kept numbers
begun_bytes : (m k from n : ℕ) → IsInMonth k from → (if true && is_in_month m from then n else 0) ≡ in_month k m n
begun_bytes m k from n is = ap (λ t. if t then n else 0) (in_month_is m k from is)

same_start : (m k from n : ℕ) → in_month k m n * (from - month_start m) ≡ in_month k m (n * (from - month_start k))
same_start m k from n =
    by_same m k
    (λ e. rw e (here k (from - month_start k)))
    (λ differs. let f : (m == k) ≡ false = grind (arith, nat_tests) in rw f (omega arith))
  where
    here : (k x : ℕ) → (if k == k then n else 0) * x ≡ (if k == k then n * x else 0)
    here k x = let t : (k == k) ≡ true = grind (arith, nat_tests) in rw t refl

begun_lead : (m k from n : ℕ) → IsInMonth k from → (if true && is_in_month m from then n else 0) * (from - month_start m) ≡ in_month k m (n * (from - month_start k))
begun_lead m k from n is = ap (λ x. x * (from - month_start m)) (begun_bytes m k from n is) ∙ same_start m k from n

pub stands_opened : (old new : Totals) (book : Book) (lines : Lines) (month from : ℕ) → IsInMonth month from → IsBooked old.rows new.rows lines month (running_each (from - month_start month)) → AreTotalsOf old book
    → AreTotalsOf new (book_with_stay (open_stay (lines_of lines) from) book)
stands_opened old new book lines month from is begun stands = record {
  ended = λ m class.
      let p = ended_push m class (open_stay (lines_of lines) from) book in
      let b = ended_running old.rows new.rows lines month _ m class begun in
      let s = stands.ended m class in
      omega (arith, p, b, s);
  running = λ m class.
      let p = running_push m class (open_stay (lines_of lines) from) book in
      let b = begun.running m class in
      let s = stands.running m class in
      let e = begun_bytes m month from (bytes_in_class class (lines_of lines)) is in
      let o = once (m == month) (bytes_in_class class (lines_of lines)) in
      omega (arith, p, b, s, e, o);
  lead = λ m class.
      let p = lead_push m class (open_stay (lines_of lines) from) book in
      let b = begun.lead m class in
      let s = stands.lead m class in
      let e = begun_lead m month from (bytes_in_class class (lines_of lines)) is in
      b ∙ (ap (λ n. n + in_month month m (bytes_in_class class (lines_of lines) * (from - month_start month))) s ∙ (ap (λ n. lead_sum m class book + n) (sym e) ∙ sym p));
  early = λ m class. begun.early m (rank_of class) ∙ (stands.early m class ∙ sym (early_stays m class (book.stays ++ open_stay (lines_of lines) from ∷ []) book));
  moves = λ m class. begun.moves m (rank_of class) ∙ (stands.moves m class ∙ sym (moves_stays m class (book.stays ++ open_stay (lines_of lines) from ∷ []) book));
}

-- ---- a stay that ends

sum_middle : {X : Type 0} (f : X → ℕ) (before after : List X) (x : X) → sum_by f (before ++ x ∷ after) ≡ sum_by f before + (f x + sum_by f after)
sum_middle f before after x = sum_by-append f before (x ∷ after) ∙ ap (λ n. sum_by f before + n) (sum_by-cons f x after)

ended_middle : (month : ℕ) (class : Class) (before after : List Stay) (stay : Stay) (book : Book) → book.stays ≡ before ++ stay ∷ after
    → ended_sum month class book ≡ sum_by (λ (s : Stay). bytes_in_class class s.lines * ended_ms (month_start month) (month_end month) s.from s.to) before
    + (bytes_in_class class stay.lines * ended_ms (month_start month) (month_end month) stay.from stay.to
    + sum_by
    (λ (s : Stay). bytes_in_class class s.lines * ended_ms (month_start month) (month_end month) s.from s.to)
    after)
unfolding ended_sum
ended_middle month class before after stay book e =
    ap (λ (l : List Stay). sum_by (λ (s : Stay). bytes_in_class class s.lines * ended_ms (month_start month) (month_end month) s.from s.to) l) e
    ∙ sum_middle (λ (s : Stay). bytes_in_class class s.lines * ended_ms (month_start month) (month_end month) s.from s.to) before after stay

running_middle : (month : ℕ) (class : Class) (before after : List Stay) (stay : Stay) (book : Book) → book.stays ≡ before ++ stay ∷ after
    → running_sum month class book ≡ sum_by (λ (s : Stay). running_bytes month class s) before + (running_bytes month class stay + sum_by (λ (s : Stay). running_bytes month class s) after)
unfolding running_sum
running_middle month class before after stay book e =
    ap (λ (l : List Stay). sum_by (λ (s : Stay). running_bytes month class s) l) e ∙ sum_middle (λ (s : Stay). running_bytes month class s) before after stay

lead_middle : (month : ℕ) (class : Class) (before after : List Stay) (stay : Stay) (book : Book) → book.stays ≡ before ++ stay ∷ after
    → lead_sum month class book ≡ sum_by (λ (s : Stay). running_bytes month class s * (s.from - month_start month)) before
    + (running_bytes month class stay * (stay.from - month_start month) + sum_by (λ (s : Stay). running_bytes month class s * (s.from - month_start month)) after)
unfolding lead_sum
lead_middle month class before after stay book e =
    ap (λ (l : List Stay). sum_by (λ (s : Stay). running_bytes month class s * (s.from - month_start month)) l) e
    ∙ sum_middle (λ (s : Stay). running_bytes month class s * (s.from - month_start month)) before after stay

-- what is without an end in the book is in the kept numbers
pub stands_begun : (old : Totals) (book : Book) (lines : Lines) (month from : ℕ) → IsInMonth month from → AreTotalsOf old book → HasOpenStay (lines_of lines) from book
    → HasBooked old.rows lines month (running_each (from - month_start month))
stands_begun old book lines month from is stands has = record {
  edges = λ class. omega arith;
  arrived = λ class. omega arith;
  departed = λ class. omega arith;
  running = λ class. let b = (both class).0 in omega (arith, b);
  lead = λ class. (both class).1;
} where
  both : (class : Class) → (bytes_in_class class (lines_of lines) ≤ (kept_in old.rows month (rank_of class)).running)
      × (bytes_in_class class (lines_of lines) * (from - month_start month) ≤ (kept_in old.rows month (rank_of class)).lead)
  both class =
      let t : (month == month) ≡ true = grind (arith, nat_tests) in
      let r = running_middle month class has.0 has.1 (open_stay (lines_of lines) from) book has.2 in
      let s = lead_middle month class has.0 has.1 (open_stay (lines_of lines) from) book has.2 in
      let b = begun_bytes month month from (bytes_in_class class (lines_of lines)) is ∙ ap (λ t. if t then bytes_in_class class (lines_of lines) else 0) t in
      let c = begun_lead month month from (bytes_in_class class (lines_of lines)) is ∙ ap (λ t. if t then bytes_in_class class (lines_of lines) * (from - month_start month) else 0) t in
      let x = stands.running month class in
      let y = stands.lead month class in
      (omega (arith, r, b, x), omega (arith, s, c, y))

pub stands_ended : (old mid new : Totals) (book : Book) (before after : List Stay) (lines : Lines) (month from at : ℕ) → IsInMonth month from
    → IsBooked mid.rows old.rows lines month (running_each (from - month_start month)) → IsEnded mid.rows new.rows lines (λ m. ms_within (month_start m) (month_end m) from at)
    → ((m : ℕ) (class : Class) → excess_in mid.rows m (rank_of class) ≤ gross_in mid.rows m (rank_of class))
    → AreTotalsOf old book → book.stays ≡ before ++ open_stay (lines_of lines) from ∷ after
    → AreTotalsOf new (record book { stays = before ++ ended_stay (lines_of lines) from at ∷ after })
stands_ended old mid new book before after lines month from at is begun ended covered stands split = record {
  ended = λ m class.
      let p = ended_middle m class before after (open_stay (lines_of lines) from) book split in
      let q = ended_middle m class before after (ended_stay (lines_of lines) from at) (record book { stays = before ++ ended_stay (lines_of lines) from at ∷ after }) refl in
      let s = stands.ended m class in
      let b = ended_running mid.rows old.rows lines month _ m class begun in
      let e = ended.gain m class in
      let g = ended.grows m class in
      let c = covered m class in
      let x = ended_is mid.rows m (rank_of class) in
      let y = ended_is new.rows m (rank_of class) in
      omega (arith, p, q, s, b, e, g, c, x, y);
  running = λ m class.
      let p = running_middle m class before after (open_stay (lines_of lines) from) book split in
      let q = running_middle m class before after (ended_stay (lines_of lines) from at) (record book { stays = before ++ ended_stay (lines_of lines) from at ∷ after }) refl in
      let s = stands.running m class in
      let b = begun.running m class in
      let e = ended.running m class in
      let x = begun_bytes m month from (bytes_in_class class (lines_of lines)) is in
      let o = once (m == month) (bytes_in_class class (lines_of lines)) in
      omega (arith, p, q, s, b, e, x, o);
  lead = λ m class.
      let p = lead_middle m class before after (open_stay (lines_of lines) from) book split in
      let q = lead_middle m class before after (ended_stay (lines_of lines) from at) (record book { stays = before ++ ended_stay (lines_of lines) from at ∷ after }) refl in
      let s = stands.lead m class in
      let b = begun.lead m class in
      let e = ended.lead m class in
      let x = begun_lead m month from (bytes_in_class class (lines_of lines)) is in
      omega (arith, p, q, s, b, e, x);
  early = λ m class.
      let b = begun.early m (rank_of class) in
      let e = ended.early m (rank_of class) in
      let s = stands.early m class in
      let t = early_stays m class (before ++ ended_stay (lines_of lines) from at ∷ after) book in
      omega (arith, b, e, s, t);
  moves = λ m class.
      let b = begun.moves m (rank_of class) in
      let e = ended.moves m (rank_of class) in
      let s = stands.moves m class in
      let t = moves_stays m class (before ++ ended_stay (lines_of lines) from at ∷ after) book in
      omega (arith, b, e, s, t);
}

-- ---- an early quantity and a move

turned : (a b : Bool) (n : ℕ) → (if a && b then n else 0) ≡ (if b && a then n else 0)
turned true true n = refl
turned true false n = refl
turned false true n = refl
turned false false n = refl

here_and_now : (m k r c at n : ℕ) → IsInMonth k at → at_place k r m c n ≡ (if (r == c) && is_in_month m at then n else 0)
here_and_now m k r c at n is = turned (m == k) (r == c) n ∙ ap (λ t. if (r == c) && t then n else 0) (sym (in_month_is m k at is))

ended_early : (month : ℕ) (class : Class) (early : Early) (book : Book) → ended_sum month class (book_with_early early book) ≡ ended_sum month class book
unfolding ended_sum
ended_early month class early book = refl

running_early : (month : ℕ) (class : Class) (early : Early) (book : Book) → running_sum month class (book_with_early early book) ≡ running_sum month class book
unfolding running_sum
running_early month class early book = refl

lead_early : (month : ℕ) (class : Class) (early : Early) (book : Book) → lead_sum month class (book_with_early early book) ≡ lead_sum month class book
unfolding lead_sum
lead_early month class early book = refl

early_push : (month : ℕ) (class : Class) (early : Early) (book : Book)
    → early_quantity month class (book_with_early early book) ≡ early_quantity month class book + (if same_class early.class class && is_in_month month early.moment then early.amount else 0)
unfolding early_quantity
early_push month class early book = sum_by_push (λ (early : Early). if same_class early.class class && is_in_month month early.moment then early.amount else 0) book.early early

moves_early : (month : ℕ) (class : Class) (early : Early) (book : Book) → move_count month class (book_with_early early book) ≡ move_count month class book
unfolding move_count
moves_early month class early book = refl

ended_move : (month : ℕ) (class : Class) (move : Move) (book : Book) → ended_sum month class (with_move move book) ≡ ended_sum month class book
unfolding ended_sum
ended_move month class move book = refl

running_move : (month : ℕ) (class : Class) (move : Move) (book : Book) → running_sum month class (with_move move book) ≡ running_sum month class book
unfolding running_sum
running_move month class move book = refl

lead_move : (month : ℕ) (class : Class) (move : Move) (book : Book) → lead_sum month class (with_move move book) ≡ lead_sum month class book
unfolding lead_sum
lead_move month class move book = refl

early_move : (month : ℕ) (class : Class) (move : Move) (book : Book) → early_quantity month class (with_move move book) ≡ early_quantity month class book
unfolding early_quantity
early_move month class move book = refl

count_push : (p : Move → Bool) (moves : List Move) (move : Move) → length (filter p (moves ++ move ∷ [])) ≡ length (filter p moves) + (if p move then 1 else 0)
count_push p moves move =
    length-filter p (moves ++ move ∷ []) ∙ (sum_by_push (λ (m : Move). if p m then 1 else 0) moves move ∙ ap (λ n. n + (if p move then 1 else 0)) (sym (length-filter p moves)))

moves_push : (month : ℕ) (class : Class) (move : Move) (book : Book)
    → move_count month class (with_move move book) ≡ move_count month class book + (if same_class move.class class && is_in_month month move.moment then 1 else 0)
unfolding move_count
moves_push month class move book = count_push (λ (move : Move). same_class move.class class && is_in_month month move.moment) book.moves move

-- the numbers of an early quantity, and of a move
abbrev pub early_numbers : ℕ → Numbers
early_numbers amount = record { edges = 0; arrived = 0; departed = 0; running = 0; lead = 0; early = amount; moves = 0 }

abbrev pub move_numbers : Numbers
move_numbers = record { edges = 0; arrived = 0; departed = 0; running = 0; lead = 0; early = 0; moves = 1 }

-- nothing was added of a stay that has ended
ended_added : (old new : Rows) (month rank m r : ℕ) (more : Numbers) → IsAdded old new month rank more → more.edges ≡ 0 → more.arrived ≡ 0 → more.departed ≡ 0
    → ended_in new m r ≡ ended_in old m r
ended_added old new month rank m r more added e a d =
    ended_same old new m r
    (gross_same old new m r (let x = added.edges m r in let z = none_of (m == month && rank == r) more.edges e in omega (arith, x, z))
    (λ k. let x = added.arrived k r in let z = none_of (k == month && rank == r) more.arrived a in omega (arith, x, z)))
    (excess_same old new m r (λ k. let x = added.departed k r in let z = none_of (k == month && rank == r) more.departed d in omega (arith, x, z)))
  where
    none_of : (t : Bool) (n : ℕ) → n ≡ 0 → (if t then n else 0) ≡ 0
    none_of true n e = e
    none_of false n e = refl

pub stands_early : (old new : Totals) (book : Book) (class : Class) (month at amount : ℕ) → IsInMonth month at
    → IsAdded old.rows new.rows month (rank_of class) (early_numbers amount) → AreTotalsOf old book
    → AreTotalsOf new (book_with_early (record { class = class; amount = amount; moment = at }) book)
stands_early old new book class month at amount is added stands = record {
  ended = λ m c.
      let a = ended_added old.rows new.rows month (rank_of class) m (rank_of c) _ added refl refl refl in
      let s = stands.ended m c in
      let p = ended_early m c (record { class = class; amount = amount; moment = at }) book in
      omega (arith, a, s, p);
  running = λ m c.
      let a = added.running m (rank_of c) in
      let z = none_added (m == month && rank_of class == rank_of c) in
      let s = stands.running m c in
      let p = running_early m c (record { class = class; amount = amount; moment = at }) book in
      omega (arith, a, z, s, p);
  lead = λ m c.
      let a = added.lead m (rank_of c) in
      let z = none_added (m == month && rank_of class == rank_of c) in
      let s = stands.lead m c in
      let p = lead_early m c (record { class = class; amount = amount; moment = at }) book in
      omega (arith, a, z, s, p);
  early = λ m c.
      let a = added.early m (rank_of c) in
      let z = here_and_now m month (rank_of class) (rank_of c) at amount is in
      let s = stands.early m c in
      let p = early_push m c (record { class = class; amount = amount; moment = at }) book in
      omega (arith, a, z, s, p);
  moves = λ m c.
      let a = added.moves m (rank_of c) in
      let z = none_added (m == month && rank_of class == rank_of c) in
      let s = stands.moves m c in
      let p = moves_early m c (record { class = class; amount = amount; moment = at }) book in
      omega (arith, a, z, s, p);
}

pub stands_moved : (old new : Totals) (book : Book) (class : Class) (month at : ℕ) → IsInMonth month at → IsAdded old.rows new.rows month (rank_of class) move_numbers → AreTotalsOf old book
    → AreTotalsOf new (with_move (record { class = class; moment = at }) book)
stands_moved old new book class month at is added stands = record {
  ended = λ m c.
      let a = ended_added old.rows new.rows month (rank_of class) m (rank_of c) _ added refl refl refl in
      let s = stands.ended m c in
      let p = ended_move m c (record { class = class; moment = at }) book in
      omega (arith, a, s, p);
  running = λ m c.
      let a = added.running m (rank_of c) in
      let z = none_added (m == month && rank_of class == rank_of c) in
      let s = stands.running m c in
      let p = running_move m c (record { class = class; moment = at }) book in
      omega (arith, a, z, s, p);
  lead = λ m c.
      let a = added.lead m (rank_of c) in
      let z = none_added (m == month && rank_of class == rank_of c) in
      let s = stands.lead m c in
      let p = lead_move m c (record { class = class; moment = at }) book in
      omega (arith, a, z, s, p);
  early = λ m c.
      let a = added.early m (rank_of c) in
      let z = none_added (m == month && rank_of class == rank_of c) in
      let s = stands.early m c in
      let p = early_move m c (record { class = class; moment = at }) book in
      omega (arith, a, z, s, p);
  moves = λ m c.
      let a = added.moves m (rank_of c) in
      let z = here_and_now m month (rank_of class) (rank_of c) at 1 is in
      let s = stands.moves m c in
      let p = moves_push m c (record { class = class; moment = at }) book in
      omega (arith, a, z, s, p);
}

-- nothing was owed
nothing_early : (old new : Totals) (book : Book) (class : Class) (month : ℕ) → IsAdded old.rows new.rows month (rank_of class) (early_numbers 0) → AreTotalsOf old book → AreTotalsOf new book
nothing_early old new book class month added stands = record {
  ended = λ m c. let a = ended_added old.rows new.rows month (rank_of class) m (rank_of c) _ added refl refl refl in let s = stands.ended m c in omega (arith, a, s);
  running = λ m c. let a = added.running m (rank_of c) in let z = none_added (m == month && rank_of class == rank_of c) in let s = stands.running m c in omega (arith, a, z, s);
  lead = λ m c. let a = added.lead m (rank_of c) in let z = none_added (m == month && rank_of class == rank_of c) in let s = stands.lead m c in omega (arith, a, z, s);
  early = λ m c. let a = added.early m (rank_of c) in let z = none_added (m == month && rank_of class == rank_of c) in let s = stands.early m c in omega (arith, a, z, s);
  moves = λ m c. let a = added.moves m (rank_of c) in let z = none_added (m == month && rank_of class == rank_of c) in let s = stands.moves m c in omega (arith, a, z, s);
}

owed_case : (old new : Totals) (book : Book) (class : Class) (month bytes entered at : ℕ) (t : Bool) → nat_lt at (entered + least_stay class) ≡ t → IsInMonth month at
    → IsAdded old.rows new.rows month (rank_of class) (early_numbers (bytes * (entered + least_stay class - at))) → AreTotalsOf old book
    → AreTotalsOf new (if t then book_with_early (record { class = class; amount = bytes * (entered + least_stay class - at); moment = at }) book else book)
owed_case old new book class month bytes entered at true e is added stands = stands_early old new book class month at (bytes * (entered + least_stay class - at)) is added stands
owed_case old new book class month bytes entered at false e is added stands =
    let over : entered + least_stay class ≤ at = over_case at (entered + least_stay class) e in
    let z : bytes * (entered + least_stay class - at) ≡ 0 = nothing_left bytes (entered + least_stay class) at over in
    nothing_early old new book class month (subst (λ n. IsAdded old.rows new.rows month (rank_of class) (early_numbers n)) z added) stands
  where
    over_case : (at until : ℕ) → nat_lt at until ≡ false → until ≤ at
    over_case at until e = grind (arith, nat_tests)

    nothing_left : (bytes until at : ℕ) → until ≤ at → bytes * (until - at) ≡ 0
    nothing_left bytes until at le = let d : until - at ≡ 0 = omega (arith, le) in rw d (omega arith)

pub stands_owed : (old new : Totals) (book : Book) (class : Class) (month bytes entered at : ℕ) → IsInMonth month at
    → IsAdded old.rows new.rows month (rank_of class) (early_numbers (bytes * (entered + least_stay class - at))) → AreTotalsOf old book
    → AreTotalsOf new (with_early_of class bytes entered at book)
stands_owed old new book class month bytes entered at is added stands = owed_case old new book class month bytes entered at _ refl is added stands

-- ---- rows without anything, and more of them

ended_nothing : (rows : Rows) (month rank : ℕ) → ((m : ℕ) → kept_in rows m rank ≡ nothing) → ended_in rows month rank ≡ 0
ended_nothing rows month rank none =
    let p = ended_plain rows month rank (λ k. ap (λ (n : Numbers). n.arrived) (none k)) (λ k. ap (λ (n : Numbers). n.departed) (none k)) in
    let e = ap (λ (n : Numbers). n.edges) (none month) in
    let i = ended_is rows month rank in
    let g = p.0 in
    omega (arith, e, i, g)

pub stands_empty : (totals : Totals) → ((month rank : ℕ) → kept_in totals.rows month rank ≡ nothing) → AreTotalsOf totals empty_book
unfolding ended_sum running_sum lead_sum early_quantity move_count
stands_empty totals none = record {
  ended = λ m class. ended_nothing totals.rows m (rank_of class) (λ k. none k (rank_of class));
  running = λ m class. ap (λ (k : Numbers). k.running) (none m (rank_of class));
  lead = λ m class. ap (λ (k : Numbers). k.lead) (none m (rank_of class));
  early = λ m class. ap (λ (k : Numbers). k.early) (none m (rank_of class));
  moves = λ m class. ap (λ (k : Numbers). k.moves) (none m (rank_of class));
}

-- other rows with the same kept numbers
pub stands_same : (old new : Totals) (book : Book) → ((month rank : ℕ) → kept_in new.rows month rank ≡ kept_in old.rows month rank) → AreTotalsOf old book → AreTotalsOf new book
stands_same old new book same stands = record {
  ended = λ m class. same_ended m (rank_of class) ∙ stands.ended m class;
  running = λ m class. ap (λ (k : Numbers). k.running) (same m (rank_of class)) ∙ stands.running m class;
  lead = λ m class. ap (λ (k : Numbers). k.lead) (same m (rank_of class)) ∙ stands.lead m class;
  early = λ m class. ap (λ (k : Numbers). k.early) (same m (rank_of class)) ∙ stands.early m class;
  moves = λ m class. ap (λ (k : Numbers). k.moves) (same m (rank_of class)) ∙ stands.moves m class;
} where
  same_ended : (m r : ℕ) → ended_in new.rows m r ≡ ended_in old.rows m r
  same_ended m r =
      ended_same old.rows new.rows m r
      (gross_same old.rows new.rows m r (ap (λ (k : Numbers). k.edges) (same m r)) (λ k. ap (λ (n : Numbers). n.arrived) (same k r)))
      (excess_same old.rows new.rows m r (λ k. ap (λ (n : Numbers). n.departed) (same k r)))
