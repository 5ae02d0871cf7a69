-- No later command changes what the office answers about a closed month.
use Rattle.std.proofs.lemmas.Bool.{le-leb}
use Rattle.std.proofs.Common.{◌≡◌, ℕ, ◌+◌, ◌≤◌, List, [], ◌∷◌, map, refl, ap, sym, ◌∙◌, subst, Bool, true, false, cond, arith}
use Rattle.std.proofs.lemmas.Option.{same_Some}
use Rattle.std.specs.Prelude.{Option, Some, None, IsSome, Ok, unwrap_or}
use Rattle.std.specs.Ordering.{is_eq, nat_cmp}
use Rattle.moments.specs.Months.{month_end, month_at}
use Rattle.class_rules.specs.Classes.{all_classes}
use Rattle.office_base.specs.Maps.{at_name, at_number}
use Rattle.class_rules.specs.declared.class.Class.{Class}
use Rattle.plain_office.specs.Office.{Office, Account, Books, book_of}
use Rattle.plain_office.specs.Answers.{class_meters, answer}
use Rattle.accrual.specs.Meters.{meter}
use Rattle.plain_office.specs.Charges.{report_lines}
use Rattle.plain_office.specs.Orderly.{FollowEachOther, last_end, closed_until, IsOrderly}
use Rattle.plain_office.specs.Run.{is_not_before}
use Rattle.tariff.specs.Prices.{Prices}
use Rattle.office_types.specs.declared.command.Query.TheVariants as query
use Rattle.office_types.specs.declared.reply.ClassMeters.{ClassMeters}
use Rattle.office_types.specs.declared.reply.Reply.{Reply}
use Rattle.office_types.specs.declared.reply.Reply.TheVariants.{Report, MetersShown}
use Rattle.office_types.specs.declared.reply.ReportLine.{ReportLine}
use Rattle.office_laws.specs.ClosedMonths.{ReadsSame}
use Rattle.office_laws.proofs.Maps.{by_number, one_key}
use Rattle.office_laws.proofs.Calendar.{start_next}
use Rattle.office_laws.proofs.Closed.{KeepsBooks, meter_seen}
use Rattle.office_laws.proofs.Offices.{NamedAccount, months_now}
use Rattle.office_laws.proofs.Steps.{KeepsClosed, StaysClosed, lines_at, lines_same}
use Rattle.due_core.proofs.Loops.{same_flat}

pub some_is : {X : Type 0} (o : Option X) → IsSome o → (x : X) × (o ≡ Some x)
some_is None h = absurd cc
some_is (Some x) h = (x, refl)

-- ---- a closed month is over by the end of the last closed one

first_end : (first : ℕ) (m : ℕ × Prices) (closed : List (ℕ × Prices)) → FollowEachOther first (map (λ (m : ℕ × Prices). m.0) (m ∷ closed)) → month_end m.0 ≤ last_end (m ∷ closed)
first_end first m [] h = omega arith
first_end first m (n ∷ closed) h =
    let rest = first_end (first + 1) n closed h.1 in
    let next : month_end m.0 ≤ month_end (first + 1) = subst (λ (x : ℕ). month_end x ≤ month_end (first + 1)) (sym h.0) (start_next (first + 1)) in
    let here : month_end (first + 1) ≤ month_end n.0 = subst (λ (x : ℕ). month_end (first + 1) ≤ month_end x) (sym h.1.0) (omega arith) in
    omega (arith, rest, next, here)

closed_by : (first : ℕ) (closed : List (ℕ × Prices)) (month : ℕ) (tariff : Prices) → FollowEachOther first (map (λ (m : ℕ × Prices). m.0) closed) → at_number month closed ≡ Some tariff
    → month_end month ≤ last_end closed
closed_by first [] month tariff h is = absurd cc
closed_by first (m ∷ closed) month tariff h is = by (is_eq (nat_cmp month m.0)) refl is h (closed_by (first + 1) closed month tariff) where
  last_later : (others : List (ℕ × Prices)) → at_number month others ≡ Some tariff → last_end (m ∷ others) ≡ last_end others
  last_later [] k = absurd cc
  last_later (n ∷ others) k = refl

  by : (b : Bool) → is_eq (nat_cmp month m.0) ≡ b → cond b (Some m.1) (at_number month closed) ≡ Some tariff → FollowEachOther first (map (λ (m : ℕ × Prices). m.0) (m ∷ closed))
      → (FollowEachOther (first + 1) (map (λ (m : ℕ × Prices). m.0) closed) → at_number month closed ≡ Some tariff → month_end month ≤ last_end closed)
      → month_end month ≤ last_end (m ∷ closed)
  by true same k h more = subst (λ (x : ℕ). month_end x ≤ last_end (m ∷ closed)) (sym (one_key by_number month m.0 same)) (first_end first m closed h)
  by false same k h more = subst (λ (x : ℕ). month_end month ≤ x) (sym (last_later closed k)) (more h.1 k)

-- a moment that is not before the last one
now : Option ℕ → ℕ
now None = 0
now (Some last) = last

now_later : (last : Option ℕ) → is_not_before last (now last) ≡ true
unfolding now
now_later None = refl
now_later (Some last) = le-leb last last (omega arith)

pub month_over : (p : Office) (month : ℕ) (tariff : Prices) → IsOrderly p → at_number month p.closed ≡ Some tariff → month_end month ≤ closed_until p
month_over p month tariff h is = closed_by (unwrap_or p.first_month (month_at (now p.last))) p.closed month tariff (months_now (now p.last) p h (now_later p.last)) is

-- two offices of which the later one keeps what is closed
module _ (p q : Office) (kept : KeepsClosed (closed_until p) p q) (month : ℕ) (tariff : Prices) (over : month_end month ≤ closed_until p) (is : at_number month p.closed ≡ Some tariff) where
  -- ---- readings at two moments that are not before its end

  module _ (u v : ℕ) (le_u : month_end month ≤ u) (le_v : month_end month ≤ v) where
    meter_kept : (b after : Books) → KeepsBooks (closed_until p) b after → (class : Class) → meter month class v (book_of after) ≡ meter month class u (book_of b)
    meter_kept b after k class = meter_seen month class v (book_of after) le_v ∙ k.meters month class over ∙ sym (meter_seen month class u (book_of b) le_u)

    pub meters_kept : (b after : Books) → KeepsBooks (closed_until p) b after → (class : Class) → class_meters month v (book_of after) class ≡ class_meters month u (book_of b) class
    meters_kept b after k class =
        let m = meter_kept b after k class in
        let e = k.early month class over in
        let n = k.moves month class over in
        rw (m, e, n) refl

    -- the readings of a bucket
    pub readings_kept : (name : List ℕ) (before after : Account) (class : Class) → at_name name p.accounts ≡ Some before → at_name name q.accounts ≡ Some after
        → ReadsSame month class u v (book_of before.books) (book_of after.books)
    readings_kept name before after class there here =
        let k = kept.accounts name before there in
        let same = same_Some k.0 after (sym k.1 ∙ here) in
        subst (λ (a : Account). ReadsSame month class u v (book_of before.books) (book_of a.books)) same
        (record { meter_stays = meter_kept before.books k.0.books k.2 class; early_stays = k.2.early month class over; moves_stay = k.2.moves month class over })

    meters_shown : (name : List ℕ) (b after : Books) → KeepsBooks (closed_until p) b after
        → MetersShown name month (map (class_meters month v (book_of after)) all_classes) ≡ MetersShown name month (map (class_meters month u (book_of b)) all_classes)
    meters_shown name b after k = ap (λ (l : List ClassMeters). MetersShown name month l) (map_same (meters_kept b after k) all_classes) where
      map_same : ((class : Class) → class_meters month v (book_of after) class ≡ class_meters month u (book_of b) class)
          → (classes : List Class)
          → map (class_meters month v (book_of after)) classes ≡ map (class_meters month u (book_of b)) classes
      map_same same [] = refl
      map_same same (class ∷ classes) = λ i. same class i ∷ map_same same classes i

    meters_by : (name : List ℕ) (account : Account) → at_name name p.accounts ≡ Some account → StaysClosed (closed_until p) name account.books q
        → answer v (query.Meters name month) q ≡ answer u (query.Meters name month) p
    unfolding answer
    meters_by name account there after =
        let here = after.1 in
        rw (there, here) (ap (λ (r : Reply). Ok r) (meters_shown name account.books after.0.books after.2))

    -- the meters, early quantities and moves of a bucket
    pub meters_answer : (name : List ℕ) (account : Account) → at_name name p.accounts ≡ Some account → answer v (query.Meters name month) q ≡ answer u (query.Meters name month) p
    meters_answer name account there = meters_by name account there (kept.accounts name account there)

    report_seen : (o : Office) (w : ℕ) → month_end month ≤ w → report_lines tariff month w o ≡ report_lines tariff month (month_end month) o
    unfolding report_lines
    report_seen o w le = same_flat (lines_at tariff month w) (lines_at tariff month (month_end month))
        (λ (entry : NamedAccount). lines_same tariff month entry.0 (month_end month) w (book_of entry.1.books)
        (book_of entry.1.books) (λ class. meter_seen month class w (book_of entry.1.books) le) (λ class. refl)
        (λ class. refl)) o.accounts

    report_kept : report_lines tariff month v q ≡ report_lines tariff month u p
    report_kept = report_seen q v le_v ∙ kept.report tariff month over ∙ sym (report_seen p u le_u)

    -- the report
    pub report_answer : answer v (query.Report month) q ≡ answer u (query.Report month) p
    unfolding answer
    report_answer = let still = kept.closed month tariff is in rw (is, still) (ap (λ (l : List ReportLine). Ok (Report l)) report_kept)
