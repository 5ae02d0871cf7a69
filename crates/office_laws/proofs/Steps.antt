-- Every step keeps the office orderly, and the readings of every closed month.
use Rattle.std.proofs.Common.{◌≡◌, ℕ, ◌+◌, ◌≤◌, List, [], ◌∷◌, ◌++◌, map, length, refl, ap, sym, ◌∙◌, subst, Bool, true, false, not, cond, arith, flat_map}
use Rattle.std.specs.Prelude.{Option, Some, None, Ok, Err, is_some, nat_lt, unwrap_or}
use Rattle.std.specs.Option.{ok_or}
use Rattle.std.specs.List.{AllByRecursion}
use Rattle.std.specs.Str.{bytes_eq}
use Rattle.std.specs.Ordering.{is_eq, nat_cmp}
use Rattle.std.proofs.lemmas.Bool.{ltb-false}
use Rattle.std.proofs.lemmas.Grind.{flat_map-append}
use Rattle.std.proofs.lemmas.Option.{same_Some}
use Rattle.moments.specs.Months.{month_end, month_at}
use Rattle.class_rules.specs.Classes.{all_classes}
use Rattle.office_base.specs.Maps.{bytes_cmp, at_name, with_name, at_number, Rises}
use Rattle.office_base.specs.Results.{◌>>=◌}
use Rattle.class_rules.specs.declared.class.Class.{Class}
use Rattle.due_core.specs.Candidates.{eligible}
use Rattle.due_core.specs.Choice.{choice}
use Rattle.due_core.specs.declared.action.Action.{Action}
use Rattle.due_core.proofs.Loops.{same_flat}
use Rattle.plain_office.specs.Office.{Office, Account, Books, of_version, of_part, empty_books, empty_office, book_of}
use Rattle.accrual.specs.Books.{Book}
use Rattle.accrual.specs.Meters.{meter, early_quantity, move_count}
use Rattle.plain_office.specs.Charges.{class_lines, report_lines, in_force}
use Rattle.plain_office.specs.Counts.{limit_of, count_of, first_full}
use Rattle.plain_office.specs.Orderly.{IsOrderlyBucket, HasOpenStays, FollowEachOther, last_end, closed_until, FirstMonthsRise, IsOrderly, SizeFits}
use Rattle.plain_office.specs.Run.{is_not_before}
use Rattle.plain_office.specs.Step.{Change, Outcome, refuse_if, unless_full, within_limits, on_bucket, new_bucket, new_account, month_to_close, due_before, unless_due, adds_marker, is_unversioned, with_tariff, set_tariff}
use Rattle.plain_office.specs.Step.{accepted, settled, outcome, step, put_object, delete, set_versioning, set_rules, drop_rules, delete_version, set_tags, start_upload, put_part, complete, abort, act}
use Rattle.tariff.specs.Prices.{Prices}
use Rattle.office_types.specs.declared.command.Command.{Command}
use Rattle.office_types.specs.declared.command.Command.TheVariants as command
use Rattle.office_types.specs.declared.reply.Reply.{Reply}
use Rattle.office_types.specs.declared.reply.Reply.TheVariants as reply
use Rattle.office_types.specs.declared.reply.ReportLine.{ReportLine}
use Rattle.office_types.specs.declared.refusal.Refusal.TheVariants.{NoSuchBucket, BucketExists, MonthNotOver, AlreadyClosed, EarlierMonthOpen, NoTariff}
use Rattle.office_types.specs.declared.refusal.What.{What}
use Rattle.office_types.specs.declared.refusal.What.TheVariants.{Buckets, Versions, Uploads, Parts, Names, Rules, Tariffs}
use Rattle.office_laws.proofs.Lists.{every_weaker, Added, Replaced, added_sum}
use Rattle.office_laws.proofs.Maps.{by_name, other_names, bytes_same, at_written, at_other, added, replaced, rises_written, every_written}
use Rattle.office_laws.proofs.Tariffs.{rise_with}
use Rattle.office_laws.proofs.Buckets.{IsTimely}
use Rattle.office_laws.proofs.Chosen.{timely_from_choice}
use Rattle.office_laws.proofs.Closed.{KeepsBooks, keeps_same}
use Rattle.office_laws.proofs.Changes.{measure, IsKept, Keeps}
use Rattle.office_laws.proofs.Commands.{Done, versioning_done, rules_done, drop_done, put_done, delete_done, delete_version_done, tags_done, start_done, part_done, abort_done, complete_done, act_done}
use Rattle.office_laws.proofs.Offices.{NamedAccount, HasStays, buckets_now, closed_now, months_now, kept_now, HasRoom, room_of, few_tariffs, counts_of, Within, room_after, booked_now, IsBookedUntil}

-- ---- the lines of a report

module _ (tariff : Prices) (month : ℕ) where
  abbrev pub lines_at : ℕ → NamedAccount → List ReportLine
  lines_at t entry = flat_map (class_lines tariff month t entry.0 (book_of entry.1.books)) all_classes

  pub lines_same : (name : List ℕ) (t u : ℕ) (b c : Book) → ((class : Class) → meter month class u c ≡ meter month class t b)
      → ((class : Class) → early_quantity month class c ≡ early_quantity month class b) → ((class : Class) → move_count month class c ≡ move_count month class b)
      → flat_map (class_lines tariff month u name c) all_classes ≡ flat_map (class_lines tariff month t name b) all_classes
  lines_same name t u b c meters early moves =
      same_flat (class_lines tariff month u name c) (class_lines tariff month t name b)
      (λ class. let m = meters class in let e = early class in let k = moves class in rw (m, e, k) refl) all_classes

  lines_kept : (until : ℕ) (name : List ℕ) (b c : Books) → KeepsBooks until b c → month_end month ≤ until
      → flat_map (class_lines tariff month (month_end month) name (book_of c)) all_classes ≡ flat_map (class_lines tariff month (month_end month) name (book_of b)) all_classes
  lines_kept until name b c k le =
      lines_same name (month_end month) (month_end month) (book_of b) (book_of c) (λ class. k.meters month class le) (λ class. k.early month class le) (λ class. k.moves month class le)

  lines_none : (name : List ℕ) (t : ℕ) → flat_map (class_lines tariff month t name (book_of empty_books)) all_classes ≡ []
  unfolding meter early_quantity move_count
  lines_none name t = refl

  lines_replaced : (name : List ℕ) (before after : Account) (until : ℕ) → KeepsBooks until before.books after.books
      → month_end month ≤ until → (xs ys : List NamedAccount) → Replaced (name, before) (name, after) xs ys
      → flat_map (lines_at (month_end month)) ys ≡ flat_map (lines_at (month_end month)) xs
  lines_replaced name before after until k le xs ys one =
      ap (flat_map (lines_at (month_end month))) one.is
      ∙ flat_map-append (lines_at (month_end month)) one.front ((name, after) ∷ one.back)
      ∙ ap (λ l. flat_map (lines_at (month_end month)) one.front ++ (l ++ flat_map (lines_at (month_end month)) one.back)) (lines_kept until name before.books after.books k le)
      ∙ sym (flat_map-append (lines_at (month_end month)) one.front ((name, before) ∷ one.back))
      ∙ sym (ap (flat_map (lines_at (month_end month))) one.was)

  lines_added : (name : List ℕ) (new : Account) → new.books ≡ empty_books → (xs ys : List NamedAccount) → Added (name, new) xs ys
      → flat_map (lines_at (month_end month)) ys ≡ flat_map (lines_at (month_end month)) xs
  lines_added name new none xs ys one =
      ap (flat_map (lines_at (month_end month))) one.is
      ∙ flat_map-append (lines_at (month_end month)) one.front ((name, new) ∷ one.back)
      ∙ ap (λ l. flat_map (lines_at (month_end month)) one.front ++ (l ++ flat_map (lines_at (month_end month)) one.back))
      (ap (λ (b : Books). flat_map (class_lines tariff month (month_end month) name (book_of b)) all_classes) none ∙ lines_none name (month_end month))
      ∙ sym (flat_map-append (lines_at (month_end month)) one.front one.back)
      ∙ sym (ap (flat_map (lines_at (month_end month))) one.was)

-- ---- what stays of the months that are over at this moment

abbrev pub StaysClosed : ℕ → List ℕ → Books → Office → Type 0
StaysClosed until name books q = (after : Account) × (at_name name q.accounts ≡ Some after) × KeepsBooks until books after.books

pub record KeepsClosed (until : ℕ) (p q : Office) : Type 0 where
  pub accounts : (name : List ℕ) (account : Account) → at_name name p.accounts ≡ Some account → StaysClosed until name account.books q
  pub report : (tariff : Prices) (month : ℕ) → month_end month ≤ until → report_lines tariff month (month_end month) q ≡ report_lines tariff month (month_end month) p
  pub closed : (month : ℕ) (tariff : Prices) → at_number month p.closed ≡ Some tariff → at_number month q.closed ≡ Some tariff

-- the same buckets and closed months
pub closed_same : (until : ℕ) (p q : Office) → q.accounts ≡ p.accounts → q.closed ≡ p.closed → KeepsClosed until p q
unfolding report_lines
closed_same until p q accounts closed = record {
  accounts = λ name account is. (account, ap (at_name name) accounts ∙ is, keeps_same until account.books);
  report = λ tariff month le. ap (flat_map (lines_at tariff month (month_end month))) accounts;
  closed = λ month tariff is. ap (at_number month) closed ∙ is;
}

pub closed_accepted : (until t : ℕ) (p q : Office) → KeepsClosed until p q → KeepsClosed until p (accepted t q)
unfolding report_lines
closed_accepted until t p q k = record { accounts = k.accounts; report = k.report; closed = k.closed }

-- ---- what is done, within the limits

pub record IsMade (t : ℕ) (p after : Office) : Type 0 where
  pub orderly : IsOrderly (accepted t after)
  pub closed : KeepsClosed (closed_until p) p after

abbrev pub Makes : ℕ → Office → Outcome → Type 0
Makes t p (Ok done) = IsMade t p done.0
Makes t p (Err refusal) = Unit {0}

abbrev Promises : ℕ → Office → List What → Outcome → Type 0
Promises t p whats (Ok done) = Within whats done.0 → IsMade t p done.0
Promises t p whats (Err refusal) = Unit {0}

some_none : {X : Type 0} (x : X) → Some x ≡ None → ⊥
some_none x h = absurd cc

room_tested : (whats : List What) (q : Office) → first_full whats q ≡ None → Within whats q
room_tested [] q h = tt
room_tested (what ∷ whats) q h = by (nat_lt (limit_of what) (count_of what q)) refl h (room_tested whats q) where
  by : (b : Bool) → nat_lt (limit_of what) (count_of what q) ≡ b → cond b (Some what) (first_full whats q) ≡ None → (first_full whats q ≡ None → Within whats q) → Within (what ∷ whats) q
  by true is h more = absurd (some_none what h)
  by false is h more = (ltb-false (limit_of what) (count_of what q) is, more h)

within_by : (t : ℕ) (p : Office) (whats : List What) (done : Office × Reply) (o : Option What)
    → first_full whats done.0 ≡ o → (Within whats done.0 → IsMade t p done.0) → Makes t p (unless_full o done)
within_by t p whats done None is k = k (room_tested whats done.0 is)
within_by t p whats done (Some what) is k = tt

within_makes : (t : ℕ) (p : Office) (whats : List What) (o : Outcome) → Promises t p whats o → Makes t p (within_limits whats o)
within_makes t p whats (Ok done) k = within_by t p whats done (first_full whats done.0) refl k
within_makes t p whats (Err refusal) k = tt

plainly : (t : ℕ) (p : Office) (o : Outcome) → Promises t p [] o → Makes t p o
plainly t p (Ok done) k = k tt
plainly t p (Err refusal) k = tt

-- ---- the months

last_more : (closed : List (ℕ × Prices)) (month : ℕ × Prices) → last_end (closed ++ month ∷ []) ≡ month_end month.0
last_more [] month = refl
last_more (m ∷ []) month = refl
last_more (m ∷ n ∷ others) month = last_more (n ∷ others) month

follow_more : (first : ℕ) (closed : List (ℕ × Prices)) (month : ℕ) (tariff : Prices) → month ≡ first + length closed → FollowEachOther first (map (λ (m : ℕ × Prices). m.0) closed)
    → FollowEachOther first (map (λ (m : ℕ × Prices). m.0) (closed ++ (month, tariff) ∷ []))
follow_more first [] month tariff is h = (omega (arith, is), tt)
follow_more first (m ∷ closed) month tariff is h = (h.0, follow_more (first + 1) closed month tariff (omega (arith, is)) h.1)

found_more : {X : Type 0} (number : ℕ) (value : X) (xs ys : List (ℕ × X)) → at_number number xs ≡ Some value → at_number number (xs ++ ys) ≡ Some value
found_more number value [] ys h = absurd cc
found_more number value (x ∷ xs) ys h = by (is_eq (nat_cmp number x.0)) h (found_more number value xs ys) where
  by : (b : Bool) → cond b (Some x.1) (at_number number xs) ≡ Some value → (at_number number xs ≡ Some value → at_number number (xs ++ ys) ≡ Some value)
      → cond b (Some x.1) (at_number number (xs ++ ys)) ≡ Some value
  by true h more = h
  by false h more = more h

-- no choice stands before the moment
abbrev NoneBefore : ℕ → ℕ → NamedAccount → Type 0
NoneBefore t end entry = (a : Action) → choice entry.1.bucket t ≡ Some a → end ≤ a.since

abbrev early_of : ℕ → List ℕ → Option Action → Option (List ℕ × Action) → Option (List ℕ × Action)
early_of end name None others = others
early_of end name (Some action) others = cond (nat_lt action.since end) (Some (name, action)) others

due_none : (t end : ℕ) (accounts : List NamedAccount) → due_before t end accounts ≡ None → AllByRecursion (NoneBefore t end) accounts
due_none t end [] h = tt
due_none t end (e ∷ accounts) h = by (choice e.1.bucket t) refl h (due_none t end accounts) where
  test : (action : Action) → choice e.1.bucket t ≡ Some action → (b : Bool) → nat_lt action.since end ≡ b → cond b (Some (e.0, action)) (due_before t end accounts) ≡ None
      → (due_before t end accounts ≡ None → AllByRecursion (NoneBefore t end) accounts) → NoneBefore t end e × AllByRecursion (NoneBefore t end) accounts
  test action is true before h more = absurd (some_none (e.0, action) h)
  test action is false before h more = (
    (λ a k. let same : action ≡ a = cc in subst (λ (x : Action). end ≤ x.since) same (ltb-false action.since end before)),
    more h,
  )

  by : (o : Option Action) → choice e.1.bucket t ≡ o → early_of end e.0 o (due_before t end accounts) ≡ None → (due_before t end accounts ≡ None → AllByRecursion (NoneBefore t end) accounts)
      → NoneBefore t end e × AllByRecursion (NoneBefore t end) accounts
  by None is h more = ((λ a k. absurd (some_none a (sym k ∙ is))), more h)
  by (Some action) is h more = test action is (nat_lt action.since end) refl h more

-- ---- the commands

module _ (t : ℕ) (p : Office) (h : IsOrderly p) (later : is_not_before p.last t ≡ true) where
  abbrev until : ℕ
  until = closed_until p

  -- an account in place of another
  abbrev with_account : List ℕ → Account → Office
  with_account name account = record p { accounts = with_name name account p.accounts }

  abbrev OrderlyNow : NamedAccount → Type 0
  OrderlyNow entry = IsOrderlyBucket t entry.1.bucket

  abbrev TimelyNow : NamedAccount → Type 0
  TimelyNow entry = IsTimely (closed_until p) entry.1.bucket

  -- with other buckets, as many months closed as before
  with_buckets : (accounts : List NamedAccount) → Rises bytes_cmp accounts → AllByRecursion OrderlyNow accounts
      → AllByRecursion TimelyNow accounts → AllByRecursion HasStays accounts → AllByRecursion (IsBookedUntil t) accounts
      → HasRoom accounts
      → (tariffs : List Prices) → FirstMonthsRise tariffs → length tariffs ≤ 100
      → IsOrderly (accepted t (record p { accounts = accounts; tariffs = tariffs }))
  with_buckets accounts names buckets timely stays booked room tariffs rise few = record {
    records = record {
      names = names;
      moments = record { first_month = refl; buckets = buckets; closed = closed_now t p h later };
      tariffs = rise;
      months = months_now t p h later;
      nothing_due_in_closed_months = timely;
      versions = room.versions;
      counts = counts_of (accepted t (record p { accounts = accounts; tariffs = tariffs })) room few;
    };
    stays = stays;
    booked = booked;
    kept = h.kept;
  }

  others_there : (name other : List ℕ) (before after account : Account) (b : Bool) → bytes_eq other name ≡ b
      → at_name name p.accounts ≡ Some before → KeepsBooks (closed_until p) before.books after.books
      → at_name other p.accounts ≡ Some account → StaysClosed (closed_until p) other account.books (with_account name after)
  others_there name other before after account true same held kept is =
      let names : other ≡ name = bytes_same other name same in
      let one : before ≡ account = same_Some before account (sym held ∙ ap (λ (n : List ℕ). at_name n p.accounts) (sym names) ∙ is) in (
        after,
        ap (λ (n : List ℕ). at_name n (with_name name after p.accounts)) names
            ∙ at_written by_name name after p.accounts,
        subst (λ (a : Account). KeepsBooks (closed_until p) a.books after.books) one kept,
      )
  others_there name other before after account false differs held kept is =
      (account, at_other by_name name after other (other_names other name differs) p.accounts ∙ is, keeps_same (closed_until p) account.books)

  changed_makes : (name : List ℕ) (before after : Account) (whats : List What) → at_name name p.accounts ≡ Some before → Keeps t (closed_until p) whats before after
      → Within whats (with_account name after) → IsMade t p (with_account name after)
  unfolding report_lines
  changed_makes name before after whats held k within =
      let one = replaced by_name name after before p.accounts h.records.names held in
      record {
        orderly = with_buckets (with_name name after p.accounts)
            (rises_written by_name name after p.accounts h.records.names)
            (every_written by_name name after OrderlyNow p.accounts h.records.names k.account.bucket (buckets_now t p h later))
            (every_written by_name name after TimelyNow p.accounts h.records.names k.account.timely h.records.nothing_due_in_closed_months)
            (every_written by_name name after HasStays p.accounts h.records.names k.account.stays h.stays)
            (every_written by_name name after (IsBookedUntil t) p.accounts h.records.names k.account.booked (booked_now t p h later))
            (room_after p (with_account name after) name before after one whats within (room_of p h.records) k.grows)
            p.tariffs h.records.tariffs (few_tariffs p h.records);
        closed = record {
          accounts = λ other account is. others_there name other before after account (bytes_eq other name) refl held k.books is;
          report = λ tariff month le. lines_replaced tariff month name before after (closed_until p) k.books le p.accounts (with_name name after p.accounts) one;
          closed = λ month tariff is. is;
        };
      }

  done_promises : (name : List ℕ) (before : Account) (whats : List What) → at_name name p.accounts ≡ Some before → (change : Change) → Done t (closed_until p) whats before change
      → Promises t p whats (change >>= λ done. Ok (record p { accounts = with_name name done.0 p.accounts }, done.1))
  done_promises name before whats held (Ok done) k = changed_makes name before done.0 whats held k
  done_promises name before whats held (Err refusal) k = tt

  bucket_by : (name : List ℕ) (whats : List What) (change : Account → Change)
      → ((account : Account) → at_name name p.accounts ≡ Some account → IsKept t (closed_until p) account → Done t (closed_until p) whats account (change account))
      → (o : Option Account) → at_name name p.accounts ≡ o
      → Promises t p whats (ok_or o NoSuchBucket >>= λ account. change account >>= λ done. Ok (record p { accounts = with_name name done.0 p.accounts }, done.1))
  bucket_by name whats change k None is = tt
  bucket_by name whats change k (Some account) is = done_promises name account whats is (change account) (k account is (kept_now t p h later name account is))

  bucket_promises : (name : List ℕ) (whats : List What) (change : Account → Change)
      → ((account : Account) → at_name name p.accounts ≡ Some account → IsKept t (closed_until p) account → Done t (closed_until p) whats account (change account))
      → Promises t p whats (on_bucket name change p)
  bucket_promises name whats change k = bucket_by name whats change k (at_name name p.accounts) refl

  le : closed_until p ≤ t
  le = closed_now t p h later

  -- ---- a new bucket

  new_stays : HasOpenStays (new_account t)
  new_stays key (of_version id) = refl
  new_stays key (of_part number place) = refl

  new_orderly : IsOrderlyBucket t (new_bucket t)
  new_orderly = record { next_version = omega arith; next_upload = omega arith; rules_since = omega arith; keys = tt; stacks = tt; numbers = tt; uploads = tt }

  new_timely : IsTimely (closed_until p) (new_bucket t)
  unfolding eligible
  new_timely = tt

  room_added : (name : List ℕ) → at_name name p.accounts ≡ None → Within (Buckets ∷ []) (with_account name (new_account t)) → HasRoom (with_name name (new_account t) p.accounts)
  unfolding count_of
  room_added name none within =
      let one = added by_name name (new_account t) p.accounts none in
      let room = room_of p h.records in
      let sum = λ (what : What). added_sum (name, new_account t) p.accounts (with_name name (new_account t) p.accounts) one (λ (entry : NamedAccount). measure what entry.1.bucket) in
      record {
        buckets = within.0;
        versions = let s = sum Versions in let small = room.versions in omega (arith, s, small);
        uploads = let s = sum Uploads in let small = room.uploads in omega (arith, s, small);
        parts = let s = sum Parts in let small = room.parts in omega (arith, s, small);
        names = let s = sum Names in let small = room.names in omega (arith, s, small);
        rules = let s = sum Rules in let small = room.rules in omega (arith, s, small);
      }

  old_there : (name other : List ℕ) (account : Account) (b : Bool) → bytes_eq other name ≡ b → at_name name p.accounts ≡ None → at_name other p.accounts ≡ Some account
      → StaysClosed (closed_until p) other account.books (with_account name (new_account t))
  old_there name other account true same none is =
      absurd (some_none account (sym is ∙ ap (λ (n : List ℕ). at_name n p.accounts) (bytes_same other name same) ∙ none))
  old_there name other account false differs none is =
      (account, at_other by_name name (new_account t) other (other_names other name differs) p.accounts ∙ is, keeps_same (closed_until p) account.books)

  created : (name : List ℕ) → at_name name p.accounts ≡ None → Within (Buckets ∷ []) (with_account name (new_account t)) → IsMade t p (with_account name (new_account t))
  unfolding report_lines
  created name none within =
      let one = added by_name name (new_account t) p.accounts none in
      record {
        orderly = with_buckets (with_name name (new_account t) p.accounts)
            (rises_written by_name name (new_account t) p.accounts h.records.names)
            (every_written by_name name (new_account t) OrderlyNow p.accounts h.records.names new_orderly (buckets_now t p h later))
            (every_written by_name name (new_account t) TimelyNow p.accounts h.records.names new_timely h.records.nothing_due_in_closed_months)
            (every_written by_name name (new_account t) HasStays p.accounts h.records.names new_stays h.stays)
            (every_written by_name name (new_account t) (IsBookedUntil t) p.accounts h.records.names (record { stays = tt; early = tt; moves = tt }) (booked_now t p h later))
            (room_added name none within)
            p.tariffs h.records.tariffs (few_tariffs p h.records);
        closed = record {
          accounts = λ other account is. old_there name other account (bytes_eq other name) refl none is;
          report = λ tariff month le. lines_added tariff month name (new_account t) refl p.accounts (with_name name (new_account t) p.accounts) one;
          closed = λ month tariff is. is;
        };
      }

  create_by : (name : List ℕ) (o : Option Account) → at_name name p.accounts ≡ o
      → Promises t p (Buckets ∷ []) (refuse_if (is_some o) BucketExists (record p { accounts = with_name name (new_account t) p.accounts }, reply.BucketMade name))
  create_by name (Some account) is = tt
  create_by name None is = created name is

  -- ---- a tariff

  tariff_makes : (tariff : Prices) → Promises t p (Tariffs ∷ []) (set_tariff tariff p)
  unfolding count_of
  tariff_makes tariff within = record {
    orderly = with_buckets p.accounts h.records.names (buckets_now t p h later) h.records.nothing_due_in_closed_months h.stays (booked_now t p h later) (room_of p h.records)
        (with_tariff tariff p.tariffs) (rise_with tariff p.tariffs h.records.tariffs) within.0;
    closed = closed_same (closed_until p) p (record p { tariffs = with_tariff tariff p.tariffs }) refl refl;
  }

  -- ---- the close of a month

  module _ (month : ℕ) (over : month_end month ≤ t) (next : month ≡ month_to_close t p) where
    closing_kept : (tariff : Prices) → KeepsClosed (closed_until p) p (record p { closed = p.closed ++ (month, tariff) ∷ [] })
    unfolding report_lines
    closing_kept tariff = record {
      accounts = λ name account is. (account, is, keeps_same (closed_until p) account.books);
      report = λ tariff month le. refl;
      closed = λ m kept is. found_more m kept p.closed ((month, tariff) ∷ []) is;
    }

    close_made : (tariff : Prices) → AllByRecursion (NoneBefore t (month_end month)) p.accounts → IsMade t p (record p { closed = p.closed ++ (month, tariff) ∷ [] })
    close_made tariff none =
        let end = last_more p.closed (month, tariff) in
        record {
          orderly = record {
            records = record {
              names = h.records.names;
              moments = record { first_month = refl; buckets = buckets_now t p h later; closed = omega (arith, end, over) };
              tariffs = h.records.tariffs;
              months = follow_more (unwrap_or p.first_month (month_at t)) p.closed month tariff next (months_now t p h later);
              nothing_due_in_closed_months = subst (λ (n : ℕ). AllByRecursion (λ (entry : NamedAccount). IsTimely n entry.1.bucket) p.accounts) (sym end)
                  (every_weaker (NoneBefore t (month_end month)) (λ (entry : NamedAccount). IsTimely (month_end month) entry.1.bucket)
                  (λ entry is. timely_from_choice (month_end month) t entry.1.bucket over is) p.accounts none);
              versions = h.records.versions;
              counts = counts_of (accepted t (record p { closed = p.closed ++ (month, tariff) ∷ [] })) (room_of p h.records) (few_tariffs p h.records);
            };
            stays = h.stays;
            booked = booked_now t p h later;
            kept = h.kept;
          };
          closed = closing_kept tariff;
        }

    due_by : (tariff : Prices) (o : Option (List ℕ × Action)) → due_before t (month_end month) p.accounts ≡ o
        → Makes t p (unless_due o (record p { closed = p.closed ++ (month, tariff) ∷ [] }, reply.Closed month))
    due_by tariff None is = close_made tariff (due_none t (month_end month) p.accounts is)
    due_by tariff (Some due) is = tt

    tariff_by : (o : Option Prices)
        → Makes t p (ok_or o NoTariff
        >>= λ tariff. unless_due (due_before t (month_end month) p.accounts)
        (record p { closed = p.closed ++ (month, tariff) ∷ [] }, reply.Closed month))
    tariff_by None = tt
    tariff_by (Some tariff) = due_by tariff (due_before t (month_end month) p.accounts) refl

  abbrev closing : ℕ → Outcome
  closing month = ok_or (in_force month p.tariffs) NoTariff >>= λ tariff. unless_due (due_before t (month_end month) p.accounts) (record p { closed = p.closed ++ (month, tariff) ∷ [] }, reply.Closed month)

  close_by : (month : ℕ) (a b c : Bool) → nat_lt t (month_end month) ≡ a → nat_lt month (month_to_close t p) ≡ b → nat_lt (month_to_close t p) month ≡ c
      → Makes t p (cond a (Err (MonthNotOver (month_end month))) (cond b (Err AlreadyClosed) (cond c (Err (EarlierMonthOpen (month_to_close t p))) (closing month))))
  close_by month true b c is_a is_b is_c = tt
  close_by month false true c is_a is_b is_c = tt
  close_by month false false true is_a is_b is_c = tt
  close_by month false false false is_a is_b is_c =
      let over = ltb-false t (month_end month) is_a in
      let not_closed = ltb-false month (month_to_close t p) is_b in
      let none_open = ltb-false (month_to_close t p) month is_c in
      tariff_by month over (omega (arith, not_closed, none_open)) (in_force month p.tariffs)

  -- ---- a deletion

  adds_is : (name : List ℕ) (account : Account) → at_name name p.accounts ≡ Some account → adds_marker name p ≡ not (is_unversioned account.bucket.versioning)
  adds_is name account is = rw is refl

  delete_promises : (name key : List ℕ) → Promises t p (cond (adds_marker name p) (Versions ∷ Names ∷ []) (Names ∷ [])) (on_bucket name (delete t key) p)
  delete_promises name key = bucket_promises name (cond (adds_marker name p) (Versions ∷ Names ∷ []) (Names ∷ [])) (delete t key)
      (λ account is kept. subst (λ (b : Bool). Done t (closed_until p) (cond b (Versions ∷ Names ∷ []) (Names ∷ [])) account (delete t key account))
      (sym (adds_is name account is)) (delete_done t (closed_until p) account kept le key))

  pub outcome_makes : (c : Command) → SizeFits c → Makes t p (outcome t c p)
  unfolding outcome
  outcome_makes (command.CreateBucket name) fits = within_makes t p (Buckets ∷ []) _ (create_by name (at_name name p.accounts) refl)
  outcome_makes (command.SetVersioning name enabled) fits =
      plainly t p _ (bucket_promises name [] (set_versioning t enabled)
      (λ account is kept. versioning_done t (closed_until p) account kept le enabled))
  outcome_makes (command.SetRules name rules) fits =
      within_makes t p (Rules ∷ []) _ (bucket_promises name (Rules ∷ []) (set_rules t rules)
      (λ account is kept. rules_done t (closed_until p) account kept le rules))
  outcome_makes (command.DropRules name) fits = plainly t p _ (bucket_promises name [] (drop_rules t) (λ account is kept. drop_done t (closed_until p) account kept le))
  outcome_makes (command.Put name key size class tags) fits =
      within_makes t p (Versions ∷ Names ∷ []) _ (bucket_promises name (Versions ∷ Names ∷ [])
      (put_object t key size class tags)
      (λ account is kept. put_done t (closed_until p) account kept le key size class tags fits))
  outcome_makes (command.Delete name key) fits = within_makes t p _ _ (delete_promises name key)
  outcome_makes (command.DeleteVersion name key id) fits =
      plainly t p _ (bucket_promises name [] (delete_version t key id)
      (λ account is kept. delete_version_done t (closed_until p) account kept le key id))
  outcome_makes (command.SetTags name key id tags) fits =
      within_makes t p (Names ∷ []) _ (bucket_promises name (Names ∷ []) (set_tags t key id tags) (λ account is kept. tags_done t (closed_until p) account kept le key id tags))
  outcome_makes (command.StartUpload name key class tags) fits =
      within_makes t p (Uploads ∷ Names ∷ []) _ (bucket_promises name (Uploads ∷ Names ∷ [])
      (start_upload t key class tags)
      (λ account is kept. start_done t (closed_until p) account kept le key class tags))
  outcome_makes (command.PutPart name upload part size) fits =
      within_makes t p (Parts ∷ []) _ (bucket_promises name (Parts ∷ []) (put_part t upload part size) (λ account is kept. part_done t (closed_until p) account kept le upload part size))
  outcome_makes (command.Complete name upload) fits =
      within_makes t p (Versions ∷ Names ∷ []) _ (bucket_promises name (Versions ∷ Names ∷ []) (complete t upload) (λ account is kept. complete_done t (closed_until p) account kept le upload))
  outcome_makes (command.Abort name upload) fits = plainly t p _ (bucket_promises name [] (abort t upload) (λ account is kept. abort_done t (closed_until p) account kept le upload))
  outcome_makes (command.Act name) fits = plainly t p _ (bucket_promises name [] (act t) (λ account is kept. act_done t (closed_until p) account kept le))
  outcome_makes (command.SetTariff tariff) fits = within_makes t p (Tariffs ∷ []) (set_tariff tariff p) (tariff_makes tariff)
  outcome_makes (command.Close month) fits = close_by month _ _ _ refl refl refl

-- ---- a step

-- what a step keeps of an orderly office
pub record StepKeeps (p q : Office) : Type 0 where
  pub orderly : IsOrderly q
  pub closed : KeepsClosed (closed_until p) p q

pub nothing_done : (p : Office) → IsOrderly p → StepKeeps p p
nothing_done p h = record { orderly = h; closed = closed_same (closed_until p) p p refl refl }

done_by : (t : ℕ) (p after : Office) (answer : Reply) → IsOrderly p → IsMade t p after → StepKeeps p (settled t p (Ok (after, answer))).0
done_by t p after reply.NothingDue h k = nothing_done p h
done_by t p after answer h k = record { orderly = k.orderly; closed = closed_accepted (closed_until p) t p after k.closed }

settled_keeps : (t : ℕ) (p : Office) (o : Outcome) → IsOrderly p → Makes t p o → StepKeeps p (settled t p o).0
settled_keeps t p (Ok done) h k = done_by t p done.0 done.1 h k
settled_keeps t p (Err refusal) h k = nothing_done p h

pub step_keeps : (t : ℕ) (c : Command) (p : Office) → SizeFits c → IsOrderly p → is_not_before p.last t ≡ true → StepKeeps p (step t c p).0
unfolding step
step_keeps t c p fits h later = settled_keeps t p (outcome t c p) h (outcome_makes t p h later c fits)

pub step_orderly : (t : ℕ) (c : Command) (p : Office) → SizeFits c → IsOrderly p → is_not_before p.last t ≡ true → IsOrderly (step t c p).0
step_orderly t c p fits h later = (step_keeps t c p fits h later).orderly

pub empty_orderly : IsOrderly empty_office
unfolding count_of
empty_orderly = record {
  records = record {
    names = tt;
    moments = record { accounts = refl; tariffs = refl; closed = refl; first_month = refl; kept = refl };
    tariffs = tt;
    months = tt;
    nothing_due_in_closed_months = tt;
    versions = omega arith;
    counts = (omega arith, (omega arith, (omega arith, (omega arith, (omega arith, (omega arith, tt))))));
  };
  stays = tt;
  booked = tt;
  kept = record { few = omega arith; differ = tt };
}
