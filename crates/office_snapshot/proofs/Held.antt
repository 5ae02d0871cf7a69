-- What a history books at most: after n entries no bucket has more than n stays, n early quantities and n moves, nor next
-- numbers above n + 1, and each of these is of a size that an object or a part can have.
use Rattle.std.proofs.Common.{◌≡◌, ℕ, ◌+◌, ◌*◌, ◌^◌, ◌<◌, ◌≤◌, List, [], ◌∷◌, ◌++◌, map, length, refl, ap, sym, ◌∙◌, subst, Bool, true, false, cond, inl, inr, arith, length-append}
use Rattle.std.specs.Prelude.{Option, Some, None, MatchOption, is_none, option_map, option_to_list, find, sum_by, unwrap_or, nat_le, ◌&&◌, ◌⊎◌}
use Rattle.std.specs.Bool.{IsTrue}
use Rattle.std.specs.Str.{bytes_eq}
use Rattle.std.specs.List.{AllByRecursion, list_all}
use Rattle.std.proofs.lemmas.Bool.{and_parts, leb-true}
use Rattle.std.proofs.lemmas.List.{map-append}
use Rattle.std.proofs.lemmas.Option.{same_Some}
use Rattle.office_base.specs.Maps.{at_name, at_number, with_name}
use Rattle.office_base.specs.Sizes.{largest_size}
use Rattle.office_base.specs.declared.version_id.VersionId.{VersionId}
use Rattle.class_rules.specs.Lines.{object_lines, part_line, is_archive, own_bytes}
use Rattle.class_rules.specs.declared.class.Class.{Class}
use Rattle.class_rules.specs.declared.class.Class.TheVariants.{Standard, StandardIa, OnezoneIa, GlacierIr, Glacier, DeepArchive}
use Rattle.stacks.specs.Stacks.{StackRecord, version_at, new_stack}
use Rattle.stacks.specs.declared.version.Kind.{Kind}
use Rattle.stacks.specs.declared.version.Kind.TheVariants.{Object, Marker}
use Rattle.stacks.specs.declared.version.Version.{Version}
use Rattle.uploads.specs.Uploads.{UploadRecord, is_part, is_part_until, total_size, largest_part}
use Rattle.uploads.specs.declared.part.Part.{Part}
use Rattle.due_core.specs.Buckets.{BucketRecord}
use Rattle.accrual.specs.Books.{Early, Move}
use Rattle.accrual.specs.Meters.{same_class, bytes_in_class}
use Rattle.accrual.proofs.Cases.{if_less}
use Rattle.plain_office.specs.Office.{Office, Account, Item, of_version, of_part, Booked, Books, empty_office}
use Rattle.plain_office.specs.Books.{lines_of_kind}
use Rattle.plain_office.specs.Changes.{versions_of}
use Rattle.plain_office.specs.Counts.{name_bytes, tag_bytes, tag_bytes_of}
use Rattle.plain_office.specs.Once.{kept_for, keeping, step_with}
use Rattle.plain_office.specs.Orderly.{IsOrderly, IsBlank, IsOrderlyUntil, IsOrderlyBucket, HasOpenStays, size_of, stay_of_version, stay_of_part, part_stays_expected, stays_expected, SizeFits}
use Rattle.plain_office.specs.Run.{accept, is_not_before, run_from, run}
use Rattle.plain_office.specs.Step.{new_account, step}
use Rattle.plain_office.proofs.Runs.{Answer, accepted_was, step_new}
use Rattle.office_types.specs.declared.command.Command.{Command}
use Rattle.office_types.specs.declared.command.Entry.{Entry}
use Rattle.office_types.specs.declared.reply.Reply.{Reply}
use Rattle.office_types.specs.declared.reply.Reply.TheVariants.{NothingDue}
use Rattle.office_types.specs.declared.refusal.Refusal.{Refusal}
use Rattle.std.specs.Prelude.{Result, Ok, Err}
use Rattle.office_laws.proofs.Lists.{every_append, every_true, every_weaker, sum_most}
use Rattle.office_laws.proofs.Maps.{by_name, by_number, found_every, at_written, every_written}
use Rattle.office_laws.proofs.OneStay.{open_expected}
use Rattle.office_laws.proofs.Buckets.{stack_orderly, HasUpload}
use Rattle.office_laws.proofs.Offices.{NamedAccount, HasStays, HasRoom, room_of}
use Rattle.office_laws.proofs.Once.{with_orderly}
use Rattle.office_laws.proofs.Runs.{none_from}
use Rattle.office_laws.proofs.Steps.{empty_orderly}
use Rattle.office_laws.proofs.Uploads.{upload_orderly}
use Rattle.office_snapshot.proofs.Few.{each_most}
use Rattle.office_snapshot.proofs.Growth.{lines_in, IsOwed, AddsEarly, Begins, Adds, every_found}
use Rattle.office_snapshot.proofs.Added.{OneChanged, OneMade, Changes, step_changes}

-- ---- the lines of an open stay

-- in no class more bytes than this
abbrev pub AreSmall : List (Class × ℕ) → Type 0
AreSmall lines = (class : Class) → bytes_in_class class lines ≤ 2 ^ 44

abbrev whole : List (Class × ℕ) → ℕ
whole lines = sum_by (λ (line : Class × ℕ). line.1) lines

small_by : (lines : List (Class × ℕ)) → whole lines ≤ 2 ^ 44 → AreSmall lines
small_by lines le class =
    let most = sum_most (λ (line : Class × ℕ). cond (same_class line.0 class) line.1 0) (λ (line : Class × ℕ). line.1) (λ line. if_less (same_class line.0 class) line.1) lines in
    omega (arith, le, most)

object_whole : (class : Class) (size : ℕ) → size ≤ largest_size → whole (object_lines class size) ≤ 2 ^ 44
object_whole Standard size small = omega (arith, small)
object_whole StandardIa size small = omega (arith, small)
object_whole OnezoneIa size small = omega (arith, small)
object_whole GlacierIr size small = omega (arith, small)
object_whole Glacier size small = omega (arith, small)
object_whole DeepArchive size small = omega (arith, small)

kind_whole : (key : List ℕ) (kind : Kind) → size_of kind ≤ largest_size → length key ≤ 536_870_912 → whole (lines_of_kind key kind) ≤ 2 ^ 44
kind_whole key Marker small short = omega (arith, short)
kind_whole key (Object size class tags entered) small short = object_whole class size small

part_whole : (class : Class) (size : ℕ) → size ≤ largest_part → whole (part_line class size) ≤ 2 ^ 44
part_whole class size small = omega (arith, small)

module _ (last : ℕ) (account : Account) (h : IsOrderlyBucket last account.bucket) (names : name_bytes account.bucket ≤ 536_870_912) where
  abbrev bucket : BucketRecord
  bucket = account.bucket

  abbrev key_weight : List ℕ × StackRecord → ℕ
  key_weight stack = length stack.0 + sum_by tag_bytes_of stack.1.versions

  short_key : (key : List ℕ) (stack : StackRecord) → at_name key account.bucket.stacks ≡ Some stack → length key ≤ 536_870_912
  short_key key stack is =
      let uploads = sum_by (λ (upload : ℕ × UploadRecord). length upload.1.key + tag_bytes upload.1.tags) account.bucket.uploads in
      let all = each_most key_weight 536_870_912 account.bucket.stacks (omega (arith, names)) in
      let here = found_every by_name (λ (e : List ℕ × StackRecord). key_weight e ≤ 536_870_912) key stack account.bucket.stacks all is in
      omega (arith, here)

  version_small : (key : List ℕ) (id : VersionId) (stay : Booked) (o : Option StackRecord) → at_name key account.bucket.stacks ≡ o
      → (v : Option Version) → version_at id ((unwrap_or o (new_stack 0)).versions) ≡ v → option_to_list (option_map (stay_of_version key) v) ≡ stay ∷ [] → AreSmall stay.1.lines
  version_small key id stay o is None there same = absurd cc
  version_small key id stay None is (Some v) there same = absurd cc
  version_small key id stay (Some stack) is (Some v) there same =
      let orderly = stack_orderly account.bucket key last h stack is in
      let size = every_found (λ (v : Version). size_of v.kind ≤ largest_size) _ stack.versions orderly.sizes v there in
      let one : stay_of_version key v ≡ stay = cc in
      subst (λ (s : Booked). AreSmall s.1.lines) one (small_by (lines_of_kind key v.kind) (kind_whole key v.kind size (short_key key stack is)))

  part_small : (number place : ℕ) (upload : UploadRecord) (stay : Booked) → at_number number account.bucket.uploads ≡ Some upload
      → (q : Option Part) → at_number place upload.parts ≡ q → option_to_list (option_map (stay_of_part number upload place) q) ≡ stay ∷ [] → AreSmall stay.1.lines
  part_small number place upload stay found None there same = absurd cc
  part_small number place upload stay found (Some part) there same =
      let orderly = upload_orderly last account.bucket h number upload found in
      let ranges = and_parts (nat_le upload.started upload.changed && list_all (is_part_until upload.changed) upload.parts) (nat_le (total_size upload.parts) largest_size) orderly.1.ranges_and_moments in
      let all = and_parts (nat_le upload.started upload.changed) (list_all (is_part_until upload.changed) upload.parts) ranges.0 in
      let is = found_every by_number (λ (q : ℕ × Part). is_part_until upload.changed q ≡ true) place part upload.parts (every_true (is_part_until upload.changed) upload.parts all.1) there in
      let range = and_parts (is_part place part.size) (nat_le part.put upload.changed) is in
      let size = leb-true part.size largest_part (and_parts (nat_le 1 place && nat_le place 10_000) (nat_le part.size largest_part) range.0).1 in
      let one : stay_of_part number upload place part ≡ stay = cc in
      subst (λ (s : Booked). AreSmall s.1.lines) one (small_by (part_line upload.class part.size) (part_whole upload.class part.size size))

  upload_small : (key : List ℕ) (number place : ℕ) (stay : Booked) (o : Option UploadRecord) → at_number number account.bucket.uploads ≡ o
      → part_stays_expected key number place o ≡ stay ∷ [] → AreSmall stay.1.lines
  upload_small key number place stay None found same = absurd cc
  upload_small key number place stay (Some upload) found same = by (bytes_eq key upload.key) same where
    by : (b : Bool) → cond b (option_to_list (option_map (stay_of_part number upload place) (at_number place upload.parts))) [] ≡ stay ∷ [] → AreSmall stay.1.lines
    by true same = part_small number place upload stay found (at_number place upload.parts) refl same
    by false same = absurd cc

  expected_small : (key : List ℕ) (item : Item) (stay : Booked) → stays_expected account.bucket key item ≡ stay ∷ [] → AreSmall stay.1.lines
  expected_small key (of_version id) stay same = version_small key id stay (at_name key account.bucket.stacks) refl _ refl same
  expected_small key (of_part number place) stay same = upload_small key number place stay (at_number number account.bucket.uploads) refl same

  pub open_small : HasOpenStays account → (front : List Booked) (stay : Booked) → account.books.stays ≡ front ++ stay ∷ [] → is_none stay.1.to ≡ true → AreSmall stay.1.lines
  open_small has front stay is open_yet = expected_small stay.0.key stay.0.item stay (open_expected account front stay [] has is open_yet)

-- ---- what is held

pub record IsHeld (n : ℕ) (account : Account) : Type 0 where
  pub next_version : account.bucket.next_version ≤ n + 1
  pub next_upload : account.bucket.next_upload ≤ n + 1
  pub stays : length (lines_in account.books.stays) ≤ n
  pub lines : AllByRecursion AreSmall (lines_in account.books.stays)
  pub early : length account.books.early ≤ n
  pub owed : AllByRecursion IsOwed account.books.early
  pub moves : length account.books.moves ≤ n

held_later : (n : ℕ) (account : Account) → IsHeld n account → IsHeld (n + 1) account
held_later n account h = record {
  next_version = let k = h.next_version in omega (arith, k);
  next_upload = let k = h.next_upload in omega (arith, k);
  stays = let k = h.stays in omega (arith, k);
  lines = h.lines;
  early = let k = h.early in omega (arith, k);
  owed = h.owed;
  moves = let k = h.moves in omega (arith, k);
}

held_new : (n t : ℕ) → IsHeld n (new_account t)
held_new n t = record { next_version = omega arith; next_upload = omega arith; stays = omega arith; lines = tt; early = omega arith; owed = tt; moves = omega arith }

-- as it is seen in an orderly office
pub record IsSeen (account : Account) : Type 0 where
  pub last : ℕ
  pub bucket : IsOrderlyBucket last account.bucket
  pub stays : HasOpenStays account
  pub names : name_bytes account.bucket ≤ 536_870_912

module _ (n : ℕ) (before after : Account) (h : IsHeld n before) (seen : IsSeen after) where
  stays_more : (lines_in after.books.stays ≡ lines_in before.books.stays) ⊎ Begins before.books.stays after.books.stays → length (lines_in after.books.stays) ≤ n + 1
  stays_more (inl same) =
      let k = h.stays in
      let e = ap (λ (l : List (List (Class × ℕ))). length l) same in
      omega (arith, k, e)
  stays_more (inr b) =
      let k = h.stays in
      let split = ap lines_in b.is ∙ map-append (λ (stay : Booked). stay.1.lines) b.front (b.stay ∷ []) in
      let e = ap (λ (l : List (List (Class × ℕ))). length l) split in
      let joined = length-append (lines_in b.front) (b.stay.1.lines ∷ []) in
      let was = ap (λ (l : List (List (Class × ℕ))). length l) b.lines in
      omega (arith, k, e, joined, was)

  lines_more : (lines_in after.books.stays ≡ lines_in before.books.stays) ⊎ Begins before.books.stays after.books.stays → AllByRecursion AreSmall (lines_in after.books.stays)
  lines_more (inl same) = subst (AllByRecursion AreSmall) (sym same) h.lines
  lines_more (inr b) =
      let split = ap lines_in b.is ∙ map-append (λ (stay : Booked). stay.1.lines) b.front (b.stay ∷ []) in
      let small = open_small seen.last after seen.bucket seen.names seen.stays b.front b.stay b.is b.open_yet in
      subst (AllByRecursion AreSmall) (sym split)
      (every_append AreSmall (lines_in b.front) (b.stay.1.lines ∷ []) (subst (AllByRecursion AreSmall) (sym b.lines) h.lines) (small, tt))

  held_after : Adds before after → IsHeld (n + 1) after
  held_after a = record {
    next_version = let k = h.next_version in let m = a.next_version in omega (arith, k, m);
    next_upload = let k = h.next_upload in let m = a.next_upload in omega (arith, k, m);
    stays = stays_more a.books.stays;
    lines = lines_more a.books.stays;
    early =
        let k = h.early in
        let e = a.books.early in
        let is = ap (λ (l : List Early). length l) e.is in
        let joined = length-append before.books.early e.more in
        let few = e.few in
        omega (arith, k, is, joined, few);
    owed =
        let e = a.books.early in
        subst (AllByRecursion IsOwed) (sym e.is) (every_append IsOwed before.books.early e.more h.owed e.owed);
    moves = let k = h.moves in let m = a.books.moves in omega (arith, k, m);
  }

-- ---- in an office

abbrev pub HoldsBy : ℕ → NamedAccount → Type 0
HoldsBy n entry = IsHeld n entry.1

abbrev pub AllHeld : ℕ → Office → Type 0
AllHeld n p = AllByRecursion (HoldsBy n) p.accounts

seen_by : (q : Office) (name : List ℕ) (account : Account) → IsOrderly q → at_name name q.accounts ≡ Some account
    → (last : Option ℕ) → MatchOption last (IsBlank q) (λ moment. IsOrderlyUntil moment q) → IsSeen account
seen_by q name account h is None blank =
    let none : ◌≡◌ {A = Option Account} None (Some account) = ap (λ (l : List NamedAccount). at_name name l) (sym blank.accounts) ∙ is in
    absurd cc
seen_by q name account h is (Some last) until = record {
  last = last;
  bucket = found_every by_name (λ (e : NamedAccount). IsOrderlyBucket last e.1.bucket) name account q.accounts until.buckets is;
  stays = found_every by_name HasStays name account q.accounts h.stays is;
  names = found_every by_name (λ (e : NamedAccount). name_bytes e.1.bucket ≤ 536_870_912) name account q.accounts
      (each_most (λ (e : NamedAccount). name_bytes e.1.bucket) 536_870_912 q.accounts (room_of q h.records).names) is;
}

held_step : (n t : ℕ) (p q : Office) → IsOrderly p → IsOrderly q → AllHeld n p → Changes t p q → AllHeld (n + 1) q
held_step n t p q h k all (inl same) = subst (AllByRecursion (HoldsBy (n + 1))) (sym same) (every_weaker (HoldsBy n) (HoldsBy (n + 1)) (λ e is. held_later n e.1 is) p.accounts all)
held_step n t p q h k all (inr (inl one)) =
    let later = every_weaker (HoldsBy n) (HoldsBy (n + 1)) (λ e is. held_later n e.1 is) p.accounts all in
    let there = ap (at_name one.name) one.is ∙ at_written by_name one.name one.after p.accounts in
    let was = found_every by_name (HoldsBy n) one.name one.before p.accounts all one.was in
    subst (AllByRecursion (HoldsBy (n + 1))) (sym one.is)
    (every_written by_name one.name one.after (HoldsBy (n + 1)) p.accounts h.records.names
    (held_after n one.before one.after was (seen_by q one.name one.after k there q.last k.records.moments) one.adds) later)
held_step n t p q h k all (inr (inr one)) =
    let later = every_weaker (HoldsBy n) (HoldsBy (n + 1)) (λ e is. held_later n e.1 is) p.accounts all in
    subst (AllByRecursion (HoldsBy (n + 1))) (sym one.is)
    (every_written by_name one.name (new_account t) (HoldsBy (n + 1)) p.accounts h.records.names (held_new (n + 1) t) later)

-- ---- a step with a token

changes_same : (t : ℕ) (p q r : Office) → r.accounts ≡ q.accounts → Changes t p q → Changes t p r
changes_same t p q r is (inl same) = inl (is ∙ same)
changes_same t p q r is (inr (inl one)) = inr (inl (record { name = one.name; before = one.before; after = one.after; was = one.was; is = is ∙ one.is; adds = one.adds }))
changes_same t p q r is (inr (inr one)) = inr (inr (record { name = one.name; is = is ∙ one.is }))

keeping_same : (token : Option (List ℕ)) (c : Command) (office : Office) (answer : Answer) → (keeping token c (office, answer)).0.accounts ≡ office.accounts
keeping_same None c office answer = refl
keeping_same (Some token) c office (Err refusal) = refl
keeping_same (Some token) c office (Ok NothingDue) = refl
keeping_same (Some token) c office (Ok reply) = refl

-- ---- a run

module _ (e : Entry) (p q : Office) (h : IsOrderly p) (fits : SizeFits e.command) (is : accept p e ≡ Some q) where
  was_step : (step_with e.moment e.token e.command p).0 ≡ q
  was_step = let was = accepted_was p q e is in ap (λ (x : Office × Answer). x.0) (step_new e.moment e.token e.command p was.new ∙ was.is)

  next_orderly : IsOrderly q
  next_orderly = subst IsOrderly was_step (with_orderly e.moment e.token e.command p fits h (accepted_was p q e is).later)

  next_changes : Changes e.moment p q
  next_changes =
      let was = accepted_was p q e is in
      let next = step e.moment e.command p in
      let same : (keeping e.token e.command next).0 ≡ q = ap (λ (x : Office × Answer). x.0) was.is in
      changes_same e.moment p next.0 q (ap (λ (o : Office). o.accounts) (sym same) ∙ keeping_same e.token e.command next.0 next.1) (step_changes e.moment p h was.later e.command)

pub held_run : (n : ℕ) (entries : List Entry) (p q : Office) → AllByRecursion (λ (e : Entry). SizeFits e.command) entries → IsOrderly p → AllHeld n p → run_from (Some p) entries ≡ Some q
    → AllHeld (n + length entries) q
held_run n [] p q fits h all is =
    let same : n ≡ n + 0 = omega arith in
    subst (λ (m : ℕ). AllHeld m q) same (subst (AllHeld n) (same_Some p q is) all)
held_run n (e ∷ entries) p q fits h all is = by (accept p e) refl is (λ next k every runs. held_run (n + 1) entries next q fits.1 k every runs) where
  by : (o : Option Office) → accept p e ≡ o → run_from o entries ≡ Some q
      → ((next : Office) → IsOrderly next → AllHeld (n + 1) next → run_from (Some next) entries ≡ Some q → AllHeld (n + 1 + length entries) q)
      → AllHeld (n + length (e ∷ entries)) q
  by None was runs more = absurd (none_from entries q runs)
  by (Some next) was runs more =
      let k = next_orderly e p next h fits.0 was in
      let same : n + 1 + length entries ≡ n + length (e ∷ entries) = omega arith in
      subst (λ (m : ℕ). AllHeld m q) same (more next k (held_step n e.moment p next h k all (next_changes e p next h fits.0 was)) runs)

pub history_held : (history : List Entry) (q : Office) → AllByRecursion (λ (e : Entry). SizeFits e.command) history → run history ≡ Some q → AllHeld (length history) q
unfolding run
history_held history q fits is =
    let same : 0 + length history ≡ length history = omega arith in
    subst (λ (m : ℕ). AllHeld m q) same (held_run 0 history empty_office q fits empty_orderly tt is)
