-- How much a change adds to the books of a bucket and to its next numbers: at most one stay, which is open then, one early
-- quantity, one move, and one number of each kind.
use Rattle.std.proofs.Common.{◌≡◌, ℕ, ◌+◌, ◌-◌, ◌*◌, ◌^◌, ◌≤◌, List, [], ◌∷◌, ◌++◌, map, length, refl, ap, sym, ◌∙◌, subst, Bool, true, false, cond, inl, inr, arith, length-append}
use Rattle.std.specs.Prelude.{Option, Some, None, fold, nat_lt, nat_le, is_none, unwrap_or, find, ◌⊎◌, ◌&&◌}
use Rattle.std.specs.List.{AllByRecursion, list_all}
use Rattle.std.proofs.lemmas.Bool.{and_parts, leb-true}
use Rattle.std.proofs.lemmas.List.{append-nil}
use Rattle.office_base.specs.Maps.{at_name, at_number, with_number, without_number}
use Rattle.office_base.specs.Sizes.{largest_size}
use Rattle.office_base.specs.declared.version_id.VersionId.{VersionId}
use Rattle.office_base.specs.declared.version_id.VersionId.TheVariants.{Null}
use Rattle.class_rules.specs.Classes.{least_stay}
use Rattle.class_rules.specs.Lines.{own_bytes, part_line}
use Rattle.class_rules.specs.declared.class.Class.{Class}
use Rattle.class_rules.specs.declared.class.Class.TheVariants.{Standard, StandardIa, OnezoneIa, GlacierIr, Glacier, DeepArchive}
use Rattle.stacks.specs.Stacks.{StackRecord, ids_differ, has_moments_until, version_at, new_version, with_class, replaced, new_stack}
use Rattle.stacks.specs.declared.version.Kind.{Kind}
use Rattle.stacks.specs.declared.version.Kind.TheVariants.{Object, Marker}
use Rattle.stacks.specs.declared.version.Version.{Version}
use Rattle.stacks.specs.declared.version.Versioning.{Versioning}
use Rattle.stacks.specs.declared.version.Versioning.TheVariants.{Unversioned, Enabled, Suspended}
use Rattle.uploads.specs.Uploads.{UploadRecord}
use Rattle.uploads.specs.declared.part.Part.{Part}
use Rattle.due_core.specs.Buckets.{BucketRecord}
use Rattle.accrual.specs.Books.{Early, Move}
use Rattle.accrual.proofs.Bounds.{owed_small}
use Rattle.plain_office.specs.Office.{Item, of_version, of_part, Booked, Books, Account}
use Rattle.plain_office.specs.Books.{is_open_stay, with_stay, with_end, with_early, with_version, without_version, without_option, lines_of_kind}
use Rattle.plain_office.specs.Changes.{versions_of, next_id, number_after, books_moved, add_version, remove_version, move_version, add_part, remove_upload}
use Rattle.plain_office.specs.Orderly.{IsOrderlyBucket, lines_since, size_of}
use Rattle.office_laws.proofs.Lists.{every_true}
use Rattle.office_laws.proofs.Stays.{after_end, early_stays}
use Rattle.office_laws.proofs.Buckets.{ChangedBy, stack_orderly}
use Rattle.office_snapshot.proofs.RecordedStays.{since_by}

-- ---- what is added

-- the lines of each stay
abbrev pub lines_in : List Booked → List (List (Class × ℕ))
lines_in stays = map (λ (stay : Booked). stay.1.lines) stays

-- in the range of what an object of the largest size can owe
abbrev pub IsOwed : Early → Type 0
IsOwed early = early.amount ≤ 5 * 2 ^ 74

pub record AddsEarly (before after : List Early) : Type 0 where
  pub more : List Early
  pub is : after ≡ before ++ more
  pub few : length more ≤ 1
  pub owed : AllByRecursion IsOwed more

-- stays ended, and nothing else was booked
pub record EndsOnly (before after : Books) : Type 0 where
  pub lines : lines_in after.stays ≡ lines_in before.stays
  pub early : after.early ≡ before.early
  pub moves : after.moves ≡ before.moves

-- stays ended, with an early quantity or without
pub record Ends (before after : Books) : Type 0 where
  pub lines : lines_in after.stays ≡ lines_in before.stays
  pub early : AddsEarly before.early after.early
  pub moves : after.moves ≡ before.moves

-- a stay began, behind all others
pub record Begins (before after : List Booked) : Type 0 where
  pub front : List Booked
  pub stay : Booked
  pub is : after ≡ front ++ stay ∷ []
  pub open_yet : is_none stay.1.to ≡ true
  pub lines : lines_in front ≡ lines_in before

pub record BooksGrow (before after : Books) : Type 0 where
  pub stays : (lines_in after.stays ≡ lines_in before.stays) ⊎ Begins before.stays after.stays
  pub early : AddsEarly before.early after.early
  pub moves : length after.moves ≤ length before.moves + 1

pub record Adds (before after : Account) : Type 0 where
  pub next_version : after.bucket.next_version ≤ before.bucket.next_version + 1
  pub next_upload : after.bucket.next_upload ≤ before.bucket.next_upload + 1
  pub books : BooksGrow before.books after.books

-- ---- ends

no_early : (early : List Early) → AddsEarly early early
no_early early = record { more = []; is = sym (append-nil early); few = omega arith; owed = tt }

lines_ended : (key : List ℕ) (item : Item) (at : ℕ) (stays : List Booked) → lines_in (map (after_end key item at) stays) ≡ lines_in stays
lines_ended key item at [] = refl
lines_ended key item at (stay ∷ stays) = by (is_open_stay key item stay) (lines_ended key item at stays) where
  by : (b : Bool) → lines_in (map (after_end key item at) stays) ≡ lines_in stays
      → lines_in (cond {A = Booked} b (stay.0, record stay.1 { to = Some at }) stay ∷ map (after_end key item at) stays) ≡ lines_in (stay ∷ stays)
  by true rest = ap (λ (l : List (List (Class × ℕ))). stay.1.lines ∷ l) rest
  by false rest = ap (λ (l : List (List (Class × ℕ))). stay.1.lines ∷ l) rest

pub end_only : (key : List ℕ) (item : Item) (at : ℕ) (books : Books) → EndsOnly books (with_end key item at books)
end_only key item at books = record { lines = lines_ended key item at books.stays; early = refl; moves = refl }

pub ends_of : (before after : Books) → EndsOnly before after → Ends before after
ends_of before after e = record { lines = e.lines; early = subst (AddsEarly before.early) (sym e.early) (no_early before.early); moves = e.moves }

ends_none : (books : Books) → Ends books books
ends_none books = record { lines = refl; early = no_early books.early; moves = refl }

pub parts_end : (key : List ℕ) (number at : ℕ) (parts : List (ℕ × Part)) (books : Books)
    → EndsOnly books (fold (λ books part. with_end key (of_part number part.0) at books) books parts)
parts_end key number at [] books = record { lines = refl; early = refl; moves = refl }
parts_end key number at (part ∷ parts) books =
    let first = end_only key (of_part number part.0) at books in
    let rest = parts_end key number at parts (with_end key (of_part number part.0) at books) in
    record { lines = rest.lines ∙ first.lines; early = rest.early ∙ first.early; moves = rest.moves ∙ first.moves }

-- ---- a version goes

-- it is no larger than an object may be, and has its lines since no later than the moment
abbrev pub IsGoing : ℕ → Version → Type 0
IsGoing at version = (size_of version.kind ≤ largest_size) × (lines_since version ≤ at)

abbrev pub MayGo : ℕ → Option Version → Type 0
MayGo at None = Unit {0}
MayGo at (Some version) = IsGoing at version

own_small : (class : Class) (size : ℕ) → size ≤ largest_size → own_bytes class size ≤ largest_size + 32_768
own_small Standard size small = omega (arith, small)
own_small StandardIa size small = omega (arith, small)
own_small OnezoneIa size small = omega (arith, small)
own_small GlacierIr size small = omega (arith, small)
own_small Glacier size small = omega (arith, small)
own_small DeepArchive size small = omega (arith, small)

either_early : (b : Bool) (more : Early) (books : Books) → IsOwed more
    → AddsEarly books.early (cond b (record books { early = books.early ++ more ∷ [] }) books).early
either_early true more books owed = record { more = more ∷ []; is = refl; few = omega arith; owed = (owed, tt) }
either_early false more books owed = no_early books.early

either_moves : (b : Bool) (more : List Early) (books : Books) → (cond b (record books { early = more }) books).moves ≡ books.moves
either_moves true more books = refl
either_moves false more books = refl

early_moves : (kind : Kind) (at : ℕ) (books : Books) → (with_early kind at books).moves ≡ books.moves
early_moves Marker at books = refl
early_moves (Object size class tags entered) at books = either_moves (nat_lt at (entered + least_stay class)) _ books

early_of : (version : Version) (at : ℕ) (books : Books) → IsGoing at version → AddsEarly books.early (with_early version.kind at books).early
early_of version at books going = by version.kind going.0 going.1 where
  by : (kind : Kind) → size_of kind ≤ largest_size → lines_since (record version { kind = kind }) ≤ at → AddsEarly books.early (with_early kind at books).early
  by Marker small since = no_early books.early
  by (Object size class tags entered) small since =
      either_early (nat_lt at (entered + least_stay class)) (record { class = class; amount = own_bytes class size * (entered + least_stay class - at); moment = at }) books
      (owed_small class (own_bytes class size) entered at (own_small class size small) since)

version_ends : (key : List ℕ) (version : Version) (at : ℕ) (books : Books) → IsGoing at version → Ends books (without_version key version at books)
version_ends key version at books going =
    let mid = with_end key (of_version version.id) at books in
    record {
      lines = ap lines_in (early_stays version.kind at mid) ∙ lines_ended key (of_version version.id) at books.stays;
      early = early_of version at mid going;
      moves = early_moves version.kind at mid;
    }

option_ends : (key : List ℕ) (version : Option Version) (at : ℕ) (books : Books) → MayGo at version → Ends books (without_option key version at books)
option_ends key None at books going = ends_none books
option_ends key (Some version) at books going = version_ends key version at books going

-- ---- a stay begins

ends_grow : (before after : Books) → Ends before after → BooksGrow before after
ends_grow before after e = record {
  stays = inl e.lines;
  early = e.early;
  moves = let same = ap (λ (l : List Move). length l) e.moves in omega (arith, same);
}

begin_grow : (key : List ℕ) (item : Item) (lines : List (Class × ℕ)) (at : ℕ) (before mid : Books) → Ends before mid → BooksGrow before (with_stay key item lines at mid)
begin_grow key item lines at before mid e = record {
  stays = inr (record { front = mid.stays; stay = (record { key = key; item = item }, record { lines = lines; from = at; to = None }); is = refl; open_yet = refl; lines = e.lines });
  early = e.early;
  moves = let same = ap (λ (l : List Move). length l) e.moves in omega (arith, same);
}

move_grow : (key : List ℕ) (version : Option Version) (to : Class) (at : ℕ) (books : Books) → MayGo at version → BooksGrow books (books_moved key version to at books)
move_grow key None to at books going = ends_grow books books (ends_none books)
move_grow key (Some version) to at books going =
    let mid = without_version key version at books in
    let e = version_ends key version at books going in
    let g = begin_grow key (of_version version.id) (lines_of_kind key (with_class to at version).kind) at books mid e in
    record {
      stays = g.stays;
      early = g.early;
      moves = one_more mid.moves books.moves e.moves;
    }
  where
    one_more : (moves was : List Move) → moves ≡ was → length (moves ++ record { class = to; moment = at } ∷ []) ≤ length was + 1
    one_more moves was is =
        let same = ap (λ (l : List Move). length l) is in
        let more = length-append moves (record { class = to; moment = at } ∷ []) in
        omega (arith, same, more)

-- ---- the versions of a bucket

pub every_found : {X : Type 0} (P : X → Type 0) (test : X → Bool) (xs : List X) → AllByRecursion P xs → (x : X) → find test xs ≡ Some x → P x
every_found P test [] all x is = absurd cc
every_found P test (y ∷ ys) all x is = by (test y) is (every_found P test ys all.1 x) where
  by : (b : Bool) → cond b (Some y) (find test ys) ≡ Some x → (find test ys ≡ Some x → P x) → P x
  by true is more = let same : y ≡ x = cc in subst P same all.0
  by false is more = more is

both : {X : Type 0} (P Q R : X → Type 0) → ((x : X) → P x → Q x → R x) → (xs : List X) → AllByRecursion P xs → AllByRecursion Q xs → AllByRecursion R xs
both P Q R f [] a b = tt
both P Q R f (x ∷ xs) a b = (f x a.0 b.0, both P Q R f xs a.1 b.1)

module _ (last : ℕ) (bucket : BucketRecord) (h : IsOrderlyBucket last bucket) (key : List ℕ) (at : ℕ) (changed : ChangedBy bucket key at) where
  all_going : (stack : StackRecord) → at_name key bucket.stacks ≡ Some stack → AllByRecursion (IsGoing at) stack.versions
  all_going stack is =
      let orderly = stack_orderly bucket key last h stack is in
      let moments = and_parts (ids_differ stack.versions) (list_all (has_moments_until stack.changed) stack.versions) orderly.ids_and_moments in
      let le = changed stack is in
      both (λ (v : Version). size_of v.kind ≤ largest_size) (λ (v : Version). has_moments_until stack.changed v ≡ true) (IsGoing at)
      (λ v small until. (small, (let since = since_by stack.changed v until in omega (arith, since, le))))
      stack.versions orderly.sizes (every_true (has_moments_until stack.changed) stack.versions moments.1)

  going_in : (id : VersionId) (o : Option StackRecord) → at_name key bucket.stacks ≡ o → (v : Option Version) → version_at id ((unwrap_or o (new_stack 0)).versions) ≡ v → MayGo at v
  going_in id o is None there = tt
  going_in id None is (Some v) there = absurd cc
  going_in id (Some stack) is (Some v) there = every_found (IsGoing at) _ stack.versions (all_going stack is) v there

  pub may_go : (id : VersionId) → MayGo at (version_at id (versions_of key bucket))
  may_go id = going_in id (at_name key bucket.stacks) refl _ refl

  pub replaced_goes : (versioning : Versioning) → MayGo at (replaced versioning (versions_of key bucket))
  replaced_goes Unversioned = may_go Null
  replaced_goes Enabled = tt
  replaced_goes Suspended = may_go Null

-- ---- changes of an account

next_low : (versioning : Versioning) (number : ℕ) → number_after versioning number ≤ number + 1
next_low Unversioned number = omega arith
next_low Enabled number = omega arith
next_low Suspended number = omega arith

pub adds_none : (account : Account) → Adds account account
adds_none account = record { next_version = omega arith; next_upload = omega arith; books = ends_grow account.books account.books (ends_none account.books) }

-- only the records change
pub adds_records : (account : Account) (bucket : BucketRecord) → bucket.next_version ≤ account.bucket.next_version + 1 → bucket.next_upload ≤ account.bucket.next_upload + 1
    → Adds account (record account { bucket = bucket })
adds_records account bucket version upload = record { next_version = version; next_upload = upload; books = ends_grow account.books account.books (ends_none account.books) }

module _ (last : ℕ) (account : Account) (h : IsOrderlyBucket last account.bucket) where
  module _ (key : List ℕ) (at : ℕ) (changed : ChangedBy account.bucket key at) where
    pub adds_version : (kind : Kind) → Adds account (add_version key kind at account)
    adds_version kind = record {
      next_version = next_low account.bucket.versioning account.bucket.next_version;
      next_upload = omega arith;
      books = begin_grow key (of_version (next_id account.bucket)) (lines_of_kind key kind) at account.books
          (without_option key (replaced account.bucket.versioning (versions_of key account.bucket)) at account.books)
          (option_ends key (replaced account.bucket.versioning (versions_of key account.bucket)) at account.books (replaced_goes last account.bucket h key at changed account.bucket.versioning));
    }

    pub adds_removal : (id : VersionId) → Adds account (remove_version key id at account)
    adds_removal id = record {
      next_version = omega arith;
      next_upload = omega arith;
      books = ends_grow account.books _ (option_ends key (version_at id (versions_of key account.bucket)) at account.books (may_go last account.bucket h key at changed id));
    }

    pub adds_move : (id : VersionId) (to : Class) → Adds account (move_version key id to at account)
    adds_move id to = record {
      next_version = omega arith;
      next_upload = omega arith;
      books = move_grow key (version_at id (versions_of key account.bucket)) to at account.books (may_go last account.bucket h key at changed id);
    }

pub adds_part : (number : ℕ) (upload : UploadRecord) (part size at : ℕ) (account : Account) → Adds account (add_part number upload part size at account)
adds_part number upload part size at account = record {
  next_version = omega arith;
  next_upload = omega arith;
  books = begin_grow upload.key (of_part number part) (part_line upload.class size) at account.books (with_end upload.key (of_part number part) at account.books)
      (ends_of account.books _ (end_only upload.key (of_part number part) at account.books));
}

pub adds_abort : (number : ℕ) (upload : UploadRecord) (at : ℕ) (account : Account) → Adds account (remove_upload number upload at account)
adds_abort number upload at account = record {
  next_version = omega arith;
  next_upload = omega arith;
  books = ends_grow account.books _ (ends_of account.books _ (parts_end upload.key number at upload.parts account.books));
}

-- ---- one change after another, of which the first only ends stays

stays_then : (before mid after : List Booked) → lines_in mid ≡ lines_in before → (lines_in after ≡ lines_in mid) ⊎ Begins mid after → (lines_in after ≡ lines_in before) ⊎ Begins before after
stays_then before mid after first (inl same) = inl (same ∙ first)
stays_then before mid after first (inr b) = inr (record { front = b.front; stay = b.stay; is = b.is; open_yet = b.open_yet; lines = b.lines ∙ first })

pub adds_then : (before mid after : Account) → mid.bucket.next_version ≡ before.bucket.next_version → mid.bucket.next_upload ≡ before.bucket.next_upload
    → EndsOnly before.books mid.books → Adds mid after → Adds before after
adds_then before mid after version upload e a = record {
  next_version = let n = a.next_version in omega (arith, n, version);
  next_upload = let n = a.next_upload in omega (arith, n, upload);
  books = record {
    stays = stays_then before.books.stays mid.books.stays after.books.stays e.lines a.books.stays;
    early = subst (λ (l : List Early). AddsEarly l after.books.early) e.early a.books.early;
    moves = let n = a.books.moves in let same = ap (λ (l : List Move). length l) e.moves in omega (arith, n, same);
  };
}
