-- A bucket after a version came.
use Rattle.std.proofs.Common.{◌≡◌, ◌⊎◌, inl, inr, ℕ, ◌+◌, ◌≤◌, List, [], ◌∷◌, length, refl, ap, sym, ◌∙◌, subst, true, arith}
use Rattle.std.specs.Prelude.{Option, Some, None, Result, Ok, Err, unwrap_or, option_map, sum_by}
use Rattle.std.specs.List.{AllByRecursion}
use Rattle.std.proofs.lemmas.List.Sums.{sum_by-cons}
use Rattle.office_base.specs.Maps.{at_name, with_name}
use Rattle.office_base.specs.declared.version_id.VersionId.TheVariants.{Null}
use Rattle.stacks.specs.Stacks.{StackRecord, new_stack, version_at, without, covered, ids_differ, replaced}
use Rattle.stacks.specs.declared.version.Versioning.{Versioning}
use Rattle.stacks.specs.declared.version.Versioning.TheVariants.{Unversioned, Enabled, Suspended}
use Rattle.stacks.specs.declared.version.Kind.{Kind}
use Rattle.stacks.specs.declared.version.Version.{Version}
use Rattle.accrual.specs.Totals.{Totals, AreTotalsOf}
use Rattle.due_core.specs.Buckets.{BucketRecord}
use Rattle.plain_office.specs.Office.{Account, Books, book_of}
use Rattle.plain_office.specs.Changes.{add_version, next_id, number_after}
use Rattle.plain_office.specs.Counts.{tag_bytes_of, name_bytes}
use Rattle.plain_office.specs.Orderly.{IsNumberBelow}
use Rattle.office_types.specs.declared.refusal.Refusal.{Refusal}
use Rattle.office_types.specs.declared.refusal.Refusal.TheVariants.{NoMemory}
use Rattle.office_types.specs.declared.refusal.What.{What}
use Rattle.office_types.specs.declared.refusal.What.TheVariants.{Buckets, Versions, Uploads, Parts, Names, Rules, Tariffs}
use Rattle.office_laws.proofs.Buckets.{not_empty, stack_orderly, weight_of, weight_with}
use Rattle.office_laws.proofs.Versions.{replaced_is}
use Rattle.bucket_account.specs.declared.counts.Counts.{Counts}
use Rattle.bucket_account.specs.declared.incoming.Incoming.{Incoming}
use Rattle.bucket_account.specs.Booking.{MayCome, leaving_of, MayHaveStay, version_of, stack_put, books_put, gone_bytes, stack_under, gone_of, new_bytes, counts_after, MayBePut, AreMovable}
use Rattle.bucket_account.specs.Changing.{IsFullAfter}
use Rattle.bucket_account.specs.Effects.{IsReadyAt, DoesEffect}
use Rattle.bucket_account.specs.Counting.{AccountRecord, account_of, AreCountsOver, HaveMoved, first_over, IsFullOf}
use Rattle.bucket_account.specs.Standing.{StandsForAccount}
use Rattle.bucket_account.proofs.Replacing.{is_free, since_by, of_option, sum_below, one_each}
use Rattle.bucket_account.proofs.Under.{bytes_of, number_of, gone_most, same_tags, stay_under, ids_under, by_length, by_names, length_weight, names_by, new_most}

-- ---- a version comes

module _ (b : BucketRecord) (books : Books) (key : List ℕ) (kind : Kind) (at : ℕ) (orderly : IsReadyAt key at (record { bucket = b; books = books })) (comes : MayCome b.versioning at kind) where
  abbrev pub incoming : Incoming
  incoming = record { versioning = b.versioning; number = b.next_version; kind = kind; at = at }

  abbrev pub account : Account
  account = record { bucket = b; books = books }

  abbrev versions : List Version
  versions = (stack_under key b.stacks).versions

  abbrev gone : Option Version
  gone = gone_of key incoming b.stacks

  numbers_by : (o : Option StackRecord) → at_name key b.stacks ≡ o → AllByRecursion (λ version. IsNumberBelow b.next_version version.id) (unwrap_or o (new_stack 0)).versions
  numbers_by None is = tt
  numbers_by (Some stack) is = (stack_orderly b key orderly.last orderly.bucket stack is).numbers

  numbers : AllByRecursion (λ version. IsNumberBelow b.next_version version.id) versions
  numbers = numbers_by (at_name key b.stacks) refl

  ready_by : (o : Option StackRecord) → at_name key b.stacks ≡ o → (unwrap_or o (new_stack 0)).changed ≤ at → MayBePut incoming (unwrap_or o (new_stack 0))
  ready_by None is later = record {
    comes = comes;
    later = omega arith;
    free = is_free b.versioning b.next_version [] orderly.bucket.next_version tt;
    since = since_by 0 at [] refl (omega arith) b.versioning;
  }
  ready_by (Some stack) is later =
      let s = stack_orderly b key orderly.last orderly.bucket stack is in
      record {
        comes = comes;
        later = later;
        free = is_free b.versioning b.next_version stack.versions orderly.bucket.next_version s.numbers;
        since = since_by stack.changed at stack.versions s.ids_and_moments later b.versioning;
      }

  pub is_ready : MayBePut incoming (stack_under key b.stacks)
  is_ready = ready_by (at_name key b.stacks) refl orderly.changed

  stay_by : (versioning : Versioning) → MayHaveStay key (replaced versioning versions) books
  stay_by Unversioned = stay_under b books key orderly.stays Null
  stay_by Enabled = tt
  stay_by Suspended = stay_under b books key orderly.stays Null

  pub has_stay : MayHaveStay key gone books
  has_stay = stay_by b.versioning

  -- ---- the counts

  differ : ids_differ versions ≡ true
  differ = ids_under b key orderly.last orderly.bucket

  abbrev below : List Version
  below = without (next_id b) (covered at versions)

  gone_is : (f : Version → ℕ) → of_option f (version_at (next_id b) versions) ≡ of_option f gone
  gone_is f = ap (λ (o : Option Version). of_option f o) (replaced_is b.versioning b.next_version versions numbers)

  tags_below : sum_by tag_bytes_of below + of_option tag_bytes_of gone ≡ sum_by tag_bytes_of versions
  tags_below =
      let sum = sum_below tag_bytes_of at (same_tags at) (next_id b) versions differ in
      let is = gone_is tag_bytes_of in
      omega (arith, sum, is)

  count_below : length below + of_option (λ v. 1) gone ≡ length versions
  count_below =
      let sum = sum_below (λ (v : Version). 1) at (λ v. refl) (next_id b) versions differ in
      let is = gone_is (λ (v : Version). 1) in
      let a = one_each below in
      let c = one_each versions in
      omega (arith, sum, is, a, c)

  abbrev new : Version
  new = version_of incoming

  abbrev after : BucketRecord
  after = (add_version key kind at account).bucket

  names_weight : weight_of b key by_names key versions + new_bytes key b.stacks ≡ length key + sum_by tag_bytes_of versions
  names_weight = names_by b key orderly.last orderly.bucket (at_name key b.stacks) refl

  tags_most : of_option tag_bytes_of gone ≤ name_bytes b
  tags_most =
      let sum = weight_with b key by_names orderly.last at orderly.bucket [] in
      let weight = names_weight in
      let below = tags_below in
      let most = new_most b key in
      omega (arith, sum, weight, below, most)

  module _ (counts : Counts) (over : AreCountsOver b counts) where
    pub has_room : AreMovable counts (gone_bytes (option_map leaving_of gone))
    has_room =
        let v = over Versions in
        let n = over Names in
        let most = tags_most in
        let is = bytes_of gone in
        record { versions = omega (arith, v.1); names = omega (arith, n.1); gone = omega (arith, n.0, most, is) }

    abbrev moved : Counts
    moved = counts_after key incoming b.stacks counts

    pub have_moved : HaveMoved b after counts moved
    have_moved Buckets = refl
    have_moved Versions =
        let sum = weight_with b key by_length orderly.last at orderly.bucket (new ∷ below) in
        let before = length_weight b key versions in
        let count = count_below in
        let number = number_of gone in
        let most = gone_most gone in
        omega (arith, sum, before, count, number, most)
    have_moved Uploads = refl
    have_moved Parts = refl
    have_moved Names =
        let sum = weight_with b key by_names orderly.last at orderly.bucket (new ∷ below) in
        let before = names_weight in
        let left = tags_below in
        let is = bytes_of gone in
        let most = tags_most in
        let n = over Names in
        let cons = sum_by-cons tag_bytes_of new below in
        omega (arith, sum, before, left, is, most, n.0, cons)
    have_moved Rules = refl
    have_moved Tariffs = refl

    -- ---- what the bucket stands for

    module _ (whats : List What) where
      abbrev Does : AccountRecord → Result Counts Refusal → Type 0
      Does after result = DoesEffect whats (add_version key kind at) account counts after result

      pub put_done : (stacks : List (List ℕ × StackRecord))
          → stacks ≡ with_name key (stack_put incoming (stack_under key b.stacks)) b.stacks → (number : ℕ)
          → number ≡ number_after b.versioning b.next_version
          → (meters : Totals) → AreTotalsOf meters (book_of (books_put key incoming gone books)) → (counted : Counts) → counted ≡ moved → first_over whats counted ≡ None
          → Does (account_of (record b { stacks = stacks; next_version = number }) meters) (Ok counted)
      put_done stacks written number next meters stands counted are free = (standing, follow, free) where
        standing : StandsForAccount (account_of (record b { stacks = stacks; next_version = number }) meters) (add_version key kind at account)
        standing = record {
          bucket = (λ i. record b { stacks = written i; next_version = next i }) ∙ rw (not_empty new below) refl;
          meters = stands;
        }

        follow : HaveMoved b after counts counted
        follow = subst (HaveMoved b after counts) (sym are) have_moved

      pub put_refused : (stacks : List (List ℕ × StackRecord)) → stacks ≡ b.stacks → (meters : Totals)
          → AreTotalsOf meters (book_of books) → (refusal : Refusal)
          → (refusal ≡ NoMemory) ⊎ IsFullOf whats moved refusal
          → Does (account_of (record b { stacks = stacks }) meters) (Err refusal)
      put_refused stacks same meters stands refusal why = (because why, record { bucket = ap (λ (l : List (List ℕ × StackRecord)). record b { stacks = l }) same; meters = stands }) where
        because : (refusal ≡ NoMemory) ⊎ IsFullOf whats moved refusal → (refusal ≡ NoMemory) ⊎ IsFullAfter whats b after counts refusal
        because (inl wanting) = inl wanting
        because (inr full) = inr (record { moved = moved; follow = have_moved; full = full })

-- ---- of any account that the bucket stands for

module _ (b : BucketRecord) (of : Account) (same : b ≡ of.bucket) (key : List ℕ) (kind : Kind) (at : ℕ) (comes : MayCome b.versioning at kind) (orderly : IsReadyAt key at of) where
  here : IsReadyAt key at (record { bucket = b; books = of.books })
  here = subst (λ (x : BucketRecord). IsReadyAt key at (record { bucket = x; books = of.books })) (sym same) orderly

  abbrev put : Incoming
  put = record { versioning = b.versioning; number = b.next_version; kind = kind; at = at }

  pub ready_for : MayBePut put (stack_under key b.stacks)
  ready_for = is_ready b of.books key kind at here comes

  pub stay_for : MayHaveStay key (gone_of key put b.stacks) of.books
  stay_for = has_stay b of.books key kind at here comes

  module _ (counts : Counts) (over : AreCountsOver b counts) where
    pub room_for : AreMovable counts (gone_bytes (option_map leaving_of (gone_of key put b.stacks)))
    room_for = has_room b of.books key kind at here comes counts over

    module _ (whats : List What) where
      of_account : (after : AccountRecord) (result : Result Counts Refusal)
          → DoesEffect whats (add_version key kind at) (record { bucket = b; books = of.books }) counts after result → DoesEffect whats (add_version key kind at) of counts after result
      of_account after result h =
          subst (λ (x : BucketRecord). DoesEffect whats (add_version key kind at) (record { bucket = x; books = of.books }) counts after result) same h

      pub done_for : (stacks : List (List ℕ × StackRecord)) → stacks ≡ with_name key (stack_put put (stack_under key b.stacks)) b.stacks → (next : ℕ) → next ≡ number_after b.versioning b.next_version
          → (meters : Totals) → AreTotalsOf meters (book_of (books_put key put (gone_of key put b.stacks) of.books))
          → (counted : Counts) → counted ≡ counts_after key put b.stacks counts → first_over whats counted ≡ None
          → DoesEffect whats (add_version key kind at) of counts (account_of (record b { stacks = stacks; next_version = next }) meters) (Ok counted)
      done_for stacks written next is meters stands counted are free =
          of_account (account_of (record b { stacks = stacks; next_version = next }) meters) (Ok counted)
          (put_done b of.books key kind at here comes counts over whats stacks written next is meters stands counted are free)

      pub refused_for : (stacks : List (List ℕ × StackRecord)) → stacks ≡ b.stacks → (meters : Totals)
          → AreTotalsOf meters (book_of of.books) → (refusal : Refusal)
          → (refusal ≡ NoMemory) ⊎ IsFullOf whats (counts_after key put b.stacks counts) refusal
          → DoesEffect whats (add_version key kind at) of counts (account_of (record b { stacks = stacks }) meters) (Err refusal)
      refused_for stacks kept meters stands refusal why =
          of_account (account_of (record b { stacks = stacks }) meters) (Err refusal)
          (put_refused b of.books key kind at here comes counts over whats stacks kept meters stands refusal why)
