-- A bucket after a version went.
use Rattle.std.proofs.Common.{◌≡◌, ◌⊎◌, inl, inr, ℕ, ◌+◌, ◌≤◌, List, [], ◌∷◌, length, refl, ap, sym, subst, Bool, true, false, cond, arith}
use Rattle.std.specs.Prelude.{Option, Some, None, Result, Ok, Err, OnOk, OnErr, IfOk, IfErr, IsSome, unwrap_or, option_map, sum_by}
use Rattle.std.specs.Map.{set_value, remove_entry}
use Rattle.office_base.specs.Maps.{at_name, with_name, without_name}
use Rattle.office_base.specs.declared.version_id.VersionId.{VersionId}
use Rattle.rules_core.specs.Matching.{is_empty}
use Rattle.stacks.specs.Stacks.{StackRecord, new_stack, version_at, without, ids_differ, after_removal}
use Rattle.stacks.specs.declared.version.Version.{Version}
use Rattle.accrual.specs.Books.{Book}
use Rattle.accrual.specs.Totals.{Totals, AreTotalsOf}
use Rattle.due_core.specs.Buckets.{BucketRecord}
use Rattle.plain_office.specs.Office.{Account, Books, book_of}
use Rattle.plain_office.specs.Books.{without_option}
use Rattle.plain_office.specs.Changes.{stacks_with, remove_version}
use Rattle.plain_office.specs.Counts.{tag_bytes_of, name_bytes}
use Rattle.office_types.specs.declared.refusal.Refusal.{Refusal}
use Rattle.office_types.specs.declared.refusal.Refusal.TheVariants.{NoMemory}
use Rattle.office_types.specs.declared.refusal.What.{What}
use Rattle.office_types.specs.declared.refusal.What.TheVariants.{Buckets, Versions, Uploads, Parts, Names, Rules, Tariffs}
use Rattle.office_laws.proofs.Buckets.{stack_orderly, weight_of, weight_with}
use Rattle.bucket_account.specs.declared.counts.Counts.{Counts}
use Rattle.bucket_account.specs.Booking.{leaving_of, MayHaveStay, stack_under, lost_bytes, counts_from, AreTakable, MayGo}
use Rattle.bucket_account.specs.Changing.{IsFullAfter}
use Rattle.bucket_account.specs.Counting.{AccountRecord, account_of, AreCountsOver, HaveMoved, first_over, IsFullOf}
use Rattle.bucket_account.specs.Effects.{IsReadyAt, DoesEffect}
use Rattle.bucket_account.specs.Standing.{StandsForAccount}
use Rattle.bucket_account.proofs.Replacing.{since_at, of_option, sum_without, one_each}
use Rattle.bucket_account.proofs.Under.{bytes_of, number_of, stay_under, ids_under, by_length, by_names, length_weight, names_some, names_left}

-- ---- an entry that was set and then taken away

pub removed_set : {K X : Type 0} (test : K → Bool) (es : List (K × X)) (w : X) → remove_entry test (set_value test es w) ≡ remove_entry test es
removed_set test [] w = refl
removed_set {K = K} {X = X} test (e ∷ es) w = by (test e.0) refl (removed_set test es w) where
  by : (b : Bool) → test e.0 ≡ b → remove_entry test (set_value test es w) ≡ remove_entry test es
      → remove_entry test (cond b ((e.0, w) ∷ es) (e ∷ set_value test es w)) ≡ cond b es (e ∷ remove_entry test es)
  by true is more = rw is refl
  by false is more = rw is (ap (λ (l : List (K × X)). e ∷ l) more)

module _ (key : List ℕ) (stack : StackRecord) (stacks : List (List ℕ × StackRecord)) where
  pub stack_kept : (emptied : Bool) → emptied ≡ false → emptied ≡ is_empty stack.versions → with_name key stack stacks ≡ stacks_with key stack stacks
  stack_kept true some is = absurd cc
  stack_kept false some is = rw (sym is) refl

  pub stack_gone : (emptied : Bool) → emptied ≡ true → emptied ≡ is_empty stack.versions → without_name key stacks ≡ stacks_with key stack stacks
  stack_gone true none is = rw (sym is) refl
  stack_gone false none is = absurd cc

-- ---- a version goes

module _ (b : BucketRecord) (books : Books) (key : List ℕ) (id : VersionId) (at : ℕ)
    (orderly : IsReadyAt key at (record { bucket = b; books = books }))
    (there : IsSome (version_at id (stack_under key b.stacks).versions)) where
  abbrev account : Account
  account = record { bucket = b; books = books }

  abbrev versions : List Version
  versions = (stack_under key b.stacks).versions

  abbrev gone : Option Version
  gone = version_at id versions

  ready_by : (o : Option StackRecord) → at_name key b.stacks ≡ o
      → IsSome (version_at id (unwrap_or o (new_stack 0)).versions) → (unwrap_or o (new_stack 0)).changed ≤ at
      → MayGo id at (unwrap_or o (new_stack 0))
  ready_by None is here later = absurd cc
  ready_by (Some stack) is here later = record {
    there = here;
    later = later;
    since = since_at stack.changed at stack.versions (stack_orderly b key orderly.last orderly.bucket stack is).ids_and_moments later id;
  }

  pub may_go : MayGo id at (stack_under key b.stacks)
  may_go = ready_by (at_name key b.stacks) refl there orderly.changed

  pub has_stay : MayHaveStay key gone books
  has_stay = stay_under b books key orderly.stays id

  -- ---- the counts

  differ : ids_differ versions ≡ true
  differ = ids_under b key orderly.last orderly.bucket

  abbrev below : List Version
  below = without id versions

  one_by : (o : Option Version) → IsSome o → of_option (λ v. 1) o ≡ 1
  one_by None some = absurd cc
  one_by (Some v) some = refl

  one_gone : of_option (λ v. 1) gone ≡ 1
  one_gone = one_by gone there

  tags_below : sum_by tag_bytes_of below + of_option tag_bytes_of gone ≡ sum_by tag_bytes_of versions
  tags_below = sum_without tag_bytes_of id versions differ

  count_below : length below + 1 ≡ length versions
  count_below =
      let sum = sum_without (λ (v : Version). 1) id versions differ in
      let a = one_each below in
      let c = one_each versions in
      let one = one_gone in
      omega (arith, sum, one, a, c)

  before_weight : weight_of b key by_names key versions ≡ length key + sum_by tag_bytes_of versions
  before_weight = let count = count_below in names_some b key versions (omega (arith, count))

  after_weight : weight_of b key by_names key below + lost_bytes key versions ≡ length key + sum_by tag_bytes_of below
  after_weight = names_left b key versions below count_below

  abbrev after : BucketRecord
  after = (remove_version key id at account).bucket

  lost_most : lost_bytes key versions + of_option tag_bytes_of gone ≤ name_bytes b
  lost_most =
      let sum = weight_with b key by_names orderly.last at orderly.bucket below in
      let before = before_weight in
      let left = after_weight in
      let tags = tags_below in
      omega (arith, sum, before, left, tags)

  module _ (counts : Counts) (over : AreCountsOver b counts) where
    counted_most : 1 ≤ counts.versions
    counted_most =
        let v = over Versions in
        let sum = weight_with b key by_length orderly.last at orderly.bucket below in
        let before = length_weight b key versions in
        let left = length_weight b key below in
        let count = count_below in
        omega (arith, v.0, sum, before, left, count)

    pub has_room : AreTakable counts (lost_bytes key versions) (option_map leaving_of gone)
    has_room =
        let n = over Names in
        let most = lost_most in
        let is = bytes_of gone in
        let number = number_of gone in
        let one = one_gone in
        let some = counted_most in
        record { versions = omega (arith, number, one, some); names = omega (arith, n.0, most, is) }

    abbrev moved : Counts
    moved = counts_from key id (stack_under key b.stacks) counts

    pub have_moved : HaveMoved b after counts moved
    have_moved Buckets = refl
    have_moved Versions =
        let sum = weight_with b key by_length orderly.last at orderly.bucket below in
        let before = length_weight b key versions in
        let left = length_weight b key below in
        let count = count_below in
        let number = number_of gone in
        let one = one_gone in
        let some = counted_most in
        omega (arith, sum, before, left, count, number, one, some)
    have_moved Uploads = refl
    have_moved Parts = refl
    have_moved Names =
        let sum = weight_with b key by_names orderly.last at orderly.bucket below in
        let before = before_weight in
        let left = after_weight in
        let tags = tags_below in
        let is = bytes_of gone in
        let most = lost_most in
        let n = over Names in
        omega (arith, sum, before, left, tags, is, most, n.0)
    have_moved Rules = refl
    have_moved Tariffs = refl

    -- ---- what the bucket stands for

    module _ (whats : List What) where
      abbrev Does : AccountRecord → Result Counts Refusal → Type 0
      Does after result = DoesEffect whats (remove_version key id at) account counts after result

      pub take_done : (stacks : List (List ℕ × StackRecord)) → stacks ≡ stacks_with key (after_removal id at (stack_under key b.stacks)) b.stacks
          → (meters : Totals) → AreTotalsOf meters (book_of (without_option key gone at books)) → (counted : Counts) → counted ≡ moved → first_over whats counted ≡ None
          → Does (account_of (record b { stacks = stacks }) meters) (Ok counted)
      take_done stacks written meters stands counted are free = (standing, follow, free) where
        standing : StandsForAccount (account_of (record b { stacks = stacks }) meters) (remove_version key id at account)
        standing = record { bucket = ap (λ (l : List (List ℕ × StackRecord)). record b { stacks = l }) written; meters = stands }

        follow : HaveMoved b after counts counted
        follow = subst (HaveMoved b after counts) (sym are) have_moved

      pub take_refused : (stacks : List (List ℕ × StackRecord)) → stacks ≡ b.stacks → (meters : Totals)
          → AreTotalsOf meters (book_of books) → (refusal : Refusal)
          → (refusal ≡ NoMemory) ⊎ IsFullOf whats moved refusal
          → Does (account_of (record b { stacks = stacks }) meters) (Err refusal)
      take_refused stacks same meters stands refusal why = (because why, record { bucket = ap (λ (l : List (List ℕ × StackRecord)). record b { stacks = l }) same; meters = stands }) where
        because : (refusal ≡ NoMemory) ⊎ IsFullOf whats moved refusal → (refusal ≡ NoMemory) ⊎ IsFullAfter whats b after counts refusal
        because (inl wanting) = inl wanting
        because (inr full) = inr (record { moved = moved; follow = have_moved; full = full })

-- ---- of any account that the bucket stands for

module _ (b : BucketRecord) (of : Account) (same : b ≡ of.bucket) (key : List ℕ) (id : VersionId) (at : ℕ)
    (there : IsSome (version_at id (stack_under key b.stacks).versions)) (orderly : IsReadyAt key at of) where
  here : IsReadyAt key at (record { bucket = b; books = of.books })
  here = subst (λ (x : BucketRecord). IsReadyAt key at (record { bucket = x; books = of.books })) (sym same) orderly

  pub go_for : MayGo id at (stack_under key b.stacks)
  go_for = may_go b of.books key id at here there

  pub stay_for : MayHaveStay key (version_at id (stack_under key b.stacks).versions) of.books
  stay_for = has_stay b of.books key id at here there

  module _ (counts : Counts) (over : AreCountsOver b counts) where
    pub room_for : AreTakable counts (lost_bytes key (stack_under key b.stacks).versions) (option_map leaving_of (version_at id (stack_under key b.stacks).versions))
    room_for = has_room b of.books key id at here there counts over

    module _ (whats : List What) where
      of_account : (after : AccountRecord) (result : Result Counts Refusal)
          → DoesEffect whats (remove_version key id at) (record { bucket = b; books = of.books }) counts after result → DoesEffect whats (remove_version key id at) of counts after result
      of_account after result h =
          subst (λ (x : BucketRecord). DoesEffect whats (remove_version key id at) (record { bucket = x; books = of.books }) counts after result) same h

      pub done_for : (stacks : List (List ℕ × StackRecord)) → stacks ≡ stacks_with key (after_removal id at (stack_under key b.stacks)) b.stacks
          → (meters : Totals)
          → AreTotalsOf meters
          (book_of (without_option key (version_at id (stack_under key b.stacks).versions) at of.books))
          → (counted : Counts) → counted ≡ counts_from key id (stack_under key b.stacks) counts
          → first_over whats counted ≡ None
          → DoesEffect whats (remove_version key id at) of counts (account_of (record b { stacks = stacks }) meters) (Ok counted)
      done_for stacks written meters stands counted are free =
          of_account (account_of (record b { stacks = stacks }) meters) (Ok counted)
          (take_done b of.books key id at here there counts over whats stacks written meters stands counted are free)

      pub refused_for : (stacks : List (List ℕ × StackRecord)) → stacks ≡ b.stacks → (meters : Totals)
          → AreTotalsOf meters (book_of of.books) → (refusal : Refusal)
          → (refusal ≡ NoMemory) ⊎ IsFullOf whats (counts_from key id (stack_under key b.stacks) counts) refusal
          → DoesEffect whats (remove_version key id at) of counts (account_of (record b { stacks = stacks }) meters) (Err refusal)
      refused_for stacks kept meters stands refusal why =
          of_account (account_of (record b { stacks = stacks }) meters) (Err refusal)
          (take_refused b of.books key id at here there counts over whats stacks kept meters stands refusal why)

      pub answer_for : (r : Result Counts Refusal) (stacks : List (List ℕ × StackRecord)) (old meters : Totals) → AreTotalsOf old (book_of of.books)
          → OnOk r (stacks ≡ stacks_with key (after_removal id at (stack_under key b.stacks)) b.stacks)
          → OnOk r ((books : Books) → AreTotalsOf old (book_of books) → MayHaveStay key (version_at id (stack_under key b.stacks).versions) books
          → AreTotalsOf meters (book_of (without_option key (version_at id (stack_under key b.stacks).versions) at books)))
          → IfOk r (λ after. (after ≡ counts_from key id (stack_under key b.stacks) counts) × (first_over whats after ≡ None))
          → IfErr r (λ refusal. (refusal ≡ NoMemory) ⊎ IsFullOf whats (counts_from key id (stack_under key b.stacks) counts) refusal)
          → OnErr r (stacks ≡ b.stacks) → OnErr r ((book : Book) → AreTotalsOf old book → AreTotalsOf meters book)
          → DoesEffect whats (remove_version key id at) of counts (account_of (record b { stacks = stacks }) meters) r
      answer_for (Ok counted) stacks old meters stands written moves are refused kept same = done_for stacks written meters (moves of.books stands stay_for) counted are.0 are.1
      answer_for (Err refusal) stacks old meters stands written moves are refused kept same = refused_for stacks kept meters (same (book_of of.books) stands) refusal refused
