-- A bucket after an upload was completed: the object comes before its parts' stays end, which is the same as after.
use Rattle.std.proofs.Common.{◌≡◌, ◌⊎◌, inl, inr, ℕ, ◌≤◌, List, [], ◌∷◌, refl, ap, sym, ◌∙◌, subst, false, arith}
use Rattle.std.specs.Prelude.{Some, None, Ok, Err, option_map}
use Rattle.accrual.specs.Totals.{Totals, AreTotalsOf}
use Rattle.office_base.specs.Maps.{at_number, without_number, with_name}
use Rattle.office_base.specs.declared.version_id.VersionId.{VersionId}
use Rattle.rules_core.specs.Matching.{is_empty}
use Rattle.stacks.specs.Stacks.{StackRecord, new_id}
use Rattle.stacks.specs.declared.version.Kind.{Kind}
use Rattle.stacks.specs.declared.version.Kind.TheVariants.{Object}
use Rattle.uploads.specs.Uploads.{UploadRecord, total_size}
use Rattle.due_core.specs.Buckets.{BucketRecord}
use Rattle.plain_office.specs.Office.{Account, Books, book_of}
use Rattle.plain_office.specs.Changes.{remove_upload, add_version, next_id, number_after}
use Rattle.plain_office.specs.Step.{Change, complete}
use Rattle.office_types.specs.declared.reply.Reply.TheVariants.{Stored}
use Rattle.office_types.specs.declared.refusal.Refusal.{Refusal}
use Rattle.office_types.specs.declared.refusal.Refusal.TheVariants.{NoMemory}
use Rattle.office_types.specs.declared.refusal.What.{What}
use Rattle.office_types.specs.declared.refusal.What.TheVariants.{Versions, Names}
use Rattle.office_laws.proofs.Uploads.{bucket_without, stays_aborted}
use Rattle.bucket_account.specs.declared.counts.Counts.{Counts}
use Rattle.bucket_account.specs.declared.incoming.Incoming.{Incoming}
use Rattle.bucket_account.specs.Booking.{leaving_of, stack_under, stack_put, gone_of, books_put, counts_after, gone_bytes, MayHaveStay, MayBePut, AreMovable}
use Rattle.bucket_account.specs.Changing.{IsOrderlyAccount, DoesTold}
use Rattle.bucket_account.specs.Counting.{AccountRecord, account_of, AreCountsOver, HaveMoved, first_over, IsFullOf}
use Rattle.bucket_account.specs.Effects.{IsReadyAt}
use Rattle.bucket_account.specs.Standing.{StandsForAccount}
use Rattle.bucket_account.specs.Uploading.{parts_ended, counts_without, whole_of}
use Rattle.bucket_account.proofs.Doing.{ready_at}
use Rattle.bucket_account.proofs.Gone.{moved_without, over_without}
use Rattle.bucket_account.proofs.PartPut.{wanting}
use Rattle.bucket_account.proofs.Putting.{have_moved, ready_for, stay_for, room_for, done_for}
use Rattle.bucket_account.proofs.WholePut.{all_swap}

abbrev pub whats : List What
whats = Versions ∷ Names ∷ []

-- counts that moved twice
moved_on : (a b c : BucketRecord) (before between after : Counts) → HaveMoved a b before between → HaveMoved b c between after → HaveMoved a c before after
moved_on a b c before between after h k = λ what. let x = h what in let y = k what in omega (arith, x, y)

module _ (account : Account) (number t : ℕ) (upload : UploadRecord) (there : at_number number account.bucket.uploads ≡ Some upload) (orderly : IsOrderlyAccount t account) where
  abbrev kind : Kind
  kind = Object (total_size upload.parts) upload.class upload.tags t

  abbrev object : Incoming
  object = whole_of upload account.bucket.versioning account.bucket.next_version t

  abbrev left : Account
  left = remove_upload number upload t account

  left_orderly : IsOrderlyAccount t left
  left_orderly = record {
    bucket = bucket_without t account.bucket orderly.bucket number;
    stays = stays_aborted number upload t account there orderly.bucket.numbers orderly.stays;
  }

  left_ready : IsReadyAt upload.key t left
  left_ready = ready_at upload.key t left left_orderly

  whole_ready : MayBePut object (stack_under upload.key account.bucket.stacks)
  whole_ready = ready_for account.bucket account refl upload.key kind t refl (ready_at upload.key t account orderly)

  whole_stay : MayHaveStay upload.key (gone_of upload.key object account.bucket.stacks) account.books
  whole_stay = stay_for account.bucket account refl upload.key kind t refl (ready_at upload.key t account orderly)

  complete_is : is_empty upload.parts ≡ false → complete t number account ≡ Ok (add_version upload.key kind t left, Stored t (next_id account.bucket))
  complete_is some = rw (there, some) refl

  module _ (counts : Counts) (over : AreCountsOver account.bucket counts) where
    over_left : AreCountsOver left.bucket (counts_without upload counts)
    over_left = over_without account t number upload orderly.bucket there counts over

    whole_room : AreMovable (counts_without upload counts) (gone_bytes (option_map leaving_of (gone_of upload.key object account.bucket.stacks)))
    whole_room = room_for left.bucket left refl upload.key kind t refl left_ready (counts_without upload counts) over_left

    abbrev counted : Counts
    counted = counts_after upload.key object account.bucket.stacks (counts_without upload counts)

    whole_moved : HaveMoved account.bucket (add_version upload.key kind t left).bucket counts counted
    whole_moved =
        moved_on account.bucket left.bucket (add_version upload.key kind t left).bucket counts (counts_without upload counts) counted
        (moved_without account t number upload orderly.bucket there counts over)
        (have_moved left.bucket left.books upload.key kind t left_ready refl (counts_without upload counts) over_left)

    -- what is done, of a bucket and an object
    abbrev pub Completes : BucketRecord → Incoming → Type 0
    Completes b object = (stacks : List (List ℕ × StackRecord)) → stacks ≡ with_name upload.key (stack_put object (stack_under upload.key b.stacks)) b.stacks
        → (uploads : List (ℕ × UploadRecord)) → uploads ≡ without_number number b.uploads → (next : ℕ) → next ≡ number_after b.versioning b.next_version
        → (meters : Totals) → AreTotalsOf meters (book_of (parts_ended upload.key number object.at upload.parts (books_put upload.key object (gone_of upload.key object b.stacks) account.books)))
        → (less : Counts) → less ≡ counts_without upload counts → (after : Counts) → after ≡ counts_after upload.key object b.stacks less → first_over whats after ≡ None
        → (version : VersionId) → version ≡ new_id b.versioning b.next_version
        → DoesTold whats (complete t number account) account counts
        (account_of (record b { stacks = stacks; uploads = uploads; next_version = next }) meters)
        (Ok (record { counts = after; reply = Stored t version }))

    completes : is_empty upload.parts ≡ false → Completes account.bucket object
    completes some stacks written uploads went next is meters stands less without after are free version named =
        let ended = subst (λ (b : Books). AreTotalsOf meters (book_of b)) (all_swap upload.key number t object refl
        (gone_of upload.key object account.bucket.stacks) upload.parts account.books) stands in
        let same = are ∙ ap (λ (l : Counts). counts_after upload.key object account.bucket.stacks l) without in
        let put = done_for left.bucket left refl upload.key kind t refl left_ready (counts_without upload counts) over_left whats stacks written next is meters ended after same free in
        subst (λ (told : Change). DoesTold whats told account counts
        (account_of (record account.bucket { stacks = stacks; uploads = uploads; next_version = next }) meters)
        (Ok (record { counts = after; reply = Stored t version })))
        (sym (complete_is some)) (
          ap (λ (id : VersionId). Stored t id) named,
          record {
            bucket = ap (λ (l : List (ℕ × UploadRecord)). record account.bucket { stacks = stacks; uploads = l; next_version = next }) went ∙ put.0.bucket;
            meters = ended;
          },
          subst (λ (c : Counts). HaveMoved account.bucket (add_version upload.key kind t left).bucket counts c) (sym same) whole_moved,
          free,
        )

    -- and what is refused
    abbrev pub Refuses : BucketRecord → Incoming → Type 0
    Refuses b object = (after : AccountRecord) → StandsForAccount after account → (less : Counts) → less ≡ counts_without upload counts → (refusal : Refusal)
        → (refusal ≡ NoMemory) ⊎ IsFullOf whats (counts_after upload.key object b.stacks less) refusal → DoesTold whats (complete t number account) account counts after (Err refusal)

    refuses : is_empty upload.parts ≡ false → Refuses account.bucket object
    refuses some after stands less without refusal (inl is) =
        subst (λ (r : Refusal). DoesTold whats (complete t number account) account counts after (Err r)) (sym is) (wanting whats (complete t number account) account counts after stands)
    refuses some after stands less without refusal (inr full) =
        subst (λ (told : Change). DoesTold whats told account counts after (Err refusal)) (sym (complete_is some))
        (inr (record { moved = counted; follow = whole_moved; full = subst (λ (l : Counts). IsFullOf whats (counts_after upload.key object account.bucket.stacks l) refusal) without full }), stands)

-- ---- of any account that the bucket stands for, and any object that is the upload's

module _ (b : BucketRecord) (account : Account) (same : b ≡ account.bucket) (number t : ℕ) (upload : UploadRecord)
    (found : at_number number b.uploads ≡ Some upload) (orderly : IsOrderlyAccount t account) where
  abbrev there_for : at_number number account.bucket.uploads ≡ Some upload
  there_for = subst (λ (x : BucketRecord). at_number number x.uploads ≡ Some upload) same found

  module _ (object : Incoming) (is : object ≡ whole_of upload b.versioning b.next_version t) where
    whole_is : object ≡ whole_of upload account.bucket.versioning account.bucket.next_version t
    whole_is = is ∙ ap (λ (x : BucketRecord). whole_of upload x.versioning x.next_version t) same

    pub object_ready : MayBePut object (stack_under upload.key b.stacks)
    object_ready =
        subst (λ (o : Incoming). MayBePut o (stack_under upload.key b.stacks)) (sym whole_is)
        (subst (λ (x : BucketRecord). MayBePut (whole_of upload account.bucket.versioning account.bucket.next_version t) (stack_under upload.key x.stacks)) (sym same)
        (whole_ready account number t upload there_for orderly))

    pub object_stay : MayHaveStay upload.key (gone_of upload.key object b.stacks) account.books
    object_stay =
        subst (λ (o : Incoming). MayHaveStay upload.key (gone_of upload.key o b.stacks) account.books) (sym whole_is)
        (subst (λ (x : BucketRecord). MayHaveStay upload.key (gone_of upload.key (whole_of upload account.bucket.versioning account.bucket.next_version t) x.stacks) account.books) (sym same)
        (whole_stay account number t upload there_for orderly))

    pub object_later : upload.changed ≤ t → upload.changed ≤ object.at
    object_later le = subst (λ (o : Incoming). upload.changed ≤ o.at) (sym is) le

    module _ (counts : Counts) (over : AreCountsOver b counts) where
      abbrev over_it : AreCountsOver account.bucket counts
      over_it = subst (λ (x : BucketRecord). AreCountsOver x counts) same over

      pub object_room : (less : Counts) → less ≡ counts_without upload counts → AreMovable less (gone_bytes (option_map leaving_of (gone_of upload.key object b.stacks)))
      object_room less without =
          subst (λ (l : Counts). AreMovable l (gone_bytes (option_map leaving_of (gone_of upload.key object b.stacks)))) (sym without)
          (subst (λ (o : Incoming). AreMovable (counts_without upload counts) (gone_bytes (option_map leaving_of (gone_of upload.key o b.stacks)))) (sym whole_is)
          (subst (λ (x : BucketRecord). AreMovable (counts_without upload counts) (gone_bytes
          (option_map leaving_of (gone_of upload.key
          (whole_of upload account.bucket.versioning account.bucket.next_version t) x.stacks)))) (sym same)
          (whole_room account number t upload there_for orderly counts over_it)))

      pub completes_for : is_empty upload.parts ≡ false → Completes account number t upload there_for orderly counts over_it b object
      completes_for some =
          subst (λ (o : Incoming). Completes account number t upload there_for orderly counts over_it b o) (sym whole_is)
          (subst (λ (x : BucketRecord). Completes account number t upload there_for orderly counts over_it x (whole_of upload account.bucket.versioning account.bucket.next_version t)) (sym same)
          (completes account number t upload there_for orderly counts over_it some))

      pub refuses_for : is_empty upload.parts ≡ false → Refuses account number t upload there_for orderly counts over_it b object
      refuses_for some =
          subst (λ (o : Incoming). Refuses account number t upload there_for orderly counts over_it b o) (sym whole_is)
          (subst (λ (x : BucketRecord). Refuses account number t upload there_for orderly counts over_it x (whole_of upload account.bucket.versioning account.bucket.next_version t)) (sym same)
          (refuses account number t upload there_for orderly counts over_it some))
