-- A bucket after an upload started, and a command that takes one off.
use Rattle.std.proofs.Common.{◌≡◌, inr, ℕ, ◌+◌, ◌≤◌, List, [], ◌∷◌, length, refl, ap, sym, ◌∙◌, subst, arith}
use Rattle.std.specs.Prelude.{Option, Some, None, Result, Ok, Err, IfSome, OnOk, is_some, is_err, true, false, sum_by}
use Rattle.accrual.specs.Totals.{Totals, AreTotalsOf}
use Rattle.office_base.specs.Maps.{at_number, with_number}
use Rattle.office_base.specs.Tags.{Tag}
use Rattle.class_rules.specs.declared.class.Class.{Class}
use Rattle.uploads.specs.Uploads.{UploadRecord, new_upload}
use Rattle.due_core.specs.Buckets.{BucketRecord}
use Rattle.plain_office.specs.Office.{Account, book_of}
use Rattle.plain_office.specs.Changes.{remove_upload_at}
use Rattle.plain_office.specs.Counts.{tag_bytes}
use Rattle.plain_office.specs.Step.{Change, start_upload, abort}
use Rattle.office_types.specs.declared.reply.Reply.TheVariants.{UploadStarted, Aborted}
use Rattle.office_types.specs.declared.refusal.Refusal.{Refusal}
use Rattle.office_types.specs.declared.refusal.What.TheVariants.{Buckets, Versions, Uploads, Parts, Names, Rules, Tariffs}
use Rattle.office_laws.proofs.Lists.{added_length, added_sum}
use Rattle.office_laws.proofs.Maps.{by_number, added}
use Rattle.office_laws.proofs.Uploads.{upload_orderly, fresh_number}
use Rattle.bucket_account.specs.declared.change.Done.{Done}
use Rattle.bucket_account.specs.declared.counts.Counts.{Counts}
use Rattle.bucket_account.specs.Changing.{IsOrderlyAccount, DoesTold}
use Rattle.bucket_account.specs.Counting.{AccountRecord, account_of, AreCountsOver, HaveMoved, first_over, IsFullOf}
use Rattle.bucket_account.specs.Effects.{IsUploadReadyAt, DoesEffect}
use Rattle.bucket_account.specs.Uploading.{counts_started}

pub ok_of : {T E : Type 0} (result : Result T E) (P : Type 0) → is_err result ≡ false → OnOk result P → P
ok_of (Ok x) P is h = h
ok_of (Err e) P is h = absurd cc

-- ---- one that starts

module _ (account : Account) (t : ℕ) (key : List ℕ) (class : Class) (tags : List Tag) (orderly : IsOrderlyAccount t account) (counts : Counts) (over : AreCountsOver account.bucket counts) where
  abbrev upload : UploadRecord
  upload = new_upload key class tags t

  abbrev number : ℕ
  number = account.bucket.next_upload

  abbrev uploads_then : List (ℕ × UploadRecord)
  uploads_then = with_number account.bucket.next_upload (new_upload key class tags t) account.bucket.uploads

  abbrev after : BucketRecord
  after = record account.bucket { uploads = uploads_then; next_upload = account.bucket.next_upload + 1 }

  more : (f : ℕ × UploadRecord → ℕ) → sum_by f uploads_then ≡ sum_by f account.bucket.uploads + f (number, upload)
  more f =
      added_sum (number, upload) account.bucket.uploads uploads_then (added by_number number upload account.bucket.uploads (fresh_number t account.bucket orderly.bucket)) f

  pub moved_started : HaveMoved account.bucket after counts (counts_started key tags counts)
  moved_started Buckets = refl
  moved_started Versions = refl
  moved_started Uploads =
      let one = added_length (number, upload) account.bucket.uploads uploads_then (added by_number number upload account.bucket.uploads (fresh_number t account.bucket orderly.bucket)) in
      omega (arith, one)
  moved_started Parts = let sum = more (λ (upload : ℕ × UploadRecord). length upload.1.parts) in omega (arith, sum)
  moved_started Names = let sum = more (λ (upload : ℕ × UploadRecord). length upload.1.key + tag_bytes upload.1.tags) in omega (arith, sum)
  moved_started Rules = refl
  moved_started Tariffs = refl

  abbrev Told : AccountRecord → Result Done Refusal → Type 0
  Told after result = DoesTold (Uploads ∷ Names ∷ []) (start_upload t key class tags account) account counts after result

  start_done : (uploads : List (ℕ × UploadRecord)) → uploads ≡ uploads_then → (meters : Totals) → AreTotalsOf meters (book_of account.books) → (moved : Counts) → moved ≡ counts_started key tags counts
      → first_over (Uploads ∷ Names ∷ []) moved ≡ None
      → Told (account_of (record account.bucket { uploads = uploads; next_upload = account.bucket.next_upload + 1 })
      meters) (Ok (record { counts = moved; reply = UploadStarted account.bucket.next_upload }))
  start_done uploads is meters stands moved are free = (
    refl,
    record { bucket = ap (λ (l : List (ℕ × UploadRecord)). record account.bucket { uploads = l; next_upload = account.bucket.next_upload + 1 }) is; meters = stands },
    subst (HaveMoved account.bucket after counts) (sym are) moved_started,
    free,
  )

  start_refused : (meters : Totals) → AreTotalsOf meters (book_of account.books) → (refusal : Refusal) → IsFullOf (Uploads ∷ Names ∷ []) (counts_started key tags counts) refusal
      → Told (account_of account.bucket meters) (Err refusal)
  start_refused meters stands refusal full = (inr (record { moved = counts_started key tags counts; follow = moved_started; full = full }), record { bucket = refl; meters = stands })

-- ---- of any account that the bucket stands for

module _ (b : BucketRecord) (account : Account) (same : b ≡ account.bucket) (t : ℕ) (key : List ℕ) (class : Class)
    (tags : List Tag) (orderly : IsOrderlyAccount t account) (counts : Counts) (over : AreCountsOver b counts) where
  abbrev over_it : AreCountsOver account.bucket counts
  over_it = subst (λ (x : BucketRecord). AreCountsOver x counts) same over

  pub start_done_for : (uploads : List (ℕ × UploadRecord)) (new : UploadRecord) → uploads ≡ with_number b.next_upload new b.uploads → new ≡ new_upload key class tags t
      → (meters : Totals) → AreTotalsOf meters (book_of account.books) → (moved : Counts) → moved ≡ counts_started key tags counts → first_over (Uploads ∷ Names ∷ []) moved ≡ None
      → DoesTold (Uploads ∷ Names ∷ []) (start_upload t key class tags account) account counts
      (account_of (record b { uploads = uploads; next_upload = b.next_upload + 1 }) meters) (Ok (record { counts = moved; reply = UploadStarted b.next_upload }))
  start_done_for uploads new is started meters stands moved are free =
      subst (λ (x : BucketRecord). DoesTold (Uploads ∷ Names ∷ []) (start_upload t key class tags account) account counts
      (account_of (record x { uploads = uploads; next_upload = x.next_upload + 1 }) meters) (Ok (record { counts = moved; reply = UploadStarted x.next_upload }))) (sym same)
      (start_done account t key class tags orderly counts over_it uploads
      (is ∙ ap (λ (u : UploadRecord). with_number b.next_upload u b.uploads) started ∙ ap (λ (x : BucketRecord). with_number x.next_upload (new_upload key class tags t) x.uploads) same)
      meters stands moved are free)

  pub start_refused_for : (meters : Totals) → AreTotalsOf meters (book_of account.books) → (refusal : Refusal) → IsFullOf (Uploads ∷ Names ∷ []) (counts_started key tags counts) refusal
      → DoesTold (Uploads ∷ Names ∷ []) (start_upload t key class tags account) account counts (account_of b meters) (Err refusal)
  start_refused_for meters stands refusal full =
      subst (λ (x : BucketRecord). DoesTold (Uploads ∷ Names ∷ []) (start_upload t key class tags account) account counts (account_of x meters) (Err refusal)) (sym same)
      (start_refused account t key class tags orderly counts over_it meters stands refusal full)

-- ---- one that a command names

-- its records have changed by the moment
pub upload_ready_at : (number t : ℕ) (account : Account) → IsOrderlyAccount t account → IsUploadReadyAt number t account
upload_ready_at number t account orderly = record { last = t; bucket = orderly.bucket; stays = orderly.stays; changed = by (at_number number account.bucket.uploads) refl } where
  by : (o : Option UploadRecord) → at_number number account.bucket.uploads ≡ o → IfSome o (λ upload. upload.changed ≤ t)
  by None is = tt
  by (Some upload) is = (upload_orderly t account.bucket orderly.bucket number upload is).1.changed

module _ (number t : ℕ) (account : Account) (counts : Counts) (after : AccountRecord) where
  abort_by : (o : Option UploadRecord) → at_number number account.bucket.uploads ≡ o → is_some o ≡ true → abort t number account ≡ Ok (remove_upload_at number t account, Aborted number)
  abort_by None is some = absurd cc
  abort_by (Some upload) is some = rw (is) refl

  pub abort_is : is_some (at_number number account.bucket.uploads) ≡ true → abort t number account ≡ Ok (remove_upload_at number t account, Aborted number)
  abort_is = abort_by (at_number number account.bucket.uploads) refl

  pub abort_done : (moved : Counts) → is_some (at_number number account.bucket.uploads) ≡ true → DoesEffect [] (remove_upload_at number t) account counts after (Ok moved)
      → DoesTold [] (abort t number account) account counts after (Ok (record { counts = moved; reply = Aborted number }))
  abort_done moved some h =
      subst (λ (told : Change). DoesTold [] told account counts after (Ok (record { counts = moved; reply = Aborted number }))) (sym (abort_is some)) (refl, h.0, h.1, h.2)

  pub abort_refused : (refusal : Refusal) → is_some (at_number number account.bucket.uploads) ≡ true → DoesEffect [] (remove_upload_at number t) account counts after (Err refusal)
      → DoesTold [] (abort t number account) account counts after (Err refusal)
  abort_refused refusal some h = subst (λ (told : Change). DoesTold [] told account counts after (Err refusal)) (sym (abort_is some)) h
