-- The reply to a command that carries a token follows from the command, the moment and what is kept of the reply.
use Rattle.std.proofs.Common.{◌≡◌, ℕ, ◌<◌, List, [], ◌∷◌, ◌++◌, refl, ap, ◌∙◌, subst, Bool, true, false, cond, arith, Option, Some, None, Result, Ok, Err, eqb}
use Rattle.std.proofs.lemmas.Bool.Decides.{nat_tests}
use Rattle.std.specs.Prelude.{is_some, nat_lt}
use Rattle.std.specs.Option.{ok_or}
use Rattle.moments.specs.Months.{month_end}
use Rattle.class_rules.specs.declared.class.Class.{Class}
use Rattle.office_base.specs.Maps.{at_name, with_name}
use Rattle.office_base.specs.Results.{◌>>=◌}
use Rattle.office_base.specs.Tags.{Tag}
use Rattle.office_base.specs.declared.version_id.VersionId.{VersionId}
use Rattle.stacks.specs.Stacks.{new_id, found, tags_at}
use Rattle.stacks.specs.declared.version.Versioning.{Versioning}
use Rattle.stacks.specs.declared.version.Versioning.TheVariants.{Unversioned, Enabled, Suspended}
use Rattle.uploads.specs.Uploads.{total_size}
use Rattle.rules_core.specs.Matching.{is_empty}
use Rattle.tariff.specs.Prices.{Prices}
use Rattle.due_core.specs.Buckets.{BucketRecord}
use Rattle.due_core.specs.declared.action.Action.{Action}
use Rattle.plain_office.specs.Office.{Office, Account, Books}
use Rattle.plain_office.specs.Changes.{next_id, remove_upload}
use Rattle.plain_office.specs.Charges.{in_force}
use Rattle.plain_office.specs.Orderly.{IsOrderly}
use Rattle.plain_office.specs.Run.{is_not_before}
use Rattle.plain_office.specs.Step.{Change, Outcome, refuse_if, unless_full, within_limits, on_bucket, month_to_close, due_before, unless_due, settled, outcome, step, stack_in, of_stack, upload_in}
use Rattle.plain_office.specs.Step.{put_object, delete, set_versioning, drop_rules, delete_version, set_tags, start_upload, put_part, complete, abort}
use Rattle.office_types.specs.Kept.{number_of_id, id_of_number, tells_marker, number_told, reply_told}
use Rattle.office_types.specs.Tokens.{takes_token}
use Rattle.office_types.specs.declared.command.Command.{Command}
use Rattle.office_types.specs.declared.command.Command.TheVariants as command
use Rattle.office_types.specs.declared.reply.Reply.{Reply}
use Rattle.office_types.specs.declared.reply.Reply.TheVariants as reply
use Rattle.office_types.specs.declared.refusal.Refusal.{Refusal}
use Rattle.office_types.specs.declared.refusal.Refusal.TheVariants.{NoSuchBucket, BucketExists, NoTariff, NoParts}
use Rattle.office_types.specs.declared.refusal.What.{What}
use Rattle.office_types.specs.declared.refusal.What.TheVariants.{Buckets, Versions, Uploads, Parts, Names}
use Rattle.office_laws.proofs.Offices.{kept_now}

-- ---- ids

id_by : (versioning : Versioning) (next : ℕ) → 0 < next → id_of_number (number_of_id (new_id versioning next)) ≡ new_id versioning next
id_by Unversioned next from = refl
id_by Enabled next from = let some : eqb next 0 ≡ false = grind (arith, nat_tests) in rw some refl
id_by Suspended next from = refl

-- ---- the reply of a change

module _ (t : ℕ) (c : Command) where
  abbrev pub Follows : Reply → Type 0
  Follows answer = reply_told t (tells_marker answer) (number_told answer) c ≡ answer

  abbrev InChange : Change → Type 0
  InChange (Ok done) = Follows done.1
  InChange (Err refusal) = Unit {0}

  abbrev InOutcome : Outcome → Type 0
  InOutcome (Ok done) = Follows done.1
  InOutcome (Err refusal) = Unit {0}

  bind : {X : Type 0} (r : Result X Refusal) (f : X → Change) → ((x : X) → InChange (f x)) → InChange (r >>= f)
  bind (Ok x) f k = k x
  bind (Err refusal) f k = tt

  refuse : (b : Bool) (refusal : Refusal) (done : Account × Reply) → Follows done.1 → InChange (refuse_if b refusal done)
  refuse true refusal done k = tt
  refuse false refusal done k = k

  unless : (o : Option What) (done : Office × Reply) → Follows done.1 → InOutcome (unless_full o done)
  unless None done k = k
  unless (Some what) done k = tt

  within : (whats : List What) (o : Outcome) → InOutcome o → InOutcome (within_limits whats o)
  within whats (Ok done) k = unless _ done k
  within whats (Err refusal) k = tt

  module _ (p : Office) (name : List ℕ) where
    done_in : (change : Change) → InChange change → InOutcome (change >>= λ done. Ok (record p { accounts = with_name name done.0 p.accounts }, done.1))
    done_in (Ok done) k = k
    done_in (Err refusal) k = tt

    found_in : (change : Account → Change) (o : Option Account) → ((account : Account) → o ≡ Some account → InChange (change account))
        → InOutcome (ok_or o NoSuchBucket
        >>= λ account. change account
        >>= λ done. Ok (record p { accounts = with_name name done.0 p.accounts }, done.1))
    found_in change None k = tt
    found_in change (Some account) k = done_in (change account) (k account refl)

    bucket_in : (change : Account → Change) → ((account : Account) → at_name name p.accounts ≡ Some account → InChange (change account)) → InOutcome (on_bucket name change p)
    bucket_in change k = found_in change (at_name name p.accounts) k

-- a put, also one that completes an upload, in a bucket whose next number is at least 1
stored : (t : ℕ) (c : Command) → ((told : ℕ) → reply_told t false told c ≡ reply.Stored t (id_of_number told)) → (key : List ℕ) (size : ℕ) (class : Class) (tags : List Tag) (account : Account)
    → 0 < account.bucket.next_version → InChange t c (put_object t key size class tags account)
stored t c is key size class tags account from = is (number_of_id (next_id account.bucket)) ∙ ap (reply.Stored t) (id_by account.bucket.versioning account.bucket.next_version from)

deleted : (t : ℕ) (name key : List ℕ) (versioning : Versioning) (bucket : BucketRecord) (books : Books) → 0 < bucket.next_version
    → InChange t (command.Delete name key) (delete t key (record { bucket = record bucket { versioning = versioning }; books = books }))
unfolding reply_told
deleted t name key Unversioned bucket books from = refuse t (command.Delete name key) _ _ _ refl
deleted t name key Enabled bucket books from = ap (λ (id : VersionId). reply.Deleted (Some id)) (id_by Enabled bucket.next_version from)
deleted t name key Suspended bucket books from = ap (λ (id : VersionId). reply.Deleted (Some id)) (id_by Suspended bucket.next_version from)

if_parts : (t : ℕ) (c : Command) (b : Bool) (change : Change) → InChange t c change → InChange t c (cond b (Err NoParts) change)
if_parts t c true change k = tt
if_parts t c false change k = k

-- ---- a command on the office

module _ (t : ℕ) (p : Office) (h : IsOrderly p) (later : is_not_before p.last t ≡ true) where
  next_from : (name : List ℕ) (account : Account) → at_name name p.accounts ≡ Some account → 0 < account.bucket.next_version
  next_from name account is = (kept_now t p h later name account is).bucket.next_version

  due_in : (c : Command) (q : Office) (answer : Reply) (o : Option (List ℕ × Action)) → Follows t c answer → InOutcome t c (unless_due o (q, answer))
  due_in c q answer None k = k
  due_in c q answer (Some due) k = tt

  tariff_in : (month : ℕ) (o : Option Prices)
      → InOutcome t (command.Close month) (ok_or o NoTariff >>= λ tariff. unless_due (due_before t (month_end month) p.accounts) (record p { closed = p.closed ++ (month, tariff) ∷ [] }, reply.Closed month))
  unfolding reply_told
  tariff_in month None = tt
  tariff_in month (Some tariff) = due_in (command.Close month) _ (reply.Closed month) (due_before t (month_end month) p.accounts) refl

  err_or : (c : Command) (b : Bool) (refusal : Refusal) (o : Outcome) → InOutcome t c o → InOutcome t c (cond b (Err refusal) o)
  err_or c true refusal o k = tt
  err_or c false refusal o k = k

  create_in : (name : List ℕ) (b : Bool) (done : Office × Reply) → Follows t (command.CreateBucket name) done.1 → InOutcome t (command.CreateBucket name) (refuse_if b BucketExists done)
  create_in name true done k = tt
  create_in name false done k = k

  outcome_in : (c : Command) → takes_token c ≡ true → InOutcome t c (outcome t c p)
  unfolding outcome reply_told
  outcome_in (command.CreateBucket name) takes = within t (command.CreateBucket name) (Buckets ∷ []) _ (create_in name (is_some (at_name name p.accounts)) _ refl)
  outcome_in (command.SetVersioning name enabled) takes =
      bucket_in t (command.SetVersioning name enabled) p name (set_versioning t enabled) (λ account is. refuse t (command.SetVersioning name enabled) _ _ _ refl)
  outcome_in (command.SetRules name rules) takes = absurd cc
  outcome_in (command.DropRules name) takes = bucket_in t (command.DropRules name) p name (drop_rules t) (λ account is. refuse t (command.DropRules name) _ _ _ refl)
  outcome_in (command.Put name key size class tags) takes =
      within t (command.Put name key size class tags) (Versions ∷ Names ∷ []) _ (bucket_in t (command.Put name key size class tags) p name (put_object t key size class tags)
      (λ account is. stored t (command.Put name key size class tags) (λ told. refl) key size class tags account (next_from name account is)))
  outcome_in (command.Delete name key) takes =
      within t (command.Delete name key) _ _ (bucket_in t (command.Delete name key) p name (delete t key)
      (λ account is. deleted t name key account.bucket.versioning account.bucket account.books (next_from name account is)))
  outcome_in (command.DeleteVersion name key id) takes =
      bucket_in t (command.DeleteVersion name key id) p name (delete_version t key id)
      (λ account is. bind t (command.DeleteVersion name key id) (stack_in key account) _ (λ stack. bind t (command.DeleteVersion name key id) (of_stack (found id stack.versions)) _ (λ version. refl)))
  outcome_in (command.SetTags name key id tags) takes =
      within t (command.SetTags name key id tags) (Names ∷ []) _ (bucket_in t (command.SetTags name key id tags) p name (set_tags t key id tags)
      (λ account is. bind t (command.SetTags name key id tags) (stack_in key account) _ (λ stack. bind t (command.SetTags name key id tags) (of_stack (tags_at id stack.versions)) _ (λ before. refl))))
  outcome_in (command.StartUpload name key class tags) takes =
      within t (command.StartUpload name key class tags) (Uploads ∷ Names ∷ []) _ (bucket_in t (command.StartUpload name key class tags) p name (start_upload t key class tags) (λ account is. refl))
  outcome_in (command.PutPart name upload part size) takes =
      within t (command.PutPart name upload part size) (Parts ∷ []) _ (bucket_in t (command.PutPart name upload part size) p name (put_part t upload part size)
      (λ account is. bind t (command.PutPart name upload part size) (upload_in upload account) _ (λ one. refuse t (command.PutPart name upload part size) _ _ _ refl)))
  outcome_in (command.Complete name upload) takes =
      within t (command.Complete name upload) (Versions ∷ Names ∷ []) _ (bucket_in t (command.Complete name upload) p name (complete t upload)
      (λ account is. bind t (command.Complete name upload) (upload_in upload account) _
      (λ one. if_parts t (command.Complete name upload) (is_empty one.parts) _ (stored t (command.Complete name upload) (λ told. refl) one.key (total_size one.parts) one.class one.tags (remove_upload upload one t account) (next_from name account is)))))
  outcome_in (command.Abort name upload) takes =
      bucket_in t (command.Abort name upload) p name (abort t upload) (λ account is. bind t (command.Abort name upload) (upload_in upload account) _ (λ one. refl))
  outcome_in (command.Act name) takes = absurd cc
  outcome_in (command.SetTariff tariff) takes = absurd cc
  outcome_in (command.Close month) takes =
      err_or (command.Close month) (nat_lt t (month_end month)) _ _ (err_or (command.Close month) (nat_lt month (month_to_close t p)) _ _
      (err_or (command.Close month) (nat_lt (month_to_close t p) month) _ _ (tariff_in month (in_force month p.tariffs))))

  settled_in : (c : Command) (o : Outcome) (answer : Reply) → InOutcome t c o → (settled t p o).1 ≡ Ok answer → Follows t c answer
  settled_in c (Err refusal) answer k is = absurd cc
  settled_in c (Ok (after, reply.NothingDue)) answer k is = let same : reply.NothingDue ≡ answer = cc in subst (Follows t c) same k
  settled_in c (Ok (after, done)) answer k is = let same : done ≡ answer = cc in subst (Follows t c) same k

  -- the reply of an accepted command that may carry a token
  pub told_follows : (c : Command) (answer : Reply) → takes_token c ≡ true → (step t c p).1 ≡ Ok answer → Follows t c answer
  unfolding step
  told_follows c answer takes is = settled_in c (outcome t c p) answer (outcome_in c takes) is
