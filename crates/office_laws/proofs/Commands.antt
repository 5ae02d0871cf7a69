-- What each command on a bucket keeps of its account.
use Rattle.std.proofs.Common.{◌≡◌, ℕ, ◌≤◌, List, [], ◌∷◌, refl, subst, Bool, true, false, not, cond, inl, inr, arith}
use Rattle.std.specs.Prelude.{Option, Some, None, Result, Ok, Err}
use Rattle.std.specs.Option.{ok_or}
use Rattle.office_base.specs.Tags.{Tag}
use Rattle.office_base.specs.Sizes.{largest_size}
use Rattle.rules_core.specs.Matching.{is_empty}
use Rattle.office_base.specs.Maps.{at_name, at_number}
use Rattle.office_base.specs.Results.{◌>>=◌}
use Rattle.uploads.specs.Uploads.{new_part, admits_part, total_size}
use Rattle.class_rules.specs.declared.class.Class.{Class}
use Rattle.office_base.specs.declared.version_id.VersionId.{VersionId}
use Rattle.office_base.specs.declared.version_id.VersionId.TheVariants.{Null}
use Rattle.rules_core.specs.Configurations.{Configuration}
use Rattle.stacks.specs.declared.version.Versioning.{Versioning}
use Rattle.stacks.specs.declared.version.Versioning.TheVariants.{Unversioned, Enabled, Suspended}
use Rattle.stacks.specs.declared.version.Kind.TheVariants.{Object, Marker}
use Rattle.stacks.specs.declared.version.Version.{Version}
use Rattle.stacks.specs.Stacks.{StackRecord, found, tags_at, changed_at, with_tags}
use Rattle.uploads.specs.Uploads.{UploadRecord}
use Rattle.due_core.specs.Choice.{choice}
use Rattle.due_core.specs.declared.action.Action.{Action}
use Rattle.plain_office.specs.Office.{Account}
use Rattle.plain_office.specs.Changes.{next_id, add_version, remove_version, remove_upload, effect, add_part}
use Rattle.plain_office.specs.Counts.{rules_bytes}
use Rattle.plain_office.specs.Step.{refuse_if, Change, has_stack, stack_in, of_stack, is_unversioned, set_versioning, set_rules, drop_rules, put_object, delete, delete_version, set_tags, start_upload}
use Rattle.plain_office.specs.Step.{put_part, complete, abort, act, shown_action, marker_made}
use Rattle.office_types.specs.declared.reply.Reply.{Reply}
use Rattle.office_types.specs.declared.reply.Reply.TheVariants.{PartStored, Deleted, VersioningSet, NothingDue}
use Rattle.office_types.specs.declared.refusal.Refusal.{Refusal}
use Rattle.office_types.specs.declared.refusal.Refusal.TheVariants.{BadPart, NoSuchKey, NoSuchUpload, NotEnabledBefore, NoRules}
use Rattle.office_types.specs.declared.refusal.What.{What}
use Rattle.office_types.specs.declared.refusal.What.TheVariants.{Versions, Uploads, Parts, Names, Rules}
use Rattle.office_laws.proofs.Versions.{KindFits}
use Rattle.office_laws.proofs.Buckets.{with_versions, versions_are, changed_by}
use Rattle.office_laws.proofs.Uploads.{upload_orderly, total_small}
use Rattle.office_laws.proofs.Changes.{IsKept, Keeps, then_keeps, keeps_removed, keeps_tagged, keeps_put, keeps_started, keeps_part, keeps_aborted, keeps_versioning, keeps_rules}
use Rattle.office_laws.proofs.Acts.{keeps_all, effect_keeps}

-- where the command is done, the account keeps all of this
abbrev pub Done : ℕ → ℕ → List What → Account → Change → Type 0
Done t until whats before (Ok done) = Keeps t until whats before done.0
Done t until whats before (Err refusal) = Unit {0}

module _ (t until : ℕ) (account : Account) (h : IsKept t until account) (later : until ≤ t) where
  unless : (whats : List What) (test : Bool) (refusal : Refusal) (done : Account × Reply) → Keeps t until whats account done.0 → Done t until whats account (refuse_if test refusal done)
  unless whats true refusal done k = tt
  unless whats false refusal done k = k

  object_kept : (versioning : Versioning) (size : ℕ) (class : Class) (tags : List Tag) (at : ℕ) → KindFits versioning (Object size class tags at)
  object_kept Unversioned size class tags at = tt
  object_kept Enabled size class tags at = tt
  object_kept Suspended size class tags at = tt

  pub versioning_done : (enabled : Bool) → Done t until [] account (set_versioning t enabled account)
  versioning_done true = keeps_versioning t until account h later Enabled [] tt
  versioning_done false =
      unless [] (is_unversioned account.bucket.versioning) NotEnabledBefore
      (record account { bucket = record account.bucket { versioning = Suspended; rules_since = t } }, VersioningSet Suspended)
      (keeps_versioning t until account h later Suspended [] tt)

  pub rules_done : (rules : Configuration) → Done t until (Rules ∷ []) account (set_rules t rules account)
  rules_done rules = keeps_rules t until account h later (Some rules) (Rules ∷ []) (inr (inl refl))

  none_most : (rules : Option Configuration) → rules_bytes None ≤ rules_bytes rules
  none_most rules = omega arith

  pub drop_done : Done t until [] account (drop_rules t account)
  drop_done = unless [] _ NoRules _ (keeps_rules t until account h later None [] (inl (none_most account.bucket.rules)))

  pub put_done : (key : List ℕ) (size : ℕ) (class : Class) (tags : List Tag) → size ≤ largest_size → Done t until (Versions ∷ Names ∷ []) account (put_object t key size class tags account)
  put_done key size class tags small =
      keeps_put t until t account h later (omega arith) key (changed_by account.bucket key t h.bucket) (Object size class tags t) (Versions ∷ Names ∷ []) refl
      (object_kept account.bucket.versioning size class tags t) small (inl refl) (inr (inl refl))

  -- the counts to which a deletion adds
  abbrev pub deletion_adds : Versioning → List What
  deletion_adds versioning = cond (not (is_unversioned versioning)) (Versions ∷ Names ∷ []) (Names ∷ [])

  marked : (key : List ℕ) → KindFits account.bucket.versioning Marker → Keeps t until (Versions ∷ Names ∷ []) account (add_version key Marker t account)
  marked key fits =
      keeps_put t until t account h later (omega arith) key (changed_by account.bucket key t h.bucket) Marker (Versions ∷ Names ∷ []) tt fits (omega arith) (inl refl) (inr (inl refl))

  deleted : (key : List ℕ) → Keeps t until (Names ∷ []) account (remove_version key Null t account)
  deleted key = keeps_removed t until t account h later (omega arith) key (changed_by account.bucket key t h.bucket) Null (Names ∷ [])

  module _ (key : List ℕ) where
    by_versioning : Versioning → Change
    by_versioning Unversioned = refuse_if (not (has_stack key account)) NoSuchKey (remove_version key Null t account, Deleted None)
    by_versioning Enabled = Ok (add_version key Marker t account, Deleted (Some (next_id account.bucket)))
    by_versioning Suspended = Ok (add_version key Marker t account, Deleted (Some (next_id account.bucket)))

    delete_by : (versioning : Versioning) → account.bucket.versioning ≡ versioning → Done t until (deletion_adds versioning) account (by_versioning versioning)
    unfolding by_versioning
    delete_by Unversioned is = unless (Names ∷ []) (not (has_stack key account)) NoSuchKey _ (deleted key)
    delete_by Enabled is = marked key (rw is tt)
    delete_by Suspended is = marked key (rw is tt)

    pub delete_done : Done t until (deletion_adds account.bucket.versioning) account (delete t key account)
    unfolding by_versioning
    delete_done = delete_by account.bucket.versioning refl

  -- ---- on one version

  on_found : {X : Type 0} (whats : List What) (f : X → Change) → ((x : X) → Done t until whats account (f x)) → (found : Result X Refusal) → Done t until whats account (found >>= f)
  on_found whats f k (Ok x) = k x
  on_found whats f k (Err refusal) = tt

  pub delete_version_done : (key : List ℕ) (id : VersionId) → Done t until [] account (delete_version t key id account)
  delete_version_done key id =
      on_found [] _
      (λ stack. on_found [] _
      (λ version. keeps_removed t until t account h later (omega arith) key (changed_by account.bucket key t h.bucket) id []) (of_stack (found id stack.versions)))
      (stack_in key account)

  on_stack : (whats : List What) (key : List ℕ) (f : StackRecord → Change) → ((stack : StackRecord) → at_name key account.bucket.stacks ≡ Some stack → Done t until whats account (f stack))
      → (o : Option StackRecord) → at_name key account.bucket.stacks ≡ o → Done t until whats account (ok_or o NoSuchKey >>= f)
  on_stack whats key f k None is = tt
  on_stack whats key f k (Some stack) is = k stack is

  pub tags_done : (key : List ℕ) (id : VersionId) (tags : List Tag) → Done t until (Names ∷ []) account (set_tags t key id tags account)
  tags_done key id tags =
      on_stack (Names ∷ []) key _
      (λ stack is. on_found (Names ∷ []) _
      (λ before. subst (λ (l : List Version). Keeps t until (Names ∷ []) account (record account { bucket = with_versions key t (changed_at id (with_tags tags) l) account.bucket }))
      (versions_are account.bucket key stack is)
      (keeps_tagged t until t account h later (omega arith) key (changed_by account.bucket key t h.bucket) id tags (Names ∷ []) (inl refl)))
      (of_stack (tags_at id stack.versions)))
      (at_name key account.bucket.stacks) refl

  -- ---- on one upload

  pub start_done : (key : List ℕ) (class : Class) (tags : List Tag) → Done t until (Uploads ∷ Names ∷ []) account (start_upload t key class tags account)
  start_done key class tags = keeps_started t until t account h later (omega arith) key class tags (Uploads ∷ Names ∷ []) (inl refl) (inr (inl refl))

  on_upload : (whats : List What) (number : ℕ) (f : UploadRecord → Change) → ((upload : UploadRecord) → at_number number account.bucket.uploads ≡ Some upload → Done t until whats account (f upload))
      → (o : Option UploadRecord) → at_number number account.bucket.uploads ≡ o → Done t until whats account (ok_or o NoSuchUpload >>= f)
  on_upload whats number f k None is = tt
  on_upload whats number f k (Some upload) is = k upload is

  pub part_done : (number part size : ℕ) → Done t until (Parts ∷ []) account (put_part t number part size account)
  part_done number part size =
      on_upload (Parts ∷ []) number _
      (λ upload found. admitted upload (admits_part part (new_part size t) upload.parts) refl
      (λ admits. keeps_part t until t account h later (omega arith) number upload part size (Parts ∷ []) found admits
      (upload_orderly t account.bucket h.bucket number upload found).1.changed (inl refl)))
      (at_number number account.bucket.uploads) refl
    where
      admitted : (upload : UploadRecord) (b : Bool) → admits_part part (new_part size t) upload.parts ≡ b
          → (admits_part part (new_part size t) upload.parts ≡ true
          → Keeps t until (Parts ∷ []) account (add_part number upload part size t account))
          → Done t until (Parts ∷ []) account (refuse_if (not b) BadPart (add_part number upload part size t account, PartStored part))
      admitted upload true is k = k is
      admitted upload false is k = tt

  pub abort_done : (number : ℕ) → Done t until [] account (abort t number account)
  abort_done number =
      on_upload [] number _ (λ upload found. keeps_aborted t until t account h later (omega arith) number upload [] found) (at_number number account.bucket.uploads) refl

completed : (t until : ℕ) (account after : Account) → Keeps t until [] account after → IsKept t until after → until ≤ t
    → (key : List ℕ) (size : ℕ) (class : Class) (tags : List Tag) → size ≤ largest_size → Done t until (Versions ∷ Names ∷ []) account (put_object t key size class tags after)
completed t until account after k h later key size class tags small =
    then_keeps t until (Versions ∷ Names ∷ []) account after _ k (put_done t until after h later key size class tags small)

either_done : (t until : ℕ) (whats : List What) (account : Account) (b : Bool) (refusal : Refusal) (c : Change) → Done t until whats account c → Done t until whats account (cond b (Err refusal) c)
either_done t until whats account true refusal c k = tt
either_done t until whats account false refusal c k = k

module _ (t until : ℕ) (account : Account) (h : IsKept t until account) (later : until ≤ t) where
  pub complete_done : (number : ℕ) → Done t until (Versions ∷ Names ∷ []) account (complete t number account)
  complete_done number =
      on_upload t until account h later (Versions ∷ Names ∷ []) number _
      (λ upload found.
      let gone = keeps_aborted t until t account h later (omega arith) number upload [] found in
      either_done t until (Versions ∷ Names ∷ []) account (is_empty upload.parts) _ _
      (completed t until account (remove_upload number upload t account) gone gone.account later upload.key (total_size upload.parts) upload.class upload.tags
      (total_small t upload (upload_orderly t account.bucket h.bucket number upload found).1)))
      (at_number number account.bucket.uploads) refl

  -- ---- the choice

  act_of : Option Action → Change
  act_of None = Ok (account, NothingDue)
  act_of (Some action) = Ok (effect action account, shown_action action (marker_made action.kind account.bucket) account.bucket)

  act_by : (o : Option Action) → choice account.bucket t ≡ o → Done t until [] account (act_of o)
  unfolding act_of
  act_by None is = keeps_all t until [] account h
  act_by (Some chosen) is = effect_keeps t until t [] account chosen h (omega arith) is

  pub act_done : Done t until [] account (act t account)
  unfolding act_of
  act_done = act_by (choice account.bucket t) refl
