-- What each command adds to the books of a bucket and to its next numbers.
use Rattle.std.proofs.Common.{◌≡◌, ℕ, ◌+◌, ◌≤◌, List, [], ◌∷◌, ◌++◌, refl, ap, sym, ◌∙◌, subst, Bool, true, false, not, cond, inl, inr, arith}
use Rattle.std.specs.Prelude.{Option, Some, None, Result, Ok, Err, ◌⊎◌, ◌==◌, length, nat_lt, is_some, unwrap_or}
use Rattle.std.specs.Option.{ok_or}
use Rattle.moments.specs.Months.{month_end}
use Rattle.office_base.specs.Maps.{at_name, with_name, at_number}
use Rattle.office_base.specs.Results.{◌>>=◌}
use Rattle.office_base.specs.Tags.{Tag}
use Rattle.office_base.specs.declared.version_id.VersionId.{VersionId}
use Rattle.office_base.specs.declared.version_id.VersionId.TheVariants.{Null}
use Rattle.class_rules.specs.declared.class.Class.{Class}
use Rattle.stacks.specs.Stacks.{StackRecord, found, tags_at}
use Rattle.stacks.specs.declared.version.Versioning.{Versioning}
use Rattle.stacks.specs.declared.version.Versioning.TheVariants.{Unversioned, Enabled, Suspended}
use Rattle.stacks.specs.declared.version.Kind.TheVariants.{Object, Marker}
use Rattle.uploads.specs.Uploads.{UploadRecord, total_size}
use Rattle.tariff.specs.Prices.{Prices}
use Rattle.due_core.specs.Buckets.{BucketRecord}
use Rattle.due_core.specs.Choice.{choice}
use Rattle.due_core.specs.declared.action.Action.{Action}
use Rattle.due_core.specs.declared.action.ActionKind.{ActionKind}
use Rattle.due_core.specs.declared.action.ActionKind.TheVariants as action
use Rattle.due_core.specs.declared.action.Target.{Target}
use Rattle.due_core.specs.declared.action.Target.TheVariants as target
use Rattle.plain_office.specs.Office.{Office, Account, Books}
use Rattle.plain_office.specs.Changes.{remove_upload, remove_upload_at, effect}
use Rattle.plain_office.specs.Charges.{in_force}
use Rattle.plain_office.specs.Orderly.{IsOrderly, IsOrderlyBucket}
use Rattle.plain_office.specs.Run.{is_not_before}
use Rattle.plain_office.specs.Step.{Change, Outcome, refuse_if, unless_full, within_limits, on_bucket, new_account, create_bucket, month_to_close, due_before, unless_due, set_tariff, settled, outcome, step}
use Rattle.plain_office.specs.Step.{stack_in, of_stack, upload_in, shown_action, marker_made}
use Rattle.plain_office.specs.Step.{put_object, delete, set_versioning, set_rules, drop_rules, delete_version, set_tags, start_upload, put_part, complete, abort, act}
use Rattle.office_types.specs.declared.command.Command.{Command}
use Rattle.office_types.specs.declared.command.Command.TheVariants as command
use Rattle.office_types.specs.declared.reply.Reply.{Reply}
use Rattle.office_types.specs.declared.reply.Reply.TheVariants as reply
use Rattle.office_types.specs.declared.refusal.Refusal.{Refusal}
use Rattle.office_types.specs.declared.refusal.Refusal.TheVariants.{NoSuchBucket, BucketExists, NoTariff, NoParts}
use Rattle.office_types.specs.declared.refusal.What.{What}
use Rattle.office_types.specs.declared.refusal.What.TheVariants.{Buckets, Versions, Uploads, Parts, Names, Rules, Tariffs}
use Rattle.office_laws.proofs.Buckets.{ChangedBy, changed_by}
use Rattle.office_laws.proofs.Chosen.{HasTarget, chosen_target}
use Rattle.office_laws.proofs.Offices.{kept_now}
use Rattle.office_laws.proofs.Uploads.{bucket_without}
use Rattle.office_snapshot.proofs.Growth.{Adds, parts_end, adds_none, adds_records, adds_version, adds_removal, adds_move, adds_part, adds_abort, adds_then}

-- ---- a change of one bucket

abbrev pub InChange : Account → Change → Type 0
InChange account (Ok done) = Adds account done.0
InChange account (Err refusal) = Unit {0}

module _ (account : Account) where
  bind : {X : Type 0} (r : Result X Refusal) (f : X → Change) → ((x : X) → InChange account (f x)) → InChange account (r >>= f)
  bind (Ok x) f k = k x
  bind (Err refusal) f k = tt

  refuse : (b : Bool) (refusal : Refusal) (done : Account × Reply) → Adds account done.0 → InChange account (refuse_if b refusal done)
  refuse true refusal done k = tt
  refuse false refusal done k = k

  either : (b : Bool) (refusal : Refusal) (change : Change) → InChange account change → InChange account (cond b (Err refusal) change)
  either true refusal change k = tt
  either false refusal change k = k

module _ (t : ℕ) (account : Account) (h : IsOrderlyBucket t account.bucket) where
  changed : (key : List ℕ) → ChangedBy account.bucket key t
  changed key = changed_by account.bucket key t h

  added_versioning : (enabled : Bool) → InChange account (set_versioning t enabled account)
  added_versioning enabled = refuse account _ _ _ (adds_records account _ (omega arith) (omega arith))

  added_put : (key : List ℕ) (size : ℕ) (class : Class) (tags : List Tag) → InChange account (put_object t key size class tags account)
  added_put key size class tags = adds_version t account h key t (changed key) (Object size class tags t)

  added_version_removal : (key : List ℕ) (id : VersionId) → InChange account (delete_version t key id account)
  added_version_removal key id =
      bind account (stack_in key account) _ (λ stack. bind account (of_stack (found id stack.versions)) _ (λ version. adds_removal t account h key t (changed key) id))

  added_tags : (key : List ℕ) (id : VersionId) (tags : List Tag) → InChange account (set_tags t key id tags account)
  added_tags key id tags =
      bind account (stack_in key account) _ (λ stack. bind account (of_stack (tags_at id stack.versions)) _ (λ before. adds_records account _ (omega arith) (omega arith)))

  added_part : (number part size : ℕ) → InChange account (put_part t number part size account)
  added_part number part size = bind account (upload_in number account) _ (λ upload. refuse account _ _ _ (adds_part number upload part size t account))

  added_abort : (number : ℕ) → InChange account (abort t number account)
  added_abort number = bind account (upload_in number account) _ (λ upload. adds_abort number upload t account)

  whole : (number : ℕ) (upload : UploadRecord) → InChange account (put_object t upload.key (total_size upload.parts) upload.class upload.tags (remove_upload number upload t account))
  whole number upload =
      let mid = remove_upload number upload t account in
      let orderly = bucket_without t account.bucket h number in
      adds_then account mid _ refl refl (parts_end upload.key number t upload.parts account.books)
      (adds_version t mid orderly upload.key t (changed_by mid.bucket upload.key t orderly) (Object (total_size upload.parts) upload.class upload.tags t))

  added_whole : (number : ℕ) → InChange account (complete t number account)
  added_whole number = bind account (upload_in number account) _
      (λ upload. either account (length upload.parts == 0) NoParts (put_object t upload.key (total_size upload.parts) upload.class upload.tags (remove_upload number upload t account)) (whole number upload))

  -- ---- the choice

  stack_since : (key : List ℕ) (since : ℕ) (stack : StackRecord) → at_name key account.bucket.stacks ≡ Some stack → stack.changed ≤ since → ChangedBy account.bucket key since
  stack_since key since stack found le other is =
      let same : stack ≡ other = cc in
      subst (λ (s : StackRecord). s.changed ≤ since) same le

  abort_by : (number since : ℕ) (o : Option UploadRecord) → at_number number account.bucket.uploads ≡ o → Adds account (remove_upload_at number since account)
  abort_by number since None is = rw is (adds_none account)
  abort_by number since (Some upload) is = rw is (adds_abort number upload since account)

  effect_adds : (key : List ℕ) (rule since : ℕ) (kind : ActionKind) (goal : Target) → HasTarget account.bucket since key kind goal
      → Adds account (effect (record { kind = kind; key = key; target = goal; rule = rule; since = since }) account)
  unfolding effect
  effect_adds key rule since action.Remove (target.Version id) there = adds_removal t account h key since (stack_since key since there.0 there.1 there.2) id
  effect_adds key rule since (action.Transition to) (target.Version id) there = adds_move t account h key since (stack_since key since there.0 there.1 there.2) id to
  effect_adds key rule since action.Marker (target.Version id) there = adds_version t account h key since (stack_since key since there.0 there.1 there.2) Marker
  effect_adds key rule since action.Abort (target.Version id) there = adds_none account
  effect_adds key rule since action.Remove (target.Upload number) there = adds_none account
  effect_adds key rule since (action.Transition to) (target.Upload number) there = adds_none account
  effect_adds key rule since action.Marker (target.Upload number) there = adds_none account
  effect_adds key rule since action.Abort (target.Upload number) there = abort_by number since (at_number number account.bucket.uploads) refl

  act_of : Option Action → Change
  act_of None = Ok (account, reply.NothingDue)
  act_of (Some action) = Ok (effect action account, shown_action action (marker_made action.kind account.bucket) account.bucket)

  act_by : (o : Option Action) → choice account.bucket t ≡ o → InChange account (act_of o)
  unfolding act_of
  act_by None is = adds_none account
  act_by (Some chosen) is = effect_adds chosen.key chosen.rule chosen.since chosen.kind chosen.target (chosen_target t account.bucket t chosen h is)

  added_act : InChange account (act t account)
  unfolding act_of
  added_act = act_by (choice account.bucket t) refl

-- a deletion, by what the bucket keeps
added_delete : (t : ℕ) (key : List ℕ) (versioning : Versioning) (bucket : BucketRecord) (books : Books)
    → IsOrderlyBucket t (record bucket { versioning = versioning })
    → InChange (record { bucket = record bucket { versioning = versioning }; books = books }) (delete t key (record { bucket = record bucket { versioning = versioning }; books = books }))
added_delete t key Unversioned bucket books h =
    let account : Account = record { bucket = record bucket { versioning = Unversioned }; books = books } in
    refuse account _ _ _ (adds_removal t account h key t (changed_by account.bucket key t h) Null)
added_delete t key Enabled bucket books h =
    let account : Account = record { bucket = record bucket { versioning = Enabled }; books = books } in
    adds_version t account h key t (changed_by account.bucket key t h) Marker
added_delete t key Suspended bucket books h =
    let account : Account = record { bucket = record bucket { versioning = Suspended }; books = books } in
    adds_version t account h key t (changed_by account.bucket key t h) Marker

-- ---- a command on the office

-- one bucket changed
pub record OneChanged (p q : Office) : Type 0 where
  pub name : List ℕ
  pub before : Account
  pub after : Account
  pub was : at_name name p.accounts ≡ Some before
  pub is : q.accounts ≡ with_name name after p.accounts
  pub adds : Adds before after

-- one bucket was made
pub record OneMade (t : ℕ) (p q : Office) : Type 0 where
  pub name : List ℕ
  pub is : q.accounts ≡ with_name name (new_account t) p.accounts

abbrev pub Changes : ℕ → Office → Office → Type 0
Changes t p q = (q.accounts ≡ p.accounts) ⊎ (OneChanged p q ⊎ OneMade t p q)

module _ (t : ℕ) (p : Office) (h : IsOrderly p) (later : is_not_before p.last t ≡ true) where
  abbrev InOutcome : Outcome → Type 0
  InOutcome (Ok done) = Changes t p done.0
  InOutcome (Err refusal) = Unit {0}

  unless : (o : Option What) (done : Office × Reply) → Changes t p done.0 → InOutcome (unless_full o done)
  unless None done k = k
  unless (Some what) done k = tt

  within : (whats : List What) (o : Outcome) → InOutcome o → InOutcome (within_limits whats o)
  within whats (Ok done) k = unless _ done k
  within whats (Err refusal) k = tt

  module _ (name : List ℕ) where
    done_in : (account : Account) → at_name name p.accounts ≡ Some account → (change : Change) → InChange account change
        → InOutcome (change >>= λ done. Ok (record p { accounts = with_name name done.0 p.accounts }, done.1))
    done_in account was (Ok done) k = inr (inl (record { name = name; before = account; after = done.0; was = was; is = refl; adds = k }))
    done_in account was (Err refusal) k = tt

    found_in : (change : Account → Change) (o : Option Account) → at_name name p.accounts ≡ o
        → ((account : Account) → at_name name p.accounts ≡ Some account → InChange account (change account))
        → InOutcome (ok_or o NoSuchBucket
        >>= λ account. change account
        >>= λ done. Ok (record p { accounts = with_name name done.0 p.accounts }, done.1))
    found_in change None is k = tt
    found_in change (Some account) is k = done_in account is (change account) (k account is)

    bucket_in : (change : Account → Change) → ((account : Account) → IsOrderlyBucket t account.bucket → InChange account (change account)) → InOutcome (on_bucket name change p)
    bucket_in change k = found_in change (at_name name p.accounts) refl (λ account is. k account (kept_now t p h later name account is).bucket)

    made_in : (b : Bool) → InOutcome (refuse_if b BucketExists (record p { accounts = with_name name (new_account t) p.accounts }, reply.BucketMade name))
    made_in true = tt
    made_in false = inr (inr (record { name = name; is = refl }))

  due_in : (q : Office) (answer : Reply) → q.accounts ≡ p.accounts → (o : Option (List ℕ × Action)) → InOutcome (unless_due o (q, answer))
  due_in q answer same None = inl same
  due_in q answer same (Some due) = tt

  tariff_in : (month : ℕ) (o : Option Prices)
      → InOutcome (ok_or o NoTariff >>= λ tariff. unless_due (due_before t (month_end month) p.accounts) (record p { closed = p.closed ++ (month, tariff) ∷ [] }, reply.Closed month))
  tariff_in month None = tt
  tariff_in month (Some tariff) = due_in _ (reply.Closed month) refl (due_before t (month_end month) p.accounts)

  err_or : (b : Bool) (refusal : Refusal) (o : Outcome) → InOutcome o → InOutcome (cond b (Err refusal) o)
  err_or true refusal o k = tt
  err_or false refusal o k = k

  outcome_in : (c : Command) → InOutcome (outcome t c p)
  unfolding outcome
  outcome_in (command.CreateBucket name) = within (Buckets ∷ []) _ (made_in name (is_some (at_name name p.accounts)))
  outcome_in (command.SetVersioning name enabled) = bucket_in name (set_versioning t enabled) (λ account k. added_versioning t account k enabled)
  outcome_in (command.SetRules name rules) = within (Rules ∷ []) _ (bucket_in name (set_rules t rules) (λ account k. adds_records account _ (omega arith) (omega arith)))
  outcome_in (command.DropRules name) = bucket_in name (drop_rules t) (λ account k. refuse account _ _ _ (adds_records account _ (omega arith) (omega arith)))
  outcome_in (command.Put name key size class tags) = within (Versions ∷ Names ∷ []) _ (bucket_in name (put_object t key size class tags) (λ account k. added_put t account k key size class tags))
  outcome_in (command.Delete name key) = within _ _ (bucket_in name (delete t key) (λ account k. added_delete t key account.bucket.versioning account.bucket account.books k))
  outcome_in (command.DeleteVersion name key id) = bucket_in name (delete_version t key id) (λ account k. added_version_removal t account k key id)
  outcome_in (command.SetTags name key id tags) = within (Names ∷ []) _ (bucket_in name (set_tags t key id tags) (λ account k. added_tags t account k key id tags))
  outcome_in (command.StartUpload name key class tags) =
      within (Uploads ∷ Names ∷ []) _ (bucket_in name (start_upload t key class tags) (λ account k. adds_records account _ (omega arith) (omega arith)))
  outcome_in (command.PutPart name upload part size) = within (Parts ∷ []) _ (bucket_in name (put_part t upload part size) (λ account k. added_part t account k upload part size))
  outcome_in (command.Complete name upload) = within (Versions ∷ Names ∷ []) _ (bucket_in name (complete t upload) (λ account k. added_whole t account k upload))
  outcome_in (command.Abort name upload) = bucket_in name (abort t upload) (λ account k. added_abort t account k upload)
  outcome_in (command.Act name) = bucket_in name (act t) (λ account k. added_act t account k)
  outcome_in (command.SetTariff tariff) = within (Tariffs ∷ []) (set_tariff tariff p) (inl refl)
  outcome_in (command.Close month) =
      err_or (nat_lt t (month_end month)) _ _ (err_or (nat_lt month (month_to_close t p)) _ _ (err_or (nat_lt (month_to_close t p) month) _ _ (tariff_in month (in_force month p.tariffs))))

  reply_in : (after : Office) (answer : Reply) → Changes t p after → Changes t p (settled t p (Ok (after, answer))).0
  reply_in after reply.NothingDue k = inl refl
  reply_in after answer (inl same) = inl same
  reply_in after answer (inr (inl one)) = inr (inl (record { name = one.name; before = one.before; after = one.after; was = one.was; is = one.is; adds = one.adds }))
  reply_in after answer (inr (inr one)) = inr (inr (record { name = one.name; is = one.is }))

  settled_in : (o : Outcome) → InOutcome o → Changes t p (settled t p o).0
  settled_in (Ok done) k = reply_in done.0 done.1 k
  settled_in (Err refusal) k = inl refl

  pub step_changes : (c : Command) → Changes t p (step t c p).0
  unfolding step
  step_changes c = settled_in (outcome t c p) (outcome_in c)
