-- What the plan of a command books is what the plain office books.
use Rattle.std.proofs.Common.{◌≡◌, ℕ, List, [], ◌∷◌, ◌++◌, fold, refl, ap, sym, ◌∙◌, subst, Bool, true, false, cond}
use Rattle.std.specs.Prelude.{Option, Some, None, Result, Ok, Err, option_map, option_to_list, not}
use Rattle.std.specs.Option.{ok_or}
use Rattle.std.proofs.lemmas.Bool.{eqb-true}
use Rattle.class_rules.specs.Lines.{object_lines}
use Rattle.class_rules.specs.declared.class.Class.{Class}
use Rattle.office_base.specs.Maps.{at_name, at_number}
use Rattle.office_base.specs.Results.{◌>>=◌}
use Rattle.office_base.specs.Tags.{Tag}
use Rattle.office_base.specs.declared.version_id.VersionId.{VersionId}
use Rattle.office_base.specs.declared.version_id.VersionId.TheVariants.{Null, Number}
use Rattle.rules_core.specs.Matching.{is_empty}
use Rattle.stacks.specs.Stacks.{StackRecord, same_id, has_id, version_at, replaced, kind_with_class, found}
use Rattle.stacks.specs.declared.version.Versioning.{Versioning}
use Rattle.stacks.specs.declared.version.Versioning.TheVariants.{Unversioned, Enabled, Suspended}
use Rattle.stacks.specs.declared.version.Kind.{Kind}
use Rattle.stacks.specs.declared.version.Kind.TheVariants.{Object, Marker}
use Rattle.stacks.specs.declared.version.Version.{Version}
use Rattle.uploads.specs.Uploads.{UploadRecord, total_size, admits_part, new_part}
use Rattle.uploads.specs.declared.part.Part.{Part}
use Rattle.due_core.specs.Choice.{choice}
use Rattle.due_core.specs.declared.action.ActionKind.{ActionKind}
use Rattle.due_core.specs.declared.action.ActionKind.TheVariants as action
use Rattle.due_core.specs.declared.action.Target.{Target}
use Rattle.due_core.specs.declared.action.Target.TheVariants as target
use Rattle.due_core.specs.declared.action.Action.{Action}
use Rattle.office_types.specs.declared.reply.Reply.{Reply}
use Rattle.office_types.specs.declared.reply.Reply.TheVariants.{Stored, PartStored, Aborted, Deleted, VersionDeleted, NothingDue}
use Rattle.office_types.specs.declared.refusal.Refusal.{Refusal}
use Rattle.office_types.specs.declared.refusal.Refusal.TheVariants.{NoSuchUpload, NoSuchKey, NoParts, BadPart}
use Rattle.plain_office.specs.Office.{Item, of_version, of_part, Booked, Books, Account}
use Rattle.plain_office.specs.Books.{is_open_stay, with_end, without_option, lines_of_kind}
use Rattle.plain_office.specs.Changes.{versions_of, add_version, remove_version, next_id, books_moved, move_version, add_part, remove_upload, remove_upload_at, effect}
use Rattle.plain_office.specs.Orderly.{HasOpenStays, stay_of_version}
use Rattle.plain_office.specs.Step.{refuse_if, of_stack, Change, has_stack, put_object, delete, delete_version, put_part, complete, abort, act, shown_action, marker_made}
use Rattle.office_laws.proofs.Stays.{open_of, early_stays}
use Rattle.stay_explain.specs.Plans.{Plan, end_stays, begin_stay, after_ends, stays_by, stays_after, goes, null_ends, comes, marked, deleted, moves, part_put, part_items, dropped, made_whole}
use Rattle.stay_explain.specs.Plans.{completed, action_done, acted}

-- ---- stays of an item that has none open

module _ (key : List ℕ) (item : Item) (at : ℕ) where
  nil_or_more : (y : Booked) (ys : List Booked) → y ∷ ys ≡ [] → ⊥
  nil_or_more y ys h = absurd cc

  kept_at : (stay : Booked) (stays : List Booked) (b : Bool) → cond b (stay ∷ open_of key item stays) (open_of key item stays) ≡ []
      → (open_of key item stays ≡ [] → end_stays key item at stays ≡ stays) → cond b ((stay.0, record stay.1 { to = Some at })) stay ∷ end_stays key item at stays ≡ stay ∷ stays
  kept_at stay stays true h more = absurd (nil_or_more stay (open_of key item stays) h)
  kept_at stay stays false h more = ap (λ (l : List Booked). stay ∷ l) (more h)

  -- nothing ends if none is open
  pub none_ends : (stays : List Booked) → open_of key item stays ≡ [] → end_stays key item at stays ≡ stays
  none_ends [] h = refl
  none_ends (stay ∷ stays) h = kept_at stay stays (is_open_stay key item stay) h (none_ends stays)

  -- an end opens none
  module _ (other : List ℕ) (spot : Item) where
    closed_at : (stay : Booked) (rest more : List Booked) (b c : Bool) → is_open_stay other spot stay ≡ c → cond c (stay ∷ rest) rest ≡ [] → (rest ≡ [] → more ≡ [])
        → cond (is_open_stay other spot (cond b ((stay.0, record stay.1 { to = Some at })) stay)) (cond b ((stay.0, record stay.1 { to = Some at })) stay ∷ more) more ≡ []
    closed_at stay rest more b true is h next = absurd (nil_or_more stay rest h)
    closed_at stay rest more true false is h next = next h
    closed_at stay rest more false false is h next = rw is (next h)

    pub still_none : (stays : List Booked) → open_of other spot stays ≡ [] → open_of other spot (end_stays key item at stays) ≡ []
    still_none [] h = refl
    still_none (stay ∷ stays) h =
        closed_at stay (open_of other spot stays) (open_of other spot (end_stays key item at stays))
        (is_open_stay key item stay) (is_open_stay other spot stay) refl h (still_none stays)

still_after : (key : List ℕ) (items : List Item) (at : ℕ) (other : List ℕ) (spot : Item) (stays : List Booked) → open_of other spot stays ≡ [] → open_of other spot (after_ends key items at stays) ≡ []
still_after key [] at other spot stays h = h
still_after key (item ∷ items) at other spot stays h = still_after key items at other spot (end_stays key item at stays) (still_none key item at other spot stays h)

-- ---- versions

id_is : (a b : VersionId) → same_id a b ≡ true → b ≡ a
id_is Null Null h = refl
id_is Null (Number n) h = absurd cc
id_is (Number m) Null h = absurd cc
id_is (Number m) (Number n) h = ap Number (sym (eqb-true m n h))

found_at : (id : VersionId) (version : Version) (versions : List Version) (b : Bool) (v : Version) → has_id id v ≡ b → cond b (Some v) (version_at id versions) ≡ Some version
    → (version_at id versions ≡ Some version → version.id ≡ id) → version.id ≡ id
found_at id version versions true v is h more = let same : v ≡ version = cc in ap (λ (x : Version). x.id) (sym same) ∙ id_is id v.id is
found_at id version versions false v is h more = more h

-- the version that is found has the id
pub has_the_id : (id : VersionId) (version : Version) (versions : List Version) → version_at id versions ≡ Some version → version.id ≡ id
has_the_id id version [] h = absurd cc
has_the_id id version (v ∷ versions) h = found_at id version versions (has_id id v) v refl h (has_the_id id version versions)

-- a version that is not there has no open stay
abbrev KnowsNone : List ℕ → VersionId → Option Version → List Booked → Type 0
KnowsNone key id o stays = o ≡ None → open_of key (of_version id) stays ≡ []

goes_option : (key : List ℕ) (id : VersionId) (at : ℕ) (books : Books) (o : Option Version) → ((v : Version) → o ≡ Some v → v.id ≡ id) → KnowsNone key id o books.stays
    → (without_option key o at books).stays ≡ end_stays key (of_version id) at books.stays
goes_option key id at books None has none = sym (none_ends key (of_version id) at books.stays (none refl))
goes_option key id at books (Some v) has none =
    early_stays v.kind at (with_end key (of_version v.id) at books)
    ∙ ap (λ (i : VersionId). end_stays key (of_version i) at books.stays) (has v refl)

knows_none : (key : List ℕ) (id : VersionId) (account : Account) → HasOpenStays account → KnowsNone key id (version_at id (versions_of key account.bucket)) account.books.stays
knows_none key id account has is = has key (of_version id) ∙ ap (λ (o : Option Version). option_to_list (option_map (stay_of_version key) o)) is

-- the stays if the null version goes as a version comes
replaced_stays : (key : List ℕ) (at : ℕ) (books : Books) (versions : List Version) (versioning : Versioning) → KnowsNone key Null (version_at Null versions) books.stays
    → (without_option key (replaced versioning versions) at books).stays ≡ after_ends key (null_ends versioning) at books.stays
replaced_stays key at books versions Unversioned none = goes_option key Null at books (version_at Null versions) (λ v is. has_the_id Null v versions is) none
replaced_stays key at books versions Enabled none = refl
replaced_stays key at books versions Suspended none = goes_option key Null at books (version_at Null versions) (λ v is. has_the_id Null v versions is) none

ends_more : (key : List ℕ) (items more : List Item) (at : ℕ) (stays : List Booked) → after_ends key (items ++ more) at stays ≡ after_ends key more at (after_ends key items at stays)
ends_more key [] more at stays = refl
ends_more key (item ∷ items) more at stays = ends_more key items more at (end_stays key item at stays)

-- a version comes, after these ends
added_after : (key : List ℕ) (kind : Kind) (at : ℕ) (items : List Item) (stays : List Booked) (account : Account) → account.books.stays ≡ after_ends key items at stays
    → KnowsNone key Null (version_at Null (versions_of key account.bucket)) account.books.stays
    → (add_version key kind at account).books.stays ≡ stays_by (comes account.bucket key items (lines_of_kind key kind) at) stays
added_after key kind at items stays account is none =
    let bucket = account.bucket in
    ap (λ (l : List Booked). begin_stay key (of_version (next_id bucket)) (lines_of_kind key kind) at l)
    (replaced_stays key at account.books (versions_of key bucket) bucket.versioning none
    ∙ ap (λ (l : List Booked). after_ends key (null_ends bucket.versioning) at l) is
    ∙ sym (ends_more key items (null_ends bucket.versioning) at stays))

pub added : (key : List ℕ) (kind : Kind) (at : ℕ) (account : Account) → HasOpenStays account
    → (add_version key kind at account).books.stays ≡ stays_by (comes account.bucket key [] (lines_of_kind key kind) at) account.books.stays
added key kind at account has = added_after key kind at [] account.books.stays account refl (knows_none key Null account has)

pub removed : (key : List ℕ) (id : VersionId) (at : ℕ) (account : Account) → HasOpenStays account
    → (remove_version key id at account).books.stays ≡ stays_by (goes key (of_version id) at) account.books.stays
removed key id at account has =
    goes_option key id at account.books (version_at id (versions_of key account.bucket)) (λ v is. has_the_id id v (versions_of key account.bucket) is) (knows_none key id account has)

moved_option : (key : List ℕ) (id : VersionId) (to : Class) (at : ℕ) (books : Books) (o : Option Version) → ((v : Version) → o ≡ Some v → v.id ≡ id)
    → (books_moved key o to at books).stays ≡ stays_after (moves key id to at o) books.stays
moved_option key id to at books None has = refl
moved_option key id to at books (Some v) has =
    ap (λ (l : List Booked). begin_stay key (of_version v.id) (lines_of_kind key (kind_with_class to at v.kind)) at l) (early_stays v.kind at (with_end key (of_version v.id) at books))
    ∙ ap (λ (i : VersionId). begin_stay key (of_version i) (lines_of_kind key (kind_with_class to at v.kind)) at (end_stays key (of_version i) at books.stays)) (has v refl)

pub moved : (key : List ℕ) (id : VersionId) (to : Class) (at : ℕ) (account : Account)
    → (move_version key id to at account).books.stays ≡ stays_after (moves key id to at (version_at id (versions_of key account.bucket))) account.books.stays
moved key id to at account =
    moved_option key id to at account.books (version_at id (versions_of key account.bucket)) (λ v is. has_the_id id v (versions_of key account.bucket) is)

-- ---- uploads

parts_gone : (key : List ℕ) (number at : ℕ) (parts : List (ℕ × Part)) (books : Books)
    → (fold (λ (b : Books) (part : ℕ × Part). with_end key (of_part number part.0) at b) books parts).stays ≡ after_ends key (part_items number parts) at books.stays
parts_gone key number at [] books = refl
parts_gone key number at (part ∷ parts) books = parts_gone key number at parts (with_end key (of_part number part.0) at books)

pub gone : (number : ℕ) (upload : UploadRecord) (at : ℕ) (account : Account)
    → (remove_upload number upload at account).books.stays ≡ after_ends upload.key (part_items number upload.parts) at account.books.stays
gone number upload at account = parts_gone upload.key number at upload.parts account.books

dropped_option : (number at : ℕ) (account : Account) (o : Option UploadRecord) → at_number number account.bucket.uploads ≡ o
    → (remove_upload_at number at account).books.stays ≡ stays_after (dropped number at o) account.books.stays
dropped_option number at account None is = rw is refl
dropped_option number at account (Some upload) is = rw is (gone number upload at account)

-- ---- commands

abbrev pub Tells : Change → Option Plan → List Booked → Type 0
Tells change plan stays = (told : Account × Reply) → change ≡ Ok told → told.0.books.stays ≡ stays_after plan stays

abbrev pub done : Account × Reply → Change
done made = Ok made

pub told_is : (made told : Account × Reply) (plan : Option Plan) (stays : List Booked)
    → made.0.books.stays ≡ stays_after plan stays → done made ≡ done told → told.0.books.stays ≡ stays_after plan stays
told_is made told plan stays h is = let same : made ≡ told = cc in subst (λ (x : Account × Reply). x.0.books.stays ≡ stays_after plan stays) same h

pub tells_ok : (made : Account × Reply) (plan : Option Plan) (stays : List Booked) → made.0.books.stays ≡ stays_after plan stays → Tells (Ok made) plan stays
tells_ok made plan stays h told is = told_is made told plan stays h is

pub tells_err : (refusal : Refusal) (plan : Option Plan) (stays : List Booked) → Tells (Err refusal) plan stays
tells_err refusal plan stays told is = absurd cc

pub tells_unless : (b : Bool) (refusal : Refusal) (made : Account × Reply) (plan : Option Plan) (stays : List Booked)
    → made.0.books.stays ≡ stays_after plan stays → Tells (refuse_if b refusal made) plan stays
tells_unless true refusal made plan stays h = tells_err refusal plan stays
tells_unless false refusal made plan stays h = tells_ok made plan stays h

pub tells_stack : (o : Option StackRecord) (f : StackRecord → Change) (plan : Option Plan) (stays : List Booked)
    → ((s : StackRecord) → Tells (f s) plan stays) → Tells (ok_or o NoSuchKey >>= f) plan stays
tells_stack None f plan stays h = tells_err NoSuchKey plan stays
tells_stack (Some s) f plan stays h = h s

pub tells_bound : {X : Type 0} (r : Result X Refusal) (f : X → Change) (plan : Option Plan) (stays : List Booked) → ((x : X) → Tells (f x) plan stays) → Tells (r >>= f) plan stays
tells_bound (Ok x) f plan stays h = h x
tells_bound (Err refusal) f plan stays h = tells_err refusal plan stays

module _ (t : ℕ) (account : Account) (has : HasOpenStays account) where
  abbrev stays : List Booked
  stays = account.books.stays

  pub tells_put : (key : List ℕ) (size : ℕ) (class : Class) (tags : List Tag) → Tells (put_object t key size class tags account) (Some (comes account.bucket key [] (object_lines class size) t)) stays
  tells_put key size class tags =
      tells_ok (add_version key (Object size class tags t) t account, Stored t (next_id account.bucket))
      (Some (comes account.bucket key [] (object_lines class size) t)) stays
      (added key (Object size class tags t) t account has)

  tells_marked : (key : List ℕ) → (add_version key Marker t account).books.stays ≡ stays_by (marked account.bucket key t) stays
  tells_marked key = added key Marker t account has

  -- as in the definition of a delete
  delete_as : (key : List ℕ) → Versioning → Change
  delete_as key Unversioned =
      refuse_if (not (has_stack key account)) NoSuchKey (remove_version key Null t account, Deleted None)
  delete_as key kept = Ok (add_version key Marker t account, Deleted (Some (next_id account.bucket)))

  deleted_by : (key : List ℕ) (versioning : Versioning) → Tells (delete_as key versioning) (Some (deleted versioning account.bucket key t)) stays
  unfolding delete_as
  deleted_by key Unversioned =
      tells_unless (not (has_stack key account)) NoSuchKey (remove_version key Null t account, Deleted None)
      (Some (goes key (of_version Null) t)) stays (removed key Null t account has)
  deleted_by key Enabled = tells_ok (add_version key Marker t account, Deleted (Some (next_id account.bucket))) (Some (marked account.bucket key t)) stays (tells_marked key)
  deleted_by key Suspended = tells_ok (add_version key Marker t account, Deleted (Some (next_id account.bucket))) (Some (marked account.bucket key t)) stays (tells_marked key)

  pub tells_delete : (key : List ℕ) → Tells (delete t key account) (Some (deleted account.bucket.versioning account.bucket key t)) stays
  unfolding delete_as
  tells_delete key = deleted_by key account.bucket.versioning

  pub tells_delete_version : (key : List ℕ) (id : VersionId) → Tells (delete_version t key id account) (Some (goes key (of_version id) t)) stays
  tells_delete_version key id =
      tells_stack (at_name key account.bucket.stacks) (λ s. of_stack (found id s.versions)
      >>= (λ (v : Version). Ok (remove_version key id t account, VersionDeleted id)))
      (Some (goes key (of_version id) t)) stays
      (λ s. tells_bound (of_stack (found id s.versions))
      (λ (v : Version). Ok (remove_version key id t account, VersionDeleted id))
      (Some (goes key (of_version id) t)) stays (λ v. tells_ok
      (remove_version key id t account, VersionDeleted id) (Some (goes key (of_version id) t)) stays
      (removed key id t account has)))

  part_by : (number part size : ℕ) (o : Option UploadRecord)
      → Tells (ok_or o NoSuchUpload
      >>= (λ upload. refuse_if (not (admits_part part (new_part size t) upload.parts)) BadPart
      (add_part number upload part size t account, PartStored part))) (part_put number part size t o) stays
  part_by number part size None = tells_err NoSuchUpload None stays
  part_by number part size (Some upload) =
      tells_unless (not (admits_part part (new_part size t) upload.parts)) BadPart
      (add_part number upload part size t account, PartStored part) (part_put number part size t (Some upload))
      stays refl

  pub tells_part : (number part size : ℕ) → Tells (put_part t number part size account) (part_put number part size t (at_number number account.bucket.uploads)) stays
  tells_part number part size = part_by number part size (at_number number account.bucket.uploads)

  whole_stays : (number : ℕ) (upload : UploadRecord)
      → (add_version upload.key (Object (total_size upload.parts) upload.class upload.tags t) t
      (remove_upload number upload t account)).books.stays
      ≡ stays_by (made_whole account.bucket number t upload) stays
  whole_stays number upload =
      let account_without = remove_upload number upload t account in
      added_after upload.key (Object (total_size upload.parts) upload.class upload.tags t) t (part_items number upload.parts) stays account_without (gone number upload t account)
      (λ is. ap (open_of upload.key (of_version Null)) (gone number upload t account)
      ∙ still_after upload.key (part_items number upload.parts) t upload.key (of_version Null) stays (knows_none upload.key Null account has is))

  completed_by : (number : ℕ) (upload : UploadRecord) (b : Bool)
      → Tells (cond b (Err NoParts) (put_object t upload.key (total_size upload.parts) upload.class upload.tags
      (remove_upload number upload t account))) (cond b None (Some (made_whole account.bucket number t upload)))
      stays
  completed_by number upload true = tells_err NoParts None stays
  completed_by number upload false =
      tells_ok (
        add_version upload.key (Object (total_size upload.parts) upload.class upload.tags t) t
            (remove_upload number upload t account),
        Stored t (next_id account.bucket),
      ) (Some (made_whole account.bucket number t upload)) stays
      (whole_stays number upload)

  complete_by : (number : ℕ) (o : Option UploadRecord)
      → Tells (ok_or o NoSuchUpload
      >>= (λ upload. cond (is_empty upload.parts) (Err NoParts) (put_object t upload.key (total_size upload.parts)
      upload.class upload.tags (remove_upload number upload t account))))
      (completed account.bucket number t o) stays
  complete_by number None = tells_err NoSuchUpload None stays
  complete_by number (Some upload) = completed_by number upload (is_empty upload.parts)

  pub tells_complete : (number : ℕ) → Tells (complete t number account) (completed account.bucket number t (at_number number account.bucket.uploads)) stays
  tells_complete number = complete_by number (at_number number account.bucket.uploads)

  abort_by : (number : ℕ) (o : Option UploadRecord) → Tells (ok_or o NoSuchUpload >>= (λ upload. Ok (remove_upload number upload t account, Aborted number))) (dropped number t o) stays
  abort_by number None = tells_err NoSuchUpload None stays
  abort_by number (Some upload) = tells_ok (remove_upload number upload t account, Aborted number) (dropped number t (Some upload)) stays (gone number upload t account)

  pub tells_abort : (number : ℕ) → Tells (abort t number account) (dropped number t (at_number number account.bucket.uploads)) stays
  tells_abort number = abort_by number (at_number number account.bucket.uploads)

-- ---- lifecycle actions

effect_by : (key : List ℕ) (rule since : ℕ) (kind : ActionKind) (aim : Target) (account : Account) → HasOpenStays account
    → (effect (record { kind = kind; key = key; target = aim; rule = rule; since = since }) account).books.stays ≡ stays_after (action_done account.bucket key since kind aim) account.books.stays
unfolding effect
effect_by key rule since action.Remove (target.Version id) account has = removed key id since account has
effect_by key rule since (action.Transition to) (target.Version id) account has = moved key id to since account
effect_by key rule since action.Marker (target.Version id) account has = added key Marker since account has
effect_by key rule since action.Abort (target.Upload number) account has = dropped_option number since account (at_number number account.bucket.uploads) refl
effect_by key rule since action.Remove (target.Upload number) account has = refl
effect_by key rule since (action.Transition to) (target.Upload number) account has = refl
effect_by key rule since action.Marker (target.Upload number) account has = refl
effect_by key rule since action.Abort (target.Version id) account has = refl

module _ (t : ℕ) (account : Account) (has : HasOpenStays account) where
  -- as in the definition of an act
  act_of : Option Action → Change
  act_of None = Ok (account, NothingDue)
  act_of (Some chosen) = Ok (effect chosen account, shown_action chosen (marker_made chosen.kind account.bucket) account.bucket)

  acted_by : (o : Option Action) → Tells (act_of o) (acted account.bucket o) account.books.stays
  unfolding act_of
  acted_by None = tells_ok (account, NothingDue) None account.books.stays refl
  acted_by (Some a) =
      tells_ok (effect a account, shown_action a (marker_made a.kind account.bucket) account.bucket)
      (acted account.bucket (Some a)) account.books.stays
      (effect_by a.key a.rule a.since a.kind a.target account has)

  pub tells_act : Tells (act t account) (acted account.bucket (choice account.bucket t)) account.books.stays
  unfolding act_of
  tells_act = acted_by (choice account.bucket t)
