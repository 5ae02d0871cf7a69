-- The open stays of an account after each kind of change.
use Rattle.std.proofs.Common.{◌≡◌, ℕ, List, [], ◌∷◌, ◌++◌, refl, ap, sym, ◌∙◌, subst, Bool, true, false, ◌&&◌}
use Rattle.std.specs.Prelude.{Option, Some, None, option_map, option_to_list}
use Rattle.std.specs.Str.{bytes_eq}
use Rattle.std.proofs.lemmas.Bool.{and_parts}
use Rattle.office_base.specs.Maps.{bytes_cmp, at_number, Rises}
use Rattle.stacks.specs.Stacks.{same_id, version_at, without, covered, new_version, with_tags, with_class, changed_at}
use Rattle.class_rules.specs.declared.class.Class.{Class}
use Rattle.office_base.specs.declared.version_id.VersionId.{VersionId}
use Rattle.stacks.specs.declared.version.Kind.{Kind}
use Rattle.stacks.specs.declared.version.Kind.TheVariants.{Object, Marker}
use Rattle.stacks.specs.declared.version.Version.{Version}
use Rattle.uploads.specs.Uploads.{UploadRecord}
use Rattle.due_core.specs.Buckets.{BucketRecord}
use Rattle.plain_office.specs.Office.{Item, of_version, of_part, Booked, Books, Account}
use Rattle.plain_office.specs.Books.{same_item, with_version, without_version, without_option, lines_of_kind}
use Rattle.plain_office.specs.Changes.{versions_of, next_id, number_after, remove_version, move_version, books_moved}
use Rattle.plain_office.specs.Orderly.{lines_since, stay_of_version, part_stays_expected, stays_expected, HasOpenStays, is_object}
use Rattle.office_laws.proofs.Ids.{adding, same_itself}
use Rattle.office_laws.proofs.Maps.{bytes_same}
use Rattle.office_laws.proofs.Versions.{IsFresh, tags_change, class_change, found_id, without_itself, without_other, covered_at, changed_itself, changed_other, with_kind}
use Rattle.office_laws.proofs.Stays.{item_same, is_of, open_of, begun, open_begun, open_other, version_ended, version_kept}
use Rattle.office_laws.proofs.Buckets.{with_versions, versions_here, versions_there, uploads_with}

-- ---- one item changed

module _ (account : Account) (after : BucketRecord) (books : Books) (key : List ℕ) (item : Item) (has : HasOpenStays account)
    (here : open_of key item books.stays ≡ stays_expected after key item)
    (open_there : (k : List ℕ) (i : Item) → is_of k i key item ≡ false → open_of k i books.stays ≡ open_of k i account.books.stays)
    (asked_there : (k : List ℕ) (i : Item) → is_of k i key item ≡ false → stays_expected after k i ≡ stays_expected account.bucket k i) where
  stays_at : (k : List ℕ) (i : Item) (b : Bool) → is_of k i key item ≡ b → open_of k i books.stays ≡ stays_expected after k i
  stays_at k i true is =
      let both = and_parts (bytes_eq k key) (same_item i item) is in
      let keys = bytes_same k key both.0 in
      let items = item_same i item both.1 in
      rw (keys, items) here
  stays_at k i false is = open_there k i is ∙ has k i ∙ sym (asked_there k i is)

  pub stays_by : HasOpenStays (record { bucket = after; books = books })
  stays_by k i = stays_at k i (is_of k i key item) refl

-- ---- one version changed

module _ (before after : BucketRecord) (key : List ℕ) (id : VersionId)
    (uploads : after.uploads ≡ before.uploads)
    (others : (k : List ℕ) → bytes_eq k key ≡ false → versions_of k after ≡ versions_of k before)
    (inside : (j : VersionId) → same_id j id ≡ false
    → option_map (stay_of_version key) (version_at j (versions_of key after)) ≡ option_map (stay_of_version key) (version_at j (versions_of key before))) where
  asked_elsewhere : (k : List ℕ) (j : VersionId) → bytes_eq k key ≡ false → stays_expected after k (of_version j) ≡ stays_expected before k (of_version j)
  asked_elsewhere k j differs = ap (λ (l : List Version). option_to_list (option_map (stay_of_version k) (version_at j l))) (others k differs)

  asked_inside : (k : List ℕ) (j : VersionId) → k ≡ key → same_id j id ≡ false → stays_expected after k (of_version j) ≡ stays_expected before k (of_version j)
  asked_inside k j same differs = rw same (ap (λ (o : Option Booked). option_to_list o) (inside j differs))

  asked_at : (k : List ℕ) (j : VersionId) (b c : Bool) → bytes_eq k key ≡ b → same_id j id ≡ c → b && c ≡ false → stays_expected after k (of_version j) ≡ stays_expected before k (of_version j)
  asked_at k j true true x y h = absurd cc
  asked_at k j true false x y h = asked_inside k j (bytes_same k key x) y
  asked_at k j false c x y h = asked_elsewhere k j x

  pub asked_same : (k : List ℕ) (i : Item) → is_of k i key (of_version id) ≡ false → stays_expected after k i ≡ stays_expected before k i
  asked_same k (of_part number place) differs = ap (λ (l : List (ℕ × UploadRecord)). part_stays_expected k number place (at_number number l)) uploads
  asked_same k (of_version j) differs = asked_at k j (bytes_eq k key) (same_id j id) refl refl differs

-- ---- the version of an id goes

module _ (key : List ℕ) (id : VersionId) (at : ℕ) (account : Account) (has : HasOpenStays account) where
  abbrev left_books : Books
  left_books = without_option key (version_at id (versions_of key account.bucket)) at account.books

  ended_by : (o : Option Version) → version_at id (versions_of key account.bucket) ≡ o → open_of key (of_version id) (without_option key o at account.books).stays ≡ []
  ended_by None is = has key (of_version id) ∙ ap (λ (o : Option Version). option_to_list (option_map (stay_of_version key) o)) is
  ended_by (Some v) is =
      subst (λ (i : VersionId). open_of key (of_version i) (without_version key v at account.books).stays ≡ [])
      (sym (found_id id (versions_of key account.bucket) v is)) (version_ended key v at account.books)

  pub ended : open_of key (of_version id) left_books.stays ≡ []
  ended = ended_by (version_at id (versions_of key account.bucket)) refl

  kept_by : (o : Option Version) → version_at id (versions_of key account.bucket) ≡ o → (k : List ℕ) (i : Item) → is_of k i key (of_version id) ≡ false
      → open_of k i (without_option key o at account.books).stays ≡ open_of k i account.books.stays
  kept_by None is k i differs = refl
  kept_by (Some v) is k i differs =
      version_kept key v at account.books k i
      (subst (λ (j : VersionId). is_of k i key (of_version j) ≡ false) (found_id id (versions_of key account.bucket) v is) differs)

  pub kept : (k : List ℕ) (i : Item) → is_of k i key (of_version id) ≡ false → open_of k i left_books.stays ≡ open_of k i account.books.stays
  kept = kept_by (version_at id (versions_of key account.bucket)) refl

stay_covered : (key : List ℕ) (at : ℕ) (v : Version) → stay_of_version key (record v { ceased = at }) ≡ stay_of_version key v
stay_covered key at v = by v.kind v.id v.created v.ceased where
  by : (kind : Kind) (id : VersionId) (created ceased : ℕ)
      → stay_of_version key (record { id = id; kind = kind; created = created; ceased = at })
      ≡ stay_of_version key (with_kind id created ceased kind)
  by (Object size class tags entered) id created ceased = refl
  by Marker id created ceased = refl

stay_tagged : (key : List ℕ) (tags : List (List ℕ × List ℕ)) (v : Version) → stay_of_version key (with_tags tags v) ≡ stay_of_version key v
stay_tagged key tags v = by v.kind v.id v.created v.ceased where
  by : (kind : Kind) (id : VersionId) (created ceased : ℕ) → stay_of_version key (with_tags tags (with_kind id created ceased kind)) ≡ stay_of_version key (with_kind id created ceased kind)
  by (Object size class before entered) id created ceased = refl
  by Marker id created ceased = refl

-- ---- a version comes

new_since : (id : VersionId) (kind : Kind) (at : ℕ) → IsFresh at kind → lines_since (new_version id kind at) ≡ at
new_since id (Object size class tags entered) at fresh = fresh
new_since id Marker at fresh = refl

-- where the version that has the new one's id goes
abbrev pub added : List ℕ → Kind → ℕ → Account → Account
added key kind at account =
    let bucket = account.bucket in
    let versions = versions_of key bucket in
    let id = next_id bucket in
    record {
      bucket = record (with_versions key at (adding id kind at versions) bucket) { next_version = number_after bucket.versioning bucket.next_version };
      books = with_version key (new_version id kind at) at (without_option key (version_at id versions) at account.books);
    }

pub stays_added : (key : List ℕ) (kind : Kind) (at : ℕ) (account : Account) → IsFresh at kind → Rises bytes_cmp account.bucket.stacks → HasOpenStays account
    → HasOpenStays (added key kind at account)
stays_added key kind at account fresh rises has =
    stays_by account after.bucket after.books key (of_version id) has here
    (λ k i differs. open_other k i key (of_version id) differs (lines_of_kind key kind) at left.stays ∙ kept key id at account has k i differs)
    (asked_same account.bucket after.bucket key id refl others inside)
  where
    id : VersionId
    id = next_id account.bucket

    versions : List Version
    versions = versions_of key account.bucket

    after : Account
    after = added key kind at account

    left : Books
    left = without_option key (version_at id versions) at account.books

    versions_after : versions_of key after.bucket ≡ adding id kind at versions
    versions_after = versions_here account.bucket key at (adding id kind at versions) rises

    here : open_of key (of_version id) after.books.stays ≡ stays_expected after.bucket key (of_version id)
    here =
        open_begun key (of_version id) (lines_of_kind key kind) at left.stays
        ∙ rw (ended key id at account has)
        (sym (rw (versions_after, same_itself id, new_since id kind at fresh) refl))

    others : (k : List ℕ) → bytes_eq k key ≡ false → versions_of k after.bucket ≡ versions_of k account.bucket
    others k differs = versions_there account.bucket key at (adding id kind at versions) k differs

    inside : (j : VersionId) → same_id j id ≡ false
        → option_map (stay_of_version key) (version_at j (versions_of key after.bucket)) ≡ option_map (stay_of_version key) (version_at j versions)
    inside j differs =
        rw (versions_after, differs, without_other id j differs (covered at versions)) (covered_at (stay_of_version key) at (stay_covered key at) j versions)

-- ---- a version goes

pub stays_removed : (key : List ℕ) (id : VersionId) (at : ℕ) (account : Account) → Rises bytes_cmp account.bucket.stacks → HasOpenStays account
    → HasOpenStays (remove_version key id at account)
stays_removed key id at account rises has =
    stays_by account after.bucket after.books key (of_version id) has here
    (kept key id at account has)
    (asked_same account.bucket after.bucket key id (uploads_with account.bucket key at (without id versions)) others inside)
  where
    versions : List Version
    versions = versions_of key account.bucket

    after : Account
    after = remove_version key id at account

    versions_after : versions_of key after.bucket ≡ without id versions
    versions_after = versions_here account.bucket key at (without id versions) rises

    here : open_of key (of_version id) after.books.stays ≡ stays_expected after.bucket key (of_version id)
    here = ended key id at account has ∙ sym (rw (versions_after, without_itself id versions) refl)

    others : (k : List ℕ) → bytes_eq k key ≡ false → versions_of k after.bucket ≡ versions_of k account.bucket
    others k differs = versions_there account.bucket key at (without id versions) k differs

    inside : (j : VersionId) → same_id j id ≡ false
        → option_map (stay_of_version key) (version_at j (versions_of key after.bucket)) ≡ option_map (stay_of_version key) (version_at j versions)
    inside j differs = rw (versions_after, without_other id j differs versions) refl

-- ---- a version moves

-- an object, or none
abbrev pub MayMove : Option Version → Type 0
MayMove None = Unit {0}
MayMove (Some version) = is_object version.kind ≡ true

moved_since : (to : Class) (at : ℕ) (id : VersionId) (created ceased : ℕ) (kind : Kind) → is_object kind ≡ true → lines_since (with_class to at (with_kind id created ceased kind)) ≡ at
moved_since to at id created ceased (Object size class tags entered) h = refl
moved_since to at id created ceased Marker h = absurd cc

pub stays_moved : (key : List ℕ) (id : VersionId) (to : Class) (at : ℕ) (account : Account)
    → MayMove (version_at id (versions_of key account.bucket)) → Rises bytes_cmp account.bucket.stacks
    → HasOpenStays account
    → HasOpenStays (move_version key id to at account)
stays_moved key id to at account may rises has = by (version_at id (versions_of key account.bucket)) refl may where
  versions : List Version
  versions = versions_of key account.bucket

  after : BucketRecord
  after = with_versions key at (changed_at id (with_class to at) versions) account.bucket

  versions_after : versions_of key after ≡ changed_at id (with_class to at) versions
  versions_after = versions_here account.bucket key at (changed_at id (with_class to at) versions) rises

  others : (k : List ℕ) → bytes_eq k key ≡ false → versions_of k after ≡ versions_of k account.bucket
  others k differs = versions_there account.bucket key at (changed_at id (with_class to at) versions) k differs

  inside : (j : VersionId) → same_id j id ≡ false
      → option_map (stay_of_version key) (version_at j (versions_of key after)) ≡ option_map (stay_of_version key) (version_at j versions)
  inside j differs = rw (versions_after, changed_other id (with_class to at) (class_change to at) j differs versions) refl

  stands : version_at id (versions_of key after) ≡ option_map (with_class to at) (version_at id versions)
  stands = rw versions_after (changed_itself id (with_class to at) (class_change to at) versions)

  asked : (k : List ℕ) (i : Item) → is_of k i key (of_version id) ≡ false → stays_expected after k i ≡ stays_expected account.bucket k i
  asked = asked_same account.bucket after key id (uploads_with account.bucket key at (changed_at id (with_class to at) versions)) others inside

  begun_in : Version → Books → List Booked
  begun_in v books = books.stays ++ begun key (of_version v.id) (lines_of_kind key (with_class to at v).kind) at ∷ []

  stay_begun : (v : Version) → is_object v.kind ≡ true → stay_of_version key (with_class to at v) ≡ begun key (of_version v.id) (lines_of_kind key (with_class to at v).kind) at
  stay_begun v object = ap (λ (n : ℕ). begun key (of_version v.id) (lines_of_kind key (with_class to at v).kind) n) (moved_since to at v.id v.created v.ceased v.kind object)

  here : (v : Version) → version_at id versions ≡ Some v → is_object v.kind ≡ true
      → open_of key (of_version id) (begun_in v (without_version key v at account.books))
      ≡ stays_expected after key (of_version id)
  here v is object =
      subst (λ (i : VersionId). open_of key (of_version i) (begun_in v (without_version key v at account.books)) ≡ begun key (of_version v.id) (lines_of_kind key (with_class to at v).kind) at ∷ [])
      (sym (found_id id versions v is))
      (open_begun key (of_version v.id) (lines_of_kind key (with_class to at v).kind) at (without_version key v at account.books).stays ∙ rw (version_ended key v at account.books) refl)
      ∙ sym (ap (λ (o : Option Version). option_to_list (option_map (stay_of_version key) o)) (stands ∙ ap (option_map (with_class to at)) is) ∙ ap (λ (s : Booked). s ∷ []) (stay_begun v object))

  by : (o : Option Version) → version_at id versions ≡ o → MayMove o → HasOpenStays (record { bucket = after; books = books_moved key o to at account.books })
  by None is may = stays_by account after account.books key (of_version id) has
      (has key (of_version id) ∙ ap (λ (o : Option Version). option_to_list (option_map (stay_of_version key) o)) (is ∙ sym (stands ∙ ap (option_map (with_class to at)) is)))
      (λ k i differs. refl) asked
  by (Some v) is object = stays_by account after (books_moved key (Some v) to at account.books) key (of_version id) has
      (here v is object)
      (λ k i differs.
      let apart = subst (λ (j : VersionId). is_of k i key (of_version j) ≡ false) (found_id id versions v is) differs in
      open_other k i key (of_version v.id) apart (lines_of_kind key (with_class to at v).kind) at (without_version key v at account.books).stays
      ∙ version_kept key v at account.books k i apart)
      asked

-- ---- a version gets other tags

pub stays_tagged : (key : List ℕ) (id : VersionId) (tags : List (List ℕ × List ℕ)) (at : ℕ) (account : Account) → Rises bytes_cmp account.bucket.stacks → HasOpenStays account
    → HasOpenStays (record account { bucket = with_versions key at (changed_at id (with_tags tags) (versions_of key account.bucket)) account.bucket })
stays_tagged key id tags at account rises has =
    stays_by account after account.books key (of_version id) has (has key (of_version id) ∙ sym (ap (λ (o : Option Booked). option_to_list o) here)) (λ k i differs. refl)
    (asked_same account.bucket after key id (uploads_with account.bucket key at (changed_at id (with_tags tags) versions)) others inside)
  where
    versions : List Version
    versions = versions_of key account.bucket

    after : BucketRecord
    after = with_versions key at (changed_at id (with_tags tags) versions) account.bucket

    versions_after : versions_of key after ≡ changed_at id (with_tags tags) versions
    versions_after = versions_here account.bucket key at (changed_at id (with_tags tags) versions) rises

    others : (k : List ℕ) → bytes_eq k key ≡ false → versions_of k after ≡ versions_of k account.bucket
    others k differs = versions_there account.bucket key at (changed_at id (with_tags tags) versions) k differs

    inside : (j : VersionId) → same_id j id ≡ false
        → option_map (stay_of_version key) (version_at j (versions_of key after)) ≡ option_map (stay_of_version key) (version_at j versions)
    inside j differs = rw (versions_after, changed_other id (with_tags tags) (tags_change tags) j differs versions) refl

    same : (o : Option Version) → option_map (stay_of_version key) (option_map (with_tags tags) o) ≡ option_map (stay_of_version key) o
    same None = refl
    same (Some v) = ap (λ (s : Booked). Some s) (stay_tagged key tags v)

    here : option_map (stay_of_version key) (version_at id (versions_of key after)) ≡ option_map (stay_of_version key) (version_at id versions)
    here = rw (versions_after, changed_itself id (with_tags tags) (tags_change tags) versions) (same (version_at id versions))
