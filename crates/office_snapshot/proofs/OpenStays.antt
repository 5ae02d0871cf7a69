-- The open stays that a bucket's records give, and that each item has its own among them.
use Rattle.std.proofs.Common.{◌≡◌, inl, inr, ℕ, Bool, true, false, ◌&&◌, not, cond, eqb, List, [], ◌∷◌, ◌++◌, map, Option, Some, None, refl, sym, ap, subst, ◌∙◌, arith}
use Rattle.std.specs.Prelude.{option_map, option_to_list, if◌then◌else◌, unwrap_or, is_none}
use Rattle.std.specs.Bool.{IsTrue}
use Rattle.std.specs.Str.{bytes_eq}
use Rattle.std.specs.declared.cmp.Ordering.{Ordering}
use Rattle.std.specs.declared.cmp.Ordering.TheVariants.{Less, Equal, Greater}
use Rattle.std.specs.Ordering.{is_eq, is_lt, nat_cmp}
use Rattle.std.specs.List.{flat_map, filter, list_any, find, AllByRecursion}
use Rattle.std.specs.Map.{lookup}
use Rattle.std.specs.BTreeMap.{is_at}
use Rattle.std.proofs.lemmas.Bool.{and_parts, or_parts, not-true, eqb-true, false≢true}
use Rattle.std.proofs.lemmas.List.{append-nil}
use Rattle.std.proofs.lemmas.Bool.Decides.{nat_tests}
use Rattle.std.proofs.lemmas.Map.Text.{is_eq-slice_cmp}
use Rattle.std.proofs.lemmas.List.Elements.{filter-append}
use Rattle.office_base.specs.Maps.{bytes_cmp, at_name, at_number, Rises}
use Rattle.office_base.specs.declared.version_id.VersionId.{VersionId}
use Rattle.stacks.specs.Stacks.{StackRecord, same_id, has_id, ids_differ, version_at, new_stack}
use Rattle.stacks.specs.declared.version.Version.{Version}
use Rattle.plain_office.specs.Office.{Booked, Item, of_version, of_part}
use Rattle.plain_office.specs.Books.{is_open_stay}
use Rattle.plain_office.specs.Orderly.{stay_of_version, stay_of_part, part_stays_expected, stays_expected, HasOpenStays}
use Rattle.uploads.specs.Uploads.{UploadRecord}
use Rattle.uploads.specs.declared.part.Part.{Part}
use Rattle.due_core.specs.Buckets.{BucketRecord}
use Rattle.stacks.proofs.Sole.{same_id_is}
use Rattle.office_laws.proofs.Maps.{IsKeyOrder, by_name, by_number, itself, bytes_itself, less_of, equal_of}
use Rattle.office_snapshot.specs.RecordStays.{stack_stays, part_stay, upload_stays, record_stays}

-- what was picked of a key
abbrev picked : {X B : Type 0} → (X → List B) → Option X → List B
picked f None = []
picked f (Some x) = f x

-- a filter that looks at one key of a map, whose keys rise
module _ {K X B : Type 0} {cmp : K → K → Ordering} (ko : IsKeyOrder cmp) (p : B → Bool) (f : K × X → List B) (key : K) (found : X → List B) (Q : K × X → Type 0)
    (other : (e : K × X) → is_eq (cmp key e.0) ≡ false → filter p (f e) ≡ [])
    (same : (e : K × X) → Q e → key ≡ e.0 → filter p (f e) ≡ found e.1) where
  none_picked : (k : K) (es : List (K × X)) → key ≡ k → AllByRecursion (λ e. IsTrue (is_lt (cmp k e.0))) es → filter p (flat_map f es) ≡ []
  none_picked k [] is above = refl
  none_picked k (e ∷ es) is above =
      let less : cmp key e.0 ≡ Less = ap (λ (x : K). cmp x e.0) is ∙ less_of (cmp k e.0) above.0 in
      let here = other e (ap is_eq less) in
      let more = none_picked k es is above.1 in
      filter-append p (f e) (flat_map f es) ∙ (λ i. here i ++ more i)

  by_test : (b : Bool) (e : K × X) (es : List (K × X)) → is_eq (cmp key e.0) ≡ b → Q e → AllByRecursion (λ x. IsTrue (is_lt (cmp e.0 x.0))) es
      → filter p (flat_map f es) ≡ picked found (lookup (is_at (cmp key)) es)
      → filter p (f e) ++ filter p (flat_map f es) ≡ picked found (cond b (Some e.1) (lookup (is_at (cmp key)) es))
  by_test true e es is q above more =
      let k = ko.same key e.0 (equal_of (cmp key e.0) is) in
      let here = same e q k in
      let none = none_picked e.0 es k above in
      (λ i. here i ++ none i) ∙ append-nil (found e.1)
  by_test false e es is q above more =
      let here = other e is in
      λ i. here i ++ more i

  pub one_picked : (es : List (K × X)) → Rises cmp es → AllByRecursion Q es → filter p (flat_map f es) ≡ picked found (lookup (is_at (cmp key)) es)
  one_picked [] rises all = refl
  one_picked (e ∷ es) rises all =
      filter-append p (f e) (flat_map f es) ∙ by_test (is_eq (cmp key e.0)) e es refl all.0 rises.0 (one_picked es rises.1 all.1)

-- ---- the versions of one stack

module _ (key : List ℕ) (id : VersionId) where
  test_is : (v : Version) → is_open_stay key (of_version id) (stay_of_version key v) ≡ same_id id v.id
  test_is v = ap (λ (b : Bool). b && same_id id v.id) (bytes_itself key)

  none_open : (vs : List Version) → list_any (has_id id) vs ≡ false → filter (is_open_stay key (of_version id)) (map (stay_of_version key) vs) ≡ []
  none_open [] none = refl
  none_open (v ∷ vs) none =
      let parts = or_parts (has_id id v) (list_any (has_id id) vs) none in
      let more = none_open vs parts.1 in
      rw (test_is v, parts.0) more

  by_id : (b : Bool) (v : Version) (vs : List Version) → same_id id v.id ≡ b → ids_differ (v ∷ vs) ≡ true
      → filter (is_open_stay key (of_version id)) (map (stay_of_version key) vs) ≡ option_to_list (option_map (stay_of_version key) (version_at id vs))
      → cond b (stay_of_version key v ∷ filter (is_open_stay key (of_version id)) (map (stay_of_version key) vs)) (filter (is_open_stay key (of_version id)) (map (stay_of_version key) vs))
      ≡ option_to_list (option_map (stay_of_version key) (cond b (Some v) (version_at id vs)))
  by_id true v vs is differ more =
      let parts = and_parts (not (list_any (has_id v.id) vs)) (ids_differ vs) differ in
      let none = none_open vs (ap (λ (x : VersionId). list_any (has_id x) vs) (same_id_is id v.id is) ∙ not-true _ parts.0) in
      ap (λ (l : List Booked). stay_of_version key v ∷ l) none
  by_id false v vs is differ more = more

  pub one_open : (vs : List Version) → ids_differ vs ≡ true → filter (is_open_stay key (of_version id)) (map (stay_of_version key) vs) ≡ option_to_list (option_map (stay_of_version key) (version_at id vs))
  one_open [] differ = refl
  one_open (v ∷ vs) differ =
      let parts = and_parts (not (list_any (has_id v.id) vs)) (ids_differ vs) differ in
      let stays = filter (is_open_stay key (of_version id)) (map (stay_of_version key) vs) in
      ap (λ (b : Bool). cond b (stay_of_version key v ∷ stays) stays) (test_is v)
      ∙ by_id (same_id id v.id) v vs refl differ (one_open vs parts.1)

-- ---- all of a bucket

-- those of the parts of an upload, each as a list
abbrev part_stays : ℕ × UploadRecord → ℕ × Part → List Booked
part_stays u q = part_stay u q ∷ []

parts_listed : (u : ℕ × UploadRecord) (qs : List (ℕ × Part)) → map (part_stay u) qs ≡ flat_map (part_stays u) qs
parts_listed u [] = refl
parts_listed u (q ∷ qs) = ap (λ (l : List Booked). part_stay u q ∷ l) (parts_listed u qs)

and_false : (b : Bool) → b && false ≡ false
and_false true = refl
and_false false = refl

other_name : (a b : List ℕ) → is_eq (bytes_cmp a b) ≡ false → bytes_eq a b ≡ false
other_name a b is = sym (is_eq-slice_cmp a b) ∙ is

other_number : (b : Bool) (m n : ℕ) → eqb m n ≡ b → is_eq (nat_cmp m n) ≡ false → b ≡ false
other_number false m n test is = refl
other_number true m n test is =
    let same = eqb-true m n test in
    absurd (false≢true (sym is ∙ ap (λ (k : ℕ). is_eq (nat_cmp m k)) (sym same) ∙ itself by_number m))

-- under another key no version is found
other_stack : (key k : List ℕ) (item : Item) (vs : List Version) → bytes_eq key k ≡ false → filter (is_open_stay key item) (map (stay_of_version k) vs) ≡ []
other_stack key k item [] is = refl
other_stack key k item (v ∷ vs) is = let more = other_stack key k item vs is in rw is more

-- no part is a version, and no version a part
no_part : (key : List ℕ) (id : VersionId) (u : ℕ × UploadRecord) (qs : List (ℕ × Part)) → filter (is_open_stay key (of_version id)) (map (part_stay u) qs) ≡ []
no_part key id u [] = refl
no_part key id u (q ∷ qs) = let more = no_part key id u qs in rw (and_false (bytes_eq key u.1.key)) more

no_parts : (key : List ℕ) (id : VersionId) (us : List (ℕ × UploadRecord)) → filter (is_open_stay key (of_version id)) (flat_map upload_stays us) ≡ []
no_parts key id [] = refl
no_parts key id (u ∷ us) =
    let here = no_part key id u u.1.parts in
    let more = no_parts key id us in
    filter-append (is_open_stay key (of_version id)) (upload_stays u) (flat_map upload_stays us) ∙ (λ i. here i ++ more i)

no_version : (key k : List ℕ) (number place : ℕ) (vs : List Version) → filter (is_open_stay key (of_part number place)) (map (stay_of_version k) vs) ≡ []
no_version key k number place [] = refl
no_version key k number place (v ∷ vs) = let more = no_version key k number place vs in rw (and_false (bytes_eq key k)) more

no_versions : (key : List ℕ) (number place : ℕ) (es : List (List ℕ × StackRecord)) → filter (is_open_stay key (of_part number place)) (flat_map stack_stays es) ≡ []
no_versions key number place [] = refl
no_versions key number place (e ∷ es) =
    let here = no_version key e.0 number place e.1.versions in
    let more = no_versions key number place es in
    filter-append (is_open_stay key (of_part number place)) (stack_stays e) (flat_map stack_stays es) ∙ (λ i. here i ++ more i)

-- ---- versions

abbrev Differ : List ℕ × StackRecord → Type 0
Differ e = ids_differ e.1.versions ≡ true

module _ (key : List ℕ) (id : VersionId) where
  abbrev of_stack : StackRecord → List Booked
  of_stack stack = option_to_list (option_map (stay_of_version key) (version_at id stack.versions))

  version_found : (es : List (List ℕ × StackRecord)) → Rises bytes_cmp es → AllByRecursion Differ es
      → filter (is_open_stay key (of_version id)) (flat_map stack_stays es) ≡ picked of_stack (at_name key es)
  version_found es rises differ =
      one_picked by_name (is_open_stay key (of_version id)) stack_stays key of_stack Differ
      (λ e other. other_stack key e.0 (of_version id) e.1.versions (other_name key e.0 other))
      (λ e differs is. ap (λ (k : List ℕ). filter (is_open_stay key (of_version id)) (map (stay_of_version k) e.1.versions)) (sym is) ∙ one_open key id e.1.versions differs)
      es rises differ

  expected_version : (o : Option StackRecord) → picked of_stack o ≡ option_to_list (option_map (stay_of_version key) (version_at id (unwrap_or o (new_stack 0)).versions))
  expected_version None = refl
  expected_version (Some stack) = refl

-- ---- parts

abbrev PartsRise : ℕ × UploadRecord → Type 0
PartsRise u = Rises nat_cmp u.1.parts

module _ (key : List ℕ) (number place : ℕ) where
  abbrev p : Booked → Bool
  p = is_open_stay key (of_part number place)

  abbrev of_upload : UploadRecord → List Booked
  of_upload upload = part_stays_expected key number place (Some upload)

  other_upload : (u : ℕ × UploadRecord) (qs : List (ℕ × Part)) → eqb number u.0 ≡ false → filter p (map (part_stay u) qs) ≡ []
  other_upload u [] is = refl
  other_upload u (q ∷ qs) is = let more = other_upload u qs is in rw (is, and_false (bytes_eq key u.1.key)) more

  other_key : (u : ℕ × UploadRecord) (qs : List (ℕ × Part)) → bytes_eq key u.1.key ≡ false → filter p (map (part_stay u) qs) ≡ []
  other_key u [] is = refl
  other_key u (q ∷ qs) is = let more = other_key u qs is in rw is more

  abbrev of_one : UploadRecord → Part → List Booked
  of_one upload part = stay_of_part number upload place part ∷ []

  single : (upload : UploadRecord) (o : Option Part) → picked (of_one upload) o ≡ option_to_list (option_map (stay_of_part number upload place) o)
  single upload None = refl
  single upload (Some part) = refl

  part_here : (u : ℕ × UploadRecord) (q : ℕ × Part) → bytes_eq key u.1.key ≡ true → number ≡ u.0 → place ≡ q.0 → filter p (part_stays u q) ≡ of_one u.1 q.1
  part_here u q named is at =
      let a : eqb number u.0 ≡ true = grind (arith, nat_tests) in
      let b : eqb place q.0 ≡ true = grind (arith, nat_tests) in
      rw (named, a, b) (λ i. stay_of_part (sym is i) u.1 (sym at i) q.1 ∷ [])

  part_there : (u : ℕ × UploadRecord) (q : ℕ × Part) → eqb place q.0 ≡ false → filter p (part_stays u q) ≡ []
  part_there u q is = rw (is, and_false (eqb number u.0), and_false (bytes_eq key u.1.key)) refl

  in_upload : (b : Bool) (u : ℕ × UploadRecord) → bytes_eq key u.1.key ≡ b → PartsRise u → number ≡ u.0
      → filter p (upload_stays u) ≡ cond b (option_to_list (option_map (stay_of_part number u.1 place) (at_number place u.1.parts))) []
  in_upload true u named rises is =
      ap (λ (l : List Booked). filter p l) (parts_listed u u.1.parts)
      ∙ one_picked by_number p (part_stays u) place (of_one u.1) (λ q. Unit {0})
      (λ q other. part_there u q (other_number (eqb place q.0) place q.0 refl other))
      (λ q any at. part_here u q named is at) u.1.parts rises (every_unit u.1.parts)
      ∙ single u.1 (at_number place u.1.parts)
    where
      every_unit : (qs : List (ℕ × Part)) → AllByRecursion (λ q. Unit {0}) qs
      every_unit [] = tt
      every_unit (q ∷ qs) = (tt, every_unit qs)
  in_upload false u named rises is = other_key u u.1.parts named

  part_found : (us : List (ℕ × UploadRecord)) → Rises nat_cmp us → AllByRecursion PartsRise us
      → filter p (flat_map upload_stays us) ≡ picked of_upload (at_number number us)
  part_found us rises all =
      one_picked by_number p upload_stays number of_upload PartsRise
      (λ u other. other_upload u u.1.parts (other_number (eqb number u.0) number u.0 refl other))
      (λ u parts is. in_upload (bytes_eq key u.1.key) u refl parts is) us rises all

  expected_part : (o : Option UploadRecord) → picked of_upload o ≡ part_stays_expected key number place o
  expected_part None = refl
  expected_part (Some upload) = refl

-- ---- both, with stays that have ended behind them

abbrev pub HaveAllEnded : List Booked → Type 0
HaveAllEnded stays = AllByRecursion (λ stay. is_none stay.1.to ≡ false) stays

no_ended : (key : List ℕ) (item : Item) (stays : List Booked) → HaveAllEnded stays → filter (is_open_stay key item) stays ≡ []
no_ended key item [] ended = refl
no_ended key item (s ∷ stays) ended = let more = no_ended key item stays ended.1 in rw ended.0 more

pub has_open_stays : (bucket : BucketRecord) (ended : List Booked) (early : _) (moves : _) → Rises bytes_cmp bucket.stacks → AllByRecursion Differ bucket.stacks
    → Rises nat_cmp bucket.uploads → AllByRecursion PartsRise bucket.uploads → HaveAllEnded ended
    → HasOpenStays (record { bucket = bucket; books = record { stays = record_stays bucket ++ ended; early = early; moves = moves } })
has_open_stays bucket ended early moves keys differ numbers parts all key (of_version id) =
    let test = is_open_stay key (of_version id) in
    let versions = version_found key id bucket.stacks keys differ ∙ expected_version key id (at_name key bucket.stacks) in
    let none = no_parts key id bucket.uploads in
    let past = no_ended key (of_version id) ended all in
    filter-append test (record_stays bucket) ended
    ∙ ap (λ (l : List Booked). l ++ filter test ended) (filter-append test (flat_map stack_stays bucket.stacks) (flat_map upload_stays bucket.uploads))
    ∙ (λ i. (versions i ++ none i) ++ past i)
    ∙ append-nil _ ∙ append-nil _
has_open_stays bucket ended early moves keys differ numbers parts all key (of_part number place) =
    let test = is_open_stay key (of_part number place) in
    let none = no_versions key number place bucket.stacks in
    let found = part_found key number place bucket.uploads numbers parts ∙ expected_part key number place (at_number number bucket.uploads) in
    let past = no_ended key (of_part number place) ended all in
    filter-append test (record_stays bucket) ended
    ∙ ap (λ (l : List Booked). l ++ filter test ended) (filter-append test (flat_map stack_stays bucket.stacks) (flat_map upload_stays bucket.uploads))
    ∙ (λ i. (none i ++ found i) ++ past i)
    ∙ append-nil _
