-- Stacks in which the ids differ: one version is removed or changed, and the others stay.
use Rattle.std.proofs.Common.{◌≡◌, ℕ, List, [], ◌∷◌, ◌++◌, refl, ap, ◌∙◌, Bool, true, false, not, ◌||◌, cond}
use Rattle.std.specs.List.{list_any}
use Rattle.std.proofs.lemmas.Bool.{and_parts, or_parts, or_from, and_from, not-true, not_from_false}
use Rattle.std.proofs.lemmas.List.Elements.{filter-append}
use Rattle.std.proofs.lemmas.List.{map-append}
use Rattle.stacks.specs.Stacks.{same_id, has_id, ids_differ, without, changed_at, covered, new_version, with_class}
use Rattle.class_rules.specs.declared.class.Class.{Class}
use Rattle.office_base.specs.declared.version_id.VersionId.{VersionId}
use Rattle.office_base.specs.declared.version_id.VersionId.TheVariants.{Null, Number}
use Rattle.stacks.specs.declared.version.Kind.{Kind}
use Rattle.stacks.specs.declared.version.Version.{Version}
use Rattle.stacks.proofs.Sole.{none_changed, none_without}
use Rattle.stacks.proofs.StackLaws.{any_filter, gone_without, differ_covered}
use Rattle.std.specs.Cmp.{nat_eq_equiv}

-- the versions after one came to the top
abbrev pub adding : VersionId → Kind → ℕ → List Version → List Version
adding id kind at versions = new_version id kind at ∷ without id (covered at versions)

pub same_itself : (id : VersionId) → same_id id id ≡ true
same_itself Null = refl
same_itself (Number n) = nat_eq_equiv.refl n

pub same_back : (a b : VersionId) → same_id a b ≡ same_id b a
same_back Null Null = refl
same_back Null (Number n) = refl
same_back (Number n) Null = refl
same_back (Number n) (Number m) = nat_eq_equiv.symm n m

any_at : (p : Version → Bool) (front : List Version) (v : Version) (back : List Version) → list_any p (front ++ v ∷ back) ≡ false → p v ≡ false
any_at p [] v back h = (or_parts (p v) (list_any p back) h).0
any_at p (f ∷ front) v back h = any_at p front v back (or_parts (p f) (list_any p (front ++ v ∷ back)) h).1

-- no other version has the id of this one
pub apart : (front : List Version) (v : Version) (back : List Version) → ids_differ (front ++ v ∷ back) ≡ true
    → (list_any (has_id v.id) front ≡ false) × (list_any (has_id v.id) back ≡ false)
apart [] v back h = (refl, not-true _ (and_parts (not (list_any (has_id v.id) back)) (ids_differ back) h).0)
apart (f ∷ front) v back h =
    let parts = and_parts (not (list_any (has_id f.id) (front ++ v ∷ back))) (ids_differ (front ++ v ∷ back)) h in
    let rest = apart front v back parts.1 in
    let here = any_at (has_id f.id) front v back (not-true _ parts.0) in
    (or_from (has_id v.id f) (list_any (has_id v.id) front) (same_back v.id f.id ∙ here) rest.0, rest.1)

pub without_one : (front : List Version) (v : Version) (back : List Version) → ids_differ (front ++ v ∷ back) ≡ true → without v.id (front ++ v ∷ back) ≡ front ++ back
without_one front v back h =
    let ids = apart front v back h in
    let same = same_itself v.id in
    filter-append (λ (version : Version). not (has_id v.id version)) front (v ∷ back)
    ∙ rw (same, none_without v.id front ids.0, none_without v.id back ids.1) refl

pub changed_one : (change : Version → Version) (front : List Version) (v : Version) (back : List Version) → ids_differ (front ++ v ∷ back) ≡ true
    → changed_at v.id change (front ++ v ∷ back) ≡ front ++ change v ∷ back
changed_one change front v back h =
    let ids = apart front v back h in
    let same = same_itself v.id in
    map-append (λ (version : Version). cond (has_id v.id version) (change version) version) front (v ∷ back)
    ∙ rw (same, none_changed v.id change front ids.0, none_changed v.id change back ids.1) refl

-- ---- the ids still differ

pub differ_without : (id : VersionId) (versions : List Version) → ids_differ versions ≡ true → ids_differ (without id versions) ≡ true
differ_without id [] h = refl
differ_without id (v ∷ versions) h = by (not (has_id id v)) (and_parts (not (list_any (has_id v.id) versions)) (ids_differ versions) h) (differ_without id versions) where
  by : (b : Bool) → (not (list_any (has_id v.id) versions) ≡ true) × (ids_differ versions ≡ true) → (ids_differ versions ≡ true → ids_differ (without id versions) ≡ true)
      → ids_differ (cond b (v ∷ without id versions) (without id versions)) ≡ true
  by true parts more = and_from _ _ (not_from_false _ (any_filter (has_id v.id) (λ version. not (has_id id version)) versions (not-true _ parts.0))) (more parts.1)
  by false parts more = more parts.1

pub differ_added : (id : VersionId) (kind : Kind) (at : ℕ) (versions : List Version) → ids_differ versions ≡ true → ids_differ (adding id kind at versions) ≡ true
differ_added id kind at versions h =
    and_from _ _ (not_from_false _ (gone_without id (covered at versions))) (differ_without id (covered at versions) (differ_covered at versions ∙ h))

any_moved : (i id : VersionId) (to : Class) (at : ℕ) (versions : List Version) → list_any (has_id i) (changed_at id (with_class to at) versions) ≡ list_any (has_id i) versions
any_moved i id to at [] = refl
any_moved i id to at (v ∷ versions) = by (has_id id v) (any_moved i id to at versions) where
  by : (b : Bool) → list_any (has_id i) (changed_at id (with_class to at) versions) ≡ list_any (has_id i) versions
      → list_any (has_id i) (cond b (with_class to at v) v ∷ changed_at id (with_class to at) versions) ≡ list_any (has_id i) (v ∷ versions)
  by true h = ap (λ (t : Bool). has_id i v || t) h
  by false h = ap (λ (t : Bool). has_id i v || t) h

pub differ_moved : (id : VersionId) (to : Class) (at : ℕ) (versions : List Version) → ids_differ (changed_at id (with_class to at) versions) ≡ ids_differ versions
differ_moved id to at [] = refl
differ_moved id to at (v ∷ versions) = by (has_id id v) (any_moved v.id id to at versions) (differ_moved id to at versions) where
  by : (b : Bool) → list_any (has_id v.id) (changed_at id (with_class to at) versions) ≡ list_any (has_id v.id) versions
      → ids_differ (changed_at id (with_class to at) versions) ≡ ids_differ versions
      → ids_differ (cond b (with_class to at v) v ∷ changed_at id (with_class to at) versions) ≡ ids_differ (v ∷ versions)
  by true h k = cc
  by false h k = cc
