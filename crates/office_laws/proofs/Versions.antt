-- The versions of a key after each kind of change: whether the stack is orderly, which versions it has, and its counts.
use Rattle.std.proofs.Common.{◌≡◌, ℕ, ◌+◌, ◌<◌, ◌≤◌, List, [], ◌∷◌, length, refl, ap, sym, ◌∙◌, subst, Bool, true, false, not, ◌&&◌, cond, arith}
use Rattle.std.specs.Prelude.{Option, Some, None, option_map, nat_le, sum_by}
use Rattle.std.specs.List.{AllByRecursion, list_any, list_all}
use Rattle.std.proofs.lemmas.Bool.{and_parts, and_from, le-leb}
use Rattle.std.proofs.lemmas.List.Sums.{sum_by-cons}
use Rattle.std.proofs.lemmas.Bool.Decides.{nat_tests}
use Rattle.office_base.specs.Sizes.{largest_size}
use Rattle.stacks.specs.Stacks.{same_id, has_id, ids_differ, has_moments_until, version_at, without, covered, new_id, new_version, replaced, with_tags, with_class, changed_at}
use Rattle.plain_office.specs.Changes.{number_after}
use Rattle.class_rules.specs.declared.class.Class.{Class}
use Rattle.office_base.specs.declared.version_id.VersionId.{VersionId}
use Rattle.office_base.specs.declared.version_id.VersionId.TheVariants.{Null, Number}
use Rattle.stacks.specs.declared.version.Versioning.{Versioning}
use Rattle.stacks.specs.declared.version.Versioning.TheVariants.{Unversioned, Enabled, Suspended}
use Rattle.stacks.specs.declared.version.Kind.{Kind}
use Rattle.stacks.specs.declared.version.Kind.TheVariants.{Object, Marker}
use Rattle.stacks.specs.declared.version.Version.{Version}
use Rattle.stacks.specs.Stacks.{StackRecord}
use Rattle.stacks.proofs.Sole.{same_id_is}
use Rattle.stacks.proofs.StackLaws.{le_later}
use Rattle.plain_office.specs.Counts.{tag_bytes_of}
use Rattle.plain_office.specs.Orderly.{IsNumberBelow, IsOneNullObject, FitsVersioning, IsOrderlyStack, current_is_object, is_object, size_of}
use Rattle.office_laws.proofs.Ids.{adding, differ_without, differ_added}
use Rattle.office_laws.proofs.Lists.{every_true, all_true, every_filter, every_weaker, every_map, sum_filtered, length_filtered}

-- ---- ids

-- ---- moments

abbrev pub HasMoments : ℕ → Version → Type 0
HasMoments at version = has_moments_until at version ≡ true

module _ (id : VersionId) (created ceased : ℕ) where
  abbrev pub with_kind : Kind → Version
  with_kind kind = record { id = id; kind = kind; created = created; ceased = ceased }

  kind_later : (a b : ℕ) → a ≤ b → (kind : Kind) → HasMoments a (with_kind kind) → HasMoments b (with_kind kind)
  kind_later a b le Marker h =
      let first = and_parts (nat_le created a && nat_le ceased a) true h in
      let two = and_parts (nat_le created a) (nat_le ceased a) first.0 in
      and_from _ _ (and_from _ _ (le_later created a b le two.0) (le_later ceased a b le two.1)) refl
  kind_later a b le (Object size class tags entered) h =
      let first = and_parts (nat_le created a && nat_le ceased a) (nat_le created entered && nat_le entered a) h in
      let two = and_parts (nat_le created a) (nat_le ceased a) first.0 in
      let own = and_parts (nat_le created entered) (nat_le entered a) first.1 in
      and_from _ _ (and_from _ _ (le_later created a b le two.0) (le_later ceased a b le two.1)) (and_from _ _ own.0 (le_later entered a b le own.1))

  kind_covered : (at : ℕ) (kind : Kind) → HasMoments at (with_kind kind) → HasMoments at (record (with_kind kind) { ceased = at })
  kind_covered at Marker h =
      let first = and_parts (nat_le created at && nat_le ceased at) true h in
      let two = and_parts (nat_le created at) (nat_le ceased at) first.0 in
      and_from _ _ (and_from _ _ two.0 (le-leb at at (omega arith))) refl
  kind_covered at (Object size class tags entered) h =
      let first = and_parts (nat_le created at && nat_le ceased at) (nat_le created entered && nat_le entered at) h in
      let two = and_parts (nat_le created at) (nat_le ceased at) first.0 in
      and_from _ _ (and_from _ _ two.0 (le-leb at at (omega arith))) first.1

  kind_tagged : (at : ℕ) (tags : List (List ℕ × List ℕ)) (kind : Kind) → HasMoments at (with_kind kind) → HasMoments at (with_tags tags (with_kind kind))
  kind_tagged at tags Marker h = h
  kind_tagged at tags (Object size class before entered) h = h

  kind_moved : (at : ℕ) (to : Class) (kind : Kind) → HasMoments at (with_kind kind) → HasMoments at (with_class to at (with_kind kind))
  kind_moved at to Marker h = h
  kind_moved at to (Object size class tags entered) h =
      let first = and_parts (nat_le created at && nat_le ceased at) (nat_le created entered && nat_le entered at) h in
      let two = and_parts (nat_le created at) (nat_le ceased at) first.0 in
      and_from _ _ first.0 (and_from _ _ two.0 (le-leb at at (omega arith)))

pub moments_later : (a b : ℕ) → a ≤ b → (v : Version) → HasMoments a v → HasMoments b v
moments_later a b le v h = kind_later v.id v.created v.ceased a b le v.kind h

moments_covered : (at : ℕ) (v : Version) → HasMoments at v → HasMoments at (record v { ceased = at })
moments_covered at v h = kind_covered v.id v.created v.ceased at v.kind h

pub moments_tagged : (at : ℕ) (tags : List (List ℕ × List ℕ)) (v : Version) → HasMoments at v → HasMoments at (with_tags tags v)
moments_tagged at tags v h = kind_tagged v.id v.created v.ceased at tags v.kind h

pub moments_moved : (at : ℕ) (to : Class) (v : Version) → HasMoments at v → HasMoments at (with_class to at v)
moments_moved at to v h = kind_moved v.id v.created v.ceased at to v.kind h

-- a kind that a version has as it comes
abbrev pub IsFresh : ℕ → Kind → Type 0
IsFresh at Marker = Unit {0}
IsFresh at (Object size class tags entered) = entered ≡ at

moments_new : (at : ℕ) (id : VersionId) (kind : Kind) → IsFresh at kind → HasMoments at (new_version id kind at)
moments_new at id Marker fresh = and_from _ _ (and_from _ _ (le-leb at at (omega arith)) (le-leb at at (omega arith))) refl
moments_new at id (Object size class tags entered) fresh =
    and_from _ _ (and_from _ _ (le-leb at at (omega arith)) (le-leb at at (omega arith))) (and_from _ _ (le-leb at entered (omega arith)) (le-leb entered at (omega arith)))

-- ---- what an orderly stack asks of its versions, where there are any

abbrev pub MayKeep : Versioning → List Version → Type 0
MayKeep versioning [] = Unit {0}
MayKeep versioning (v ∷ versions) = FitsVersioning versioning (v ∷ versions)

pub record Fits (versioning : Versioning) (next at : ℕ) (versions : List Version) : Type 0 where
  pub differ : ids_differ versions ≡ true
  pub moments : AllByRecursion (HasMoments at) versions
  pub numbers : AllByRecursion (λ version. IsNumberBelow next version.id) versions
  pub only_null : MayKeep versioning versions
  pub sizes : AllByRecursion (λ version. size_of version.kind ≤ largest_size) versions

pub fits_none : (versioning : Versioning) (next at : ℕ) → Fits versioning next at []
fits_none versioning next at = record { differ = refl; moments = tt; numbers = tt; only_null = tt; sizes = tt }

may_keep : (versioning : Versioning) (versions : List Version) → FitsVersioning versioning versions → MayKeep versioning versions
may_keep versioning [] h = tt
may_keep versioning (v ∷ versions) h = h

pub fits_stack : (versioning : Versioning) (next last at : ℕ) (stack : StackRecord) → IsOrderlyStack versioning next last stack → stack.changed ≤ at → Fits versioning next at stack.versions
fits_stack versioning next last at stack h le =
    let parts = and_parts (ids_differ stack.versions) (list_all (has_moments_until stack.changed) stack.versions) h.ids_and_moments in
    record {
      differ = parts.0;
      moments = every_weaker (HasMoments stack.changed) (HasMoments at) (moments_later stack.changed at le) stack.versions (every_true (has_moments_until stack.changed) stack.versions parts.1);
      numbers = h.numbers;
      only_null = may_keep versioning stack.versions h.fits;
      sizes = h.sizes;
    }

pub stack_fits : (versioning : Versioning) (next last at : ℕ) (v : Version) (versions : List Version) → Fits versioning next at (v ∷ versions) → at ≤ last
    → IsOrderlyStack versioning next last (record { changed = at; versions = v ∷ versions })
stack_fits versioning next last at v versions h le = record {
  some = omega arith;
  ids_and_moments = and_from _ _ h.differ (all_true (has_moments_until at) (v ∷ versions) h.moments);
  numbers = h.numbers;
  fits = h.only_null;
  sizes = h.sizes;
  changed = le;
}

-- ---- one goes

none_without : (id : VersionId) (versions : List Version) → versions ≡ [] → without id versions ≡ []
none_without id versions h = ap (λ (l : List Version). without id l) h

keep_without : (versioning : Versioning) (id : VersionId) (versions : List Version) → MayKeep versioning versions → MayKeep versioning (without id versions)
keep_without Unversioned id [] h = tt
keep_without Unversioned id (v ∷ versions) h = by (not (has_id id v)) where
  by : (b : Bool) → MayKeep Unversioned (cond b (v ∷ without id versions) (without id versions))
  by true = (none_without id versions h.0, h.1, h.2)
  by false = subst (MayKeep Unversioned) (sym (none_without id versions h.0)) tt
keep_without Enabled id versions h = any (without id versions) where
  any : (l : List Version) → MayKeep Enabled l
  any [] = tt
  any (v ∷ l) = tt
keep_without Suspended id versions h = any (without id versions) where
  any : (l : List Version) → MayKeep Suspended l
  any [] = tt
  any (v ∷ l) = tt

pub fits_without : (versioning : Versioning) (next at : ℕ) (id : VersionId) (versions : List Version) → Fits versioning next at versions → Fits versioning next at (without id versions)
fits_without versioning next at id versions h = record {
  differ = differ_without id versions h.differ;
  moments = every_filter (HasMoments at) (λ version. not (has_id id version)) versions h.moments;
  numbers = every_filter (λ version. IsNumberBelow next version.id) (λ version. not (has_id id version)) versions h.numbers;
  only_null = keep_without versioning id versions h.only_null;
  sizes = every_filter (λ version. size_of version.kind ≤ largest_size) (λ version. not (has_id id version)) versions h.sizes;
}

-- ---- one is changed

-- the id stays, and an object stays one
pub record IsChange (change : Version → Version) : Type 0 where
  pub id : (v : Version) → (change v).id ≡ v.id
  pub object : (v : Version) → is_object (change v).kind ≡ is_object v.kind
  pub size : (v : Version) → size_of (change v).kind ≡ size_of v.kind

module _ (tags : List (List ℕ × List ℕ)) (id : VersionId) (created ceased : ℕ) where
  tag_object : (kind : Kind) → is_object (with_tags tags (with_kind id created ceased kind)).kind ≡ is_object kind
  tag_object Marker = refl
  tag_object (Object size class before entered) = refl

  tag_size : (kind : Kind) → size_of (with_tags tags (with_kind id created ceased kind)).kind ≡ size_of kind
  tag_size Marker = refl
  tag_size (Object size class before entered) = refl

module _ (to : Class) (at : ℕ) (id : VersionId) (created ceased : ℕ) where
  move_object : (kind : Kind) → is_object (with_class to at (with_kind id created ceased kind)).kind ≡ is_object kind
  move_object Marker = refl
  move_object (Object size class tags entered) = refl

  move_size : (kind : Kind) → size_of (with_class to at (with_kind id created ceased kind)).kind ≡ size_of kind
  move_size Marker = refl
  move_size (Object size class tags entered) = refl

pub tags_change : (tags : List (List ℕ × List ℕ)) → IsChange (with_tags tags)
tags_change tags = record {
  id = λ v. refl;
  object = λ v. tag_object tags v.id v.created v.ceased v.kind;
  size = λ v. tag_size tags v.id v.created v.ceased v.kind;
}

pub class_change : (to : Class) (at : ℕ) → IsChange (with_class to at)
class_change to at = record {
  id = λ v. refl;
  object = λ v. move_object to at v.id v.created v.ceased v.kind;
  size = λ v. move_size to at v.id v.created v.ceased v.kind;
}

module _ (id : VersionId) (change : Version → Version) (is : IsChange change) where
  any_changed : (i : VersionId) (versions : List Version) → list_any (has_id i) (changed_at id change versions) ≡ list_any (has_id i) versions
  any_changed i [] = refl
  any_changed i (v ∷ versions) = by (has_id id v) (any_changed i versions) where
    by : (b : Bool) → list_any (has_id i) (changed_at id change versions) ≡ list_any (has_id i) versions
        → list_any (has_id i) (cond b (change v) v ∷ changed_at id change versions) ≡ list_any (has_id i) (v ∷ versions)
    by true h = rw (is.id v, h) refl
    by false h = rw h refl

  differ_changed : (versions : List Version) → ids_differ (changed_at id change versions) ≡ ids_differ versions
  differ_changed [] = refl
  differ_changed (v ∷ versions) = by (has_id id v) (any_changed v.id versions) (differ_changed versions) where
    by : (b : Bool) → list_any (has_id v.id) (changed_at id change versions) ≡ list_any (has_id v.id) versions
        → ids_differ (changed_at id change versions) ≡ ids_differ versions
        → ids_differ (cond b (change v) v ∷ changed_at id change versions) ≡ ids_differ (v ∷ versions)
    by true h k = rw (is.id v, h, k) refl
    by false h k = rw (h, k) refl

  every_changed : (P : Version → Type 0) → ((v : Version) → P v → P (change v)) → (versions : List Version) → AllByRecursion P versions → AllByRecursion P (changed_at id change versions)
  every_changed P f versions h = every_map P P _ (λ v p. by v p (has_id id v)) versions h where
    by : (v : Version) → P v → (b : Bool) → P (cond b (change v) v)
    by v p true = f v p
    by v p false = p

  none_changed : (versions : List Version) → versions ≡ [] → changed_at id change versions ≡ []
  none_changed versions h = ap (λ (l : List Version). changed_at id change l) h

  keep_changed : (versioning : Versioning) (versions : List Version) → MayKeep versioning versions → MayKeep versioning (changed_at id change versions)
  keep_changed versioning [] h = tt
  keep_changed Unversioned (v ∷ versions) h = by (has_id id v) where
    by : (b : Bool) → IsOneNullObject (cond b (change v) v ∷ changed_at id change versions)
    by true = (none_changed versions h.0, is.id v ∙ h.1, is.object v ∙ h.2)
    by false = (none_changed versions h.0, h.1, h.2)
  keep_changed Enabled (v ∷ versions) h = tt
  keep_changed Suspended (v ∷ versions) h = tt

  pub fits_changed : (versioning : Versioning) (next at : ℕ) → ((v : Version) → HasMoments at v → HasMoments at (change v)) → (versions : List Version)
      → Fits versioning next at versions → Fits versioning next at (changed_at id change versions)
  fits_changed versioning next at moments versions h = record {
    differ = differ_changed versions ∙ h.differ;
    moments = every_changed (HasMoments at) moments versions h.moments;
    numbers = every_changed (λ version. IsNumberBelow next version.id) (λ v n. subst (IsNumberBelow next) (sym (is.id v)) n) versions h.numbers;
    only_null = keep_changed versioning versions h.only_null;
    sizes = every_changed (λ version. size_of version.kind ≤ largest_size) (λ v n. subst (λ (size : ℕ). size ≤ largest_size) (sym (is.size v)) n) versions h.sizes;
  }

-- ---- one comes

below_more : (next more : ℕ) → next ≤ more → (id : VersionId) → IsNumberBelow next id → IsNumberBelow more id
below_more next more le Null h = tt
below_more next more le (Number n) h = (h.0, omega (arith, le, h.1))

every_covered : (P : Version → Type 0) (at : ℕ) → ((v : Version) → P v → P (record v { ceased = at })) → (versions : List Version) → AllByRecursion P versions → AllByRecursion P (covered at versions)
every_covered P at f [] h = tt
every_covered P at f (v ∷ versions) h = (f v h.0, h.1)

pub next_more : (versioning : Versioning) (next : ℕ) → next ≤ number_after versioning next
next_more Unversioned next = omega arith
next_more Enabled next = omega arith
next_more Suspended next = omega arith

new_below : (versioning : Versioning) (next : ℕ) → 0 < next → IsNumberBelow (number_after versioning next) (new_id versioning next)
new_below Unversioned next h = tt
new_below Enabled next h = (h, omega arith)
new_below Suspended next h = tt

-- no version has the next number
not_next : (next : ℕ) (id : VersionId) → IsNumberBelow next id → same_id (Number next) id ≡ false
not_next next Null h = refl
not_next next (Number n) h = let below = h.1 in grind (arith, nat_tests)

none_next : (next : ℕ) (versions : List Version) → AllByRecursion (λ version. IsNumberBelow next version.id) versions → version_at (Number next) versions ≡ None
none_next next [] h = refl
none_next next (v ∷ versions) h = let other = not_next next v.id h.0 in rw other (none_next next versions h.1)

-- the version that a new one replaces is the one that has its id
pub replaced_is : (versioning : Versioning) (next : ℕ) (versions : List Version) → AllByRecursion (λ version. IsNumberBelow next version.id) versions
    → version_at (new_id versioning next) versions ≡ replaced versioning versions
replaced_is Unversioned next versions h = refl
replaced_is Enabled next versions h = none_next next versions h
replaced_is Suspended next versions h = refl

-- no markers in a bucket that keeps no versions
abbrev pub KindFits : Versioning → Kind → Type 0
KindFits Unversioned Marker = ⊥
KindFits Unversioned (Object size class tags entered) = Unit {0}
KindFits Enabled kind = Unit {0}
KindFits Suspended kind = Unit {0}

null_gone : (at : ℕ) (versions : List Version) → MayKeep Unversioned versions → without Null (covered at versions) ≡ []
null_gone at [] h = refl
null_gone at (v ∷ versions) h =
    let null : has_id Null v ≡ true = ap (λ (i : VersionId). same_id Null i) h.1 in
    rw null (none_without Null versions h.0)

keep_added : (versioning : Versioning) (next at : ℕ) (kind : Kind) (versions : List Version) → KindFits versioning kind → MayKeep versioning versions
    → MayKeep versioning (adding (new_id versioning next) kind at versions)
keep_added Unversioned next at Marker versions fits h = absurd fits
keep_added Unversioned next at (Object size class tags entered) versions fits h = (null_gone at versions h, refl, refl)
keep_added Enabled next at kind versions fits h = tt
keep_added Suspended next at kind versions fits h = tt

pub stack_later : (versioning : Versioning) (next more a b : ℕ) → next ≤ more → a ≤ b → (stack : StackRecord) → IsOrderlyStack versioning next a stack → IsOrderlyStack versioning more b stack
stack_later versioning next more a b le later stack h = record {
  some = h.some;
  ids_and_moments = h.ids_and_moments;
  numbers = every_weaker (λ version. IsNumberBelow next version.id) (λ version. IsNumberBelow more version.id) (λ version n. below_more next more le version.id n) stack.versions h.numbers;
  fits = h.fits;
  sizes = h.sizes;
  changed = let before = h.changed in omega arith;
}

pub fits_added : (versioning : Versioning) (next at : ℕ) (kind : Kind) (versions : List Version) → 0 < next
    → IsFresh at kind → KindFits versioning kind → size_of kind ≤ largest_size → Fits versioning next at versions
    → Fits versioning (number_after versioning next) at (adding (new_id versioning next) kind at versions)
fits_added versioning next at kind versions some fresh fits small h =
    let id = new_id versioning next in
    let more = number_after versioning next in
    record {
      differ = differ_added id kind at versions h.differ;
      moments = (
        moments_new at id kind fresh,
        every_filter (HasMoments at) (λ version. not (has_id id version)) (covered at versions)
            (every_covered (HasMoments at) at (moments_covered at) versions h.moments),
      );
      numbers = (
        new_below versioning next some,
        every_filter (λ version. IsNumberBelow more version.id) (λ version. not (has_id id version)) (covered at versions)
            (every_covered (λ version. IsNumberBelow more version.id) at (λ v n. n) versions
            (every_weaker (λ version. IsNumberBelow next version.id) (λ version. IsNumberBelow more version.id)
            (λ version n. below_more next more (next_more versioning next) version.id n) versions h.numbers)),
      );
      only_null = keep_added versioning next at kind versions fits h.only_null;
      sizes = (
        small,
        every_filter (λ version. size_of version.kind ≤ largest_size) (λ version. not (has_id id version)) (covered at versions)
            (every_covered (λ version. size_of version.kind ≤ largest_size) at (λ v n. n) versions h.sizes),
      );
    }

-- ---- which version stands under an id

pub found_id : (id : VersionId) (versions : List Version) (v : Version) → version_at id versions ≡ Some v → id ≡ v.id
found_id id [] v h = absurd cc
found_id id (w ∷ versions) v h = by (has_id id w) refl h (found_id id versions v) where
  by : (b : Bool) → has_id id w ≡ b → cond b (Some w) (version_at id versions) ≡ Some v → (version_at id versions ≡ Some v → id ≡ v.id) → id ≡ v.id
  by true is k more = let same : w ≡ v = cc in same_id_is id w.id is ∙ ap (λ (x : Version). x.id) same
  by false is k more = more k

pub without_itself : (id : VersionId) (versions : List Version) → version_at id (without id versions) ≡ None
without_itself id [] = refl
without_itself id (v ∷ versions) = by (has_id id v) refl (without_itself id versions) where
  by : (b : Bool) → has_id id v ≡ b → version_at id (without id versions) ≡ None → version_at id (cond (not b) (v ∷ without id versions) (without id versions)) ≡ None
  by true is h = h
  by false is h = rw is h

pub without_other : (id other : VersionId) → same_id other id ≡ false → (versions : List Version) → version_at other (without id versions) ≡ version_at other versions
without_other id other differs [] = refl
without_other id other differs (v ∷ versions) = by (has_id id v) refl (without_other id other differs versions) where
  by : (b : Bool) → has_id id v ≡ b → version_at other (without id versions) ≡ version_at other versions
      → version_at other (cond (not b) (v ∷ without id versions) (without id versions)) ≡ cond (has_id other v) (Some v) (version_at other versions)
  by true is h =
      let no : has_id other v ≡ false = ap (λ (i : VersionId). same_id other i) (sym (same_id_is id v.id is)) ∙ differs in
      rw no h
  by false is h = ap (λ (o : Option Version). cond (has_id other v) (Some v) o) h

-- what does not tell when a version ceased to be current is the same of the covered versions
pub covered_at : {X : Type 0} (f : Version → X) (at : ℕ) → ((v : Version) → f (record v { ceased = at }) ≡ f v) → (id : VersionId) (versions : List Version)
    → option_map f (version_at id (covered at versions)) ≡ option_map f (version_at id versions)
covered_at f at same id [] = refl
covered_at f at same id (v ∷ versions) = by (has_id id v) where
  by : (b : Bool) → option_map f (cond b (Some (record v { ceased = at })) (version_at id versions)) ≡ option_map f (cond b (Some v) (version_at id versions))
  by true = ap (λ x. Some x) (same v)
  by false = refl

module _ (id : VersionId) (change : Version → Version) (is : IsChange change) where
  pub changed_itself : (versions : List Version) → version_at id (changed_at id change versions) ≡ option_map change (version_at id versions)
  changed_itself [] = refl
  changed_itself (v ∷ versions) = by (has_id id v) refl (changed_itself versions) where
    by : (b : Bool) → has_id id v ≡ b → version_at id (changed_at id change versions) ≡ option_map change (version_at id versions)
        → version_at id (cond b (change v) v ∷ changed_at id change versions) ≡ option_map change (cond b (Some v) (version_at id versions))
    by true has h = let here : has_id id (change v) ≡ true = ap (λ (i : VersionId). same_id id i) (is.id v) ∙ has in rw here refl
    by false has h = rw has h

  pub changed_other : (other : VersionId) → same_id other id ≡ false → (versions : List Version) → version_at other (changed_at id change versions) ≡ version_at other versions
  changed_other other differs [] = refl
  changed_other other differs (v ∷ versions) = by (has_id id v) refl (changed_other other differs versions) where
    by : (b : Bool) → has_id id v ≡ b → version_at other (changed_at id change versions) ≡ version_at other versions
        → version_at other (cond b (change v) v ∷ changed_at id change versions) ≡ cond (has_id other v) (Some v) (version_at other versions)
    by true has h =
        let no : has_id other v ≡ false = ap (λ (i : VersionId). same_id other i) (sym (same_id_is id v.id has)) ∙ differs in
        let no_more : has_id other (change v) ≡ false = ap (λ (i : VersionId). same_id other i) (is.id v) ∙ no in
        rw (no, no_more) h
    by false has h = ap (λ (o : Option Version). cond (has_id other v) (Some v) o) h

  pub changed_length : (versions : List Version) → length (changed_at id change versions) ≡ length versions
  changed_length [] = refl
  changed_length (v ∷ versions) = let h = changed_length versions in omega (arith, h)

  current_changed : (versions : List Version) → current_is_object (changed_at id change versions) ≡ current_is_object versions
  current_changed [] = refl
  current_changed (v ∷ versions) = by (has_id id v) where
    by : (b : Bool) → is_object (cond b (change v) v).kind ≡ is_object v.kind
    by true = is.object v
    by false = refl

-- ---- what the versions count: each one, and one more where the current one is an object

abbrev pub stack_count : List Version → ℕ
stack_count versions = length versions + cond (current_is_object versions) 1 0

one_most : (b : Bool) → cond b 1 0 ≤ 1
one_most true = omega arith
one_most false = omega arith

pub count_most : (versions : List Version) → stack_count versions ≤ length versions + 1
count_most versions = let most = one_most (current_is_object versions) in omega (arith, most)

pub count_without : (id : VersionId) (versions : List Version) → stack_count (without id versions) ≤ stack_count versions
count_without id [] = omega arith
count_without id (v ∷ versions) = by (not (has_id id v)) where
  fewer : length (without id versions) ≤ length versions
  fewer = length_filtered (λ version. not (has_id id version)) versions

  by : (b : Bool) → stack_count (cond b (v ∷ without id versions) (without id versions)) ≤ stack_count (v ∷ versions)
  by true = let h = fewer in omega (arith, h)
  by false = let most = count_most (without id versions) in let h = fewer in omega (arith, most, h)

pub count_changed : (id : VersionId) (change : Version → Version) → IsChange change → (versions : List Version) → stack_count (changed_at id change versions) ≡ stack_count versions
count_changed id change is versions = rw (changed_length id change is versions, current_changed id change is versions) refl

covered_length : (at : ℕ) (versions : List Version) → length (covered at versions) ≡ length versions
covered_length at [] = refl
covered_length at (v ∷ versions) = refl

-- a marker on a current object
pub count_marked : (id : VersionId) (at : ℕ) (versions : List Version) → current_is_object versions ≡ true → stack_count (adding id Marker at versions) ≤ stack_count versions
count_marked id at versions current =
    let fewer = length_filtered (λ version. not (has_id id version)) (covered at versions) in
    let same = covered_length at versions in
    rw current (omega (arith, fewer, same))

-- ---- the bytes of their tags

pub tags_without : (id : VersionId) (versions : List Version) → sum_by tag_bytes_of (without id versions) ≤ sum_by tag_bytes_of versions
tags_without id versions = sum_filtered tag_bytes_of (λ version. not (has_id id version)) versions

tags_covered : (at : ℕ) (versions : List Version) → sum_by tag_bytes_of (covered at versions) ≡ sum_by tag_bytes_of versions
tags_covered at [] = refl
tags_covered at (v ∷ versions) =
    let a = sum_by-cons tag_bytes_of (record v { ceased = at }) versions in
    let b = sum_by-cons tag_bytes_of v versions in
    a ∙ sym b

pub tags_marked : (id : VersionId) (at : ℕ) (versions : List Version) → sum_by tag_bytes_of (adding id Marker at versions) ≤ sum_by tag_bytes_of versions
tags_marked id at versions =
    let fewer = tags_without id (covered at versions) in
    let same = tags_covered at versions in
    let cons = sum_by-cons tag_bytes_of (new_version id Marker at) (without id (covered at versions)) in
    omega (arith, fewer, same, cons)

moved_tags : (to : Class) (at : ℕ) (id : VersionId) (created ceased : ℕ) (kind : Kind)
    → tag_bytes_of (with_class to at (with_kind id created ceased kind)) ≡ tag_bytes_of (with_kind id created ceased kind)
moved_tags to at id created ceased Marker = refl
moved_tags to at id created ceased (Object size class tags entered) = refl

pub tags_moved : (i : VersionId) (to : Class) (at : ℕ) (versions : List Version) → sum_by tag_bytes_of (changed_at i (with_class to at) versions) ≡ sum_by tag_bytes_of versions
tags_moved i to at [] = refl
tags_moved i to at (v ∷ versions) =
    let here = by (has_id i v) in
    let rest = tags_moved i to at versions in
    let a = sum_by-cons tag_bytes_of (cond (has_id i v) (with_class to at v) v) (changed_at i (with_class to at) versions) in
    let b = sum_by-cons tag_bytes_of v versions in
    omega (arith, here, rest, a, b)
  where
    by : (b : Bool) → tag_bytes_of (cond b (with_class to at v) v) ≡ tag_bytes_of v
    by true = moved_tags to at v.id v.created v.ceased v.kind
    by false = refl
