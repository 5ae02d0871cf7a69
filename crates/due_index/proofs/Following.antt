-- How the noncurrent versions of a key follow from those before a change: each one but the newest, and but the one whose
-- id the change touches, was noncurrent before, and is unchanged.
use Rattle.std.proofs.Common.{◌≡◌, ℕ, List, [], ◌∷◌, refl, sym, ap, ◌∙◌, subst, Bool, true, false, cond, not, filter, map, All}
use Rattle.std.specs.Prelude.{Option, Some, None, Contains, unwrap_or}
use Rattle.std.proofs.lemmas.List.Elements.{All-nil, All-map, All-weaker, All-tail, All-filter, All-contains_itself}
use Rattle.class_rules.specs.declared.class.Class.{Class}
use Rattle.office_base.specs.Tags.{Tag}
use Rattle.office_base.specs.declared.version_id.VersionId.{VersionId}
use Rattle.stacks.specs.Stacks.{StackRecord, has_id, without, changed_at, covered, new_stack, after_adding, after_removal, after_tags, after_move, with_tags, with_class}
use Rattle.stacks.specs.declared.version.Kind.{Kind}
use Rattle.stacks.specs.declared.version.Version.{Version}
use Rattle.stacks.proofs.Sole.{same_id_is}
use Rattle.due_index.specs.Blocks.{but_first, noncurrent_of}

-- the noncurrent versions of `after`, but the newest and the one with the id, are noncurrent ones of `before`
abbrev pub FollowsIn : Option VersionId → List Version → List Version → Type 0
FollowsIn touched before after =
    All (λ v. (touched ≡ Some v.id → ⊥) → Contains (but_first before) v) (but_first (but_first after))

-- ---- elements of lists

-- all but the first element
pub rest_all : {X : Type 0} (P : X → Type 0) (xs : List X) → All P xs → All P (but_first xs)
rest_all P [] all = all
rest_all P (x ∷ xs) all = All-tail P x xs all

-- where all from the second on are in a list, and the first is left out or not
first_or_not : {X : Type 0} (P : X → Type 0) (x : X) (ys : List X) (b : Bool) → All P ys → All P (but_first (cond b (x ∷ ys) ys))
first_or_not P x ys true all = all
first_or_not P x ys false all = rest_all P ys all

-- a filtered list from the second on is in the list from the second on
pub filter_rest : {X : Type 0} (p : X → Bool) (xs : List X) → All (Contains (but_first xs)) (but_first (filter p xs))
filter_rest p [] = All-nil (Contains [])
filter_rest p (x ∷ xs) = first_or_not (Contains xs) x (filter p xs) (p x) (All-filter p (Contains xs) xs (All-contains_itself xs))

-- ---- the weaker forms

-- none is left out
pub from_all : (touched : Option VersionId) (before after : List Version) → All (Contains (but_first before)) (but_first (but_first after))
    → FollowsIn touched before after
from_all touched before after all = All-weaker (Contains (but_first before)) (λ v. (touched ≡ Some v.id → ⊥) → Contains (but_first before) v)
    (λ v there apart. there) (but_first (but_first after)) all

-- the same versions
pub follows_itself : (touched : Option VersionId) (versions : List Version) → FollowsIn touched versions versions
follows_itself touched versions =
    from_all touched versions versions (rest_all (Contains (but_first versions)) (but_first versions) (All-contains_itself (but_first versions)))

-- ---- a version is put or removed

still_noncurrent : (at : ℕ) (versions : List Version) → but_first (covered at versions) ≡ but_first versions
still_noncurrent at [] = refl
still_noncurrent at (v ∷ vs) = refl

-- after a put or a delete marker
pub follows_adding : (touched : Option VersionId) (id : VersionId) (kind : Kind) (at : ℕ) (stack : StackRecord)
    → FollowsIn touched stack.versions (after_adding id kind at stack).versions
follows_adding touched id kind at stack =
    from_all touched stack.versions (after_adding id kind at stack).versions
    (subst (λ (vs : List Version). All (Contains vs) (but_first (without id (covered at stack.versions)))) (still_noncurrent at stack.versions)
    (filter_rest (λ v. not (has_id id v)) (covered at stack.versions)))

-- after a version is removed
pub follows_removal : (touched : Option VersionId) (id : VersionId) (at : ℕ) (stack : StackRecord)
    → FollowsIn touched stack.versions (after_removal id at stack).versions
follows_removal touched id at stack =
    from_all touched stack.versions (without id stack.versions)
    (rest_all (Contains (but_first stack.versions)) (but_first (without id stack.versions)) (filter_rest (λ v. not (has_id id v)) stack.versions))

-- ---- a version is changed

module _ (id : VersionId) (change : Version → Version) (keeps : (v : Version) → (change v).id ≡ v.id) where
  abbrev changed : Version → Version
  changed v = cond (has_id id v) (change v) v

  changed_rest : (versions : List Version) → but_first (changed_at id change versions) ≡ map changed (but_first versions)
  changed_rest [] = refl
  changed_rest (v ∷ vs) = refl

  -- a version is unchanged, or has the id
  one_changed : (vs : List Version) (v : Version) (b : Bool) → has_id id v ≡ b → Contains vs v
      → (Some id ≡ Some (cond b (change v) v).id → ⊥) → Contains vs (cond b (change v) v)
  one_changed vs v true is there apart = absurd (apart (ap Some (same_id_is id v.id is ∙ sym (keeps v))))
  one_changed vs v false is there apart = there

  pub follows_changed : (versions : List Version) → FollowsIn (Some id) versions (changed_at id change versions)
  follows_changed versions =
      let old = but_first versions in
      let P : Version → Type 0 = λ v. (Some id ≡ Some v.id → ⊥) → Contains old v in
      let all : All P (map changed old) =
      All-map P changed old (All-weaker (Contains old) (λ v. P (changed v)) (λ v there. one_changed old v (has_id id v) refl there) old (All-contains_itself old)) in
      rest_all P (but_first (changed_at id change versions)) (subst (λ (vs : List Version). All P vs) (sym (changed_rest versions)) all)

-- after an object gets new tags
pub follows_tags : (id : VersionId) (tags : List Tag) (at : ℕ) (stack : StackRecord) → FollowsIn (Some id) stack.versions (after_tags id tags at stack).versions
follows_tags id tags at stack = follows_changed id (with_tags tags) (λ v. refl) stack.versions

-- after an object moves to another class
pub follows_move : (id : VersionId) (to : Class) (at : ℕ) (stack : StackRecord) → FollowsIn (Some id) stack.versions (after_move id to at stack).versions
follows_move id to at stack = follows_changed id (with_class to at) (λ v. refl) stack.versions

-- ---- a key's stack, which may be absent

-- the same over stacks: no stack has no versions
abbrev pub FollowsOf : Option VersionId → Option StackRecord → Option StackRecord → Type 0
FollowsOf touched before after = All (λ v. (touched ≡ Some v.id → ⊥) → Contains (noncurrent_of before) v) (but_first (noncurrent_of after))

noncurrent_at : (o : Option StackRecord) → noncurrent_of o ≡ but_first (unwrap_or o (new_stack 0)).versions
noncurrent_at None = refl
noncurrent_at (Some stack) = refl

-- from a relation of the versions, where the key has a stack after
pub follows_there : (touched : Option VersionId) (before : Option StackRecord) (stack : StackRecord)
    → FollowsIn touched (unwrap_or before (new_stack 0)).versions stack.versions → FollowsOf touched before (Some stack)
follows_there touched None stack follows = follows
follows_there touched (Some old) stack follows = follows

-- a key without a stack
pub follows_gone : (touched : Option VersionId) (before : Option StackRecord) → FollowsOf touched before None
follows_gone touched before = All-nil (λ v. (touched ≡ Some v.id → ⊥) → Contains (noncurrent_of before) v)

-- the key's stack is the same
pub follows_same : (touched : Option VersionId) (before after : Option StackRecord) → after ≡ before → FollowsOf touched before after
follows_same touched before after same = subst (λ o. FollowsOf touched before o) (sym same) (itself before) where
  itself : (o : Option StackRecord) → FollowsOf touched o o
  itself None = follows_gone touched None
  itself (Some stack) = follows_itself touched stack.versions

-- the key has this stack now; or it has none, where the stack has no versions
pub follows_kept : (touched : Option VersionId) (before after : Option StackRecord) (stack : StackRecord) (none : Bool) → after ≡ cond none None (Some stack)
    → FollowsIn touched (unwrap_or before (new_stack 0)).versions stack.versions → FollowsOf touched before after
follows_kept touched before after stack true is follows = subst (λ o. FollowsOf touched before o) (sym is) (follows_gone touched before)
follows_kept touched before after stack false is follows = subst (λ o. FollowsOf touched before o) (sym is) (follows_there touched before stack follows)
