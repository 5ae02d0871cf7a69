-- What stays true of an account when its bucket's choice is done.
use Rattle.std.proofs.Common.{◌≡◌, ℕ, ◌≤◌, List, [], ◌∷◌, ◌++◌, refl, ap, sym, ◌∙◌, subst, true, false, inl, arith}
use Rattle.std.specs.Prelude.{Option, Some, None}
use Rattle.std.specs.List.{list_any}
use Rattle.std.proofs.lemmas.Bool.{and_parts, or_parts}
use Rattle.office_base.specs.Maps.{at_name, at_number}
use Rattle.stacks.specs.Stacks.{has_id, ids_differ, version_at}
use Rattle.class_rules.specs.declared.class.Class.{Class}
use Rattle.office_base.specs.declared.version_id.VersionId.{VersionId}
use Rattle.stacks.specs.declared.version.Versioning.{Versioning}
use Rattle.stacks.specs.declared.version.Versioning.TheVariants.{Unversioned, Enabled, Suspended}
use Rattle.stacks.specs.declared.version.Kind.{Kind}
use Rattle.stacks.specs.declared.version.Kind.TheVariants.{Object, Marker}
use Rattle.stacks.specs.declared.version.Version.{Version}
use Rattle.stacks.specs.Stacks.{StackRecord}
use Rattle.uploads.specs.Uploads.{UploadRecord}
use Rattle.due_core.specs.Choice.{choice}
use Rattle.due_core.specs.declared.action.Action.{Action}
use Rattle.due_core.specs.declared.action.ActionKind.{ActionKind}
use Rattle.due_core.specs.declared.action.ActionKind.TheVariants as action
use Rattle.due_core.specs.declared.action.Target.{Target}
use Rattle.due_core.specs.declared.action.Target.TheVariants as target
use Rattle.plain_office.specs.Office.{Account}
use Rattle.plain_office.specs.Changes.{remove_upload_at, effect}
use Rattle.plain_office.specs.Orderly.{current_is_object, is_object}
use Rattle.office_types.specs.declared.refusal.What.{What}
use Rattle.office_laws.proofs.Ids.{same_itself, apart}
use Rattle.office_laws.proofs.Lowers as lowers
use Rattle.office_laws.proofs.Asked.{HasPlace, Suits, choice_suits}
use Rattle.office_laws.proofs.Ends.{tidy_from_orderly}
use Rattle.office_laws.proofs.Versions.{KindFits}
use Rattle.office_laws.proofs.Buckets.{ChangedBy, stack_orderly, versions_are}
use Rattle.office_laws.proofs.Accounts.{MayMove}
use Rattle.office_laws.proofs.Chosen.{MayMark, HasTarget, chosen_holds, chosen_come, chosen_target}
use Rattle.office_laws.proofs.Closed.{keeps_same}
use Rattle.office_laws.proofs.Changes.{IsKept, Keeps, keeps_removed, keeps_moved, keeps_marked, keeps_aborted}

-- ---- the version of a place

pub place_version : (front : List Version) (v : Version) (back : List Version) → list_any (has_id v.id) front ≡ false → version_at v.id (front ++ v ∷ back) ≡ Some v
place_version [] v back h = let same = same_itself v.id in rw same refl
place_version (f ∷ front) v back h =
    let parts = or_parts (has_id v.id f) (list_any (has_id v.id) front) h in
    rw parts.0 (place_version front v back parts.1)

object_moves : (to : Class) (kind : Kind) → lowers.MoveFits to kind → is_object kind ≡ true
object_moves to (Object size class tags entered) fits = refl
object_moves to Marker fits = absurd fits

may_move : (to : Class) (id : VersionId) (versions : List Version) → ids_differ versions ≡ true → HasPlace versions (action.Transition to) id → MayMove (version_at id versions)
may_move to id versions differ place =
    let is : version_at place.version.id versions ≡ Some place.version =
    ap (λ (l : List Version). version_at place.version.id l) place.is
    ∙ place_version place.front place.version place.back (apart place.front place.version place.back (ap ids_differ (sym place.is) ∙ differ)).0 in
    subst (λ (i : VersionId). MayMove (version_at i versions)) place.same (subst MayMove (sym is) (object_moves to place.version.kind place.fits))

current_at : (kind : Kind) (id : VersionId) (created ceased : ℕ) (front back : List Version) → lowers.MarkerFits kind front
    → current_is_object (front ++ record { id = id; kind = kind; created = created; ceased = ceased } ∷ back) ≡ true
current_at (Object size class tags entered) id created ceased [] back fits = refl
current_at (Object size class tags entered) id created ceased (f ∷ front) back fits = absurd fits
current_at Marker id created ceased front back fits = absurd fits

is_current : (id : VersionId) (versions : List Version) → HasPlace versions action.Marker id → current_is_object versions ≡ true
is_current id versions place =
    ap current_is_object place.is
    ∙ current_at place.version.kind place.version.id place.version.created place.version.ceased place.front place.back place.fits

marker_kept : (versioning : Versioning) → MayMark versioning action.Marker → KindFits versioning Marker
marker_kept Unversioned fits = absurd fits
marker_kept Enabled fits = tt
marker_kept Suspended fits = tt

-- ---- an action that is chosen

pub keeps_all : (last until : ℕ) (whats : List What) (account : Account) → IsKept last until account → Keeps last until whats account account
keeps_all last until whats account h = record {
  account = h;
  grows = record { versions = inl (omega arith); uploads = inl (omega arith); parts = inl (omega arith); names = inl (omega arith); rules = inl (omega arith) };
  books = keeps_same until account.books;
}

module _ (last until : ℕ) (whats : List What) (account : Account) (h : IsKept last until account) (key : List ℕ) (rule since : ℕ) (later : until ≤ since) (by : since ≤ last) where
  stack_since : (stack : StackRecord) → at_name key account.bucket.stacks ≡ Some stack → stack.changed ≤ since → ChangedBy account.bucket key since
  stack_since stack found le other is =
      let same : stack ≡ other = cc in
      subst (λ (s : StackRecord). s.changed ≤ since) same le

  differ_at : (stack : StackRecord) → at_name key account.bucket.stacks ≡ Some stack → ids_differ stack.versions ≡ true
  differ_at stack found = (and_parts (ids_differ stack.versions) _ (stack_orderly account.bucket key last h.bucket stack found).ids_and_moments).0

  abort_by : (number : ℕ) (o : Option UploadRecord) → at_number number account.bucket.uploads ≡ o → Keeps last until whats account (remove_upload_at number since account)
  abort_by number None is = rw is (keeps_all last until whats account h)
  abort_by number (Some upload) is = rw is (keeps_aborted last until since account h later by number upload whats is)

  done_keeps : (kind : ActionKind) (goal : Target) → Suits account.bucket key kind goal → HasTarget account.bucket since key kind goal
      → Keeps last until whats account (effect (record { kind = kind; key = key; target = goal; rule = rule; since = since }) account)
  unfolding effect
  done_keeps action.Remove (target.Version id) suits there = keeps_removed last until since account h later by key (stack_since there.0 there.1 there.2) id whats
  done_keeps (action.Transition to) (target.Version id) suits there =
      keeps_moved last until since account h later by key (stack_since there.0 there.1 there.2) id to whats
      (subst (λ (l : List Version). MayMove (version_at id l)) (sym (versions_are account.bucket key suits.0 suits.1)) (may_move to id suits.0.versions (differ_at suits.0 suits.1) suits.2))
  done_keeps action.Marker (target.Version id) suits there =
      keeps_marked last until since account h later by key (stack_since there.0 there.1 there.2) whats (marker_kept account.bucket.versioning there.3)
      (ap current_is_object (versions_are account.bucket key suits.0 suits.1) ∙ is_current id suits.0.versions suits.2)
  done_keeps action.Abort (target.Version id) suits there = keeps_all last until whats account h
  done_keeps action.Remove (target.Upload number) suits there = keeps_all last until whats account h
  done_keeps (action.Transition to) (target.Upload number) suits there = keeps_all last until whats account h
  done_keeps action.Marker (target.Upload number) suits there = keeps_all last until whats account h
  done_keeps action.Abort (target.Upload number) suits there = abort_by number (at_number number account.bucket.uploads) refl

-- the choice of a moment that is not after the last one
pub effect_keeps : (last until t : ℕ) (whats : List What) (account : Account) (chosen : Action) → IsKept last until account → t ≤ last → choice account.bucket t ≡ Some chosen
    → Keeps last until whats account (effect chosen account)
effect_keeps last until t whats account chosen h le is =
    let come = chosen_come account.bucket t chosen is in
    done_keeps last until whats account h chosen.key chosen.rule chosen.since
    (chosen_holds (λ (a : Action). until ≤ a.since) account.bucket t chosen h.timely is) (omega (arith, come, le))
    chosen.kind chosen.target
    (choice_suits account.bucket (tidy_from_orderly last account.bucket h.bucket) t chosen is)
    (chosen_target last account.bucket t chosen h.bucket is)
