-- What is known of the lifecycle action that is chosen before it is done.
use Rattle.std.proofs.Common.{◌≡◌, ℕ, ◌≤◌, List, refl, ap, sym, ◌∙◌, subst, true}
use Rattle.std.specs.Prelude.{Option, Some, None, Result, unwrap_or, IsSome, IfSome, is_some, IsTrue}
use Rattle.std.proofs.lemmas.Bool.{and_parts}
use Rattle.office_base.specs.Maps.{at_number}
use Rattle.office_base.specs.declared.version_id.VersionId.{VersionId}
use Rattle.class_rules.specs.declared.class.Class.{Class}
use Rattle.stacks.specs.Stacks.{StackRecord, new_stack, ids_differ, version_at}
use Rattle.stacks.specs.declared.version.Kind.{Kind}
use Rattle.stacks.specs.declared.version.Kind.TheVariants as kind
use Rattle.stacks.specs.declared.version.Version.{Version}
use Rattle.stacks.specs.declared.version.Versioning.{Versioning}
use Rattle.stacks.specs.declared.version.Versioning.TheVariants.{Unversioned, Enabled, Suspended}
use Rattle.uploads.specs.Uploads.{UploadRecord}
use Rattle.due_core.specs.Buckets.{BucketRecord}
use Rattle.due_core.specs.Choice.{choice}
use Rattle.due_core.specs.declared.action.Action.{Action}
use Rattle.due_core.specs.declared.action.ActionKind.{ActionKind}
use Rattle.due_core.specs.declared.action.ActionKind.TheVariants as action
use Rattle.due_core.specs.declared.action.Target.{Target}
use Rattle.due_core.specs.declared.action.Target.TheVariants as target
use Rattle.plain_office.specs.Office.{Account}
use Rattle.plain_office.specs.Changes.{versions_of, effect, remove_version, move_version, add_version, remove_upload_at}
use Rattle.plain_office.specs.Orderly.{is_object}
use Rattle.office_types.specs.declared.refusal.Refusal.{Refusal}
use Rattle.office_types.specs.declared.refusal.What.{What}
use Rattle.office_laws.proofs.Asked.{HasPlace, Suits, choice_suits}
use Rattle.office_laws.proofs.Buckets.{stack_orderly}
use Rattle.office_laws.proofs.Chosen.{MayMark, HasTarget, chosen_target}
use Rattle.office_laws.proofs.Ends.{tidy_from_orderly}
use Rattle.office_laws.proofs.Ids.{apart}
use Rattle.office_laws.proofs.Lowers.{MoveFits}
use Rattle.office_laws.proofs.Acts.{place_version}
use Rattle.bucket_account.specs.declared.counts.Counts.{Counts}
use Rattle.bucket_account.specs.Booking.{MayCome}
use Rattle.bucket_account.specs.Changing.{IsOrderlyAccount}
use Rattle.bucket_account.specs.Counting.{AccountRecord}
use Rattle.bucket_account.specs.Effects.{IsReadyAt, IsUploadReadyAt, DoesEffect}
use Rattle.bucket_account.specs.Moving.{IsAnObject}

-- ---- the version of a place

placed_at : (kind : ActionKind) (id : VersionId) (versions : List Version) → ids_differ versions ≡ true → (place : HasPlace versions kind id) → version_at id versions ≡ Some place.version
placed_at kind id versions differ place =
    subst (λ (i : VersionId). version_at i versions ≡ Some place.version) place.same
    (ap (λ (l : List Version). version_at place.version.id l) place.is
    ∙ place_version place.front place.version place.back (apart place.front place.version place.back (ap ids_differ (sym place.is) ∙ differ)).0)

object_moves : (to : Class) (kind : Kind) → MoveFits to kind → IsTrue (is_object kind)
object_moves to (kind.Object size class tags entered) fits = refl
object_moves to kind.Marker fits = absurd fits

some_of : {X : Type 0} (o : Option X) (x : X) → o ≡ Some x → IsSome o
some_of None x is = absurd cc
some_of (Some y) x is = refl

some_from : {X : Type 0} (o : Option X) → is_some o ≡ true → IsSome o
some_from None is = absurd cc
some_from (Some x) is = refl

marker_comes : (versioning : Versioning) (at : ℕ) → MayMark versioning action.Marker → MayCome versioning at kind.Marker
marker_comes Unversioned at may = absurd may
marker_comes Enabled at may = λ is. absurd cc
marker_comes Suspended at may = λ is. absurd cc

-- ---- the action that is chosen

module _ (t : ℕ) (account : Account) (orderly : IsOrderlyAccount t account) (chosen : Action) (is : choice account.bucket t ≡ Some chosen) where
  abbrev bucket : BucketRecord
  bucket = account.bucket

  suits : Suits bucket chosen.key chosen.kind chosen.target
  suits = choice_suits bucket (tidy_from_orderly t bucket orderly.bucket) t chosen is

  there : HasTarget bucket chosen.since chosen.key chosen.kind chosen.target
  there = chosen_target t bucket t chosen orderly.bucket is

  module _ (id : VersionId) (aims : chosen.target ≡ target.Version id) where
    suits_version : Suits bucket chosen.key chosen.kind (target.Version id)
    suits_version = subst (λ (goal : Target). Suits bucket chosen.key chosen.kind goal) aims suits

    there_version : HasTarget bucket chosen.since chosen.key chosen.kind (target.Version id)
    there_version = subst (λ (goal : Target). HasTarget bucket chosen.since chosen.key chosen.kind goal) aims there

    pub ready_version : IsReadyAt chosen.key chosen.since account
    ready_version = record {
      last = t;
      bucket = orderly.bucket;
      stays = orderly.stays;
      changed = subst (λ (o : Option StackRecord). (unwrap_or o (new_stack 0)).changed ≤ chosen.since) (sym there_version.1) there_version.2;
    }

    abbrev place : HasPlace suits_version.0.versions chosen.kind id
    place = suits_version.2

    found : version_at id (versions_of chosen.key bucket) ≡ Some place.version
    found =
        let stack = suits_version.0 in
        ap (λ (o : Option StackRecord). version_at id (unwrap_or o (new_stack 0)).versions) suits_version.1
        ∙ placed_at chosen.kind id stack.versions
        (and_parts (ids_differ stack.versions) _ (stack_orderly bucket chosen.key t orderly.bucket stack suits_version.1).ids_and_moments).0 place

    pub version_there : IsSome (version_at id (versions_of chosen.key bucket))
    version_there = some_of _ place.version found

    pub object_there : (to : Class) → chosen.kind ≡ action.Transition to → IsAnObject (version_at id (versions_of chosen.key bucket))
    object_there to moves =
        let fits = subst (λ (kind : ActionKind). Rattle.office_laws.proofs.Lowers.FitsPlace kind place.version.kind place.front place.back) moves place.fits in
        subst IsAnObject (sym found) (object_moves to place.version.kind fits)

    pub may_come : chosen.kind ≡ action.Marker → MayCome bucket.versioning chosen.since kind.Marker
    may_come marks =
        marker_comes bucket.versioning chosen.since (subst (λ (kind : ActionKind). MayMark bucket.versioning kind) marks there_version.3)

    pub no_abort : chosen.kind ≡ action.Abort → ⊥
    no_abort aborts = subst (λ (kind : ActionKind). Rattle.office_laws.proofs.Lowers.FitsPlace kind place.version.kind place.front place.back) aborts place.fits

  module _ (number : ℕ) (aims : chosen.target ≡ target.Upload number) where
    suits_upload : Suits bucket chosen.key chosen.kind (target.Upload number)
    suits_upload = subst (λ (goal : Target). Suits bucket chosen.key chosen.kind goal) aims suits

    there_upload : HasTarget bucket chosen.since chosen.key chosen.kind (target.Upload number)
    there_upload = subst (λ (goal : Target). HasTarget bucket chosen.since chosen.key chosen.kind goal) aims there

    pub is_abort : chosen.kind ≡ action.Abort
    is_abort = suits_upload.0

    pub upload_there : IsSome (at_number number bucket.uploads)
    upload_there = some_from _ suits_upload.1

    pub ready_upload : IsUploadReadyAt number chosen.since account
    ready_upload = record {
      last = t;
      bucket = orderly.bucket;
      stays = orderly.stays;
      changed = subst (λ (o : Option UploadRecord). IfSome o (λ upload. upload.changed ≤ chosen.since)) (sym there_upload.1) there_upload.2;
    }

-- ---- its effect is that of its kind

module _ (chosen : Action) (account : Account) where
  pub is_removal : (id : VersionId) → chosen.kind ≡ action.Remove → chosen.target ≡ target.Version id → remove_version chosen.key id chosen.since account ≡ effect chosen account
  unfolding effect
  is_removal id kind aims = rw (kind, aims) refl

  pub is_move : (id : VersionId) (to : Class) → chosen.kind ≡ action.Transition to → chosen.target ≡ target.Version id → move_version chosen.key id to chosen.since account ≡ effect chosen account
  unfolding effect
  is_move id to kind aims = rw (kind, aims) refl

  pub is_marker : (id : VersionId) → chosen.kind ≡ action.Marker → chosen.target ≡ target.Version id → add_version chosen.key kind.Marker chosen.since account ≡ effect chosen account
  unfolding effect
  is_marker id kind aims = rw (kind, aims) refl

  pub is_aborting : (number : ℕ) → chosen.kind ≡ action.Abort → chosen.target ≡ target.Upload number → remove_upload_at number chosen.since account ≡ effect chosen account
  unfolding effect
  is_aborting number kind aims = rw (kind, aims) refl

-- the same effect, by another name
pub same_effect : (whats : List What) (f g : Account → Account) (before : Account) (counts : Counts) (after : AccountRecord) (r : Result Counts Refusal)
    → f before ≡ g before → DoesEffect whats f before counts after r → DoesEffect whats g before counts after r
same_effect whats f g before counts after r same h = subst (λ (reached : Account). DoesEffect whats (λ _. reached) before counts after r) same h
