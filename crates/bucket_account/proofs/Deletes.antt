-- What a delete does, by the versioning of its bucket, and the refusal of a version that is not there.
use Rattle.std.proofs.Common.{◌≡◌, ℕ, List, [], ◌∷◌, refl, sym, subst, Bool, true, false, cond}
use Rattle.std.specs.Prelude.{Option, Some, None, Ok, Err, IsSome, is_some, unwrap_or}
use Rattle.std.specs.Option.{ok_or}
use Rattle.std.specs.List.{list_any, find}
use Rattle.office_base.specs.Maps.{at_name}
use Rattle.office_base.specs.Results.{◌>>=◌}
use Rattle.office_base.specs.declared.version_id.VersionId.{VersionId}
use Rattle.office_base.specs.declared.version_id.VersionId.TheVariants.{Null}
use Rattle.stacks.specs.Stacks.{StackRecord, new_stack, version_at, or_no_such, found}
use Rattle.stacks.specs.declared.version.Kind.TheVariants.{Marker}
use Rattle.stacks.specs.declared.version.Version.{Version}
use Rattle.stacks.specs.declared.version.Versioning.{Versioning}
use Rattle.stacks.specs.declared.version.Versioning.TheVariants.{Unversioned, Enabled, Suspended}
use Rattle.due_core.specs.Buckets.{BucketRecord}
use Rattle.plain_office.specs.Office.{Account}
use Rattle.plain_office.specs.Changes.{add_version, remove_version, next_id, versions_of}
use Rattle.plain_office.specs.Orderly.{IsOneNullObject, FitsVersioning, IsOrderlyBucket}
use Rattle.plain_office.specs.Step.{Change, of_stack, delete, delete_version}
use Rattle.office_types.specs.declared.reply.Reply.TheVariants.{Deleted, VersionDeleted}
use Rattle.office_types.specs.declared.refusal.Refusal.TheVariants.{NoSuchKey, NoSuchVersion}
use Rattle.office_laws.proofs.Buckets.{stack_orderly}
use Rattle.bucket_account.specs.Booking.{missing, missing_from}

-- ---- without versioning there is only the null version

one_null : (versions : List Version) → IsOneNullObject versions → IsSome (version_at Null versions)
one_null [] is = absurd is
one_null (v ∷ versions) is = subst (λ (id : VersionId). IsSome (version_at Null (record v { id = id } ∷ versions))) (sym is.1) refl

pub null_there : (b : BucketRecord) (last : ℕ) → IsOrderlyBucket last b → b.versioning ≡ Unversioned → (key : List ℕ)
    → is_some (at_name key b.stacks) ≡ true → IsSome (version_at Null (versions_of key b))
null_there b last orderly is key there = by (at_name key b.stacks) refl there where
  by : (o : Option StackRecord) → at_name key b.stacks ≡ o → is_some o ≡ true → IsSome (version_at Null (unwrap_or o (new_stack 0)).versions)
  by None found some = absurd cc
  by (Some stack) found some =
      one_null stack.versions
      (subst (λ (versioning : Versioning). FitsVersioning versioning stack.versions) is (stack_orderly b key last orderly stack found).fits)

module _ (t : ℕ) (key : List ℕ) (account : Account) where
  abbrev versioned : Versioning → Account
  versioned v = record account { bucket = record account.bucket { versioning = v } }

  removes_by : (v : Versioning) → v ≡ Unversioned → is_some (at_name key account.bucket.stacks) ≡ true → delete t key (versioned v) ≡ Ok (remove_version key Null t (versioned v), Deleted None)
  removes_by Unversioned is there = rw there refl
  removes_by Enabled is there = absurd cc
  removes_by Suspended is there = absurd cc

  pub removes : account.bucket.versioning ≡ Unversioned → is_some (at_name key account.bucket.stacks) ≡ true → delete t key account ≡ Ok (remove_version key Null t account, Deleted None)
  removes = removes_by account.bucket.versioning

  refuses_by : (v : Versioning) → v ≡ Unversioned → is_some (at_name key account.bucket.stacks) ≡ false → delete t key (versioned v) ≡ Err NoSuchKey
  refuses_by Unversioned is there = rw there refl
  refuses_by Enabled is there = absurd cc
  refuses_by Suspended is there = absurd cc

  pub refuses : account.bucket.versioning ≡ Unversioned → is_some (at_name key account.bucket.stacks) ≡ false → delete t key account ≡ Err NoSuchKey
  refuses = refuses_by account.bucket.versioning

  marks_by : (v : Versioning) → (v ≡ Unversioned → ⊥) → delete t key (versioned v) ≡ Ok (add_version key Marker t (versioned v), Deleted (Some (next_id (versioned v).bucket)))
  marks_by Unversioned versioning = absurd (versioning refl)
  marks_by Enabled versioning = refl
  marks_by Suspended versioning = refl

  pub marks : (account.bucket.versioning ≡ Unversioned → ⊥) → delete t key account ≡ Ok (add_version key Marker t account, Deleted (Some (next_id account.bucket)))
  marks = marks_by account.bucket.versioning

-- ---- one version

pub any_found : (p : Version → Bool) (versions : List Version) → is_some (find p versions) ≡ list_any p versions
any_found p [] = refl
any_found p (v ∷ versions) = by (p v) refl (any_found p versions) where
  by : (b : Bool) → p v ≡ b → is_some (find p versions) ≡ list_any p versions → is_some (find p (v ∷ versions)) ≡ list_any p (v ∷ versions)
  by true is more = rw is refl
  by false is more = rw is more

missing_by : (id : VersionId) (o : Option Version) → cond (is_some o) None (Some NoSuchVersion) ≡ None → IsSome o
missing_by id None h = absurd cc
missing_by id (Some v) h = refl

module _ (t : ℕ) (key : List ℕ) (id : VersionId) (account : Account) where
  pub there : missing key id account.bucket.stacks ≡ None → IsSome (version_at id (versions_of key account.bucket))
  there is = by (at_name key account.bucket.stacks) is where
    by : (o : Option StackRecord) → missing_from id o ≡ None → IsSome (version_at id (unwrap_or o (new_stack 0)).versions)
    by None h = absurd cc
    by (Some stack) h = missing_by id (version_at id stack.versions) h

  abbrev gone : Version → Change
  gone version = Ok (remove_version key id t account, VersionDeleted id)

  -- it goes, if it is there
  pub goes : missing key id account.bucket.stacks ≡ None → delete_version t key id account ≡ Ok (remove_version key id t account, VersionDeleted id)
  goes is = by (at_name key account.bucket.stacks) is where
    found_by : (o : Option Version) → cond (is_some o) None (Some NoSuchVersion) ≡ None → (of_stack (or_no_such o) >>= gone) ≡ Ok (remove_version key id t account, VersionDeleted id)
    found_by None h = absurd cc
    found_by (Some v) h = refl

    by : (o : Option StackRecord) → missing_from id o ≡ None → (ok_or o NoSuchKey >>= λ stack. (of_stack (found id stack.versions) >>= gone)) ≡ Ok (remove_version key id t account, VersionDeleted id)
    by None h = absurd cc
    by (Some stack) h = found_by (version_at id stack.versions) h
