-- The records of a bucket.
use Rattle.std.proofs.Common.{◌≡◌, ℕ, ◌^◌, ◌<◌, ◌≤◌, List, [], ◌∷◌, length, refl}
use Rattle.std.specs.Bool.{Decides, IsTrue}
use Rattle.std.specs.Ordering.{nat_cmp, is_lt}
use Rattle.std.specs.List.{AllByRecursion}
use Rattle.std.specs.declared.cmp.Ordering.{Ordering}
use Rattle.office_base.specs.Maps.{bytes_cmp, Rises}
use Rattle.office_base.specs.Sizes.{largest_size}
use Rattle.office_base.specs.declared.version_id.VersionId.{VersionId}
use Rattle.office_base.specs.declared.version_id.VersionId.TheVariants.{Null, Number}
use Rattle.stacks.specs.Stacks.{StackRecord, is_stack}
use Rattle.stacks.specs.declared.version.Versioning.{Versioning}
use Rattle.stacks.specs.declared.version.Versioning.TheVariants.{Unversioned, Enabled, Suspended}
use Rattle.stacks.specs.declared.version.Version.{Version}
use Rattle.uploads.specs.Uploads.{UploadRecord, are_parts}
use Rattle.due_core.specs.Buckets.{BucketRecord}
use Rattle.plain_office.specs.Orderly.{IsNumberBelow, is_object, FitsVersioning, size_of, IsOrderlyStack, IsOrderlyUpload, IsOrderlyBucket}
use Rattle.office_snapshot.specs.Snapshots.{BucketPartRecord}
use Rattle.office_snapshot.specs.Restorable.{HaveForm, HasBegun, IsSmallPart}
use Rattle.restorable.specs.Tests.{keys_rise, is_number_below, is_version, is_null, fit_versioning, is_orderly_stack, is_orderly_upload, is_orderly_part}
use Rattle.restorable.proofs.Lists.{change, both, le, lt, itself, none, some, each, every, zipped}
use Rattle.restorable.proofs.SumTests.{AreMonths, months_decide}

pub rises_decide : {K X : Type 0} (cmp : K → K → Ordering) (es : List (K × X)) → Decides (keys_rise cmp es) (Rises cmp es)
rises_decide cmp [] = (λ e. tt, λ r. refl)
rises_decide cmp (e ∷ es) = both _ _ (each (λ other. is_lt (cmp e.0 other.0)) (λ other. IsTrue (is_lt (cmp e.0 other.0))) (λ other. itself (is_lt (cmp e.0 other.0))) es) (rises_decide cmp es)

-- ---- stacks

number_decides : (next : ℕ) (id : VersionId) → Decides (is_number_below next id) (IsNumberBelow next id)
number_decides next Null = (λ e. tt, λ h. refl)
number_decides next (Number n) = both _ _ (lt 0 n) (lt n next)

null_decides : (id : VersionId) → Decides (is_null id) (id ≡ Null)
null_decides Null = (λ e. refl, λ e. refl)
null_decides (Number n) = (λ e. absurd cc, λ e. absurd cc)

fits_decide : (versioning : Versioning) (versions : List Version) → Decides (fit_versioning versioning versions) (FitsVersioning versioning versions)
fits_decide Unversioned [] = (λ e. absurd cc, λ h. absurd h)
fits_decide Unversioned (version ∷ others) =
    change _ (λ p. (p.0.0, p.0.1, p.1)) (λ h. ((h.0, h.1), h.2))
    (both _ _ (both _ _ (none others) (null_decides version.id)) (itself (is_object version.kind)))
fits_decide Enabled versions = (λ e. tt, λ h. refl)
fits_decide Suspended versions = (λ e. tt, λ h. refl)

abbrev IsVersion : ℕ → Version → Type 0
IsVersion next version = IsNumberBelow next version.id × (size_of version.kind ≤ largest_size)

abbrev StackParts : Versioning → ℕ → ℕ → StackRecord → Type 0
StackParts versioning next last stack =
    ((((0 < length stack.versions) × IsTrue (is_stack stack.changed stack.versions)) × AllByRecursion (IsVersion next) stack.versions) × FitsVersioning versioning stack.versions)
    × (stack.changed ≤ last)

stack_decides : (versioning : Versioning) (next last : ℕ) (stack : StackRecord) → Decides (is_orderly_stack versioning next last stack) (IsOrderlyStack versioning next last stack)
stack_decides versioning next last stack =
    change (is_orderly_stack versioning next last stack) to back
    (both _ _ (both _ _ (both _ _ (both _ _ (some stack.versions) (itself (is_stack stack.changed stack.versions)))
    (each (is_version next) (IsVersion next) (λ version. both _ _ (number_decides next version.id) (le (size_of version.kind) largest_size)) stack.versions))
    (fits_decide versioning stack.versions)) (le stack.changed last))
  where
    to : StackParts versioning next last stack → IsOrderlyStack versioning next last stack
    to p = record {
      some = p.0.0.0.0;
      ids_and_moments = p.0.0.0.1;
      numbers = every (IsVersion next) (λ version. IsNumberBelow next version.id) (λ version v. v.0) stack.versions p.0.0.1;
      fits = p.0.1;
      sizes = every (IsVersion next) (λ version. size_of version.kind ≤ largest_size) (λ version v. v.1) stack.versions p.0.0.1;
      changed = p.1;
    }

    back : IsOrderlyStack versioning next last stack → StackParts versioning next last stack
    back h = (
      (((h.some, h.ids_and_moments), zipped (λ version. IsNumberBelow next version.id) (λ version. size_of version.kind ≤ largest_size) stack.versions h.numbers h.sizes), h.fits),
      h.changed,
    )

-- ---- uploads

abbrev IsUploadOf : ℕ → ℕ → ℕ × UploadRecord → Type 0
IsUploadOf next last upload = (upload.0 < next) × IsOrderlyUpload last upload.1

upload_decides : (next last : ℕ) (upload : ℕ × UploadRecord) → Decides (is_orderly_upload next last upload) (IsUploadOf next last upload)
upload_decides next last upload =
    change (is_orderly_upload next last upload)
    (λ p. (p.0.0.0, record { ranges_and_moments = p.0.0.1; parts = p.0.1; changed = p.1 }))
    (λ h. (((h.0, h.1.ranges_and_moments), h.1.parts), h.1.changed))
    (both _ _ (both _ _ (both _ _ (lt upload.0 next) (itself (are_parts upload.1.started upload.1.changed upload.1.parts)))
    (rises_decide nat_cmp upload.1.parts)) (le upload.1.changed last))

-- ---- buckets

-- what is said of a bucket
pub record IsPart (last : ℕ) (part : BucketPartRecord) : Type 0 where
  pub orderly : IsOrderlyBucket last part.bucket
  pub small : IsSmallPart part
  pub form : HaveForm part.sums
  pub begun : AllByRecursion (HasBegun last) part.sums

abbrev Numbers : ℕ → BucketRecord → Type 0
Numbers last b = ((((0 < b.next_version) × (b.next_version < 2 ^ 62)) × (0 < b.next_upload)) × (b.next_upload < 2 ^ 62)) × (b.rules_since ≤ last)

abbrev Stacks : ℕ → BucketRecord → Type 0
Stacks last b = Rises bytes_cmp b.stacks × AllByRecursion (λ stack. IsOrderlyStack b.versioning b.next_version last stack.1) b.stacks

abbrev Uploads : ℕ → BucketRecord → Type 0
Uploads last b = Rises nat_cmp b.uploads × AllByRecursion (IsUploadOf b.next_upload last) b.uploads

abbrev PartParts : ℕ → BucketPartRecord → Type 0
PartParts last part = ((Numbers last part.bucket × Stacks last part.bucket) × Uploads last part.bucket) × AreMonths last part.sums

pub part_decides : (last : ℕ) (part : BucketPartRecord) → Decides (is_orderly_part last part) (IsPart last part)
part_decides last part =
    change (is_orderly_part last part) to back
    (both _ _ (both _ _ (both _ _
    (both _ _ (both _ _ (both _ _ (both _ _ (lt 0 part.bucket.next_version) (lt part.bucket.next_version (2 ^ 62)))
    (lt 0 part.bucket.next_upload)) (lt part.bucket.next_upload (2 ^ 62))) (le part.bucket.rules_since last))
    (both _ _ (rises_decide bytes_cmp part.bucket.stacks)
    (each (λ stack. is_orderly_stack part.bucket.versioning part.bucket.next_version last stack.1)
    (λ stack. IsOrderlyStack part.bucket.versioning part.bucket.next_version last stack.1) (λ stack. stack_decides part.bucket.versioning part.bucket.next_version last stack.1) part.bucket.stacks)))
    (both _ _ (rises_decide nat_cmp part.bucket.uploads)
    (each (is_orderly_upload part.bucket.next_upload last) (IsUploadOf part.bucket.next_upload last) (upload_decides part.bucket.next_upload last) part.bucket.uploads)))
    (months_decide last part.sums))
  where
    to : PartParts last part → IsPart last part
    to p = record {
      orderly = record {
        next_version = p.0.0.0.0.0.0.0;
        next_upload = p.0.0.0.0.0.1;
        rules_since = p.0.0.0.1;
        keys = p.0.0.1.0;
        stacks = p.0.0.1.1;
        numbers = p.0.1.0;
        uploads = p.0.1.1;
      };
      small = record { next_version = p.0.0.0.0.0.0.1; next_upload = p.0.0.0.0.1; sums = p.1.small };
      form = p.1.form;
      begun = p.1.begun;
    }

    back : IsPart last part → PartParts last part
    back h = (
      (
        (
          (
            (
              (
                (h.orderly.next_version, h.small.next_version),
                h.orderly.next_upload,
              ),
              h.small.next_upload,
            ),
            h.orderly.rules_since,
          ),
          (h.orderly.keys, h.orderly.stacks),
        ),
        (h.orderly.numbers, h.orderly.uploads),
      ),
      record { form = h.form; small = h.small.sums; begun = h.begun },
    )
