-- Which version a put replaces, and what its going takes away.
use Rattle.std.proofs.Common.{◌≡◌, ℕ, ◌+◌, ◌≤◌, ◌<◌, List, [], ◌∷◌, length, refl, ap, sym, subst, Bool, true, false, not, ◌&&◌, cond, arith}
use Rattle.std.specs.Prelude.{Option, Some, None, sum_by, nat_le, ◌==◌, IsTrue}
use Rattle.std.specs.List.{AllByRecursion, list_any, list_all, find}
use Rattle.std.proofs.lemmas.Bool.{and_parts, not-true, leb-true}
use Rattle.std.proofs.lemmas.Bool.Decides.{nat_tests}
use Rattle.std.proofs.lemmas.List.Sums.{sum_by-cons}
use Rattle.office_base.specs.declared.version_id.VersionId.{VersionId}
use Rattle.office_base.specs.declared.version_id.VersionId.TheVariants.{Null, Number}
use Rattle.stacks.specs.declared.version.Versioning.{Versioning}
use Rattle.stacks.specs.declared.version.Versioning.TheVariants.{Unversioned, Enabled, Suspended}
use Rattle.stacks.specs.declared.version.Kind.{Kind}
use Rattle.stacks.specs.declared.version.Kind.TheVariants.{Object, Marker}
use Rattle.stacks.specs.declared.version.Version.{Version}
use Rattle.stacks.specs.Stacks.{same_id, has_id, version_at, without, ids_differ, covered, replaced, IsFreeNumber, has_moments_until, is_entered_until, is_stack}
use Rattle.stacks.proofs.Sole.{none_without, same_id_is}
use Rattle.plain_office.specs.Orderly.{IsNumberBelow, lines_since}
use Rattle.bucket_account.specs.Booking.{IsSinceBy, since_option}

-- ---- the next number is free

no_number : (next : ℕ) (versions : List Version) → AllByRecursion (λ version. IsNumberBelow next version.id) versions → list_any (has_id (Number next)) versions ≡ false
no_number next [] h = refl
no_number next (v ∷ versions) h = rw (here v.id h.0, no_number next versions h.1) refl where
  here : (id : VersionId) → IsNumberBelow next id → same_id (Number next) id ≡ false
  here Null below = refl
  here (Number n) below = let less = below.1 in let differ : (next == n) ≡ false = grind (arith, nat_tests) in differ

pub is_free : (versioning : Versioning) (next : ℕ) (versions : List Version) → 0 < next → AllByRecursion (λ version. IsNumberBelow next version.id) versions → IsFreeNumber versioning next versions
is_free Unversioned next versions some h = tt
is_free Enabled next versions some h =
    let one : nat_le 1 next ≡ true = grind (arith, nat_tests) in
    rw (one, no_number next versions h) refl
is_free Suspended next versions some h = tt

-- ---- since when it has its lines

found_all : (p q : Version → Bool) (versions : List Version) (v : Version) → list_all p versions ≡ true → find q versions ≡ Some v → p v ≡ true
found_all p q [] v all is = absurd cc
found_all p q (x ∷ versions) v all is = by (q x) (and_parts (p x) (list_all p versions) all) is (found_all p q versions v) where
  by : (b : Bool) → (p x ≡ true) × (list_all p versions ≡ true) → cond b (Some x) (find q versions) ≡ Some v → (list_all p versions ≡ true → find q versions ≡ Some v → p v ≡ true) → p v ≡ true
  by true parts is more = let same : x ≡ v = cc in subst (λ (w : Version). p w ≡ true) same parts.0
  by false parts is more = more parts.1 is

until_since : (changed : ℕ) (v : Version) → has_moments_until changed v ≡ true → lines_since v ≤ changed
until_since changed v h = by v.kind h where
  by : (kind : Kind) → (nat_le v.created changed && nat_le v.ceased changed && is_entered_until changed v.created kind) ≡ true → lines_since (record v { kind = kind }) ≤ changed
  by Marker h =
      let parts = and_parts (nat_le v.created changed && nat_le v.ceased changed) true h in
      let both = and_parts (nat_le v.created changed) (nat_le v.ceased changed) parts.0 in
      leb-true v.created changed both.0
  by (Object size class tags entered) h =
      let parts = and_parts (nat_le v.created changed && nat_le v.ceased changed) (nat_le v.created entered && nat_le entered changed) h in
      let both = and_parts (nat_le v.created entered) (nat_le entered changed) parts.1 in
      leb-true entered changed both.1

module _ (changed at : ℕ) (versions : List Version) (stack : IsTrue (is_stack changed versions)) (le : changed ≤ at) where
  since_id : (id : VersionId) (o : Option Version) → version_at id versions ≡ o → IsSinceBy at o
  since_id id None is = tt
  since_id id (Some v) is =
      let parts = and_parts (ids_differ versions) (list_all (has_moments_until changed) versions) stack in
      let since = until_since changed v (found_all (has_moments_until changed) (has_id id) versions v parts.1 is) in
      omega (arith, since, le)

  pub since_at : (id : VersionId) → IsSinceBy at (version_at id versions)
  since_at id = since_id id (version_at id versions) refl

  pub since_by : (versioning : Versioning) → IsSinceBy at (replaced versioning versions)
  since_by Unversioned = since_at Null
  since_by Enabled = tt
  since_by Suspended = since_at Null

pub since_le : (at : ℕ) (o : Option Version) → IsSinceBy at o → since_option at o ≤ at
since_le at None h = omega arith
since_le at (Some v) h = h

-- ---- sums over the versions that stay

abbrev pub of_option : (Version → ℕ) → Option Version → ℕ
of_option f None = 0
of_option f (Some v) = f v

pub sum_without : (f : Version → ℕ) (id : VersionId) (versions : List Version) → ids_differ versions ≡ true → sum_by f (without id versions) + of_option f (version_at id versions) ≡ sum_by f versions
sum_without f id [] differ = refl
sum_without f id (v ∷ versions) differ = by (has_id id v) refl (sum_without f id versions) where
  parts : (not (list_any (has_id v.id) versions) ≡ true) × (ids_differ versions ≡ true)
  parts = and_parts (not (list_any (has_id v.id) versions)) (ids_differ versions) differ

  by : (b : Bool) → has_id id v ≡ b → (ids_differ versions ≡ true → sum_by f (without id versions) + of_option f (version_at id versions) ≡ sum_by f versions)
      → sum_by f (cond (not b) (v ∷ without id versions) (without id versions)) + of_option f (cond b (Some v) (version_at id versions)) ≡ sum_by f (v ∷ versions)
  by true is left_over =
      let same = same_id_is id v.id is in
      let none = subst (λ (i : VersionId). list_any (has_id i) versions ≡ false) (sym same) (not-true _ parts.0) in
      let left = ap (λ (l : List Version). sum_by f l) (none_without id versions none) in
      let cons = sum_by-cons f v versions in
      omega (arith, left, cons)
  by false is left_over =
      let rest = left_over parts.1 in
      let more = sum_by-cons f v (without id versions) in
      let cons = sum_by-cons f v versions in
      omega (arith, rest, more, cons)

module _ (f : Version → ℕ) (at : ℕ) (same : (v : Version) → f (record v { ceased = at }) ≡ f v) where
  sum_covered : (versions : List Version) → sum_by f (covered at versions) ≡ sum_by f versions
  sum_covered [] = refl
  sum_covered (v ∷ versions) =
      let a = sum_by-cons f (record v { ceased = at }) versions in
      let b = sum_by-cons f v versions in
      let here = same v in
      omega (arith, a, b, here)

  found_covered : (id : VersionId) (versions : List Version) → of_option f (version_at id (covered at versions)) ≡ of_option f (version_at id versions)
  found_covered id [] = refl
  found_covered id (v ∷ versions) = by (has_id id v) where
    by : (b : Bool) → of_option f (cond b (Some (record v { ceased = at })) (version_at id versions)) ≡ of_option f (cond b (Some v) (version_at id versions))
    by true = same v
    by false = refl

  differ_covered : (versions : List Version) → ids_differ versions ≡ true → ids_differ (covered at versions) ≡ true
  differ_covered [] h = h
  differ_covered (v ∷ versions) h = h

  -- those that stay below a new version
  pub sum_below : (id : VersionId) (versions : List Version) → ids_differ versions ≡ true
      → sum_by f (without id (covered at versions)) + of_option f (version_at id versions) ≡ sum_by f versions
  sum_below id versions differ =
      let left = sum_without f id (covered at versions) (differ_covered versions differ) in
      let gone = found_covered id versions in
      let all = sum_covered versions in
      omega (arith, left, gone, all)

pub one_each : (versions : List Version) → sum_by (λ v. 1) versions ≡ length versions
one_each [] = refl
one_each (v ∷ versions) =
    let rest = one_each versions in
    let cons = sum_by-cons (λ (w : Version). 1) v versions in
    omega (arith, rest, cons)
