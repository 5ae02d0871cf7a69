-- No change of a key's stack breaks the order in which its noncurrent versions ceased to be current.
use Rattle.std.proofs.Common.{◌≡◌, ℕ, ◌≤◌, Bool, true, false, ◌&&◌, cond, List, [], ◌∷◌, refl, ap, ◌∙◌, arith}
use Rattle.std.specs.Prelude.{nat_le, map, filter}
use Rattle.std.proofs.lemmas.Bool.{and_parts, and_from}
use Rattle.std.proofs.lemmas.Bool.Decides.{nat_tests}
use Rattle.stacks.specs.declared.version.Version.{Version}
use Rattle.office_base.specs.declared.version_id.VersionId.{VersionId}
use Rattle.stacks.specs.Stacks.{covered, without, changed_at}
use Rattle.stacks.specs.Ceasing.{cease_until, cease_in_order}

le_trans : (a b c : ℕ) → nat_le a b ≡ true → b ≤ c → nat_le a c ≡ true
le_trans a b c h k = grind (arith, nat_tests)

le_refl : (a : ℕ) → nat_le a a ≡ true
le_refl a = grind (arith, nat_tests)

is_le : (a b : ℕ) → nat_le a b ≡ true → a ≤ b
is_le a b h = grind (arith, nat_tests)

-- a later bound
pub until_later : (a b : ℕ) (versions : List Version) → a ≤ b → cease_until a versions ≡ true → cease_until b versions ≡ true
until_later a b [] le h = refl
until_later a b (version ∷ versions) le h =
    let parts = and_parts (nat_le version.ceased a) (cease_until version.ceased versions) h in
    and_from (nat_le version.ceased b) (cease_until version.ceased versions) (le_trans version.ceased a b parts.0 le) parts.1

-- without the newest
rest_until : (last : ℕ) (version : Version) (versions : List Version) → cease_until last (version ∷ versions) ≡ true → cease_until last versions ≡ true
rest_until last version versions h =
    let parts = and_parts (nat_le version.ceased last) (cease_until version.ceased versions) h in
    until_later version.ceased last versions (is_le version.ceased last parts.0) parts.1

until_by : (keep : Version → Bool) (last : ℕ) (version : Version) (versions : List Version) (b : Bool)
    → cease_until last (version ∷ versions) ≡ true → ((l : ℕ) → cease_until l versions ≡ true → cease_until l (filter keep versions) ≡ true)
    → cease_until last (cond b (version ∷ filter keep versions) (filter keep versions)) ≡ true
until_by keep last version versions true h rest =
    let parts = and_parts (nat_le version.ceased last) (cease_until version.ceased versions) h in
    and_from (nat_le version.ceased last) (cease_until version.ceased (filter keep versions)) parts.0 (rest version.ceased parts.1)
until_by keep last version versions false h rest = rest last (rest_until last version versions h)

-- some of them
until_filter : (keep : Version → Bool) (last : ℕ) (versions : List Version) → cease_until last versions ≡ true → cease_until last (filter keep versions) ≡ true
until_filter keep last [] h = refl
until_filter keep last (version ∷ versions) h = until_by keep last version versions (keep version) h (λ l k. until_filter keep l versions k)

-- those behind the first
tail_in_order : (last : ℕ) (versions : List Version) → cease_until last versions ≡ true → cease_in_order last versions ≡ true
tail_in_order last [] h = refl
tail_in_order last (version ∷ versions) h = rest_until last version versions h

in_order_by : (keep : Version → Bool) (last : ℕ) (current : Version) (versions : List Version) (b : Bool) → cease_until last versions ≡ true
    → cease_in_order last (cond b (current ∷ filter keep versions) (filter keep versions)) ≡ true
in_order_by keep last current versions true h = until_filter keep last versions h
in_order_by keep last current versions false h = tail_in_order last (filter keep versions) (until_filter keep last versions h)

in_order_filter : (keep : Version → Bool) (last : ℕ) (versions : List Version) → cease_in_order last versions ≡ true → cease_in_order last (filter keep versions) ≡ true
in_order_filter keep last [] h = refl
in_order_filter keep last (current ∷ versions) h = in_order_by keep last current versions (keep current) h

pub later_in_order : (a b : ℕ) (versions : List Version) → a ≤ b → cease_in_order a versions ≡ true → cease_in_order b versions ≡ true
later_in_order a b [] le h = refl
later_in_order a b (current ∷ versions) le h = until_later a b versions le h

covered_until : (changed at : ℕ) (versions : List Version) → changed ≤ at → cease_in_order changed versions ≡ true → cease_until at (covered at versions) ≡ true
covered_until changed at [] le h = refl
covered_until changed at (current ∷ versions) le h = and_from (nat_le at at) (cease_until at versions) (le_refl at) (until_later changed at versions le h)

-- a version comes
pub added_in_order : (id : VersionId) (new : Version) (changed at : ℕ) (versions : List Version) → changed ≤ at
    → cease_in_order changed versions ≡ true → cease_in_order at (new ∷ without id (covered at versions)) ≡ true
added_in_order id new changed at versions le h = until_filter _ at (covered at versions) (covered_until changed at versions le h)

-- a version goes
pub removed_in_order : (id : VersionId) (changed at : ℕ) (versions : List Version) → changed ≤ at
    → cease_in_order changed versions ≡ true → cease_in_order at (without id versions) ≡ true
removed_in_order id changed at versions le h = in_order_filter _ at versions (later_in_order changed at versions le h)

-- a version is changed, but for the moment at which it ceased
until_map : (change : Version → Version) (same : (version : Version) → (change version).ceased ≡ version.ceased) (last : ℕ) (versions : List Version)
    → cease_until last (map change versions) ≡ cease_until last versions
until_map change same last [] = refl
until_map change same last (version ∷ versions) =
    ap (λ n. nat_le n last && cease_until n (map change versions)) (same version)
    ∙ ap (λ b. nat_le version.ceased last && b) (until_map change same version.ceased versions)

in_order_map : (change : Version → Version) (same : (version : Version) → (change version).ceased ≡ version.ceased) (last : ℕ) (versions : List Version)
    → cease_in_order last (map change versions) ≡ cease_in_order last versions
in_order_map change same last [] = refl
in_order_map change same last (current ∷ versions) = until_map change same last versions

one_ceased : (b : Bool) (change : Version → Version) (version : Version) → (change version).ceased ≡ version.ceased → (cond b (change version) version).ceased ≡ version.ceased
one_ceased true change version same = same
one_ceased false change version same = refl

pub changed_in_order : (id : VersionId) (change : Version → Version) (same : (version : Version) → (change version).ceased ≡ version.ceased)
    (changed at : ℕ) (versions : List Version) → changed ≤ at → cease_in_order changed versions ≡ true → cease_in_order at (changed_at id change versions) ≡ true
changed_in_order id change same changed at versions le h =
    in_order_map _ (λ version. one_ceased _ change version (same version)) at versions ∙ later_in_order changed at versions le h
