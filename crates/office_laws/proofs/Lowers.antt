-- The remaining work of a stack decreases when a version is removed, moves or is covered by a marker.
use Rattle.std.proofs.Common.{◌≡◌, ℕ, ◌+◌, ◌-◌, ◌*◌, ◌<◌, ◌≤◌, List, [], ◌∷◌, ◌++◌, ap, ◌∙◌, Bool, true, false, not, cond, arith, filter, sum_by, length}
use Rattle.std.proofs.lemmas.List.Sums.{sum_by-cons, sum_by-append}
use Rattle.class_rules.specs.Classes.{rank_of}
use Rattle.stacks.specs.Stacks.{has_id, without, with_class, new_version}
use Rattle.class_rules.specs.declared.class.Class.{Class}
use Rattle.class_rules.specs.declared.class.Class.TheVariants.{Standard, StandardIa, OnezoneIa, GlacierIr, Glacier, DeepArchive}
use Rattle.office_base.specs.declared.version_id.VersionId.{VersionId}
use Rattle.stacks.specs.declared.version.Kind.{Kind}
use Rattle.stacks.specs.declared.version.Kind.TheVariants.{Object, Marker}
use Rattle.stacks.specs.declared.version.Version.{Version}
use Rattle.due_core.specs.declared.action.ActionKind.{ActionKind}
use Rattle.due_core.specs.declared.action.ActionKind.TheVariants as action
use Rattle.office_laws.proofs.Work.{version_work, marker_work}
use Rattle.office_laws.proofs.Ids.{adding}

abbrev pub work : List Version → ℕ
work versions = sum_by version_work versions + marker_work versions

pub rank_most : (class : Class) → rank_of class ≤ 5
rank_most Standard = omega arith
rank_most StandardIa = omega arith
rank_most OnezoneIa = omega arith
rank_most GlacierIr = omega arith
rank_most Glacier = omega arith
rank_most DeepArchive = omega arith

-- ---- what an action that is asked of a version needs of its place

abbrev pub RemoveFits : Kind → List Version → List Version → Type 0
RemoveFits (Object size class tags entered) front back = Unit {0}
RemoveFits Marker [] back = back ≡ []
RemoveFits Marker (f ∷ front) back = Unit {0}

abbrev pub MoveFits : Class → Kind → Type 0
MoveFits to (Object size class tags entered) = rank_of class < rank_of to
MoveFits to Marker = ⊥

abbrev pub MarkerFits : Kind → List Version → Type 0
MarkerFits (Object size class tags entered) [] = Unit {0}
MarkerFits (Object size class tags entered) (f ∷ front) = ⊥
MarkerFits Marker front = ⊥

abbrev pub FitsPlace : ActionKind → Kind → List Version → List Version → Type 0
FitsPlace action.Remove kind front back = RemoveFits kind front back
FitsPlace (action.Transition to) kind front back = MoveFits to kind
FitsPlace action.Marker kind front back = MarkerFits kind front
FitsPlace action.Abort kind front back = ⊥

-- ---- sums

some_work : (kind : Kind) (id : VersionId) (created ceased : ℕ) → 1 ≤ version_work (record { id = id; kind = kind; created = created; ceased = ceased })
some_work (Object size class tags entered) id created ceased = omega (arith, rank_most class)
some_work Marker id created ceased = omega arith

marker_most : (versions : List Version) → marker_work versions ≤ 2
marker_most [] = omega arith
marker_most (v ∷ versions) = by v.kind v.id v.created v.ceased where
  by : (kind : Kind) (id : VersionId) (created ceased : ℕ) → marker_work (record { id = id; kind = kind; created = created; ceased = ceased } ∷ versions) ≤ 2
  by (Object size class tags entered) id created ceased = omega arith
  by Marker id created ceased = omega arith

middle : (front : List Version) (v : Version) (back : List Version)
    → sum_by version_work (front ++ v ∷ back) ≡ sum_by version_work front + (version_work v + sum_by version_work back)
middle front v back = sum_by-append version_work front (v ∷ back) ∙ ap (λ (n : ℕ). sum_by version_work front + n) (sum_by-cons version_work v back)

-- ---- removal

remove_front : (f : Version) (front : List Version) (v : Version) (back : List Version) → work ((f ∷ front) ++ back) < work ((f ∷ front) ++ v ∷ back)
remove_front f front v back =
    let some = some_work v.kind v.id v.created v.ceased in
    let a : sum_by version_work ((f ∷ front) ++ v ∷ back) ≡ sum_by version_work (f ∷ front) + (version_work v + sum_by version_work back) = middle (f ∷ front) v back in
    let b : sum_by version_work ((f ∷ front) ++ back) ≡ sum_by version_work (f ∷ front) + sum_by version_work back = sum_by-append version_work (f ∷ front) back in
    omega arith

pub remove_lowers : (front : List Version) (kind : Kind) (id : VersionId) (created ceased : ℕ) (back : List Version) → RemoveFits kind front back
    → work (front ++ back) < work (front ++ record { id = id; kind = kind; created = created; ceased = ceased } ∷ back)
remove_lowers [] (Object size class tags entered) id created ceased back fits =
    omega (arith, rank_most class, marker_most back, sum_by-cons version_work (record { id = id; kind = Object size class tags entered; created = created; ceased = ceased }) back)
remove_lowers [] Marker id created ceased back fits = rw fits (omega arith)
remove_lowers (f ∷ front) (Object size class tags entered) id created ceased back fits = remove_front f front _ back
remove_lowers (f ∷ front) Marker id created ceased back fits = remove_front f front _ back

-- ---- transition

pub move_lowers : (to : Class) (at : ℕ) (front : List Version) (kind : Kind) (id : VersionId) (created ceased : ℕ) (back : List Version) → MoveFits to kind
    → work (front ++ with_class to at (record { id = id; kind = kind; created = created; ceased = ceased }) ∷ back)
    < work (front ++ record { id = id; kind = kind; created = created; ceased = ceased } ∷ back)
move_lowers to at front Marker id created ceased back fits = absurd fits
move_lowers to at [] (Object size class tags entered) id created ceased back fits =
    let v : Version = record { id = id; kind = Object size class tags entered; created = created; ceased = ceased } in
    let a : sum_by version_work (v ∷ back) ≡ (6 - rank_of class) + sum_by version_work back = sum_by-cons version_work v back in
    let b : sum_by version_work (with_class to at v ∷ back) ≡ (6 - rank_of to) + sum_by version_work back = sum_by-cons version_work (with_class to at v) back in
    omega (arith, rank_most to)
move_lowers to at (f ∷ front) (Object size class tags entered) id created ceased back fits =
    let v : Version = record { id = id; kind = Object size class tags entered; created = created; ceased = ceased } in
    let a : sum_by version_work ((f ∷ front) ++ v ∷ back) ≡ sum_by version_work (f ∷ front) + ((6 - rank_of class) + sum_by version_work back) = middle (f ∷ front) v back in
    let b : sum_by version_work ((f ∷ front) ++ with_class to at v ∷ back)
    ≡ sum_by version_work (f ∷ front) + ((6 - rank_of to) + sum_by version_work back) =
    middle (f ∷ front) (with_class to at v) back in
    omega (arith, rank_most to)

-- ---- a marker

filter_most : (test : Version → Bool) (versions : List Version) → sum_by version_work (filter test versions) ≤ sum_by version_work versions
filter_most test [] = omega arith
filter_most test (v ∷ versions) = by (test v) (filter_most test versions) where
  by : (b : Bool) → sum_by version_work (filter test versions) ≤ sum_by version_work versions
      → sum_by version_work (cond b (v ∷ filter test versions) (filter test versions)) ≤ sum_by version_work (v ∷ versions)
  by true h = omega (arith, sum_by-cons version_work v (filter test versions), sum_by-cons version_work v versions)
  by false h = omega (arith, sum_by-cons version_work v versions)

pub marker_lowers : (new : VersionId) (at : ℕ) (front : List Version) (kind : Kind) (id : VersionId) (created ceased : ℕ) (back : List Version) → MarkerFits kind front
    → work (adding new Marker at (front ++ record { id = id; kind = kind; created = created; ceased = ceased } ∷ back))
    < work (front ++ record { id = id; kind = kind; created = created; ceased = ceased } ∷ back)
marker_lowers new at [] Marker id created ceased back fits = absurd fits
marker_lowers new at (f ∷ front) Marker id created ceased back fits = absurd fits
marker_lowers new at (f ∷ front) (Object size class tags entered) id created ceased back fits = absurd fits
marker_lowers new at [] (Object size class tags entered) id created ceased back fits =
    let v : Version = record { id = id; kind = Object size class tags entered; created = created; ceased = ceased } in
    let w : Version = record { id = id; kind = Object size class tags entered; created = created; ceased = at } in
    let m : Version = new_version new Marker at in
    let kept = without new (w ∷ back) in
    let a : sum_by version_work (v ∷ back) ≡ (6 - rank_of class) + sum_by version_work back = sum_by-cons version_work v back in
    let b : sum_by version_work (w ∷ back) ≡ (6 - rank_of class) + sum_by version_work back = sum_by-cons version_work w back in
    let c : sum_by version_work (m ∷ kept) ≡ 1 + sum_by version_work kept = sum_by-cons version_work m kept in
    let d : sum_by version_work kept ≤ sum_by version_work (w ∷ back) = filter_most (λ version. not (has_id new version)) (w ∷ back) in
    omega arith

-- ---- the bound

at_most : (kind : Kind) (id : VersionId) (created ceased : ℕ) → version_work (record { id = id; kind = kind; created = created; ceased = ceased }) ≤ 6
at_most (Object size class tags entered) id created ceased = omega arith
at_most Marker id created ceased = omega arith

each_most : (versions : List Version) → sum_by version_work versions ≤ 6 * length versions
each_most [] = omega arith
each_most (v ∷ versions) =
    let h = each_most versions in
    let k = at_most v.kind v.id v.created v.ceased in
    omega (arith, sum_by-cons version_work v versions)

pub stack_most : (versions : List Version) → work versions ≤ 8 * length versions
stack_most [] = omega arith
stack_most (v ∷ versions) = let h = each_most (v ∷ versions) in omega (arith, marker_most (v ∷ versions))
