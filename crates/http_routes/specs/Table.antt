-- The table of the routes: the pattern of each kind of route, and the resource that its parts name.
use Rattle.std.specs.Prelude.{ℕ, List, [], ◌∷◌, map, get_or}
use Rattle.route_table.specs.Patterns.{Shape, shapes_of}
use Rattle.http_routes.specs.Targets.{Resource, bucket, versioning, lifecycle, object, version, tags, uploads, upload, part, act, due}
use Rattle.http_routes.specs.Targets.{meters, tariff, close, report, pieces_of}
use Rattle.http_routes.specs.declared.routes.Kind.{Kind}
use Rattle.http_routes.specs.declared.routes.Kind.TheVariants.{Bucket, Versioning, Lifecycle, Object, Version, Tags, Uploads, Upload, Part}
use Rattle.http_routes.specs.declared.routes.Kind.TheVariants.{Act, Due, Meters, Tariff, Close, Report}

-- the first part, empty if there is none
abbrev pub first_part : List (List ℕ) → List ℕ
first_part parts = get_or parts 0 []

-- the second part, empty if there are fewer
abbrev pub second_part : List (List ℕ) → List ℕ
second_part parts = get_or parts 1 []

-- the third part, empty if there are fewer
abbrev pub third_part : List (List ℕ) → List ℕ
third_part parts = get_or parts 2 []

-- the resource that a route of this kind names, given its parts
abbrev pub named : Kind → List (List ℕ) → Resource
named Bucket parts = bucket (first_part parts)
named Versioning parts = versioning (first_part parts)
named Lifecycle parts = lifecycle (first_part parts)
named Object parts = object (first_part parts) (second_part parts)
named Version parts = version (first_part parts) (second_part parts) (third_part parts)
named Tags parts = tags (first_part parts) (second_part parts) (third_part parts)
named Uploads parts = uploads (first_part parts) (second_part parts)
named Upload parts = upload (first_part parts) (second_part parts)
named Part parts = part (first_part parts) (second_part parts) (third_part parts)
named Act parts = act (first_part parts)
named Due parts = due (first_part parts)
named Meters parts = meters (first_part parts) (second_part parts)
named Tariff parts = tariff
named Close parts = close (first_part parts)
named Report parts = report (first_part parts)

-- the pattern of a kind of route: the shapes of the pieces of its resource, the same for all parts
abbrev pub pattern_of : Kind → List Shape
pattern_of kind = shapes_of (pieces_of (named kind []))

-- the kinds, in the order of the table
abbrev pub route_kinds : List Kind
route_kinds =
    Bucket ∷ Versioning ∷ Lifecycle ∷ Object ∷ Version ∷ Tags ∷ Uploads ∷ Upload ∷ Part ∷ Act ∷ Due ∷ Meters
    ∷ Tariff ∷ Close ∷ Report ∷ []

-- the rows of the table: the pattern of each kind, and the kind
unfoldable pub rows : List (List Shape × Kind)
rows = map (λ kind. (pattern_of kind, kind)) route_kinds
