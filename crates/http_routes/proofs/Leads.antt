-- The table leads a path where the target leads.
use Rattle.std.proofs.Common.{◌≡◌, ℕ, ◌<◌, true, false, List, length, get_or, refl, sym, ap, ◌∙◌, subst, arith}
use Rattle.std.specs.List.{Contains}
use Rattle.std.specs.Str.{IsUtf8}
use Rattle.std.proofs.lemmas.List.{get_or-map, length-map}
use Rattle.std.proofs.lemmas.Str.{IsUtf8-from_is_utf8, is_utf8-from_IsUtf8}
use Rattle.route_table.specs.Paths.{path_of, AreInRange, has_byte}
use Rattle.route_table.specs.Patterns.{Shape, shapes_of, parts_between, HasPattern, are_disjoint}
use Rattle.route_table.specs.Tables.{patterns_of, Leads, LeadsNowhere}
use Rattle.route_table.proofs.Filled.{filled, filled_shapes, is_filled}
use Rattle.route_table.proofs.Unique.{leads_only}
use Rattle.http_routes.specs.declared.routes.Kind.{Kind}
use Rattle.http_routes.specs.declared.routes.Kind.TheVariants.{Bucket, Versioning, Lifecycle, Object, Version, Tags, Uploads, Upload, Part, Act, Due, Meters, Tariff, Close, Report}
use Rattle.http_routes.specs.Targets.{Resource, bucket, versioning, lifecycle, object, version, tags, uploads, upload, part, act, due, meters, tariff, close, report, pieces_of, Spells, HasRoute}
use Rattle.http_routes.specs.Table.{named, pattern_of, route_kinds, rows}

-- ---- an arm for each route

-- where a kind stands in the table, and that its pattern with parts spells what they name
pub record HasPlace (kind : Kind) : Type 0 where
  pub place : ℕ
  pub within : place < length route_kinds
  pub is : get_or route_kinds place Bucket ≡ kind
  pub spells : (parts : List (List ℕ)) → filled (pattern_of kind) parts 0 ≡ pieces_of (named kind parts)

place_of : (kind : Kind) → HasPlace kind
place_of Bucket = record { place = 0; within = omega arith; is = refl; spells = λ parts. refl }
place_of Versioning = record { place = 1; within = omega arith; is = refl; spells = λ parts. refl }
place_of Lifecycle = record { place = 2; within = omega arith; is = refl; spells = λ parts. refl }
place_of Object = record { place = 3; within = omega arith; is = refl; spells = λ parts. refl }
place_of Version = record { place = 4; within = omega arith; is = refl; spells = λ parts. refl }
place_of Tags = record { place = 5; within = omega arith; is = refl; spells = λ parts. refl }
place_of Uploads = record { place = 6; within = omega arith; is = refl; spells = λ parts. refl }
place_of Upload = record { place = 7; within = omega arith; is = refl; spells = λ parts. refl }
place_of Part = record { place = 8; within = omega arith; is = refl; spells = λ parts. refl }
place_of Act = record { place = 9; within = omega arith; is = refl; spells = λ parts. refl }
place_of Due = record { place = 10; within = omega arith; is = refl; spells = λ parts. refl }
place_of Meters = record { place = 11; within = omega arith; is = refl; spells = λ parts. refl }
place_of Tariff = record { place = 12; within = omega arith; is = refl; spells = λ parts. refl }
place_of Close = record { place = 13; within = omega arith; is = refl; spells = λ parts. refl }
place_of Report = record { place = 14; within = omega arith; is = refl; spells = λ parts. refl }

-- the kind of what is named, which its parts name
pub record HasKind (resource : Resource) : Type 0 where
  pub kind : Kind
  pub is : named kind (parts_between (pieces_of resource)) ≡ resource

kind_of : (resource : Resource) → HasKind resource
kind_of (bucket name) = record { kind = Bucket; is = refl }
kind_of (versioning name) = record { kind = Versioning; is = refl }
kind_of (lifecycle name) = record { kind = Lifecycle; is = refl }
kind_of (object name key) = record { kind = Object; is = refl }
kind_of (version name id key) = record { kind = Version; is = refl }
kind_of (tags name id key) = record { kind = Tags; is = refl }
kind_of (uploads name key) = record { kind = Uploads; is = refl }
kind_of (upload name id) = record { kind = Upload; is = refl }
kind_of (part name id number) = record { kind = Part; is = refl }
kind_of (act name) = record { kind = Act; is = refl }
kind_of (due name) = record { kind = Due; is = refl }
kind_of (meters name month) = record { kind = Meters; is = refl }
kind_of tariff = record { kind = Tariff; is = refl }
kind_of (close month) = record { kind = Close; is = refl }
kind_of (report month) = record { kind = Report; is = refl }

-- ---- for all routes

-- no two patterns have one path
pub disjoint : are_disjoint (patterns_of rows) ≡ true
unfolding rows
disjoint = refl

-- the row of a kind
abbrev row : Kind → List Shape × Kind
row kind = (pattern_of kind, kind)

has_row : (kind : Kind) → Contains rows (row kind)
unfolding rows
has_row kind =
    let at = place_of kind in
    (at.place, omega (arith, length-map route_kinds row, at.within), get_or-map row route_kinds at.place Bucket (row kind) at.within ∙ ap row at.is)

row_is : (pattern : List Shape) (kind : Kind) → Contains rows (pattern, kind) → pattern ≡ pattern_of kind
unfolding rows
row_is pattern kind (place, within, is) =
    let there : row (get_or route_kinds place Bucket) ≡ (pattern, kind) =
    sym (get_or-map row route_kinds place Bucket (pattern, kind) (omega (arith, length-map route_kinds row, within))) ∙ is in
    sym (ap (λ (r : List Shape × Kind). r.0) there) ∙ ap (λ (r : List Shape × Kind). pattern_of r.1) there

-- what the table leads to is spelled by the path
spelled : (path : List ℕ) (kind : Kind) (parts : List (List ℕ)) → Leads rows path kind parts → Spells path (named kind parts)
spelled path kind parts leads =
    let has = subst (λ (p : List Shape). HasPattern p parts path) (row_is leads.pattern kind leads.row) leads.has in
    let pieces : has.pieces ≡ pieces_of (named kind parts) = is_filled (pattern_of kind) parts path has ∙ (place_of kind).spells parts in
    (has.spelled ∙ ap path_of pieces, subst AreInRange pieces has.in_range)

-- and to what is spelled the table leads
leads : (resource : Resource) (path : List ℕ) → Spells path resource → Leads rows path (kind_of resource).kind (parts_between (pieces_of resource))
leads resource path is =
    let of = kind_of resource in
    let parts = parts_between (pieces_of resource) in
    let pieces : filled (pattern_of of.kind) parts 0 ≡ pieces_of resource = (place_of of.kind).spells parts ∙ ap pieces_of of.is in
    record {
      pattern = pattern_of of.kind;
      row = has_row of.kind;
      has = record {
        pieces = pieces_of resource;
        has_shapes = ap shapes_of (sym pieces) ∙ filled_shapes (pattern_of of.kind) parts 0;
        has_parts = refl;
        spelled = is.0;
        in_range = is.1;
      };
    }

-- a target names one resource
pub one_route : (target : List ℕ) (one other : Resource) → HasRoute target one → HasRoute target other → one ≡ other
one_route target one other has also =
    let first = kind_of one in
    let second = kind_of other in
    let parts = parts_between (pieces_of one) in
    let more = parts_between (pieces_of other) in
    let same = leads_only rows target second.kind more disjoint (leads other target also.spelled) first.kind parts (leads one target has.spelled) in
    sym first.is ∙ ap (λ (k : Kind). named k parts) same.0 ∙ ap (λ (p : List (List ℕ)). named second.kind p) same.1 ∙ second.is

-- ---- what is found

-- other bytes lead nowhere
pub not_text : (target : List ℕ) → ¬ (IsUtf8 target) → (resource : Resource) → HasRoute target resource → ⊥
not_text target not resource has = not (IsUtf8-from_is_utf8 target has.text)

-- a path that the table leads nowhere is no target
pub not_found : (target path : List ℕ) → path ≡ target → LeadsNowhere rows path → (resource : Resource) → HasRoute target resource → ⊥
not_found target path same nowhere resource has =
    subst (λ (p : List ℕ). LeadsNowhere rows p) same nowhere (kind_of resource).kind (parts_between (pieces_of resource)) (leads resource target has.spelled)

-- a path that it leads somewhere is a target of what is named
pub found : (target path : List ℕ) (resource : Resource) (kind : Kind) (parts : List (List ℕ)) → path ≡ target → IsUtf8 target
    → has_byte 63 target ≡ false → Leads rows path kind parts → resource ≡ named kind parts → HasRoute target resource
found target path resource kind parts same text no_query leads is = record {
  text = is_utf8-from_IsUtf8 target text;
  no_query = no_query;
  spelled = subst (λ (r : Resource). Spells target r) (sym is) (subst (λ (p : List ℕ). Spells p (named kind parts)) same (spelled path kind parts leads));
}
