-- Where the target of a request leads. A target is the origin-form of RFC 9112, "Request Target": a path, as RFC 3986,
-- "Path", has it. The routes (own):
--     /buckets/{bucket}                        a bucket
--     /buckets/{bucket}/versioning             its versioning
--     /buckets/{bucket}/lifecycle              its lifecycle configuration
--     /buckets/{bucket}/objects/{*key}         an object of a bucket
--     /buckets/{bucket}/versions/{id}/{*key}   a version of an object
--     /buckets/{bucket}/tags/{id}/{*key}       the tags of a version
--     /buckets/{bucket}/uploads/{*key}         the uploads of an object
--     /buckets/{bucket}/upload/{id}            an upload
--     /buckets/{bucket}/parts/{id}/{part}      a part of an upload
--     /buckets/{bucket}/act                    the next lifecycle action of a bucket, taken
--     /buckets/{bucket}/due                    the next lifecycle action of a bucket, shown
--     /buckets/{bucket}/meters/{month}         the meters of a bucket in a month
--     /tariff                                  the tariff
--     /months/{month}/close                    the close of a month
--     /months/{month}/report                   the report of a month
-- {name} is a segment, with one byte or more and no slash. {*key} is all that is left, with one byte or more. Parts are
-- the bytes of the target: nothing is percent-decoded.
use Rattle.std.specs.Prelude.{◌≡◌, ℕ, false, List, [], ◌∷◌, codes, IsTrue}
use Rattle.std.specs.Str.{is_utf8}
use Rattle.route_table.specs.Paths.{Piece, word, segment, remainder, has_byte, path_of, AreInRange}
use Rattle.http_routes.specs.declared.route.Route.{Route}
use Rattle.http_routes.specs.declared.route.Route.TheVariants.{Bucket, Versioning, Lifecycle, Object, Version, Tags, Uploads, Upload, Part}
use Rattle.http_routes.specs.declared.route.Route.TheVariants.{Act, Due, Meters, Tariff, Close, Report}

-- the resource that a target names, with its parts in order
pub data Resource : Type 0 where
  bucket : List ℕ → Resource
  versioning : List ℕ → Resource
  lifecycle : List ℕ → Resource
  object : List ℕ → List ℕ → Resource
  version : List ℕ → List ℕ → List ℕ → Resource
  tags : List ℕ → List ℕ → List ℕ → Resource
  uploads : List ℕ → List ℕ → Resource
  upload : List ℕ → List ℕ → Resource
  part : List ℕ → List ℕ → List ℕ → Resource
  act : List ℕ → Resource
  due : List ℕ → Resource
  meters : List ℕ → List ℕ → Resource
  tariff : Resource
  close : List ℕ → Resource
  report : List ℕ → Resource

-- the pieces of a path that begins with a bucket
abbrev of_bucket : List ℕ → List Piece → List Piece
of_bucket name pieces = word (codes "buckets") ∷ segment name ∷ pieces

-- the pieces of the path that names this resource
abbrev pub pieces_of : Resource → List Piece
pieces_of (bucket name) = of_bucket name []
pieces_of (versioning name) = of_bucket name (word (codes "versioning") ∷ [])
pieces_of (lifecycle name) = of_bucket name (word (codes "lifecycle") ∷ [])
pieces_of (object name key) = of_bucket name (word (codes "objects") ∷ remainder key ∷ [])
pieces_of (version name id key) = of_bucket name (word (codes "versions") ∷ segment id ∷ remainder key ∷ [])
pieces_of (tags name id key) = of_bucket name (word (codes "tags") ∷ segment id ∷ remainder key ∷ [])
pieces_of (uploads name key) = of_bucket name (word (codes "uploads") ∷ remainder key ∷ [])
pieces_of (upload name id) = of_bucket name (word (codes "upload") ∷ segment id ∷ [])
pieces_of (part name id number) = of_bucket name (word (codes "parts") ∷ segment id ∷ segment number ∷ [])
pieces_of (act name) = of_bucket name (word (codes "act") ∷ [])
pieces_of (due name) = of_bucket name (word (codes "due") ∷ [])
pieces_of (meters name month) = of_bucket name (word (codes "meters") ∷ segment month ∷ [])
pieces_of tariff = word (codes "tariff") ∷ []
pieces_of (close month) = word (codes "months") ∷ segment month ∷ word (codes "close") ∷ []
pieces_of (report month) = word (codes "months") ∷ segment month ∷ word (codes "report") ∷ []

-- the target is spelled with these parts, and they are in range
abbrev pub Spells : List ℕ → Resource → Type 0
Spells target resource = (target ≡ path_of (pieces_of resource)) × AreInRange (pieces_of resource)

-- the target names this resource: it is UTF-8 and has no query (own: a target with other bytes or a `?` names nothing)
pub record HasRoute (target : List ℕ) (resource : Resource) : Type 0 where
  pub text : IsTrue (is_utf8 target)
  pub no_query : has_byte 63 target ≡ false
  pub spelled : Spells target resource

-- the resource that a route names
abbrev pub resource_of : Route → Resource
resource_of (Bucket name) = bucket name.now
resource_of (Versioning name) = versioning name.now
resource_of (Lifecycle name) = lifecycle name.now
resource_of (Object name key) = object name.now key.now
resource_of (Version name id key) = version name.now id.now key.now
resource_of (Tags name id key) = tags name.now id.now key.now
resource_of (Uploads name key) = uploads name.now key.now
resource_of (Upload name id) = upload name.now id.now
resource_of (Part name id number) = part name.now id.now number.now
resource_of (Act name) = act name.now
resource_of (Due name) = due name.now
resource_of (Meters name month) = meters name.now month.now
resource_of Tariff = tariff
resource_of (Close month) = close month.now
resource_of (Report month) = report month.now
