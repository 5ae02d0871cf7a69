-- Worked examples of targets and keys.
use Rattle.std.proofs.Common.{◌≡◌, false, [], ◌∷◌, codes, refl, sym}
use Rattle.std.proofs.lemmas.Bool.{false≢true}
use Rattle.percent_encoding.specs.Percent.{percent_decode}
use Rattle.office_base.specs.Keys.{is_key}
use Rattle.http_routes.specs.Targets.{Resource, bucket, versioning, lifecycle, object, version, tags, uploads, upload, part, act, due, meters, tariff, close, report, HasRoute}
use Rattle.http_routes.specs.Table.{rows}
use Rattle.http_routes.specs.Spelled.{key_of}
use Rattle.http_routes.proofs.Computed.{there, nowhere}

-- ---- targets, one of each route

a_bucket : HasRoute (codes "/buckets/a%2Fb") (bucket (codes "a%2Fb"))
a_bucket = there (codes "/buckets/a%2Fb") (bucket (codes "a%2Fb")) refl

its_versioning : HasRoute (codes "/buckets/a/versioning") (versioning (codes "a"))
its_versioning = there (codes "/buckets/a/versioning") (versioning (codes "a")) refl

its_lifecycle : HasRoute (codes "/buckets/a/lifecycle") (lifecycle (codes "a"))
its_lifecycle = there (codes "/buckets/a/lifecycle") (lifecycle (codes "a")) refl

an_object : HasRoute (codes "/buckets/a/objects/b%2Fc") (object (codes "a") (codes "b%2Fc"))
an_object = there (codes "/buckets/a/objects/b%2Fc") (object (codes "a") (codes "b%2Fc")) refl

a_version : HasRoute (codes "/buckets/a/versions/3/b/c") (version (codes "a") (codes "3") (codes "b/c"))
a_version = there (codes "/buckets/a/versions/3/b/c") (version (codes "a") (codes "3") (codes "b/c")) refl

its_tags : HasRoute (codes "/buckets/a/tags/null/b") (tags (codes "a") (codes "null") (codes "b"))
its_tags = there (codes "/buckets/a/tags/null/b") (tags (codes "a") (codes "null") (codes "b")) refl

its_uploads : HasRoute (codes "/buckets/a/uploads/b") (uploads (codes "a") (codes "b"))
its_uploads = there (codes "/buckets/a/uploads/b") (uploads (codes "a") (codes "b")) refl

an_upload : HasRoute (codes "/buckets/a/upload/7") (upload (codes "a") (codes "7"))
an_upload = there (codes "/buckets/a/upload/7") (upload (codes "a") (codes "7")) refl

a_part : HasRoute (codes "/buckets/a/parts/7/00001") (part (codes "a") (codes "7") (codes "00001"))
a_part = there (codes "/buckets/a/parts/7/00001") (part (codes "a") (codes "7") (codes "00001")) refl

an_action : HasRoute (codes "/buckets/a/act") (act (codes "a"))
an_action = there (codes "/buckets/a/act") (act (codes "a")) refl

a_due_action : HasRoute (codes "/buckets/a/due") (due (codes "a"))
a_due_action = there (codes "/buckets/a/due") (due (codes "a")) refl

some_meters : HasRoute (codes "/buckets/a/meters/2024-01") (meters (codes "a") (codes "2024-01"))
some_meters = there (codes "/buckets/a/meters/2024-01") (meters (codes "a") (codes "2024-01")) refl

the_tariff : HasRoute (codes "/tariff") tariff
the_tariff = there (codes "/tariff") tariff refl

a_close : HasRoute (codes "/months/2024-01/close") (close (codes "2024-01"))
a_close = there (codes "/months/2024-01/close") (close (codes "2024-01")) refl

a_report : HasRoute (codes "/months/2024-01/report") (report (codes "2024-01"))
a_report = there (codes "/months/2024-01/report") (report (codes "2024-01")) refl

-- a key may begin with a slash, and be one
a_slash : HasRoute (codes "/buckets/a/objects//") (object (codes "a") (codes "/"))
a_slash = there (codes "/buckets/a/objects//") (object (codes "a") (codes "/")) refl

-- names are not looked into
another_name : HasRoute (codes "/buckets/Tariff~/act") (act (codes "Tariff~"))
another_name = there (codes "/buckets/Tariff~/act") (act (codes "Tariff~")) refl

-- with a query a target leads nowhere
a_query : (resource : Resource) → HasRoute (codes "/buckets/a?b") resource → ⊥
a_query resource has = false≢true (sym has.no_query)

-- a target without a slash in front leads nowhere
no_slash : (resource : Resource) → HasRoute (codes "buckets/a") resource → ⊥
unfolding rows
no_slash = nowhere (codes "buckets/a") refl

-- a target with another word leads nowhere
another_word : (resource : Resource) → HasRoute (codes "/bucket/x") resource → ⊥
unfolding rows
another_word = nowhere (codes "/bucket/x") refl

-- a target without its last part leads nowhere
no_bucket : (resource : Resource) → HasRoute (codes "/buckets/") resource → ⊥
unfolding rows
no_bucket = nowhere (codes "/buckets/") refl

no_part : (resource : Resource) → HasRoute (codes "/buckets/a/parts/7/") resource → ⊥
unfolding rows
no_part = nowhere (codes "/buckets/a/parts/7/") refl

-- a target with an empty segment in place of a part leads nowhere
empty_part : (resource : Resource) → HasRoute (codes "/buckets/a/parts//1") resource → ⊥
unfolding rows
empty_part = nowhere (codes "/buckets/a/parts//1") refl

empty_id : (resource : Resource) → HasRoute (codes "/buckets/a/versions//b") resource → ⊥
unfolding rows
empty_id = nowhere (codes "/buckets/a/versions//b") refl

empty_month : (resource : Resource) → HasRoute (codes "/months//close") resource → ⊥
unfolding rows
empty_month = nowhere (codes "/months//close") refl

-- a target with an empty key leads nowhere
no_key : (resource : Resource) → HasRoute (codes "/buckets/a/objects/") resource → ⊥
unfolding rows
no_key = nowhere (codes "/buckets/a/objects/") refl

no_key_of_a_version : (resource : Resource) → HasRoute (codes "/buckets/a/versions/3/") resource → ⊥
unfolding rows
no_key_of_a_version = nowhere (codes "/buckets/a/versions/3/") refl

-- a target with a slash at the end leads nowhere
a_slash_at_the_end : (resource : Resource) → HasRoute (codes "/tariff/") resource → ⊥
unfolding rows
a_slash_at_the_end = nowhere (codes "/tariff/") refl

a_slash_after_a_word : (resource : Resource) → HasRoute (codes "/buckets/a/act/") resource → ⊥
unfolding rows
a_slash_after_a_word = nowhere (codes "/buckets/a/act/") refl

a_slash_after_a_part : (resource : Resource) → HasRoute (codes "/buckets/a/upload/7/") resource → ⊥
unfolding rows
a_slash_after_a_part = nowhere (codes "/buckets/a/upload/7/") refl

-- ---- keys

decoded : key_of (codes "b%2Fc") ≡ codes "b/c"
unfolding percent_decode
decoded = refl

in_lower_case : key_of (codes "b%2fc") ≡ codes "b/c"
unfolding percent_decode
in_lower_case = refl

decoded_once : key_of (codes "%2541") ≡ codes "%41"
unfolding percent_decode
decoded_once = refl

no_digits : key_of (codes "%zz") ≡ codes "%zz"
unfolding percent_decode
no_digits = refl

at_the_end : key_of (codes "a%4") ≡ codes "a%4"
unfolding percent_decode
at_the_end = refl

a_plus : key_of (codes "a+b") ≡ codes "a+b"
unfolding percent_decode
a_plus = refl

any_byte : key_of (codes "%ff") ≡ 255 ∷ []
unfolding percent_decode
any_byte = refl

empty : is_key (key_of []) ≡ false
unfolding percent_decode is_key
empty = refl
