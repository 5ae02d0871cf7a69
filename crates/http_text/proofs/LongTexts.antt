-- The bodies of long replies, by their parts.
use Rattle.std.proofs.Common.{◌≡◌, ◌∙◌, ℕ, ◌+◌, ◌-◌, ◌<◌, ◌≤◌, true, false, List, [], ◌∷◌, ◌++◌, take, drop, length, get_or, slice_index_or, arith, map, codes, decimal, refl, sym, ap, Option, Some}
use Rattle.std.proofs.Common.{None, Ok}
use Rattle.std.proofs.lemmas.List.{take_all}
use Rattle.json.specs.Print.{quoted}
use Rattle.serde_json.specs.View.{items_of}
use Rattle.serde_json.specs.Written.{compact_text, items_text}
use Rattle.serde_json.proofs.OnLiterals.{serde_json_on_literals}
use Rattle.moments.specs.Texts.{moment_text}
use Rattle.class_rules.specs.Classes.{class_name}
use Rattle.class_rules.specs.declared.class.Class.{Class}
use Rattle.class_rules.specs.declared.class.Class.TheVariants.{Standard, StandardIa, OnezoneIa, GlacierIr, Glacier, DeepArchive}
use Rattle.office_base.specs.Tags.{Tag}
use Rattle.office_base.specs.Versions.{id_text}
use Rattle.office_base.specs.declared.version_id.VersionId.{VersionId}
use Rattle.stacks.specs.Stacks.{StackRecord}
use Rattle.stacks.specs.declared.version.Kind.{Kind}
use Rattle.stacks.specs.declared.version.Kind.TheVariants.{Object, Marker}
use Rattle.stacks.specs.declared.version.Version.{Version}
use Rattle.uploads.specs.Uploads.{UploadRecord}
use Rattle.uploads.specs.declared.part.Part.{Part}
use Rattle.tariff.specs.Prices.{Prices, storage_tiers, move_price}
use Rattle.tariff.specs.declared.tiers.Tier.{Tier}
use Rattle.office_types.specs.declared.reply.Reply.TheVariants.{StackShown, UploadShown, TariffShown}
use Rattle.http_text.specs.Bodies.{kind_fields, noncurrent_version, version_text, versions_text, tags_text, part_data, parts_text, upto_fields, tier_data, tiers_text, tier_list_text, storage_text, moves_text, tariff_data, tariffs_text}
use Rattle.http_text.specs.Json.{json_object, whole_data, moment_data, id_data}
use Rattle.http_text.specs.Names.{month_text}
use Rattle.http_text.specs.Parts.{since_part, upto_part}
use Rattle.http_text.specs.Replies.{body_text}
use Rattle.http_text.proofs.Going.{item_left}

-- ---- versions

text_by : Option ℕ → VersionId → ℕ → Kind → List ℕ
text_by None id created kind = compact_text (json_object ((codes "version", id_data id) ∷ (codes "created", moment_data created) ∷ kind_fields kind))
text_by (Some since) id created kind =
    compact_text (json_object ((codes "noncurrent_since", moment_data since) ∷ (codes "version", id_data id) ∷ (codes "created", moment_data created) ∷ kind_fields kind))

abbrev pub object_parts : Option ℕ → VersionId → ℕ → ℕ → Class → List Tag → ℕ → List ℕ
object_parts since id created size class tags entered =
    (codes "{\"class\":" ++ quoted (class_name class)) ++ ((codes ",\"created\":" ++ quoted (moment_text created)) ++ ((codes ",\"entered\":" ++ quoted (moment_text entered))
    ++ (codes ",\"kind\":\"object\"" ++ (since_part since ++ ((codes ",\"size\":" ++ decimal size) ++ (codes ",\"tags\":" ++ (tags_text tags
    ++ ((codes ",\"version\":" ++ quoted (id_text id)) ++ codes "}"))))))))

object_by : (since : Option ℕ) (id : VersionId) (created size : ℕ) (class : Class) (tags : List Tag) (entered : ℕ)
    → object_parts since id created size class tags entered ≡ text_by since id created (Object size class tags entered)
unfolding serde_json_on_literals text_by tags_text
object_by None id created size class tags entered = refl
object_by (Some since) id created size class tags entered = refl

version_by : (since : Option ℕ) (v : Version) → text_by since v.id v.created v.kind ≡ version_text since v
unfolding text_by version_text
version_by None v = refl
version_by (Some since) v = refl

pub object_is : (since : Option ℕ) (v : Version) (size : ℕ) (class : Class) (tags : List Tag) (entered : ℕ) → v.kind ≡ Object size class tags entered
    → object_parts since v.id v.created size class tags entered ≡ version_text since v
object_is since v size class tags entered is = object_by since v.id v.created size class tags entered ∙ ap (text_by since v.id v.created) (sym is) ∙ version_by since v

abbrev pub marker_parts : Option ℕ → VersionId → ℕ → List ℕ
marker_parts since id created =
    (codes "{\"created\":" ++ quoted (moment_text created)) ++ (codes ",\"kind\":\"marker\"" ++ (since_part since ++ ((codes ",\"version\":" ++ quoted (id_text id)) ++ codes "}")))

marker_by : (since : Option ℕ) (id : VersionId) (created : ℕ) → marker_parts since id created ≡ text_by since id created Marker
unfolding serde_json_on_literals text_by
marker_by None id created = refl
marker_by (Some since) id created = refl

pub marker_is : (since : Option ℕ) (v : Version) → v.kind ≡ Marker → marker_parts since v.id v.created ≡ version_text since v
marker_is since v is = marker_by since v.id v.created ∙ ap (text_by since v.id v.created) (sym is) ∙ version_by since v

pub no_versions : (versions : List Version) → length versions < 1 → codes "[]" ≡ versions_text versions
unfolding versions_text
no_versions [] none = refl
no_versions (v ∷ versions) none = absurd (omega (arith, none))

pub versions_is : (current : Version) (noncurrent : List Version)
    → codes "[" ++ (version_text None current ++ items_text true (items_of (map noncurrent_version noncurrent))) ≡ versions_text (current ∷ noncurrent)
unfolding versions_text version_text
versions_is current noncurrent = refl

-- one more noncurrent version
pub version_left : (versions : List Version) (i : ℕ) (d : Version) → i < length versions
    → items_text true (items_of (map noncurrent_version (drop i versions)))
    ≡ (codes "," ++ version_text (Some (get_or versions i d).ceased) (get_or versions i d)) ++ items_text true (items_of (map noncurrent_version (drop (i + 1) versions)))
unfolding version_text
version_left versions i d inside = item_left noncurrent_version true versions i d inside

-- the current one and the others
pub versions_by_place : (versions : List Version) (d current : Version) → 1 ≤ length versions → current ≡ slice_index_or versions 0 d
    → codes "[" ++ (version_text None current ++ items_text true (items_of (map noncurrent_version (take (length versions - 1) (drop 1 versions))))) ≡ versions_text versions
versions_by_place [] d current some is = absurd (omega (arith, some))
versions_by_place (v ∷ versions) d current some is =
    ap (λ (vs : List Version). codes "[" ++ (version_text None current ++ items_text true (items_of (map noncurrent_version vs)))) (take_all (length (v ∷ versions) - 1) versions (omega arith))
    ∙ ap (λ (c : Version). codes "[" ++ (version_text None c ++ items_text true (items_of (map noncurrent_version versions)))) is ∙ versions_is v versions

pub stack_is : (key : List ℕ) (stack : StackRecord)
    → (codes "{\"changed\":" ++ quoted (moment_text stack.changed)) ++ (codes ",\"key\":" ++ (quoted key ++ (codes ",\"versions\":" ++ (versions_text stack.versions ++ codes "}"))))
    ≡ body_text (Ok (StackShown key stack))
unfolding serde_json_on_literals body_text versions_text
stack_is key stack = refl

-- ---- uploads

pub part_is : (n : ℕ) (part : Part) → (codes "{\"part\":" ++ decimal n) ++ ((codes ",\"size\":" ++ decimal part.size) ++ codes "}") ≡ compact_text (part_data (n, part))
unfolding serde_json_on_literals
part_is n part = refl

pub parts_is : (parts : List (ℕ × Part)) → codes "[" ++ items_text false (items_of (map part_data parts)) ≡ parts_text parts
unfolding parts_text
parts_is parts = refl

pub upload_is : (n : ℕ) (u : UploadRecord)
    → (codes "{\"class\":" ++ quoted (class_name u.class)) ++ (codes ",\"key\":" ++ (quoted u.key ++ (codes ",\"parts\":" ++ (parts_text u.parts
    ++ ((codes ",\"started\":" ++ quoted (moment_text u.started)) ++ (codes ",\"tags\":" ++ (tags_text u.tags ++ ((codes ",\"upload\":" ++ decimal n) ++ codes "}"))))))))
    ≡ body_text (Ok (UploadShown n u))
unfolding serde_json_on_literals body_text parts_text tags_text
upload_is n u = refl

-- ---- tariffs

tier_by : (upto : Option ℕ) (price : ℕ) → (codes "{\"price\":" ++ decimal price) ++ (upto_part upto ++ codes "}") ≡ compact_text (json_object ((codes "price", whole_data price) ∷ upto_fields upto))
unfolding serde_json_on_literals
tier_by None price = refl
tier_by (Some upto) price = refl

pub tier_is : (t : Tier) → (codes "{\"price\":" ++ decimal t.price) ++ (upto_part t.upto ++ codes "}") ≡ compact_text (tier_data t)
tier_is t = tier_by t.upto t.price

pub tier_list_is : (tiers : List Tier) → codes "[" ++ items_text false (items_of (map tier_data tiers)) ≡ tier_list_text tiers
unfolding tier_list_text
tier_list_is tiers = refl

pub one_is : (tiers : List Tier) (d : Tier) → length tiers ≡ 1 → decimal (slice_index_or tiers 0 d).price ≡ tiers_text tiers
unfolding tiers_text serde_json_on_literals
one_is [] d one = absurd (omega (arith, one))
one_is (t ∷ []) d one = refl
one_is (t ∷ u ∷ tiers) d one = absurd (omega (arith, one))

pub several_is : (tiers : List Tier) → (length tiers ≡ 1 → ⊥) → tier_list_text tiers ≡ tiers_text tiers
unfolding tiers_text tier_list_text
several_is [] several = refl
several_is (t ∷ []) several = absurd (several refl)
several_is (t ∷ u ∷ tiers) several = refl

pub storage_is : (t : Prices)
    → (codes "{\"DEEP_ARCHIVE\":" ++ tiers_text (storage_tiers t DeepArchive)) ++ ((codes ",\"GLACIER\":" ++ tiers_text (storage_tiers t Glacier))
    ++ ((codes ",\"GLACIER_IR\":" ++ tiers_text (storage_tiers t GlacierIr)) ++ ((codes ",\"ONEZONE_IA\":" ++ tiers_text (storage_tiers t OnezoneIa))
    ++ ((codes ",\"STANDARD\":" ++ tiers_text (storage_tiers t Standard)) ++ ((codes ",\"STANDARD_IA\":" ++ tiers_text (storage_tiers t StandardIa)) ++ codes "}")))))
    ≡ storage_text t
unfolding serde_json_on_literals storage_text tiers_text
storage_is t = refl

pub moves_is : (t : Prices)
    → (codes "{\"DEEP_ARCHIVE\":" ++ decimal (move_price t DeepArchive)) ++ ((codes ",\"GLACIER\":" ++ decimal (move_price t Glacier))
    ++ ((codes ",\"GLACIER_IR\":" ++ decimal (move_price t GlacierIr)) ++ ((codes ",\"ONEZONE_IA\":" ++ decimal (move_price t OnezoneIa))
    ++ ((codes ",\"STANDARD_IA\":" ++ decimal (move_price t StandardIa)) ++ codes "}"))))
    ≡ moves_text t
unfolding serde_json_on_literals moves_text
moves_is t = refl

pub tariff_is : (t : Prices)
    → (codes "{\"from\":" ++ quoted (month_text t.from)) ++ (codes ",\"storage\":" ++ (storage_text t ++ (codes ",\"transition\":" ++ (moves_text t ++ codes "}"))))
    ≡ compact_text (tariff_data t)
unfolding serde_json_on_literals storage_text moves_text
tariff_is t = refl

pub tariff_list_is : (tariffs : List Prices) → codes "[" ++ items_text false (items_of (map tariff_data tariffs)) ≡ tariffs_text tariffs
unfolding tariffs_text
tariff_list_is tariffs = refl

pub tariffs_is : (tariffs : List Prices) → codes "{\"tariffs\":" ++ (tariffs_text tariffs ++ codes "}") ≡ body_text (Ok (TariffShown tariffs))
unfolding serde_json_on_literals body_text tariffs_text
tariffs_is tariffs = refl
