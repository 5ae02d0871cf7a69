-- What a request means, given its target, its method, its body and its token. Methods are case-sensitive (RFC 9110,
-- "Methods").
use Rattle.std.specs.Prelude.{◌≡◌, ◌⊎◌, ℕ, List, [], ◌∷◌, codes, bytes_eq, if◌then◌else◌}
use Rattle.std.specs.Prelude.{Option, Some, None, Result, Ok, Err}
use Rattle.office_base.specs.Keys.{is_key}
use Rattle.office_base.specs.Names.{is_bucket_name}
use Rattle.office_base.specs.declared.version_id.VersionId.{VersionId}
use Rattle.moments.specs.Dates.{is_month, year_in, month_in}
use Rattle.moments.specs.Months.{month_number}
use Rattle.rules_core.specs.Configurations.{Configuration}
use Rattle.rules_json.specs.Reading.{rules_of}
use Rattle.rules_json.specs.declared.fault.RulesFault.{RulesFault}
use Rattle.tariff.specs.Faults.{TariffFlaw}
use Rattle.tariff.specs.Prices.{Prices}
use Rattle.tariff.specs.Reading.{tariff_of}
use Rattle.office_types.specs.declared.command.Ask.{Ask}
use Rattle.office_types.specs.declared.command.Ask.TheVariants.{Command, Once, Query}
use Rattle.office_types.specs.declared.command.Command as command
use Rattle.office_types.specs.Tokens.{is_token, takes_token}
use Rattle.office_types.specs.declared.command.Command.TheVariants.{CreateBucket, SetVersioning, SetRules, DropRules}
use Rattle.office_types.specs.declared.command.Command.TheVariants.{Put, Delete, DeleteVersion, SetTags}
use Rattle.office_types.specs.declared.command.Command.TheVariants.{StartUpload, PutPart, Complete, Abort, Act}
use Rattle.office_types.specs.declared.command.Command.TheVariants.{SetTariff, Close}
use Rattle.office_types.specs.declared.command.Query.TheVariants.{Bucket, Rules, Stack, Upload, Due, Meters, Tariff}
use Rattle.office_types.specs.declared.command.Query.TheVariants.{Report}
use Rattle.http_bodies.specs.Flaws.{BodyFlaw}
use Rattle.http_bodies.specs.Multipart.{upload_said, part_of}
use Rattle.http_bodies.specs.Puts.{put_of}
use Rattle.http_bodies.specs.Settings.{versioning_of, tagging_of}
use Rattle.http_routes.specs.Spelled.{key_of}
use Rattle.http_routes.specs.Targets.{Resource, HasRoute}
use Rattle.http_routes.specs.Targets as targets
use Rattle.httparse.specs.Grammar.{Field, field_value}
use Rattle.http_wire.specs.Messages.{Request, token_fields}
use Rattle.http_wire.specs.declared.framing.FramingRefusal.{FramingRefusal}
use Rattle.http_asks.specs.declared.method.Method.{Method}
use Rattle.http_asks.specs.declared.method.Method.TheVariants as methods
use Rattle.http_asks.specs.Numbers.{number_in, version_in, part_in}

-- the rule that a request breaks. in_framing: how a message is framed; no_route: the target names nothing (own);
-- bad_method: the resource does not serve the method (own); bad_token, token_not_served: the token. The others are of a
-- part of the path, or of what a body, a lifecycle configuration or a tariff says.
pub data Refused : Type 0 where
  in_framing : FramingRefusal → Refused
  no_route : Refused
  bad_method : Refused
  not_a_month : Refused
  bad_bucket_name : Refused
  bad_key : Refused
  no_such_version : Refused
  no_such_upload : Refused
  bad_part : Refused
  in_body : BodyFlaw → Refused
  in_rules : RulesFault → Refused
  in_tariff : TariffFlaw → Refused
  bad_token : Refused
  token_not_served : Refused

-- what a request means: an ask of the office, or a refusal
pub data Meant : Type 0 where
  asks : Ask → Meant
  refuses : Refused → Meant

-- ---- methods, parts of the path and bodies

-- the method that a text names (RFC 9110, "GET", "PUT", "POST" and "DELETE"); no resource serves another one (own)
unfoldable pub method_of : List ℕ → Method
method_of text =
    if bytes_eq text (codes "GET") then methods.Get
    else if bytes_eq text (codes "PUT") then methods.Put
    else if bytes_eq text (codes "POST") then methods.Post
    else if bytes_eq text (codes "DELETE") then methods.Delete
    else methods.Other

-- this, if the name is that of a bucket
abbrev pub if_name : List ℕ → Meant → Meant
if_name name meant = if is_bucket_name name then meant else refuses bad_bucket_name

-- this of what a part of the path is read as; this refusal if it is not read
abbrev pub by_part : {T : Type 0} → Option T → Refused → (T → Meant) → Meant
by_part None refused meant = refuses refused
by_part (Some part) refused meant = meant part

-- this of what a body says; its flaw if it has one
abbrev pub by_body : {T : Type 0} → Result T BodyFlaw → (T → Meant) → Meant
by_body (Ok said) meant = meant said
by_body (Err flaw) meant = refuses (in_body flaw)

-- this of a lifecycle configuration; the rule that its text breaks if it breaks one
abbrev pub by_rules : Result Configuration RulesFault → (Configuration → Meant) → Meant
by_rules (Ok rules) meant = meant rules
by_rules (Err fault) meant = refuses (in_rules fault)

-- this of a tariff; the rule that its text breaks if it breaks one
abbrev pub by_tariff : Result Prices TariffFlaw → (Prices → Meant) → Meant
by_tariff (Ok tariff) meant = meant tariff
by_tariff (Err flaw) meant = refuses (in_tariff flaw)

-- this of the month that a part of the path names
abbrev pub by_month : List ℕ → (ℕ → Meant) → Meant
by_month part meant =
    if is_month part then meant (month_number (year_in part) (month_in part)) else refuses not_a_month

-- this of the id of a version
abbrev pub by_version : List ℕ → (VersionId → Meant) → Meant
by_version id meant = by_part (version_in id) no_such_version meant

-- this of the number of an upload
abbrev pub by_upload : List ℕ → (ℕ → Meant) → Meant
by_upload id meant = by_part (number_in id) no_such_upload meant

-- this of the key of an object, which a part of the path spells
abbrev pub by_object_key : List ℕ → (List ℕ → Meant) → Meant
by_object_key part meant = if is_key (key_of part) then meant (key_of part) else refuses bad_key

-- ---- what is asked: the parts of the path are checked from left to right, then the body

-- a lifecycle configuration is set
abbrev pub set_rules_meant : List ℕ → List ℕ → Meant
set_rules_meant name body =
    if_name name (by_rules (rules_of body) (λ rules. asks (Command (SetRules name rules))))

-- an object is put
abbrev pub put_meant : List ℕ → List ℕ → List ℕ → Meant
put_meant name part body =
    if_name name (by_object_key part (λ key.
    by_body (put_of body) (λ said. asks (Command (Put name key said.size said.class said.tags)))))

-- the versions of an object are asked for
abbrev pub stack_meant : List ℕ → List ℕ → Meant
stack_meant name part = if_name name (by_object_key part (λ key. asks (Query (Stack name key))))

-- an object is deleted
abbrev pub delete_meant : List ℕ → List ℕ → Meant
delete_meant name part = if_name name (by_object_key part (λ key. asks (Command (Delete name key))))

-- a version is removed
abbrev pub remove_meant : List ℕ → List ℕ → List ℕ → Meant
remove_meant name id part =
    if_name name
    (by_version id (λ version. by_object_key part (λ key. asks (Command (DeleteVersion name key version)))))

-- the tags of a version are set
abbrev pub set_tags_meant : List ℕ → List ℕ → List ℕ → List ℕ → Meant
set_tags_meant name id part body =
    if_name name (by_version id (λ version. by_object_key part (λ key.
    by_body (tagging_of body) (λ tags. asks (Command (SetTags name key version tags))))))

-- an upload is started
abbrev pub start_meant : List ℕ → List ℕ → List ℕ → Meant
start_meant name part body =
    if_name name (by_object_key part (λ key.
    by_body (upload_said body) (λ said. asks (Command (StartUpload name key said.class said.tags)))))

-- an upload is asked for
abbrev pub shown_meant : List ℕ → List ℕ → Meant
shown_meant name id = if_name name (by_upload id (λ upload. asks (Query (Upload name upload))))

-- an upload is completed
abbrev pub complete_meant : List ℕ → List ℕ → Meant
complete_meant name id = if_name name (by_upload id (λ upload. asks (Command (Complete name upload))))

-- an upload is aborted
abbrev pub abort_meant : List ℕ → List ℕ → Meant
abort_meant name id = if_name name (by_upload id (λ upload. asks (Command (Abort name upload))))

-- a part of an upload is put
abbrev pub put_part_meant : List ℕ → List ℕ → List ℕ → List ℕ → Meant
put_part_meant name id part body =
    if_name name (by_upload id (λ upload. by_part (part_in part) bad_part (λ number.
    by_body (part_of body) (λ size. asks (Command (PutPart name upload number size))))))

-- a tariff is set
abbrev pub set_tariff_meant : List ℕ → Meant
set_tariff_meant body = by_tariff (tariff_of body) (λ tariff. asks (Command (SetTariff tariff)))

-- ---- the routes: what a method asks of a resource; a method that the resource does not serve is refused first

-- a bucket
unfoldable pub bucket_meant : Method → List ℕ → Meant
bucket_meant methods.Put name = if_name name (asks (Command (CreateBucket name)))
bucket_meant methods.Get name = if_name name (asks (Query (Bucket name)))
bucket_meant _ name = refuses bad_method

-- the versioning of a bucket
unfoldable pub versioning_meant : Method → List ℕ → List ℕ → Meant
versioning_meant methods.Put name body =
    if_name name (by_body (versioning_of body) (λ enabled. asks (Command (SetVersioning name enabled))))
versioning_meant _ name body = refuses bad_method

-- the lifecycle configuration of a bucket
unfoldable pub lifecycle_meant : Method → List ℕ → List ℕ → Meant
lifecycle_meant methods.Put name body = set_rules_meant name body
lifecycle_meant methods.Get name body = if_name name (asks (Query (Rules name)))
lifecycle_meant methods.Delete name body = if_name name (asks (Command (DropRules name)))
lifecycle_meant _ name body = refuses bad_method

-- an object
unfoldable pub object_meant : Method → List ℕ → List ℕ → List ℕ → Meant
object_meant methods.Put name part body = put_meant name part body
object_meant methods.Get name part body = stack_meant name part
object_meant methods.Delete name part body = delete_meant name part
object_meant _ name part body = refuses bad_method

-- a version of an object
unfoldable pub version_meant : Method → List ℕ → List ℕ → List ℕ → Meant
version_meant methods.Delete name id part = remove_meant name id part
version_meant _ name id part = refuses bad_method

-- the tags of a version
unfoldable pub tags_meant : Method → List ℕ → List ℕ → List ℕ → List ℕ → Meant
tags_meant methods.Put name id part body = set_tags_meant name id part body
tags_meant _ name id part body = refuses bad_method

-- the uploads under a key
unfoldable pub uploads_meant : Method → List ℕ → List ℕ → List ℕ → Meant
uploads_meant methods.Post name part body = start_meant name part body
uploads_meant _ name part body = refuses bad_method

-- an upload
unfoldable pub upload_meant : Method → List ℕ → List ℕ → Meant
upload_meant methods.Get name id = shown_meant name id
upload_meant methods.Post name id = complete_meant name id
upload_meant methods.Delete name id = abort_meant name id
upload_meant _ name id = refuses bad_method

-- a part of an upload
unfoldable pub part_meant : Method → List ℕ → List ℕ → List ℕ → List ℕ → Meant
part_meant methods.Put name id part body = put_part_meant name id part body
part_meant _ name id part body = refuses bad_method

-- the next lifecycle action of a bucket, taken
unfoldable pub act_meant : Method → List ℕ → Meant
act_meant methods.Post name = if_name name (asks (Command (Act name)))
act_meant _ name = refuses bad_method

-- the next lifecycle action of a bucket, shown
unfoldable pub due_meant : Method → List ℕ → Meant
due_meant methods.Get name = if_name name (asks (Query (Due name)))
due_meant _ name = refuses bad_method

-- the meters of a bucket in a month
unfoldable pub meters_meant : Method → List ℕ → List ℕ → Meant
meters_meant methods.Get name month = if_name name (by_month month (λ m. asks (Query (Meters name m))))
meters_meant _ name month = refuses bad_method

-- the tariff
unfoldable pub tariff_meant : Method → List ℕ → Meant
tariff_meant methods.Put body = set_tariff_meant body
tariff_meant methods.Get body = asks (Query Tariff)
tariff_meant _ body = refuses bad_method

-- the close of a month
unfoldable pub close_meant : Method → List ℕ → Meant
close_meant methods.Post month = by_month month (λ m. asks (Command (Close m)))
close_meant _ month = refuses bad_method

-- the report of a month
unfoldable pub report_meant : Method → List ℕ → Meant
report_meant methods.Get month = by_month month (λ m. asks (Query (Report m)))
report_meant _ month = refuses bad_method

-- what a method asks of a resource, with this body
abbrev pub meant_of : Resource → Method → List ℕ → Meant
meant_of (targets.bucket name) method body = bucket_meant method name
meant_of (targets.versioning name) method body = versioning_meant method name body
meant_of (targets.lifecycle name) method body = lifecycle_meant method name body
meant_of (targets.object name part) method body = object_meant method name part body
meant_of (targets.version name id part) method body = version_meant method name id part
meant_of (targets.tags name id part) method body = tags_meant method name id part body
meant_of (targets.uploads name part) method body = uploads_meant method name part body
meant_of (targets.upload name id) method body = upload_meant method name id
meant_of (targets.part name id part) method body = part_meant method name id part body
meant_of (targets.act name) method body = act_meant method name
meant_of (targets.due name) method body = due_meant method name
meant_of (targets.meters name month) method body = meters_meant method name month
meant_of targets.tariff method body = tariff_meant method body
meant_of (targets.close month) method body = close_meant method month
meant_of (targets.report month) method body = report_meant method month

-- a request with this target, method and body means this: what it asks of the resource that the target names, or that
-- the target names none
abbrev pub Means : List ℕ → List ℕ → List ℕ → Meant → Type 0
Means target method body meant =
    ((resource : Resource) × HasRoute target resource × (meant ≡ meant_of resource (method_of method) body))
    ⊎ (((resource : Resource) → ¬ (HasRoute target resource)) × (meant ≡ refuses no_route))

-- ---- the token

-- a command with a token is asked once, if it may carry one
abbrev pub with_token : List ℕ → command.Command → Meant
with_token token asked = if takes_token asked then asks (Once token asked) else refuses token_not_served

-- a command with the value of a field that carries a token
abbrev pub with_value : List ℕ → command.Command → Meant
with_value value asked = if is_token value then with_token value asked else refuses bad_token

-- what a request with these fields that carry a token means: with a command, two fields are refused; with a query, or
-- with another refusal, they are ignored (own)
abbrev pub with_fields : List Field → Meant → Meant
with_fields [] meant = meant
with_fields (field ∷ []) (asks (Command asked)) = with_value (field_value field) asked
with_fields (field ∷ other ∷ fields) (asks (Command asked)) = refuses bad_token
with_fields fields meant = meant

-- a request with these fields that carry a token, and with this target, method and body, means this
abbrev pub MeansWith : List Field → List ℕ → List ℕ → List ℕ → Meant → Type 0
MeansWith fields target method body meant =
    (bare : Meant) × Means target method body bare × (meant ≡ with_fields fields bare)

-- the same of a request in a stream
abbrev pub IsMeant : Request → Meant → Type 0
IsMeant r meant = MeansWith (token_fields r.head) r.head.target r.head.method r.body meant

-- ---- laws

-- a request has only one meaning
abbrev pub MeansOneThing : Type 0
MeansOneThing = (r : Request) (first second : Meant) → IsMeant r first → IsMeant r second → first ≡ second
