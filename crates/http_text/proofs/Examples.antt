-- Replies computed on examples.
use Rattle.std.specs.Prelude.{◌≡◌, ℕ, [], ◌∷◌, ◌++◌, map, codes, refl, Some, None, Ok, Err}
use Rattle.std.specs.Fmt.{digits}
use Rattle.serde_json.proofs.OnLiterals.{serde_json_on_literals}
use Rattle.moments.specs.Months.{days_of_months, first_day, months_over}
use Rattle.moments.specs.Texts.{moment_text}
use Rattle.class_rules.specs.declared.class.Class.TheVariants.{Standard, StandardIa, Glacier}
use Rattle.office_base.specs.declared.version_id.VersionId.TheVariants.{Null, Number}
use Rattle.rules_core.specs.Configurations.{Configuration}
use Rattle.rules_json.specs.Printing.{printed}
use Rattle.stacks.specs.declared.version.Kind.TheVariants.{Object, Marker}
use Rattle.due_core.specs.declared.action.ActionKind.TheVariants as action
use Rattle.due_core.specs.declared.action.Target.TheVariants as target
use Rattle.office_types.specs.declared.reply.Reply.TheVariants.{Chosen, NothingDue, RulesShown, StackShown, UploadShown, TariffShown}
use Rattle.office_types.specs.declared.refusal.Refusal.TheVariants.{MonthNotOver, DueActions, Full, TokenReused}
use Rattle.office_types.specs.declared.refusal.What.TheVariants.{Tariffs}
use Rattle.tariff.specs.Prices.{Prices, one_tier}
use Rattle.http_text.specs.Names.{month_text}
use Rattle.http_text.specs.Replies.{body_text, answer_text, head_text, reply_with}

-- a tariff without prices, from this many months after January 1970 on
abbrev flat : ℕ → Prices
flat from = record { from = from; storage = map one_tier (0 ∷ 0 ∷ 0 ∷ 0 ∷ 0 ∷ 0 ∷ []); transition = 0 ∷ 0 ∷ 0 ∷ 0 ∷ 0 ∷ [] }

nothing_due : answer_text (Ok NothingDue) ≡ codes "HTTP/1.1 200 OK\r\ncontent-type: application/json\r\ncontent-length: 17\r\n\r\n{\"action\":\"none\"}"
unfolding head_text reply_with digits serde_json_on_literals
nothing_due = refl

moved : body_text (Ok (Chosen (action.Transition StandardIa) (codes "a") (target.Version (Number 3)) (codes "r1") 1_704_067_200_000 None))
    ≡ codes "{\"action\":\"transition\",\"class\":\"STANDARD_IA\",\"key\":\"a\",\"moment\":\"2024-01-01T00:00:00.000Z\",\"rule\":\"r1\",\"version\":\"3\"}"
unfolding body_text serde_json_on_literals digits moment_text months_over first_day days_of_months
moved = refl

marked : body_text (Ok (Chosen action.Marker (codes "a") (target.Version Null) (codes "r2") 1_704_067_200_000 (Some (Number 4))))
    ≡ codes "{\"action\":\"marker\",\"key\":\"a\",\"marker\":\"4\",\"moment\":\"2024-01-01T00:00:00.000Z\",\"rule\":\"r2\",\"version\":\"null\"}"
unfolding body_text serde_json_on_literals digits moment_text months_over first_day days_of_months
marked = refl

aborted : body_text (Ok (Chosen action.Abort (codes "a") (target.Upload 1) (codes "\"") 1_704_067_200_000 None))
    ≡ codes "{\"action\":\"abort\",\"key\":\"a\",\"moment\":\"2024-01-01T00:00:00.000Z\",\"rule\":\"\\\"\",\"upload\":1}"
unfolding body_text serde_json_on_literals digits moment_text months_over first_day days_of_months
aborted = refl

not_over : body_text (Err (MonthNotOver 1_706_745_600_000)) ≡ codes "{\"end\":\"2024-02-01T00:00:00.000Z\",\"error\":\"MonthNotOver\",\"number\":84}"
unfolding body_text serde_json_on_literals digits moment_text months_over first_day days_of_months
not_over = refl

due_actions : body_text (Err (DueActions (codes "logs") (codes "a") (target.Version Null))) ≡ codes "{\"bucket\":\"logs\",\"error\":\"DueActions\",\"key\":\"a\",\"number\":85,\"version\":\"null\"}"
unfolding body_text serde_json_on_literals digits
due_actions = refl

-- a delete marker above an object with a tag
versions : body_text (Ok (StackShown (codes "a") (record {
  changed = 1_704_067_200_000;
  versions = (record { id = Number 2; kind = Marker; created = 1_704_067_200_000; ceased = 1_704_067_200_000 })
      ∷ (record { id = Null; kind = Object 5 Standard ((codes "kind", codes "raw") ∷ []) 0; created = 0; ceased = 1_704_067_200_000 }) ∷ [];
})))
    ≡ codes "{\"changed\":\"2024-01-01T00:00:00.000Z\",\"key\":\"a\","
    ++ codes "\"versions\":[{\"created\":\"2024-01-01T00:00:00.000Z\",\"kind\":\"marker\",\"version\":\"2\"},"
    ++ codes "{\"class\":\"STANDARD\",\"created\":\"1970-01-01T00:00:00.000Z\",\"entered\":\"1970-01-01T00:00:00.000Z\","
    ++ codes "\"kind\":\"object\",\"noncurrent_since\":\"2024-01-01T00:00:00.000Z\",\"size\":5,"
    ++ codes "\"tags\":{\"kind\":\"raw\"},\"version\":\"null\"}]}"
unfolding body_text serde_json_on_literals digits moment_text months_over first_day days_of_months
versions = refl

upload : body_text (Ok (UploadShown 1 (record { key = codes "a"; class = Glacier; tags = []; started = 0; changed = 0; parts = (1, record { size = 5; put = 0 }) ∷ [] })))
    ≡ codes "{\"class\":\"GLACIER\",\"key\":\"a\",\"parts\":[{\"part\":1,\"size\":5}],\"started\":\"1970-01-01T00:00:00.000Z\",\"tags\":{},\"upload\":1}"
unfolding body_text serde_json_on_literals digits moment_text months_over first_day days_of_months
upload = refl

-- a tariff that holds from January 2024 on; STANDARD has two tiers
two_tiers : body_text (Ok (TariffShown (record {
  from = 648;
  storage = ((record { upto = Some 1; price = 23_000 }) ∷ (record { upto = None; price = 20_000 }) ∷ [])
      ∷ one_tier 2 ∷ one_tier 3 ∷ one_tier 4 ∷ one_tier 5 ∷ one_tier 6 ∷ [];
  transition = 7 ∷ 8 ∷ 9 ∷ 1 ∷ 0 ∷ [];
} ∷ [])))
    ≡ codes "{\"tariffs\":[{\"from\":\"2024-01\",\"storage\":{\"DEEP_ARCHIVE\":6,\"GLACIER\":5,\"GLACIER_IR\":4,"
    ++ codes "\"ONEZONE_IA\":3,\"STANDARD\":[{\"price\":23000,\"upto\":1},{\"price\":20000}],\"STANDARD_IA\":2},"
    ++ codes "\"transition\":{\"DEEP_ARCHIVE\":0,\"GLACIER\":1,\"GLACIER_IR\":9,\"ONEZONE_IA\":8,"
    ++ codes "\"STANDARD_IA\":7}}]}"
unfolding body_text serde_json_on_literals digits month_text
two_tiers = refl

-- where none is set there is no such reply, but the text of none is this
no_tariffs : body_text (Ok (TariffShown [])) ≡ codes "{\"tariffs\":[]}"
unfolding body_text serde_json_on_literals
no_tariffs = refl

two_tariffs : body_text (Ok (TariffShown (flat 0 ∷ flat 1 ∷ [])))
    ≡ codes "{\"tariffs\":[{\"from\":\"1970-01\",\"storage\":{\"DEEP_ARCHIVE\":0,\"GLACIER\":0,\"GLACIER_IR\":0,"
    ++ codes "\"ONEZONE_IA\":0,\"STANDARD\":0,\"STANDARD_IA\":0},\"transition\":{\"DEEP_ARCHIVE\":0,\"GLACIER\":0,"
    ++ codes "\"GLACIER_IR\":0,\"ONEZONE_IA\":0,\"STANDARD_IA\":0}},"
    ++ codes "{\"from\":\"1970-02\",\"storage\":{\"DEEP_ARCHIVE\":0,\"GLACIER\":0,\"GLACIER_IR\":0,"
    ++ codes "\"ONEZONE_IA\":0,\"STANDARD\":0,\"STANDARD_IA\":0},\"transition\":{\"DEEP_ARCHIVE\":0,\"GLACIER\":0,"
    ++ codes "\"GLACIER_IR\":0,\"ONEZONE_IA\":0,\"STANDARD_IA\":0}}]}"
unfolding body_text serde_json_on_literals digits month_text
two_tariffs = refl

reused : answer_text (Err (TokenReused 1))
    ≡ codes "HTTP/1.1 409 Conflict\r\ncontent-type: application/json\r\ncontent-length: 44\r\n\r\n{\"error\":\"TokenReused\",\"kind\":1,\"number\":92}"
unfolding head_text reply_with digits serde_json_on_literals
reused = refl

many_tariffs : body_text (Err (Full Tariffs 100)) ≡ codes "{\"error\":\"Full\",\"limit\":100,\"number\":90,\"what\":\"Tariffs\"}"
unfolding body_text serde_json_on_literals digits
many_tariffs = refl

-- a configuration is shown as it is printed
rules : (configuration : Configuration) → body_text (Ok (RulesShown configuration)) ≡ printed configuration
unfolding body_text printed
rules configuration = refl
