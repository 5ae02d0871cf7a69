-- Worked examples of forecasts, computed.
use Rattle.std.specs.Prelude.{◌≡◌, ℕ, [], ◌∷◌, refl, codes, None}
use Rattle.class_rules.specs.declared.class.Class.{Class}
use Rattle.class_rules.specs.declared.class.Class.TheVariants as class
use Rattle.office_base.specs.declared.version_id.VersionId.TheVariants as id
use Rattle.rules_core.specs.declared.rule.Rule.{Rule}
use Rattle.rules_core.specs.declared.rule.When.TheVariants as when
use Rattle.due_core.specs.declared.action.Action.{Action}
use Rattle.due_core.specs.declared.action.ActionKind.TheVariants as action
use Rattle.due_core.specs.declared.action.Target.TheVariants as target
use Rattle.office_types.specs.declared.command.Command.TheVariants as command
use Rattle.office_types.specs.declared.reply.LineKind.{LineKind}
use Rattle.office_types.specs.declared.reply.LineKind.TheVariants as line
use Rattle.office_types.specs.declared.reply.Reply.TheVariants as reply
use Rattle.office_types.specs.Entries.{entry_at}
use Rattle.plain_office.specs.Office.{Office, Account, empty_office, empty_books, book_of}
use Rattle.plain_office.specs.Step.{new_bucket}
use Rattle.plain_office.specs.Sweep.{IsSwept}
use Rattle.plain_office.specs.Changes.{effect}
use Rattle.plain_office.proofs.Examples.{to_compute, after, january, logs, a, put, no_action, rules_of, in_logs}
use Rattle.forecast.specs.Forecasts.{Proposal, proposed, replies_of}
use Rattle.forecast.specs.Lines.{book_lines}
use Rattle.forecast.specs.declared.lines.ForecastLine.{ForecastLine}

-- 2023-12-10 09:00 UTC, in the month 647, counted from January 1970; and 2024-01-31
abbrev start : ℕ
start = 1_702_198_800_000

abbrev december : ℕ
december = 647

abbrev end_of_january : ℕ
end_of_january = 1_706_659_200_000

-- a bucket without rules, with an object of 1,000,000 bytes
abbrev stored : Office
stored = after empty_office (entry_at start (command.CreateBucket logs) ∷ entry_at start (put 1_000_000 class.Standard) ∷ [])

-- after 30 days objects go to STANDARD_IA
abbrev moving : Rule
moving = record (no_action (codes "r1")) { transitions = record { when = when.Days 30; to = class.StandardIa } ∷ [] }

abbrev asked : Proposal
asked = record { bucket = logs; rules = rules_of (moving ∷ []); from = start; until = end_of_january }

-- the bucket in which the rules are set
abbrev ruled : Account
ruled = in_logs (λ account. account) (record { bucket = new_bucket 0; books = empty_books }) (proposed asked stored).0

-- the move comes due at the midnight after the 30 days
abbrev move : Action
move = record {
  kind = action.Transition class.StandardIa;
  key = a;
  target = target.Version id.Null;
  rule = 1;
  since = 1_704_844_800_000;
}

abbrev moved : Account
moved = effect move ruled

one_move : IsSwept end_of_january (move ∷ []) ruled moved
unfolding to_compute
one_move = (refl, (refl, refl))

its_reply : replies_of (move ∷ []) ruled
    ≡ reply.Chosen (action.Transition class.StandardIa) a (target.Version id.Null) (codes "r1") 1_704_844_800_000 None ∷ []
unfolding to_compute
its_reply = refl

-- STANDARD up to the move, STANDARD_IA from then on, and one transition; no tariff was set
abbrev line_of : LineKind → Class → ℕ → ForecastLine
line_of kind class quantity = record { kind = kind; class = class; quantity = quantity; charge = None }

in_december : book_lines None december end_of_january (book_of moved.books) ≡ line_of line.Storage class.Standard 1_868_400_000_000_000 ∷ []
unfolding to_compute book_lines
in_december = refl

in_january : book_lines None january end_of_january (book_of moved.books)
    ≡ line_of line.Storage class.Standard 777_600_000_000_000 ∷ line_of line.Storage class.StandardIa 1_814_400_000_000_000
    ∷ line_of line.Transitions class.StandardIa 1 ∷ []
unfolding to_compute book_lines
in_january = refl
