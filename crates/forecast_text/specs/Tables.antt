-- The text of a forecast: two tables of CSV (RFC 4180, but lines end in a line feed) with an empty line between them.
-- The form is this project's own.
use Rattle.std.specs.Prelude.{ℕ, zero, suc, ◌+◌, ◌-◌, List, [], ◌∷◌, ◌++◌, map, codes, decimal, Option, Some, None}
use Rattle.std.specs.List.{flat_map}
use Rattle.csv.specs.Writing.{row_text, default_writer}
use Rattle.moments.specs.Texts.{moment_text}
use Rattle.class_rules.specs.Classes.{class_name}
use Rattle.office_base.specs.Versions.{id_text}
use Rattle.due_core.specs.declared.action.ActionKind.{ActionKind}
use Rattle.due_core.specs.declared.action.ActionKind.TheVariants.{Transition}
use Rattle.due_core.specs.declared.action.Target.{Target}
use Rattle.due_core.specs.declared.action.Target.TheVariants as target
use Rattle.office_types.specs.declared.reply.Reply.{Reply}
use Rattle.office_types.specs.declared.reply.Reply.TheVariants.{Chosen}
use Rattle.usage_report.specs.Lines.{line_name}
use Rattle.http_text.specs.Names.{action_name, month_text}
use Rattle.forecast.specs.declared.lines.ForecastLine.{ForecastLine}
use Rattle.forecast.specs.Forecasts.{Outlook}

-- the text of some rows, in order
abbrev pub text_of_rows : List (List (List ℕ)) → List ℕ
text_of_rows rows = flat_map (row_text default_writer) rows

-- ---- the actions

-- the names of the columns
abbrev pub actions_header : List (List ℕ)
actions_header =
    codes "since" ∷ codes "action" ∷ codes "key" ∷ codes "item" ∷ codes "class" ∷ codes "rule" ∷ []

-- the target of an action: a version as v:null or v:3, an upload as u:1
abbrev pub item_text : Target → List ℕ
item_text (target.Version id) = codes "v:" ++ id_text id
item_text (target.Upload number) = codes "u:" ++ decimal number

-- the class that an object moves to; empty for another action
abbrev pub class_text : ActionKind → List ℕ
class_text (Transition to) = class_name to
class_text kind = []

-- the row of an action: its moment, what it does, to what, and the id of its rule; another reply has no row
abbrev pub action_rows : Reply → List (List (List ℕ))
action_rows (Chosen kind key target rule since marker) =
    (moment_text since ∷ action_name kind ∷ key ∷ item_text target ∷ class_text kind ∷ rule ∷ []) ∷ []
action_rows reply = []

-- the header, and a row for each action, in order
abbrev pub actions_csv : List Reply → List ℕ
actions_csv replies = text_of_rows (actions_header ∷ flat_map action_rows replies)

-- ---- what the months would cost

-- the names of the columns
abbrev pub lines_header : List (List ℕ)
lines_header = codes "month" ∷ codes "line" ∷ codes "class" ∷ codes "quantity" ∷ codes "charge" ∷ []

-- the digits of a charge; empty if there is none
abbrev pub charge_text : Option ℕ → List ℕ
charge_text None = []
charge_text (Some charge) = decimal charge

-- a line of a month
abbrev pub line_row : ℕ → ForecastLine → List (List ℕ)
line_row month line =
    month_text month ∷ line_name line.kind ∷ class_name line.class ∷ decimal line.quantity ∷ charge_text line.charge ∷ []

-- the lines of a month, in order
abbrev pub month_rows : (ℕ → List ForecastLine) → ℕ → List (List (List ℕ))
month_rows lines month = map (line_row month) (lines month)

-- n months in order, beginning with this one
abbrev pub months_from : ℕ → ℕ → List ℕ
months_from month zero = []
months_from month (suc n) = month ∷ months_from (month + 1) n

-- the header, and the lines of each month from the first to the last
abbrev pub lines_csv : ℕ → ℕ → (ℕ → List ForecastLine) → List ℕ
lines_csv first last lines =
    text_of_rows (lines_header ∷ flat_map (month_rows lines) (months_from first (last + 1 - first)))

-- ---- both

-- the months of the second table, first and last inclusive
pub record MonthSpan : Type 0 where
  pub first : ℕ
  pub last : ℕ

-- the table of actions, an empty line, and the table of the lines of these months
unfoldable pub forecast_text : MonthSpan → Outlook → List ℕ
forecast_text months outlook = actions_csv outlook.replies ++ 10 ∷ lines_csv months.first months.last outlook.lines
