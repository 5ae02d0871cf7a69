-- The text of a forecast, computed on an example.
use Rattle.std.specs.Prelude.{◌≡◌, ℕ, [], ◌∷◌, ◌++◌, List, codes, refl, Some, None, ◌==◌, if◌then◌else◌}
use Rattle.std.specs.Fmt.{digits}
use Rattle.csv.specs.Writing.{escaped, fields_text, is_blank}
use Rattle.class_rules.specs.declared.class.Class.TheVariants.{Standard, StandardIa}
use Rattle.office_types.specs.declared.reply.LineKind.TheVariants.{Storage, Transitions}
use Rattle.moments.specs.Months.{first_day, days_of_months, months_over}
use Rattle.moments.specs.Texts.{moment_text}
use Rattle.office_base.specs.declared.version_id.VersionId.TheVariants.{Null}
use Rattle.due_core.specs.declared.action.ActionKind.TheVariants.{Abort, Transition}
use Rattle.due_core.specs.declared.action.Target.TheVariants as target
use Rattle.office_types.specs.declared.reply.Reply.{Reply}
use Rattle.office_types.specs.declared.reply.Reply.TheVariants.{Chosen}
use Rattle.http_text.specs.Names.{month_text}
use Rattle.forecast.specs.declared.lines.ForecastLine.{ForecastLine}
use Rattle.forecast_text.specs.Tables.{actions_csv, lines_csv}

no_actions : actions_csv [] ≡ codes "since,action,key,item,class,rule\n"
unfolding escaped fields_text is_blank
no_actions = refl

-- two months, of which the first has a line with a charge and one without
some_lines : ℕ → List ForecastLine
some_lines month =
    if month == 648 then record { kind = Storage; class = Standard; quantity = 777_600_000_000_000; charge = Some 6 }
    ∷ record { kind = Transitions; class = StandardIa; quantity = 1; charge = None } ∷ []
    else []

two_months : lines_csv 648 649 some_lines
    ≡ codes "month,line,class,quantity,charge\n" ++ codes "2024-01,storage,STANDARD,777600000000000,6\n"
    ++ codes "2024-01,transitions,STANDARD_IA,1,\n"
unfolding some_lines escaped fields_text is_blank digits month_text
two_months = refl

-- an action of a key with a comma, and one without a class
some_actions : List Reply
some_actions =
    Chosen Abort (codes "b,c") (target.Upload 1) (codes "r2") 1_704_672_000_000 None
    ∷ Chosen (Transition StandardIa) (codes "a") (target.Version Null) (codes "r1") 1_704_844_800_000 None ∷ []

two_actions : actions_csv some_actions
    ≡ codes "since,action,key,item,class,rule\n" ++ codes "2024-01-08T00:00:00.000Z,abort,\"b,c\",u:1,,r2\n"
    ++ codes "2024-01-10T00:00:00.000Z,transition,a,v:null,STANDARD_IA,r1\n"
unfolding some_actions escaped fields_text is_blank digits moment_text months_over first_day days_of_months
two_actions = refl
