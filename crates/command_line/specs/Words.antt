-- The words that the office takes, as a simple command of clap.
use Rattle.std.specs.Prelude.{◌≡◌, List, [], ◌∷◌, Some, true, false, codes}
use Rattle.clap.specs.Walk.{Rule, Text, rule_of}
use Rattle.clap.specs.Simple.{App, Shape, app_of, new_rule, new_shape, with_rule, with_subcommand}
use Rattle.clap.specs.Words.{is_broken}
use Rattle.clap.specs.declared.builder.arg.Arg.{Arg}
use Rattle.clap.specs.declared.builder.command.Command.{Command}
use Rattle.clap.specs.declared.builder.command.Command.TheViews.{out-Command}
use Rattle.clap.specs.declared.builder.action.ArgAction.TheVariants.{Set, SetTrue}

-- an option `--name VALUE` or `--name=VALUE`
abbrev pub option : Text → Rule
option name = record (new_rule name) { long = Some name; action = Some Set }

-- such an option that must be given
abbrev pub needed_option : Text → Rule
needed_option name = record (option name) { required = true }

-- a word that must be given, at its place
abbrev pub needed_word : Text → Rule
needed_word name = record (new_rule name) { action = Some Set; required = true }

-- an option `--name` without a value
abbrev pub flag : Text → Rule
flag name = record (new_rule name) { long = Some name; action = Some SetTrue }

-- a subcommand with these options
abbrev pub subcommand : Text → List Rule → Shape
subcommand name rules = record (new_shape name) { rules = rules }

-- the word `init`
abbrev pub init_words : Shape
init_words = subcommand (codes "init") []

-- the word `run`
abbrev pub run_words : Shape
run_words = subcommand (codes "run") []

-- the words `serve --listen A [--workers N] [--connections K]`
abbrev pub serve_words : Shape
serve_words = subcommand (codes "serve")
    (needed_option (codes "listen") ∷ option (codes "workers") ∷ option (codes "connections") ∷ [])

-- the words `report MONTH [--text]`
abbrev pub report_words : Shape
report_words = subcommand (codes "report") (needed_word (codes "month") ∷ flag (codes "text") ∷ [])

-- the words `explain [--workers N]`
abbrev pub explain_words : Shape
explain_words = subcommand (codes "explain") (option (codes "workers") ∷ [])

-- the words `gen NUMBER COUNT`
abbrev pub gen_words : Shape
gen_words = subcommand (codes "gen") (needed_word (codes "number") ∷ needed_word (codes "count") ∷ [])

-- the words `bill MONTH`
abbrev pub bill_words : Shape
bill_words = subcommand (codes "bill") (needed_word (codes "month") ∷ [])

-- the words `forecast BUCKET DATE`
abbrev pub forecast_words : Shape
forecast_words = subcommand (codes "forecast") (needed_word (codes "bucket") ∷ needed_word (codes "date") ∷ [])

-- the command without its subcommands: a subcommand is required, and there is no help and no version option
abbrev pub office_top : App
office_top = record {
  top = record (new_shape (codes "office")) {
    no_binary_name = true;
    disable_help_flag = true;
    disable_help_subcommand = true;
    disable_version_flag = true;
    subcommand_required = true;
  };
  subs = [];
}

-- the command with its subcommands
abbrev pub office_words : App
office_words = record {
  top = record office_top.top { is_leaf = false };
  subs = init_words ∷ run_words ∷ serve_words ∷ report_words ∷ explain_words ∷ gen_words ∷ bill_words ∷ forecast_words
      ∷ [];
}

-- ---- commands in memory

-- a subcommand by itself
abbrev pub alone : Shape → App
alone shape = record { top = shape; subs = [] }

-- the command is this one, whole, and none of its arguments is global
pub record IsWholeCommand (app : App) (command : Command) : Type 0 where
  pub is : app_of command ≡ app
  pub whole : is_broken command ≡ false
  pub local : (out-Command command).has_globals ≡ false

-- the command has one more option
abbrev pub GetsOption : Command → Arg → Command → Type 0
GetsOption command arg now =
    (app : App) (rule : Rule) → IsWholeCommand app command → rule_of arg ≡ rule
    → IsWholeCommand (with_rule app rule) now

-- the command has one more subcommand
abbrev pub GetsSubcommand : Command → Command → Command → Type 0
GetsSubcommand command sub now =
    (app below : App) → IsWholeCommand app command → IsWholeCommand below sub
    → IsWholeCommand (with_subcommand app below.top) now
