-- What the words of a command line ask for. A word is its bytes.
use Rattle.std.specs.Prelude.{ℕ, ◌-◌, ◌^◌, ◌&&◌, nat_le, Bool, false, List, Option, Some, None, option_map, option_and_then, codes}
use Rattle.std.specs.Prelude.{decimal, string_bytes, if◌then◌else◌}
use Rattle.std.specs.Str.{bytes_eq}
use Rattle.std.specs.Str.Parse.{digits_value}
use Rattle.moments.specs.Months.{month_number}
use Rattle.moments.specs.Dates.{is_month, year_in, month_in, is_date, is_at_midnight, midnight_of}
use Rattle.office_base.specs.Names.{is_bucket_name}
use Rattle.clap.specs.Walk.{Row, first_of, is_empty}
use Rattle.clap.specs.Words.{found_of, rows_of, subcommand_of, subcommand_rows_of}
use Rattle.clap.specs.Faults.{fault_of}
use Rattle.clap.specs.declared.parser.matches.ArgMatches.{ArgMatches}
use Rattle.command_line.specs.Words.{office_words}
use Rattle.command_line.specs.declared.line.CommandLine.{CommandLine}
use Rattle.command_line.specs.declared.line.CommandLine.TheVariants as command_line

-- what a command line asks for, with its arguments in order. init: make the journal; run: answer the input; serve: an
-- address, the workers, and the connections of each worker; report: a month, and whether it is a table; explain: the
-- workers; gen: a seed, and how many commands; bill: a month; forecast: a bucket, and a midnight in milliseconds
pub data Line : Type 0 where
  init : Line
  run : Line
  serve : List ℕ → ℕ → ℕ → Line
  report : ℕ → Bool → Line
  explain : ℕ → Line
  gen : ℕ → ℕ → Line
  bill : ℕ → Line
  forecast : List ℕ → ℕ → Line

-- the same of a line that was read
abbrev pub line_of : CommandLine → Line
line_of command_line.Init = init
line_of command_line.Run = run
line_of (command_line.Serve listen workers connections) = serve (string_bytes listen) workers connections
line_of (command_line.Report asked) = report asked.month asked.as_text
line_of (command_line.Explain workers) = explain workers
line_of (command_line.Gen number count) = gen number count
line_of (command_line.Bill asked) = bill asked.month
line_of (command_line.Forecast asked) = forecast asked.bucket asked.day

-- ---- numbers

-- the number whose decimal digits the text is, if it is in range; it has no sign and no leading zero
abbrev pub number_between : ℕ → ℕ → List ℕ → Option ℕ
number_between least most text =
    let n = digits_value 10 text in
    if bytes_eq text (decimal n) && (nat_le least n && nat_le n most) then Some n else None

-- the same in the range from 1 to most
abbrev pub number_to : ℕ → List ℕ → Option ℕ
number_to most text = number_between 1 most text

-- the number of an option's text, from 1 to most; the default if the option was not given
abbrev pub number_or : ℕ → ℕ → Option (List ℕ) → Option ℕ
number_or default most None = Some default
number_or default most (Some text) = number_to most text

-- the greatest seed of a load (own)
abbrev pub most_seed : ℕ
most_seed = 2 ^ 64 - 1

-- the most commands that a load has (own)
abbrev pub most_generated : ℕ
most_generated = 1_000_000

-- the most workers that serve or print the table of stays (own)
abbrev pub most_workers : ℕ
most_workers = 64

-- the number of workers if the words name none (own)
abbrev pub default_workers : ℕ
default_workers = 4

-- the most connections of a worker, and the default: the greatest number of 32 bits (own)
abbrev pub most_connections : ℕ
most_connections = 2 ^ 32 - 1

-- ---- lines

-- the text that the words give for an option, if they do
abbrev pub given : List Row → List ℕ → Option (List ℕ)
given rows name = first_of name rows

-- the number of workers; none if the option's text is not a number in range
abbrev pub workers_of : List Row → Option ℕ
workers_of rows = number_or default_workers most_workers (given rows (codes "workers"))

-- the number of connections of each worker; none if the option's text is not a number in range
abbrev pub connections_of : List Row → Option ℕ
connections_of rows = number_or most_connections most_connections (given rows (codes "connections"))

-- the service that is asked for, if an address is given and both numbers are in range
abbrev pub serve_of : List Row → Option Line
serve_of rows =
    option_and_then (λ listen. option_and_then (λ workers. option_map (λ connections. serve listen workers connections)
    (connections_of rows)) (workers_of rows)) (given rows (codes "listen"))

-- the month that a text names, if it names one
abbrev pub month_of_text : List ℕ → Option ℕ
month_of_text text = if is_month text then Some (month_number (year_in text) (month_in text)) else None

-- whether a flag was given: clap then keeps this text for it
abbrev pub is_set : Option (List ℕ) → Bool
is_set None = false
is_set (Some text) = bytes_eq text (codes "true")

-- the report that is asked for, if the text names a month: as a table if the flag was given, otherwise as CSV
abbrev pub report_of : List Row → Option Line
report_of rows =
    option_map (λ month. report month (is_set (given rows (codes "text"))))
    (option_and_then month_of_text (given rows (codes "month")))

-- the table of stays that is asked for, if the number of workers is in range
abbrev pub explain_of : List Row → Option Line
explain_of rows = option_map explain (workers_of rows)

-- the load that is asked for, if both texts are numbers in range; both ranges begin at 0
abbrev pub gen_of : List Row → Option Line
gen_of rows =
    option_and_then (λ number. option_map (gen number)
    (option_and_then (number_between 0 most_generated) (given rows (codes "count"))))
    (option_and_then (number_between 0 most_seed) (given rows (codes "number")))

-- the bills that are asked for, if the text names a month
abbrev pub bill_of : List Row → Option Line
bill_of rows = option_map bill (option_and_then month_of_text (given rows (codes "month")))

-- the name of a bucket that a text is, if it is one
abbrev pub bucket_of_text : List ℕ → Option (List ℕ)
bucket_of_text text = if is_bucket_name text then Some text else None

-- the midnight that a text names, if it is a date, alone or with the time of a midnight
abbrev pub midnight_of_text : List ℕ → Option ℕ
midnight_of_text text = if is_date text && is_at_midnight text then Some (midnight_of text) else None

-- the forecast that is asked for, if the texts name a bucket and a midnight
abbrev pub forecast_of : List Row → Option Line
forecast_of rows =
    option_and_then (λ bucket. option_map (forecast bucket)
    (option_and_then midnight_of_text (given rows (codes "date"))))
    (option_and_then bucket_of_text (given rows (codes "bucket")))

-- what a subcommand asks for, given its name and what the words give for its options
abbrev pub subcommand_line : List ℕ × List Row → Option Line
subcommand_line (name, rows) =
    if bytes_eq name (codes "init") then Some init
    else (if bytes_eq name (codes "run") then Some run
    else (if bytes_eq name (codes "serve") then serve_of rows
    else (if bytes_eq name (codes "report") then report_of rows
    else (if bytes_eq name (codes "explain") then explain_of rows
    else (if bytes_eq name (codes "gen") then gen_of rows
    else (if bytes_eq name (codes "bill") then bill_of rows
    else (if bytes_eq name (codes "forecast") then forecast_of rows else None)))))))

-- what the words after the program's name ask for, if they are a command line
unfoldable pub asked : List (List ℕ) → Option Line
asked words =
    if is_empty (fault_of office_words words) then option_and_then subcommand_line (subcommand_of office_words words)
    else None

-- ---- what clap found in words

-- what the words ask for
abbrev pub asked_by : ArgMatches → Option Line
asked_by matches = option_and_then subcommand_line (subcommand_rows_of matches)

-- what the words give for each option of a command
abbrev pub options_of : ArgMatches → List Row
options_of matches = rows_of (found_of matches)
