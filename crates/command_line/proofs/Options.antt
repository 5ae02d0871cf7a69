-- What the options of subcommands ask for.
use Rattle.std.proofs.Common.{◌≡◌, ◌∙◌, sym, ap, refl, ℕ, Bool, List, Option, Some, None, option_map, option_and_then, codes, Bor}
use Rattle.clap.specs.Walk.{Row, rows_of}
use Rattle.clap.specs.Matches.{first_value}
use Rattle.clap.specs.declared.parser.matches.Found.{Found}
use Rattle.clap.proofs.WalkLemmas.{first_value-rows}
use Rattle.command_line.specs.Lines.{serve, report, explain, gen, bill, forecast, number_between, number_or, most_seed, most_generated, serve_of, report_of, explain_of, gen_of, bill_of, forecast_of, month_of_text, midnight_of_text, bucket_of_text, is_set, given}
use Rattle.command_line.specs.Lines.{workers_of, connections_of}

-- what clap gives for an option is what the words gave it
pub given_is : (found : Found) (name : List ℕ) (text : Option (Bor (List ℕ))) → option_map (λ t. t.now) text ≡ first_value found name → given (rows_of found) name ≡ option_map (λ t. t.now) text
given_is found name text is = sym (first_value-rows found name) ∙ sym is

-- and its number is the number that was read
pub number_is : (found : Found) (name : List ℕ) (default most : ℕ) (text : Option (Bor (List ℕ))) (number : Option ℕ) → option_map (λ t. t.now) text ≡ first_value found name
    → number ≡ number_or default most (option_map (λ t. t.now) text) → number_or default most (given (rows_of found) name) ≡ number
number_is found name default most text number is read = ap (number_or default most) (given_is found name text is) ∙ sym read

pub no_listen : (rows : List Row) → given rows (codes "listen") ≡ None → serve_of rows ≡ None
no_listen rows none = rw none refl

pub no_workers : (rows : List Row) (listen : List ℕ) → given rows (codes "listen") ≡ Some listen → workers_of rows ≡ None → serve_of rows ≡ None
no_workers rows listen some none = rw (some, none) refl

pub no_connections : (rows : List Row) (listen : List ℕ) (workers : ℕ) → given rows (codes "listen") ≡ Some listen → workers_of rows ≡ Some workers → connections_of rows ≡ None → serve_of rows ≡ None
no_connections rows listen workers some works none = rw (some, works, none) refl

pub serves : (rows : List Row) (listen : List ℕ) (workers connections : ℕ) → given rows (codes "listen") ≡ Some listen → workers_of rows ≡ Some workers → connections_of rows ≡ Some connections
    → serve_of rows ≡ Some (serve listen workers connections)
serves rows listen workers connections some works connects = rw (some, works, connects) refl

pub no_month : (rows : List Row) → given rows (codes "month") ≡ None → report_of rows ≡ None
no_month rows none = rw none refl

pub wrong_month : (rows : List Row) (text : List ℕ) → given rows (codes "month") ≡ Some text → month_of_text text ≡ None → report_of rows ≡ None
wrong_month rows text some none = rw (some, none) refl

pub reports : (rows : List Row) (text : List ℕ) (month : ℕ) (set : Bool) → given rows (codes "month") ≡ Some text → month_of_text text ≡ Some month → set ≡ is_set (given rows (codes "text"))
    → report_of rows ≡ Some (report month set)
reports rows text month set some names is = rw (some, names, is) refl

pub no_bill : (rows : List Row) → given rows (codes "month") ≡ None → bill_of rows ≡ None
no_bill rows none = rw none refl

pub wrong_bill : (rows : List Row) (text : List ℕ) → given rows (codes "month") ≡ Some text → month_of_text text ≡ None → bill_of rows ≡ None
wrong_bill rows text some none = rw (some, none) refl

pub bills : (rows : List Row) (text : List ℕ) (month : ℕ) → given rows (codes "month") ≡ Some text → month_of_text text ≡ Some month
    → bill_of rows ≡ Some (bill month)
bills rows text month some names = rw (some, names) refl

-- ---- forecast

pub no_bucket : (rows : List Row) → given rows (codes "bucket") ≡ None → forecast_of rows ≡ None
no_bucket rows none = rw none refl

pub wrong_bucket : (rows : List Row) (text : List ℕ) → given rows (codes "bucket") ≡ Some text → bucket_of_text text ≡ None → forecast_of rows ≡ None
wrong_bucket rows text some none = rw (some, none) refl

no_day : (bucket : Option (List ℕ)) → option_and_then (λ name. option_map (forecast name) None) bucket ≡ None
no_day None = refl
no_day (Some name) = refl

pub no_date : (rows : List Row) → given rows (codes "date") ≡ None → forecast_of rows ≡ None
no_date rows none = rw none (no_day (option_and_then bucket_of_text (given rows (codes "bucket"))))

pub wrong_date : (rows : List Row) (text : List ℕ) → given rows (codes "date") ≡ Some text → midnight_of_text text ≡ None → forecast_of rows ≡ None
wrong_date rows text some none = rw (some, none) (no_day (option_and_then bucket_of_text (given rows (codes "bucket"))))

pub forecasts : (rows : List Row) (name text : List ℕ) (bucket : List ℕ) (day : ℕ) → given rows (codes "bucket") ≡ Some name → bucket_of_text name ≡ Some bucket
    → given rows (codes "date") ≡ Some text → midnight_of_text text ≡ Some day → forecast_of rows ≡ Some (forecast bucket day)
forecasts rows name text bucket day some named dated is = rw (some, named, dated, is) refl

-- ---- explain

pub no_explain : (rows : List Row) → workers_of rows ≡ None → explain_of rows ≡ None
no_explain rows none = rw none refl

pub explains : (rows : List Row) (workers : ℕ) → workers_of rows ≡ Some workers → explain_of rows ≡ Some (explain workers)
explains rows workers works = rw works refl

-- ---- gen

-- what clap gives for a word is what the words gave it, and its number is the number that was read
pub word_is : (found : Found) (name : List ℕ) (most : ℕ) (text : Option (Bor (List ℕ))) (number : Option ℕ) → option_map (λ t. t.now) text ≡ first_value found name
    → number ≡ option_and_then (number_between 0 most) (option_map (λ t. t.now) text) → option_and_then (number_between 0 most) (given (rows_of found) name) ≡ number
word_is found name most text number is read = ap (option_and_then (number_between 0 most)) (given_is found name text is) ∙ sym read

pub no_number : (rows : List Row) → option_and_then (number_between 0 most_seed) (given rows (codes "number")) ≡ None → gen_of rows ≡ None
no_number rows none = rw none refl

pub no_count : (rows : List Row) (number : ℕ) → option_and_then (number_between 0 most_seed) (given rows (codes "number")) ≡ Some number
    → option_and_then (number_between 0 most_generated) (given rows (codes "count")) ≡ None → gen_of rows ≡ None
no_count rows number some none = rw (some, none) refl

pub generates : (rows : List Row) (number count : ℕ) → option_and_then (number_between 0 most_seed) (given rows (codes "number")) ≡ Some number
    → option_and_then (number_between 0 most_generated) (given rows (codes "count")) ≡ Some count → gen_of rows ≡ Some (gen number count)
generates rows number count some counts = rw (some, counts) refl
