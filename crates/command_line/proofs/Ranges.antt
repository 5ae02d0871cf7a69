-- The numbers of a line that was read are in range.
use Rattle.std.proofs.Common.{◌≡◌, ℕ, ◌<◌, ◌≤◌, Bool, true, false, ◌&&◌, List, Option, Some, None, refl, ap, subst, arith, if◌then◌else◌}
use Rattle.std.specs.Prelude.{option_and_then, option_map, nat_le, decimal, codes}
use Rattle.std.specs.Str.{bytes_eq}
use Rattle.std.specs.Str.Parse.{digits_value}
use Rattle.std.proofs.lemmas.Bool.{leb-true}
use Rattle.std.proofs.lemmas.Option.{option_and_then_some, same_Some}
use Rattle.clap.proofs.WalkLemmas.{both}
use Rattle.clap.specs.Walk.{Row, is_empty}
use Rattle.clap.specs.Faults.{fault_of}
use Rattle.clap.specs.Simple.{subcommand_of}
use Rattle.command_line.specs.Lines.{Line, init, run, serve, report, explain, gen, bill, forecast, asked, subcommand_line, serve_of, report_of, explain_of, gen_of, bill_of, forecast_of, month_of_text, midnight_of_text, bucket_of_text, is_set, number_between, most_seed}
use Rattle.command_line.specs.Lines.{most_generated, number_to, number_or, workers_of, connections_of, given, most_workers, default_workers}
use Rattle.command_line.specs.Words.{office_words}

if_some : {A : Type 0} (b : Bool) (x y : A) → (if b then Some x else None) ≡ Some y → (b ≡ true) × (x ≡ y)
if_some true x y is = (refl, same_Some x y is)
if_some false x y is = absurd cc

if_passed : {A : Type 0} (b : Bool) (o : Option A) (y : A) → (if b then o else None) ≡ Some y → o ≡ Some y
if_passed true o y is = is
if_passed false o y is = absurd cc

range_of_number : (most n : ℕ) (text : List ℕ) → number_to most text ≡ Some n → (1 ≤ n) × (n ≤ most)
range_of_number most n text is =
    let read = digits_value 10 text in
    let found = if_some (bytes_eq text (decimal read) && (nat_le 1 read && nat_le read most)) read n is in
    let bounds = both (nat_le 1 read) (nat_le read most) (both (bytes_eq text (decimal read)) (nat_le 1 read && nat_le read most) found.0).1 in
    subst (λ (m : ℕ). (1 ≤ m) × (m ≤ most)) found.1 (leb-true 1 read bounds.0, leb-true read most bounds.1)

workers_in_range : (n : ℕ) (text : Option (List ℕ)) → number_or default_workers most_workers text ≡ Some n → (0 < n) × (n ≤ 64)
workers_in_range n None is = let same = same_Some default_workers n is in (omega (arith, same), omega (arith, same))
workers_in_range n (Some text) is = range_of_number most_workers n text is

abbrev workers_in : Line → ℕ
workers_in init = 0
workers_in run = 0
workers_in (serve listen workers connections) = workers
workers_in (report month as_text) = 0
workers_in (explain workers) = 0
workers_in (gen number count) = 0
workers_in (bill month) = 0
workers_in (forecast bucket day) = 0

abbrev explainers_in : Line → ℕ
explainers_in init = 0
explainers_in run = 0
explainers_in (serve listen workers connections) = 0
explainers_in (report month as_text) = 0
explainers_in (explain workers) = workers
explainers_in (gen number count) = 0
explainers_in (bill month) = 0
explainers_in (forecast bucket day) = 0

mapped_some : {A B P : Type 0} (f : A → B) (o : Option A) (y : B) → option_map f o ≡ Some y → ((x : A) → f x ≡ y → P) → P
mapped_some f None y is use_it = absurd cc
mapped_some f (Some x) y is use_it = use_it x (same_Some (f x) y is)

module _ (listen : List ℕ) (workers connections : ℕ) where
  abbrev Served : Line
  Served = serve listen workers connections

  served_in_range : (rows : List Row) → serve_of rows ≡ Some Served → (0 < workers) × (workers ≤ 64)
  served_in_range rows is =
      option_and_then_some (λ l. option_and_then (λ w. option_map (λ c. serve l w c) (connections_of rows)) (workers_of rows)) (given rows (codes "listen")) Served is
      (λ l _ counted. option_and_then_some (λ w. option_map (λ c. serve l w c) (connections_of rows)) (workers_of rows) Served counted
      (λ w found made. mapped_some (λ c. serve l w c) (connections_of rows) Served made
      (λ c same. subst (λ (n : ℕ). (0 < n) × (n ≤ 64)) (ap workers_in same) (workers_in_range w (given rows (codes "workers")) found))))

  no_report : (o : Option ℕ) (as_text : Bool) → option_map (λ month. report month as_text) o ≡ Some Served → ⊥
  no_report None as_text is = absurd cc
  no_report (Some month) as_text is = absurd cc

  no_explain : (o : Option ℕ) → option_map explain o ≡ Some Served → ⊥
  no_explain None is = absurd cc
  no_explain (Some count) is = absurd cc

  no_gen_of : (number : ℕ) (o : Option ℕ) → option_map (gen number) o ≡ Some Served → ⊥
  no_gen_of number None is = absurd cc
  no_gen_of number (Some count) is = absurd cc

  no_gen : (o p : Option ℕ) → option_and_then (λ number. option_map (gen number) p) o ≡ Some Served → ⊥
  no_gen None p is = absurd cc
  no_gen (Some number) p is = no_gen_of number p is

  no_bill : (o : Option ℕ) → option_map bill o ≡ Some Served → ⊥
  no_bill None is = absurd cc
  no_bill (Some month) is = absurd cc

  no_forecast_of : (bucket : List ℕ) (o : Option ℕ) → option_map (forecast bucket) o ≡ Some Served → ⊥
  no_forecast_of bucket None is = absurd cc
  no_forecast_of bucket (Some day) is = absurd cc

  no_forecast : (o : Option (List ℕ)) (p : Option ℕ) → option_and_then (λ bucket. option_map (forecast bucket) p) o ≡ Some Served → ⊥
  no_forecast None p is = absurd cc
  no_forecast (Some bucket) p is = no_forecast_of bucket p is

  named_serve : (a b c d e f g h : Bool) (rows : List Row)
      → (if a then Some init else (if b then Some run else (if c then serve_of rows else (if d then report_of rows
      else (if e then explain_of rows else (if f then gen_of rows else (if g then bill_of rows else (if h then forecast_of rows else None)))))))) ≡ Some Served → serve_of rows ≡ Some Served
  named_serve true b c d e f g h rows is = absurd cc
  named_serve false true c d e f g h rows is = absurd cc
  named_serve false false true d e f g h rows is = is
  named_serve false false false true e f g h rows is = absurd (no_report (option_and_then month_of_text (given rows (codes "month"))) (is_set (given rows (codes "text"))) is)
  named_serve false false false false true f g h rows is = absurd (no_explain (workers_of rows) is)
  named_serve false false false false false true g h rows is =
      absurd (no_gen (option_and_then (number_between 0 most_seed) (given rows (codes "number"))) (option_and_then (number_between 0 most_generated) (given rows (codes "count"))) is)
  named_serve false false false false false false true h rows is = absurd (no_bill (option_and_then month_of_text (given rows (codes "month"))) is)
  named_serve false false false false false false false true rows is =
      absurd (no_forecast (option_and_then bucket_of_text (given rows (codes "bucket"))) (option_and_then midnight_of_text (given rows (codes "date"))) is)
  named_serve false false false false false false false false rows is = absurd cc

  command_in_range : (entered : List ℕ × List Row) → subcommand_line entered ≡ Some Served → (0 < workers) × (workers ≤ 64)
  command_in_range (name, rows) is =
      served_in_range rows (named_serve (bytes_eq name (codes "init")) (bytes_eq name (codes "run")) (bytes_eq name (codes "serve")) (bytes_eq name (codes "report"))
      (bytes_eq name (codes "explain")) (bytes_eq name (codes "gen")) (bytes_eq name (codes "bill")) (bytes_eq name (codes "forecast")) rows is)

  -- workers are 1 to 64
  pub serve_in_range : (words : List (List ℕ)) → asked words ≡ Some Served → (0 < workers) × (workers ≤ 64)
  unfolding asked
  serve_in_range words is =
      option_and_then_some subcommand_line (subcommand_of office_words words) Served
      (if_passed (is_empty (fault_of office_words words)) (option_and_then subcommand_line (subcommand_of office_words words)) Served is)
      (λ entered _ found. command_in_range entered found)

-- ---- explain

module _ (workers : ℕ) where
  abbrev Explained : Line
  Explained = explain workers

  explained_count : (o : Option ℕ) → option_map explain o ≡ Some Explained → o ≡ Some workers
  explained_count None is = absurd cc
  explained_count (Some count) is = ap Some (ap explainers_in (same_Some (explain count) Explained is))

  explained_in_range : (rows : List Row) → explain_of rows ≡ Some Explained → (0 < workers) × (workers ≤ 64)
  explained_in_range rows is = workers_in_range workers (given rows (codes "workers")) (explained_count (workers_of rows) is)

  serves_not : (listen : List ℕ) (count connections : ℕ) → serve listen count connections ≡ Explained → ⊥
  serves_not listen count connections is = absurd cc

  not_served : (rows : List Row) → serve_of rows ≡ Some Explained → ⊥
  not_served rows is =
      option_and_then_some (λ l. option_and_then (λ w. option_map (λ c. serve l w c) (connections_of rows)) (workers_of rows)) (given rows (codes "listen")) Explained is
      (λ l _ counted. option_and_then_some (λ w. option_map (λ c. serve l w c) (connections_of rows)) (workers_of rows) Explained counted
      (λ w found made. mapped_some (λ c. serve l w c) (connections_of rows) Explained made
      (λ c same. serves_not l w c same)))

  not_reported : (o : Option ℕ) (as_text : Bool) → option_map (λ month. report month as_text) o ≡ Some Explained → ⊥
  not_reported None as_text is = absurd cc
  not_reported (Some month) as_text is = absurd cc

  not_generated_of : (number : ℕ) (o : Option ℕ) → option_map (gen number) o ≡ Some Explained → ⊥
  not_generated_of number None is = absurd cc
  not_generated_of number (Some count) is = absurd cc

  not_generated : (o p : Option ℕ) → option_and_then (λ number. option_map (gen number) p) o ≡ Some Explained → ⊥
  not_generated None p is = absurd cc
  not_generated (Some number) p is = not_generated_of number p is

  not_billed : (o : Option ℕ) → option_map bill o ≡ Some Explained → ⊥
  not_billed None is = absurd cc
  not_billed (Some month) is = absurd cc

  not_forecast_of : (bucket : List ℕ) (o : Option ℕ) → option_map (forecast bucket) o ≡ Some Explained → ⊥
  not_forecast_of bucket None is = absurd cc
  not_forecast_of bucket (Some day) is = absurd cc

  not_forecast : (o : Option (List ℕ)) (p : Option ℕ) → option_and_then (λ bucket. option_map (forecast bucket) p) o ≡ Some Explained → ⊥
  not_forecast None p is = absurd cc
  not_forecast (Some bucket) p is = not_forecast_of bucket p is

  named_explain : (a b c d e f g h : Bool) (rows : List Row)
      → (if a then Some init else (if b then Some run else (if c then serve_of rows else (if d then report_of rows
      else (if e then explain_of rows else (if f then gen_of rows else (if g then bill_of rows else (if h then forecast_of rows else None)))))))) ≡ Some Explained → explain_of rows ≡ Some Explained
  named_explain true b c d e f g h rows is = absurd cc
  named_explain false true c d e f g h rows is = absurd cc
  named_explain false false true d e f g h rows is = absurd (not_served rows is)
  named_explain false false false true e f g h rows is = absurd (not_reported (option_and_then month_of_text (given rows (codes "month"))) (is_set (given rows (codes "text"))) is)
  named_explain false false false false true f g h rows is = is
  named_explain false false false false false true g h rows is =
      absurd (not_generated (option_and_then (number_between 0 most_seed) (given rows (codes "number"))) (option_and_then (number_between 0 most_generated) (given rows (codes "count"))) is)
  named_explain false false false false false false true h rows is = absurd (not_billed (option_and_then month_of_text (given rows (codes "month"))) is)
  named_explain false false false false false false false true rows is =
      absurd (not_forecast (option_and_then bucket_of_text (given rows (codes "bucket"))) (option_and_then midnight_of_text (given rows (codes "date"))) is)
  named_explain false false false false false false false false rows is = absurd cc

  explained_command : (entered : List ℕ × List Row) → subcommand_line entered ≡ Some Explained → (0 < workers) × (workers ≤ 64)
  explained_command (name, rows) is =
      explained_in_range rows (named_explain (bytes_eq name (codes "init")) (bytes_eq name (codes "run")) (bytes_eq name (codes "serve")) (bytes_eq name (codes "report"))
      (bytes_eq name (codes "explain")) (bytes_eq name (codes "gen")) (bytes_eq name (codes "bill")) (bytes_eq name (codes "forecast")) rows is)

  -- workers are 1 to 64
  pub explain_in_range : (words : List (List ℕ)) → asked words ≡ Some Explained → (0 < workers) × (workers ≤ 64)
  unfolding asked
  explain_in_range words is =
      option_and_then_some subcommand_line (subcommand_of office_words words) Explained
      (if_passed (is_empty (fault_of office_words words)) (option_and_then subcommand_line (subcommand_of office_words words)) Explained is)
      (λ entered _ found. explained_command entered found)
