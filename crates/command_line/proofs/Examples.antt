-- Some command lines, computed.
use Rattle.std.proofs.Common.{◌≡◌, refl, [], ◌∷◌, codes, Some, None, true, false}
use Rattle.std.specs.Fmt.{digits}
use Rattle.moments.specs.Dates.{is_month, begins_with_month, is_date, begins_with_date, is_time, begins_with_clock, is_at_midnight}
use Rattle.moments.specs.Months.{first_day, days_of_months}
use Rattle.office_base.specs.Names.{is_bucket_name}
use Rattle.clap.proofs.OnLiterals.{clap_on_literals}
use Rattle.command_line.specs.Lines.{asked, init, run, serve, report, bill, forecast}

pub init_read : asked (codes "init" ∷ []) ≡ Some init
unfolding clap_on_literals asked digits
init_read = refl

pub run_read : asked (codes "run" ∷ []) ≡ Some run
unfolding clap_on_literals asked digits
run_read = refl

pub serve_by_default : asked (codes "serve" ∷ codes "--listen" ∷ codes "127.0.0.1:8080" ∷ []) ≡ Some (serve (codes "127.0.0.1:8080") 4 4_294_967_295)
unfolding clap_on_literals asked digits
serve_by_default = refl

pub serve_with_numbers : asked (codes "serve" ∷ codes "--listen=a" ∷ codes "--workers" ∷ codes "2" ∷ codes "--connections" ∷ codes "2" ∷ []) ≡ Some (serve (codes "a") 2 2)
unfolding clap_on_literals asked digits
serve_with_numbers = refl

pub most : asked (codes "serve" ∷ codes "--listen=a" ∷ codes "--workers=64" ∷ codes "--connections=4294967295" ∷ []) ≡ Some (serve (codes "a") 64 4_294_967_295)
unfolding clap_on_literals asked digits
most = refl

pub no_words : asked [] ≡ None
unfolding clap_on_literals asked digits
no_words = refl

pub no_help : asked (codes "--help" ∷ []) ≡ None
unfolding clap_on_literals asked digits
no_help = refl

pub no_help_word : asked (codes "help" ∷ []) ≡ None
unfolding clap_on_literals asked digits
no_help_word = refl

pub no_version : asked (codes "--version" ∷ []) ≡ None
unfolding clap_on_literals asked digits
no_version = refl

pub init_and_more : asked (codes "init" ∷ codes "x" ∷ []) ≡ None
unfolding clap_on_literals asked digits
init_and_more = refl

pub nowhere : asked (codes "serve" ∷ []) ≡ None
unfolding clap_on_literals asked digits
nowhere = refl

pub no_worker : asked (codes "serve" ∷ codes "--listen=a" ∷ codes "--workers" ∷ codes "0" ∷ []) ≡ None
unfolding clap_on_literals asked digits
no_worker = refl

pub too_many_workers : asked (codes "serve" ∷ codes "--listen=a" ∷ codes "--workers" ∷ codes "65" ∷ []) ≡ None
unfolding clap_on_literals asked digits
too_many_workers = refl

pub signed_number : asked (codes "serve" ∷ codes "--listen=a" ∷ codes "--workers" ∷ codes "+4" ∷ []) ≡ None
unfolding clap_on_literals asked digits
signed_number = refl

pub leading_zero : asked (codes "serve" ∷ codes "--listen=a" ∷ codes "--workers" ∷ codes "04" ∷ []) ≡ None
unfolding clap_on_literals asked digits
leading_zero = refl

pub listen_twice : asked (codes "serve" ∷ codes "--listen=a" ∷ codes "--listen=b" ∷ []) ≡ None
unfolding clap_on_literals asked digits
listen_twice = refl

pub report_read : asked (codes "report" ∷ codes "2024-01" ∷ []) ≡ Some (report 648 false)
unfolding clap_on_literals asked digits is_month begins_with_month
report_read = refl

pub report_as_text : asked (codes "report" ∷ codes "--text" ∷ codes "2099-12" ∷ []) ≡ Some (report 1559 true)
unfolding clap_on_literals asked digits is_month begins_with_month
report_as_text = refl

pub no_such_month : asked (codes "report" ∷ codes "2024-13" ∷ []) ≡ None
unfolding clap_on_literals asked digits is_month begins_with_month
no_such_month = refl

pub report_of_nothing : asked (codes "report" ∷ []) ≡ None
unfolding clap_on_literals asked digits
report_of_nothing = refl

pub bill_read : asked (codes "bill" ∷ codes "2024-01" ∷ []) ≡ Some (bill 648)
unfolding clap_on_literals asked digits is_month begins_with_month
bill_read = refl

pub bill_of_nothing : asked (codes "bill" ∷ []) ≡ None
unfolding clap_on_literals asked digits
bill_of_nothing = refl

-- 2024-01-31 begins 19,753 days after 1970-01-01
pub forecast_read : asked (codes "forecast" ∷ codes "logs" ∷ codes "2024-01-31" ∷ []) ≡ Some (forecast (codes "logs") 1_706_659_200_000)
unfolding clap_on_literals asked digits is_bucket_name is_date begins_with_date begins_with_month is_at_midnight first_day days_of_months
forecast_read = refl

pub forecast_of_no_day : asked (codes "forecast" ∷ codes "logs" ∷ []) ≡ None
unfolding clap_on_literals asked digits is_bucket_name
forecast_of_no_day = refl

pub forecast_of_no_date : asked (codes "forecast" ∷ codes "logs" ∷ codes "2024-02-30" ∷ []) ≡ None
unfolding clap_on_literals asked digits is_bucket_name is_date begins_with_date begins_with_month is_at_midnight
forecast_of_no_date = refl

pub forecast_at_noon : asked (codes "forecast" ∷ codes "logs" ∷ codes "2024-01-31T12:00:00Z" ∷ []) ≡ None
unfolding clap_on_literals asked digits is_bucket_name is_date begins_with_date begins_with_month is_time begins_with_clock is_at_midnight
forecast_at_noon = refl

pub forecast_of_no_name : asked (codes "forecast" ∷ codes "Logs" ∷ codes "2024-01-31" ∷ []) ≡ None
unfolding clap_on_literals asked digits is_bucket_name is_date begins_with_date begins_with_month is_at_midnight
forecast_of_no_name = refl
