use Rattle.std.proofs.Common.{◌≡◌, ◌-◌, ℕ, ap, ◌∙◌, length, arith, Option}
use Rattle.std.specs.Prelude.{option_map}
use Rattle.bucket_account.specs.declared.counts.Counts.{Counts}
use Rattle.office_snapshot.proofs.Shown as snapshot
use Rattle.office_machine.proofs.Restored.{makable, countable, few_beside, stands_restored, office_restored, stands_whole, office_whole, restorable_in, shows_in}
use Rattle.office_machine.proofs.office.Office.restore.Goals as goal

abbrev beside : ℕ → Counts
beside n = record { buckets = 0; versions = 0; uploads = 0; parts = 0; names = 0; rules = 0; tariffs = n }

pub accounts_of-requires-clause-names : goal.accounts_of-requires-clause-names
accounts_of-requires-clause-names c = (restorable_in c.snapshot.view_is c.requires.restorable).records.names

pub accounts_of-requires-clause-makable : goal.accounts_of-requires-clause-makable
accounts_of-requires-clause-makable c = makable _ (restorable_in c.snapshot.view_is c.requires.restorable)

pub count_all-counts-requires-clause-beside : goal.count_all-counts-requires-clause-beside
count_all-counts-requires-clause-beside c =
    let counted : c.len-2.result ≡ length c.snapshot.inside.tariffs.items = omega (arith, c.len-2.ensures, c.snapshot.inside.tariffs.ok.0) in
    few_beside _ (beside c.len-2.result) (restorable_in c.snapshot.view_is c.requires.restorable) (ap beside counted)

pub count_all-counts-requires-clause-few : goal.count_all-counts-requires-clause-few
count_all-counts-requires-clause-few c = countable _ c.in_ok-accounts.accounts.entries (restorable_in c.snapshot.view_is c.requires.restorable) c.in_ok-accounts.ensures

pub invariant_of-machine : goal.invariant_of-machine
invariant_of-machine c =
    let is = restorable_in c.snapshot.view_is c.requires.restorable in
    let counted : c.len-2.result ≡ length c.snapshot.inside.tariffs.items = omega (arith, c.len-2.ensures, c.snapshot.inside.tariffs.ok.0) in
    let shut : c.len.result ≡ length c.snapshot.inside.closed.items = omega (arith, c.len.ensures, c.snapshot.inside.closed.ok.0) in
    let first = c.first_month_of-first_month.ensures ∙ ap (λ (n : ℕ). option_map (λ month. month - n) c.snapshot.inside.first_open) shut in
    office_restored _ c.first_month_of-first_month.result c.in_ok-accounts.accounts.entries c.count_all-counts.result (beside c.len-2.result) first c.in_ok-accounts.ensures (ap beside counted)
    c.count_all-counts.ensures _ (snapshot.shows_restored _ is)

pub invariant_of-result : goal.invariant_of-result
invariant_of-result c =
    let is = restorable_in c.snapshot.view_is c.requires.restorable in
    let counted : c.len-2.result ≡ length c.snapshot.inside.tariffs.items = omega (arith, c.len-2.ensures, c.snapshot.inside.tariffs.ok.0) in
    let shut : c.len.result ≡ length c.snapshot.inside.closed.items = omega (arith, c.len.ensures, c.snapshot.inside.closed.ok.0) in
    let first = c.first_month_of-first_month.ensures ∙ ap (λ (n : ℕ). option_map (λ month. month - n) c.snapshot.inside.first_open) shut in
    let shows = snapshot.shows_restored _ is in
    office_whole _ _ c.in_ok-kept.kept c.in_ok-kept.ensures is _ shows
    (stands_restored _ c.first_month_of-first_month.result c.in_ok-accounts.accounts.entries c.count_all-counts.result (beside c.len-2.result) first c.in_ok-accounts.ensures (ap beside counted)
    c.count_all-counts.ensures _ shows)

pub returns-clause-stands : goal.returns-clause-stands
returns-clause-stands c = λ p shows.
    let seen = shows_in c.snapshot.view_is shows in
    let counted : c.len-2.result ≡ length c.snapshot.inside.tariffs.items = omega (arith, c.len-2.ensures, c.snapshot.inside.tariffs.ok.0) in
    let shut : c.len.result ≡ length c.snapshot.inside.closed.items = omega (arith, c.len.ensures, c.snapshot.inside.closed.ok.0) in
    let first = c.first_month_of-first_month.ensures ∙ ap (λ (n : ℕ). option_map (λ month. month - n) c.snapshot.inside.first_open) shut in
    stands_whole _ _ c.in_ok-kept.kept c.in_ok-kept.ensures p seen
    (stands_restored _ c.first_month_of-first_month.result c.in_ok-accounts.accounts.entries c.count_all-counts.result (beside c.len-2.result) first c.in_ok-accounts.ensures (ap beside counted)
    c.count_all-counts.ensures p seen)

pub returns-clause-some : goal.returns-clause-some
returns-clause-some c = (snapshot.restored c.args.snapshot, snapshot.shows_restored c.args.snapshot c.requires.restorable)
