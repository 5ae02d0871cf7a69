use Rattle.std.proofs.Common.{◌≡◌, ◌∙◌, ℕ, true, false, Ok, sym, ap, arith}
use Rattle.moments.specs.Months.{month_number, month_of_year}
use Rattle.tariff.specs.Prices.{Prices}
use Rattle.office_types.specs.declared.command.Command.TheVariants as command
use Rattle.entry_codec.specs.Kinds.{is_plain}
use Rattle.entry_codec.proofs.TierSpelling.{tariff_from, year_fails, month_fails, storage_fails, moves_fail, tiers_read, plain_read}
use Rattle.entry_codec.proofs.command_readers.tiered_tariff.Goals as goal

pub returns-in-Err : goal.returns-in-Err
returns-in-Err c = year_fails c.args.total c.args.bytes.now c.in-Err.e c.in-Err.ensures.read

pub returns-in-Err-read_month : goal.returns-in-Err-read_month
returns-in-Err-read_month c = month_fails c.args.total c.args.bytes.now c.in-Ok.read.0 c.in-Ok.read.1.now c.in-Err-read_month.e c.in-Ok.ensures.read c.in-Err-read_month.ensures.read

pub returns-in-Err-storage_of : goal.returns-in-Err-storage_of
returns-in-Err-storage_of c =
    storage_fails c.args.total c.args.bytes.now c.in-Ok.read.0 c.in-Ok.read.1.now (month_of_year c.in-Ok-read_month.read.0) c.in-Ok-read_month.read.1.now
    c.in-Ok.ensures.read c.in-Ok-read_month.ensures.read c.in-Err-storage_of.e c.in-Err-storage_of.ensures

pub returns-in-Err-prices_of : goal.returns-in-Err-prices_of
returns-in-Err-prices_of c =
    moves_fail c.args.total c.args.bytes.now c.in-Ok.read.0 c.in-Ok.read.1.now (month_of_year c.in-Ok-read_month.read.0) c.in-Ok-read_month.read.1.now
    c.in-Ok.ensures.read c.in-Ok-read_month.ensures.read c.storage_of.new.room c.in-Ok-storage_of.rest.now c.in-Err-prices_of.e c.in-Ok-storage_of.ensures c.in-Err-prices_of.ensures.read

pub returns-then-is_plain : goal.returns-then-is_plain
returns-then-is_plain c =
    let y = c.in-Ok.read.0 in
    let m = month_of_year c.in-Ok-read_month.read.0 in
    let whole : c.in-Ok-read_month.read.0 ≡ month_number y m = c.in-Ok-read_month.ensures.whole in
    let plain : is_plain (tariff_from (month_number y m) c.storage_of.new.room c.prices_of.new.room) ≡ true =
    ap (λ (f : ℕ). is_plain (tariff_from f c.storage_of.new.room c.prices_of.new.room)) (sym whole) ∙ sym c.is_plain.ensures ∙ c.if-is_plain.true in
    rw c.kind_fault.ensures (plain_read c.args.total c.args.bytes.now y c.in-Ok.read.1.now m c.in-Ok-read_month.read.1.now
    c.in-Ok.ensures.read c.in-Ok-read_month.ensures.read c.storage_of.new.room c.in-Ok-storage_of.rest.now c.prices_of.new.room c.in-Ok-prices_of.rest.now
    c.in-Ok-storage_of.ensures c.in-Ok-prices_of.ensures.read (omega arith) (omega arith) plain)

pub returns : goal.returns
returns c =
    let y = c.in-Ok.read.0 in
    let m = month_of_year c.in-Ok-read_month.read.0 in
    let whole : c.in-Ok-read_month.read.0 ≡ month_number y m = c.in-Ok-read_month.ensures.whole in
    let other : is_plain (tariff_from (month_number y m) c.storage_of.new.room c.prices_of.new.room) ≡ false =
    ap (λ (f : ℕ). is_plain (tariff_from f c.storage_of.new.room c.prices_of.new.room)) (sym whole) ∙ sym c.is_plain.ensures ∙ c.if-is_plain.false in
    tiers_read c.args.total c.args.bytes.now y c.in-Ok.read.1.now m c.in-Ok-read_month.read.1.now
    c.in-Ok.ensures.read c.in-Ok-read_month.ensures.read c.storage_of.new.room c.in-Ok-storage_of.rest.now c.prices_of.new.room c.in-Ok-prices_of.rest.now
    c.in-Ok-storage_of.ensures c.in-Ok-prices_of.ensures.read (omega arith) (omega arith) other
    ∙ ap (λ (f : ℕ). Ok (command.SetTariff (tariff_from f c.storage_of.new.room c.prices_of.new.room), c.in-Ok-prices_of.rest.now)) (sym whole)
    ∙ ap (λ (p : Prices). Ok (command.SetTariff p, c.in-Ok-prices_of.rest.now)) (sym c.in_ok-boxed.ensures.ok)
