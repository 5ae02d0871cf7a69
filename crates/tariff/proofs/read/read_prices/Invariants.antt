use Rattle.std.proofs.Common.{◌≡◌, ℕ, true, length, drop, take}
use Rattle.toml.specs.Data.{Members}
use Rattle.toml_rows.specs.Rows.{row_of}
use Rattle.toml_rows.specs.Documents.{IsTable}
use Rattle.std.specs.List.{list_all}
use Rattle.tariff.specs.Prices.{is_price}
use Rattle.tariff.specs.Reading.{each_of, price_in, classes_of}
use Rattle.office_base.proofs.Results.{joined}
use Rattle.tariff.proofs.read.read_prices.Given as goal

-- a place for each class; the prices that were read, and those that are left
abbrev pub invariant-loop-place : goal.invariant-loop-place
invariant-loop-place l =
    (l.class-items ≡ classes_of l.table)
    × (length l.prices ≡ length l.class-items)
    × (list_all is_price l.initial.prices ≡ true → list_all is_price l.prices ≡ true)
    × ((depth : ℕ) (ms : Members) → IsTable depth (row_of l.keys) l.number ms
    → each_of (price_in l.table ms) (classes_of l.table)
    ≡ joined (take l.place l.prices) (each_of (price_in l.table ms) (drop l.place l.class-items)))
