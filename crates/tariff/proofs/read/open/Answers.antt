use Rattle.std.proofs.Common.{◌≡◌, sym, ap, subst, Option, option_and_then}
use Rattle.toml.specs.Data.{Members, as_table, get_member}
use Rattle.toml_rows.specs.Rows.{row_of}
use Rattle.tariff.specs.Opened.{IsOpened}
use Rattle.tariff.proofs.read.open.Goals as goal

pub returns-in_ok-opened-in-Some : goal.returns-in_ok-opened-in-Some
returns-in_ok-opened-in-Some c ms is =
    let row = row_of c.args.document.now in
    let (d, says, at) = c.in-Some.ensures 80 ms is in
    let same : option_and_then as_table (get_member c.args.name.now ms) ≡ as_table d =
    ap (option_and_then as_table) at in
    let P : Option Members → Type 0 = λ o. IsOpened row c.in_ok-opened-in-Some.opened o in
    subst P (sym same) (c.in_ok-opened-in-Some.ensures row d says)

pub returns-in_ok-empty-in-None : goal.returns-in_ok-empty-in-None
returns-in_ok-empty-in-None c ms is = (
  c.in_ok-empty-in-None.ensures.table 79,
  ap (option_and_then as_table) (c.in-None.ensures 80 ms is),
)
