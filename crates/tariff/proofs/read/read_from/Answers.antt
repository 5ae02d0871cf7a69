use Rattle.std.proofs.Common.{Ok, ok_or, ap, sym, ◌∙◌}
use Rattle.toml_rows.specs.Rows.{row_of}
use Rattle.tariff.specs.Faults.{bad_from}
use Rattle.tariff.specs.Reading.{from_of}
use Rattle.tariff.proofs.read.read_from.Goals as goal

pub returns-in-Some-2 : goal.returns-in-Some-2
returns-in-Some-2 c ms is =
    let (d, says, at) = c.in-Some.ensures 80 ms is in
    ap from_of at
    ∙ ap (λ o. ok_or o bad_from) (sym (c.in_ok-month-in-Some.ensures 80 (row_of c.args.document.now) d says) ∙ c.in-Some-2.is)

pub returns-in-None-2 : goal.returns-in-None-2
returns-in-None-2 c ms is =
    let (d, says, at) = c.in-Some.ensures 80 ms is in
    ap from_of at
    ∙ ap (λ o. ok_or o bad_from) (sym (c.in_ok-month-in-Some.ensures 80 (row_of c.args.document.now) d says) ∙ c.in-None-2.is)

pub returns-in-None : goal.returns-in-None
returns-in-None c ms is =
    ap from_of (c.in-None.ensures 80 ms is) ∙ ap Ok (sym c.numbered.ensures)
