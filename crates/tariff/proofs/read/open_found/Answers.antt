use Rattle.std.proofs.Common.{◌∙◌, ap, None}
use Rattle.toml.specs.Data.{as_table}
use Rattle.toml_rows.specs.Walking.{Says, IsInline}
use Rattle.toml_rows.specs.declared.walk.Found.TheVariants as found
use Rattle.tariff.proofs.read.open_found.Goals as goal

pub returns-in_ok-empty-in-None : goal.returns-in_ok-empty-in-None
returns-in_ok-empty-in-None c row d says =
    let said : Says 80 row (found.Value c.in-Value.text) d = rw c.in-Value.is at says in
    let none : IsInline 80 c.in-Value.text.now None = rw c.in-None.is at c.in_ok-keys-in-Value.ensures in
    (c.in_ok-empty-in-None.ensures.table 79, ap as_table said ∙ none)

pub returns-in_ok-empty-in-Tables : goal.returns-in_ok-empty-in-Tables
returns-in_ok-empty-in-Tables c row d says =
    let said : Says 80 row (found.Tables c.in-Tables.field-0) d = rw c.in-Tables.is at says in
    let (ds, array_is, same) = said in
    (c.in_ok-empty-in-Tables.ensures.table 79, ap as_table same)
