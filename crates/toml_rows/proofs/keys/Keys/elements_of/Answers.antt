use Rattle.std.proofs.Common.{◌≤◌, List, ℕ, ap, subst, ◌∙◌, sym, arith}
use Rattle.std.proofs.lemmas.Grind.{common_steps}
use Rattle.toml_rows.specs.Rows.{row_of}
use Rattle.toml_rows.specs.Walking.{items_of, tables_of, IsLeft}
use Rattle.toml_rows.proofs.WalkLemmas.{left_first, left_end}
use Rattle.toml_rows.proofs.keys.Keys.elements_of.Goals as goal

pub elements-init : goal.elements-init
elements-init c depth ds is =
    let P : List ℕ → Type 0 = λ ts. IsLeft depth (row_of c.args.self.now) is.tables is.elements ds ts c.args.last 0 in
    subst P (sym c.new-found.ensures.items) (left_first depth (row_of c.args.self.now) c.args.last ds is)

pub elements-preserved : goal.elements-preserved
elements-preserved c depth ds is =
    c.in_ok-at.ensures depth is.tables is.elements ds c.elements._turn is.holds (c.elements.invariant depth ds is)

pub returns : goal.returns
returns c depth ds is =
    let row = row_of c.args.self.now in
    let end : row.count ≤ c.elements._turn = grind (arith, common_steps) in (
      is.tables,
      is.elements,
      is.holds,
      left_end depth row is.tables is.elements ds c.elements.found.items c.elements.at c.elements._turn (c.elements.invariant depth ds is) end
          ∙ ap (λ xs. items_of (tables_of is.tables xs)) (sym c.reverse.ensures.items),
    )
