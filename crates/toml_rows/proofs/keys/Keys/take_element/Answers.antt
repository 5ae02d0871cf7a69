use Rattle.std.proofs.Common.{◌≡◌, ◌++◌, ◌∷◌, [], rules, arith}
use Rattle.toml_rows.specs.Search.{none}
use Rattle.toml_rows.specs.Rows.{row_of}
use Rattle.toml_rows.proofs.WalkLemmas.{left_none, left_more}
use Rattle.toml_rows.proofs.keys.Keys.take_element.Goals as goal

pub returns-then-at-eq-NONE : goal.returns-then-at-eq-NONE
returns-then-at-eq-NONE c depth tables elements ds turn holds left =
    let is : c.args.at ≡ none = omega arith in
    left_none depth (row_of c.args.self.now) tables elements ds c.args.found.now.items c.args.at turn left is

pub returns : goal.returns
returns c depth tables elements ds turn holds left =
    let some : ¬ (c.args.at ≡ none) = λ is. absurd (omega arith) in
    let pushed : c.push.new.self.items ≡ c.args.found.now.items ++ c.args.at ∷ [] = search rules in
    left_more depth (row_of c.args.self.now) tables elements ds c.args.found.now.items c.args.at turn left holds some c.before-2.result c.before-2.ensures
    c.push.new.self.items pushed
