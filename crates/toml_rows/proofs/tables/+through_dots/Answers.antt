use Rattle.std.proofs.Common.{◌≡◌, ◌-◌, ◌∷◌, [], ◌++◌, length, take, drop, sym, ap, ◌∙◌}
use Rattle.toml_parser.specs.Reading.{path_view}
use Rattle.toml.specs.Tables.{along_header, along_dots}
use Rattle.toml.proofs.Turns.{path_view-front, path_view-none}
use Rattle.toml_rows.specs.Rows.{row_of}
use Rattle.toml_rows.proofs.PathLemmas.{dots_refused, dots_more}
use Rattle.toml_rows.proofs.EnterLemmas.{match_err, refused_at, dots_over, dots_rest}
use Rattle.toml_rows.proofs.tables.+through_dots.Goals as goal

pub returns-in_default : goal.returns-in_default
returns-in_default t c depth tables elements p holds leads =
    dots_over depth (row_of c.args.keys.now) tables elements p c.args.table holds leads (path_view c.args.path.now)
    (path_view-none c.args.path.now c.in_default.len_below)

pub returns-in_err-inner : goal.returns-in_err-inner
returns-in_err-inner t c depth tables elements p holds leads =
    let k = c.as_str.result.now in
    let rest = path_view (take (length c.args.path.now - 1) (drop 1 c.args.path.now)) in
    let front : path_view c.args.path.now ≡ k ∷ rest =
    path_view-front c.args.path.now c.name-item.result _ c.in-len1-up.len_at_least c.name-item.is ∙ ap (λ l. l ∷ rest) (sym c.as_str.ensures.value) in
    match_err c.from_residual.result _ _ c.in_err-inner.field-0.0 _ c.from_residual.ensures.1 (λ y e. e) λ refused. λ edit.
    refused_at depth (row_of c.args.keys.now) tables elements p c.args.table holds leads (along_dots (path_view c.args.path.now) edit)
    (ap (λ q. along_dots q edit (tables c.args.table)) front
    ∙ dots_refused k rest edit (tables c.args.table) (c.in_err-inner.ensures depth tables elements p holds leads refused))

pub returns-in_err-end : goal.returns-in_err-end
returns-in_err-end t c depth tables elements p holds leads =
    let k = c.as_str.result.now in
    let rest = path_view (take (length c.args.path.now - 1) (drop 1 c.args.path.now)) in
    let front : path_view c.args.path.now ≡ k ∷ rest =
    path_view-front c.args.path.now c.name-item.result _ c.in-len1-up.len_at_least c.name-item.is ∙ ap (λ l. l ∷ rest) (sym c.as_str.ensures.value) in
    let e = (c.in_ok-inner.ensures depth tables elements p holds leads).1 in
    match_err c.from_residual-in_err-end.result _ _ c.in_err-end.field-0.0 _ c.from_residual-in_err-end.ensures.1 (λ y q. q) λ refused. λ edit.
    ap (λ q. along_header p (along_dots q edit) (tables 0)) front ∙ dots_more p k rest edit (tables 0) (e.tables 0) e.is
    ∙ c.in_err-end.ensures depth e.tables e.elements (p ++ k ∷ []) e.holds e.leads refused edit

pub returns : goal.returns
returns t c depth tables elements p holds leads =
    let k = c.as_str.result.now in
    let rest = path_view (take (length c.args.path.now - 1) (drop 1 c.args.path.now)) in
    let front : path_view c.args.path.now ≡ k ∷ rest =
    path_view-front c.args.path.now c.name-item.result _ c.in-len1-up.len_at_least c.name-item.is ∙ ap (λ l. l ∷ rest) (sym c.as_str.ensures.value) in
    let both = c.in_ok-inner.ensures depth tables elements p holds leads in
    let e = both.1 in
    dots_rest depth (row_of c.args.keys.now) (row_of c.enter_dots.new.keys) (row_of c.through_dots.new.keys) p k rest (path_view c.args.path.now)
    c.in_ok-inner.inner c.in_ok-end.end (tables 0) front both.0 e (c.in_ok-end.ensures depth e.tables e.elements (p ++ k ∷ []) e.holds e.leads)
