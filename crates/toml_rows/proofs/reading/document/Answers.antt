use Rattle.std.proofs.Common.{◌≡◌, ◌==◌, ◌-◌, suc, length, false, [], refl, sym, ap, ◌∙◌, rules, arith}
use Rattle.std.proofs.lemmas.Grind.{common_steps}
use Rattle.toml_parser.specs.Lexical.{skip_blank}
use Rattle.toml_parser.specs.Strings.{recursion_limit}
use Rattle.toml.specs.Data.{no_items}
use Rattle.toml.specs.Tables.{no_nodes, close, Document}
use Rattle.toml.specs.Parse.{lines}
use Rattle.toml.proofs.Turns.{document_none, document_some, lines_end, lines_more, lines_bad, lines_refused}
use Rattle.toml_rows.specs.Rows.{row_of}
use Rattle.toml_rows.specs.Tables.{at_root}
use Rattle.toml_rows.proofs.EnterLemmas.{match_err}
use Rattle.toml_rows.proofs.LoopLemmas.{holds_empty}
use Rattle.toml_rows.proofs.reading.document.Goals as goal

pub lines-init : goal.lines-init
lines-init c =
    let s = c.args.s.now in (
      search rules,
      c.skip_bom-rest.ensures.within,
      (λ i. no_nodes),
      (λ i. no_items),
      [],
      holds_empty recursion_limit (row_of c.in_ok-keys.keys) c.in_ok-keys.ensures,
      at_root,
      suc (length s),
      omega (arith, c.skip_bom-rest.ensures.within),
      ap (lines (suc (length s)) (no_nodes, [])) (sym c.skip_bom-rest.ensures.rest),
    )

pub returns-then-is_empty : goal.returns-then-is_empty
returns-then-is_empty c =
    let l = c.lines in
    let start = skip_blank l.rest.now in
    let tables = l.invariant.2 in
    let doc : Document = (tables 0, l.invariant.4) in
    let m = l.invariant.7 in
    let room = l.invariant.8 in
    let loop = l.invariant.9 in
    let start_is = c.skip_blank-start.ensures.rest in
    let none : length start ≡ 0 = grind (arith, common_steps) in (
      close (tables 0),
      record { tables = tables; elements = l.invariant.3; holds = l.invariant.5; members = refl },
      document_some c.args.s.now doc (loop ∙ lines_end m doc l.rest.now (omega arith) none),
    )

pub returns-in_err-key : goal.returns-in_err-key
returns-in_err-key c =
    let l = c.lines in
    let start = skip_blank l.rest.now in
    let tables = l.invariant.2 in
    let doc : Document = (tables 0, l.invariant.4) in
    let m = l.invariant.7 in
    let room = l.invariant.8 in
    let loop = l.invariant.9 in
    let start_is = c.skip_blank-start.ensures.rest in
    let other : (length start == 0) ≡ false = grind (arith, common_steps) in
    match_err c.from_residual-in_err-key.result _ _ c.in_err-key.field-0.0 _ c.from_residual-in_err-key.ensures.1 (λ y p. p) λ refused.
    document_none c.args.s.now (loop ∙ lines_bad m doc l.rest.now (omega arith) other (rw start_is at (c.in_err-key.ensures.value refused)))

pub returns-in_err-section : goal.returns-in_err-section
returns-in_err-section c =
    let l = c.lines in
    let start = skip_blank l.rest.now in
    let tables = l.invariant.2 in
    let doc : Document = (tables 0, l.invariant.4) in
    let m = l.invariant.7 in
    let room = l.invariant.8 in
    let loop = l.invariant.9 in
    let start_is = c.skip_blank-start.ensures.rest in
    let other : (length start == 0) ≡ false = grind (arith, common_steps) in
    let read = rw start_is at c.in_ok-key.ensures.value in
    match_err c.from_residual-in_err-section.result _ _ c.in_err-section.field-0.0 _ c.from_residual-in_err-section.ensures.1 (λ y p. p) λ refused.
    document_none c.args.s.now (loop ∙ lines_refused m doc l.rest.now _ _ (omega arith) other read
    (c.in_err-section.ensures tables l.invariant.3 l.invariant.4 l.invariant.5 l.invariant.6 refused))

pub lines-preserved : goal.lines-preserved
lines-preserved c =
    let l = c.lines in
    let start = skip_blank l.rest.now in
    let tables = l.invariant.2 in
    let doc : Document = (tables 0, l.invariant.4) in
    let m = l.invariant.7 in
    let room = l.invariant.8 in
    let loop = l.invariant.9 in
    let start_is = c.skip_blank-start.ensures.rest in
    let other : (length start == 0) ≡ false = grind (arith, common_steps) in
    let read = rw start_is at c.in_ok-key.ensures.value in
    let shorter = c.in_ok-key.ensures.shorter in
    let before = c.skip_blank-start.ensures.within in
    let new = c.in_ok-section.ensures tables l.invariant.3 l.invariant.4 l.invariant.5 l.invariant.6 in (
      search rules,
      omega (arith, l.invariant.1),
      new.tables,
      new.elements,
      new.path,
      new.holds,
      new.leads,
      m - 1,
      omega arith,
      loop ∙ lines_more m doc (new.tables 0, new.path) l.rest.now _ _ (omega arith) other read new.is,
    )
