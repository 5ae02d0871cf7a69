use Rattle.std.proofs.Common.{◌≡◌, ◌<◌, length, get_or, ap, ◌∙◌, string_bytes, arith}
use Rattle.std.proofs.lemmas.List.{get_or_default}
use Rattle.std.specs.Str.{IsCharBoundary}
use Rattle.toml_rows.specs.Names.{start_of}
use Rattle.toml_rows.proofs.NameLemmas.{start_cut, end_cut}
use Rattle.toml_rows.proofs.names.Names.get.Goals as goal

pub range-requires-clause-start_boundary : goal.range-requires-clause-start_boundary
range-requires-clause-start_boundary c = λ some.
    let ends = c.self.inside.ends.items in
    let i = c.args.index in
    let text = string_bytes c.self.inside.text in
    let within : i < length ends = omega arith in
    let s : c.start-start.result ≡ start_of 0 ends i = c.start-start.ensures ∙ ap (λ xs. start_of 0 xs i) c.deref.ensures.value in
    let cut : IsCharBoundary text (start_of 0 ends i) = start_cut ends text i c.self.invariant.0 c.self.invariant.1 (omega (arith, s)) within in
    rw (c.deref-2.ensures, s) cut

pub range-requires-clause-end_boundary : goal.range-requires-clause-end_boundary
range-requires-clause-end_boundary c =
    let ends = c.self.inside.ends.items in
    let i = c.args.index in
    let text = string_bytes c.self.inside.text in
    let within : i < length ends = omega arith in
    let e : c.index.result.now ≡ get_or ends i 0 = c.index.ensures ∙ get_or_default ends i c.index.result.now 0 within in
    let cut : IsCharBoundary text (get_or ends i 0) = end_cut 0 ends text i c.self.invariant.0 c.self.invariant.1 within in
    rw (c.deref-2.ensures, e) cut
