use Rattle.std.proofs.Common.{◌≡◌, List, ℕ, arith, subst}
use Rattle.http_wire.proofs.MessageLemmas.{refused_told, covers_held, frame_of}
use Rattle.http_wire.specs.Messages.{token_fields}
use Rattle.http_wire.specs.Parts.{IsFound}
use Rattle.http_wire.proofs.message.read_body.Goals as goal

pub returns-in-Err-clause-tells : goal.returns-in-Err-clause-tells
returns-in-Err-clause-tells g c =
    let h = c.requires.whole.0 in
    let at = c.requires.whole.1 in
    refused_told c.args.buffer.now (g.R.Source.left c.args.source.now) c.args.head h c.in-Err.bad at (omega (arith, c.requires.within.section.len_fits, c.held.ensures.short))
    (c.in-Err.ensures h (covers_held c.args.buffer.now c.held.result.now c.spans.result.now c.args.head h at c.held.ensures.value c.spans.ensures.value))

pub read_held-requires-clause-frame : goal.read_held-requires-clause-frame
read_held-requires-clause-frame g c =
    let h = c.requires.whole.0 in
    let at = c.requires.whole.1 in
    let a = c.args.buffer.now in
    let spans = c.spans.result.now in
    let covers = λ (held : List ℕ) (same : held ≡ a.bytes). covers_held a held spans c.args.head h at same c.spans.ensures.value in
    frame_of a spans c.args.head c.in-Ok.size c.is_closing-last.result c.token_of-token.result h at c.requires.within
    (omega (arith, c.requires.within.section.len_fits, c.held.ensures.short)) c.spans.ensures.value
    (c.in-Ok.ensures h (covers c.held.result.now c.held.ensures.value))
    (c.is_closing-last.ensures h at.version (covers c.held-2.result.now c.held-2.ensures.value))
    (subst (λ (t : List ℕ). IsFound t c.token_of-token.result (token_fields h)) c.held-3.ensures.value
    (c.token_of-token.ensures.is h (covers c.held-3.result.now c.held-3.ensures.value)))
    c.token_of-token.ensures.lies

pub read_apart-requires-clause-frame : goal.read_apart-requires-clause-frame
read_apart-requires-clause-frame g c =
    let h = c.requires.whole.0 in
    let at = c.requires.whole.1 in
    let a = c.args.buffer.now in
    let spans = c.spans.result.now in
    let covers = λ (held : List ℕ) (same : held ≡ a.bytes). covers_held a held spans c.args.head h at same c.spans.ensures.value in
    frame_of a spans c.args.head c.in-Ok.size c.is_closing-last.result c.token_of-token.result h at c.requires.within
    (omega (arith, c.requires.within.section.len_fits, c.held.ensures.short)) c.spans.ensures.value
    (c.in-Ok.ensures h (covers c.held.result.now c.held.ensures.value))
    (c.is_closing-last.ensures h at.version (covers c.held-2.result.now c.held-2.ensures.value))
    (subst (λ (t : List ℕ). IsFound t c.token_of-token.result (token_fields h)) c.held-3.ensures.value
    (c.token_of-token.ensures.is h (covers c.held-3.result.now c.held-3.ensures.value)))
    c.token_of-token.ensures.lies
