use Rattle.std.proofs.Common.{◌≡◌, sym, subst, rules, Err}
use Rattle.httparse.specs.Spans.{span_bytes}
use Rattle.http_wire.specs.Parts.{IsFound, body_of}
use Rattle.http_asks.specs.Faults.{OnMeant}
use Rattle.http_asks.specs.Meaning.{MeansWith}
use Rattle.http_asks.specs.declared.bad.Fault.{Fault}
use Rattle.http_asks.proofs.reader.Reader.read.Goals as goal

pub returns-in-Err-Bad-clause-heard : goal.returns-in-Err-Bad-clause-heard
returns-in-Err-Bad-clause-heard c fields is =
    let bytes = c.args.self.now.bytes in
    let m = c.args.message.now in
    let path : c.of.result.now ≡ span_bytes bytes m.head.path = search rules in
    let method : c.of-2.result.now ≡ span_bytes bytes m.head.method = search rules in
    let body : c.body.result.now ≡ body_of m bytes = search rules in
    let held : c.held-bytes.result.now ≡ bytes = search rules in
    let found : IsFound c.held-bytes.result.now c.token.result fields = rw (sym held, sym c.token.ensures.value) at is in
    let told = subst (λ (f : Fault). OnMeant (Err f) (MeansWith fields c.of.result.now c.of-2.result.now c.body.result.now)) c.in-Err-Bad.field-0-is (c.in-Err-Bad.ensures fields found) in
    (rw (path, method, body) at told, c.last-in-Err-Bad.ensures)
