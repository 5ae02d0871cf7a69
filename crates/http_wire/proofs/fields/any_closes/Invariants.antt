use Rattle.std.proofs.Common.{◌≡◌, ◌&&◌, take, false, codes}
use Rattle.std.specs.List.{list_any}
use Rattle.httparse.specs.Spans.{span_bytes}
use Rattle.http_wire.specs.Messages.{same_word}
use Rattle.http_wire.proofs.fields.any_closes.Given as goal

abbrev pub invariant-loop-header : goal.invariant-loop-header
invariant-loop-header l =
    list_any (λ h. same_word (span_bytes l.bytes h.name) (codes "Connection") && same_word (span_bytes l.bytes h.value) (codes "close")) (take l.header-index l.headers) ≡ false
