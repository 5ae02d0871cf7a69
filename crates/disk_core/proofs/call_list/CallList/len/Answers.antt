use Rattle.std.proofs.Common.{◌≡◌, ◌∙◌, ap, sym, rules, List, length}
use Rattle.disk_core.specs.Kept.{Call}
use Rattle.disk_core.proofs.Kept.{length-calls_of}
use Rattle.disk_core.proofs.call_list.CallList.len.Goals as goal

pub returns-clause-count : goal.returns-clause-count
returns-clause-count c =
    let inside = c.self.inside in
    let count : c.len.result ≡ length inside.calls.items = search rules in
    count ∙ sym (length-calls_of inside.calls.items inside.bytes.items) ∙ ap (λ (l : List Call). length l) c.self.view_is
