use Rattle.std.proofs.Common.{◌∙◌, ap, sym, List, [], ◌∷◌, ◌++◌}
use Rattle.std.proofs.lemmas.List.{append-nil}
use Rattle.disk_core.specs.declared.call_list.DiskCall.{DiskCall}
use Rattle.disk_core.specs.Kept.{Call, call_of}
use Rattle.disk_core.proofs.Kept.{kept_more, whole_more}
use Rattle.disk_core.proofs.call_list.CallList.keep.Goals as goal

pub invariant_of-self-2 : goal.invariant_of-self-2
invariant_of-self-2 c =
    let inside = c.self.inside in
    whole_more inside.calls.items c.push_reserved.new.self.items c.args.call inside.bytes.items [] inside.bytes.items c.requires
    (c.push_reserved.ensures.items ∙ ap (λ (l : List DiskCall). l ++ c.args.call ∷ []) c.reserve.ensures.items)
    (sym (append-nil inside.bytes.items)) c.self.invariant

pub returns-clause-ok : goal.returns-clause-ok
returns-clause-ok c =
    let inside = c.self.inside in
    kept_more inside.calls.items c.push_reserved.new.self.items c.args.call inside.bytes.items [] inside.bytes.items c.requires
    (c.push_reserved.ensures.items ∙ ap (λ (l : List DiskCall). l ++ c.args.call ∷ []) c.reserve.ensures.items)
    (sym (append-nil inside.bytes.items)) c.self.invariant
    ∙ ap (λ (l : List Call). l ++ call_of c.args.call [] ∷ []) c.self.view_is
