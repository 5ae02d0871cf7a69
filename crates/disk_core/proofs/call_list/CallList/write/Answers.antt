use Rattle.std.proofs.Common.{◌≡◌, ◌∙◌, ap, refl, rules, List, [], ◌∷◌, ◌++◌, length}
use Rattle.disk_core.specs.declared.call_list.DiskCall.{DiskCall}
use Rattle.disk_core.specs.declared.call_list.DiskCall.TheVariants as kept
use Rattle.disk_core.specs.Kept.{Call, Write}
use Rattle.disk_core.proofs.Kept.{kept_more, whole_more}
use Rattle.disk_core.proofs.call_list.CallList.write.Goals as goal

pub invariant_of-self-2 : goal.invariant_of-self-2
invariant_of-self-2 c =
    let inside = c.self.inside in
    let call : DiskCall = kept.Write c.args.file c.args.at (length c.args.bytes.now) in
    let put : c.extend_from_slice.new.self.items ≡ inside.bytes.items ++ c.args.bytes.now = search rules in
    whole_more inside.calls.items c.push_reserved.new.self.items call inside.bytes.items c.args.bytes.now c.extend_from_slice.new.self.items refl
    (c.push_reserved.ensures.items ∙ ap (λ (l : List DiskCall). l ++ call ∷ []) c.reserve.ensures.items) put c.self.invariant

pub returns-clause-kept : goal.returns-clause-kept
returns-clause-kept c =
    let inside = c.self.inside in
    let call : DiskCall = kept.Write c.args.file c.args.at (length c.args.bytes.now) in
    let put : c.extend_from_slice.new.self.items ≡ inside.bytes.items ++ c.args.bytes.now = search rules in
    kept_more inside.calls.items c.push_reserved.new.self.items call inside.bytes.items c.args.bytes.now c.extend_from_slice.new.self.items refl
    (c.push_reserved.ensures.items ∙ ap (λ (l : List DiskCall). l ++ call ∷ []) c.reserve.ensures.items) put c.self.invariant
    ∙ ap (λ (l : List Call). l ++ Write c.args.file c.args.at c.args.bytes.now ∷ []) c.self.view_is
