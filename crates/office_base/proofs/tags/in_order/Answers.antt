use Rattle.std.proofs.Common.{◌≡◌, ◌∙◌, sym, ap, [], ◌++◌, ◌∷◌, rules}
use Rattle.office_base.specs.Tags.{tags_of, tag_of, with_tag}
use Rattle.office_base.proofs.InOrder.{onto, onto_nothing, onto_none, onto_last}
use Rattle.office_base.proofs.tags.in_order.Goals as goal

pub loop-pair-init : goal.loop-pair-init
loop-pair-init c =
    ap (λ items. onto (tags_of c.args.pairs.items) (tags_of items)) c.new-kept.ensures.items ∙ onto_nothing (tags_of c.args.pairs.items)

pub loop-pair-preserved : goal.loop-pair-preserved
loop-pair-preserved c =
    let last : c.loop-pair.pairs.items ≡ c.pop.new.self.items ++ c.in-Some.pair ∷ [] = search rules in
    let put : tags_of c.put.new.kept.items ≡ with_tag (tag_of c.in-Some.pair) (tags_of c.loop-pair.kept.items) = search rules in
    ap (onto (tags_of c.pop.new.self.items)) put
    ∙ sym (onto_last c.pop.new.self.items c.in-Some.pair (tags_of c.loop-pair.kept.items))
    ∙ ap (λ items. onto (tags_of items) (tags_of c.loop-pair.kept.items)) (sym last) ∙ c.loop-pair.invariant

pub returns : goal.returns
returns c =
    let nothing : c.loop-pair.pairs.items ≡ [] = search rules in
    sym (onto_none (tags_of c.loop-pair.kept.items)) ∙ ap (λ items. onto (tags_of items) (tags_of c.loop-pair.kept.items)) (sym nothing) ∙ c.loop-pair.invariant
