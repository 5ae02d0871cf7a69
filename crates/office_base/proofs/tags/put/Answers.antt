use Rattle.std.proofs.Common.{◌≡◌, ◌∙◌, ap, insert, rules}
use Rattle.std.specs.List.{prefix_len}
use Rattle.office_base.specs.Tags.{tags_of, tag_of, is_tag_before}
use Rattle.office_base.proofs.InOrder.{placed}
use Rattle.office_base.proofs.tags.put.Goals as goal

pub returns : goal.returns
returns c =
    let items : c.insert.new.self.items ≡ insert c.args.kept.now.items c.place_of-place.result c.args.tag = search rules in
    let place : c.place_of-place.result ≡ prefix_len (λ other. is_tag_before (tag_of other) (tag_of c.args.tag)) c.args.kept.now.items = search rules in
    ap tags_of items ∙ ap (λ n. tags_of (insert c.args.kept.now.items n c.args.tag)) place ∙ placed c.args.tag c.args.kept.now.items
