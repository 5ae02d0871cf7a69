use Rattle.std.proofs.Common.{◌∙◌, ap}
use Rattle.office_base.specs.Tags.{by_key, tags_of}
use Rattle.generator.proofs.draft.no_tags.Goals as goal

pub returns-in-Ok : goal.returns-in-Ok
unfolding by_key
returns-in-Ok c = c.in-Ok.ensures.ok.0 ∙ ap (λ (pairs : _). by_key (tags_of pairs)) c.new.ensures.items
