use Rattle.std.proofs.Common.{ap, ◌∙◌, flat_map}
use Rattle.std.proofs.lemmas.Result.{IfOk-weaker}
use Rattle.due_core.specs.Search.{with_each, setting_of, key_candidates, number_candidates}
use Rattle.due_core.proofs.Pass.{is_eligible}
use Rattle.due_core.proofs.walk.look.Goals as goal

pub returns : goal.returns
returns c =
    let bucket = c.args.bucket.now in
    let t = c.args.t in
    let start = c.args.kept.now in
    let middle = c.stacks.new.kept in
    let same = c.setting_of-setting.ensures in
    IfOk-weaker c.uploads.result _ _ (λ _ is. is_eligible bucket c.args.rules.now t start middle _ c.requires.own
    (c.in_ok-stacks.ensures
    ∙ ap (λ s. with_each s.t start (flat_map (key_candidates s c.rules.result.now) bucket.stacks)) same
    ∙ ap (λ list. with_each t start (flat_map (key_candidates (setting_of bucket c.args.rules.now t) list) bucket.stacks)) c.rules.ensures.same)
    (is
    ∙ ap (λ s. with_each s.t middle (flat_map (number_candidates s c.rules-2.result.now) bucket.uploads)) same
    ∙ ap (λ list. with_each t middle (flat_map (number_candidates (setting_of bucket c.args.rules.now t) list) bucket.uploads)) c.rules-2.ensures.same)) c.uploads.ensures
