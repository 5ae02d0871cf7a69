use Rattle.std.proofs.Common.{ap, ◌∙◌}
use Rattle.due_core.specs.declared.action.Candidate.{Candidate}
use Rattle.due_index.proofs.Searching.{on_upload}
use Rattle.due_index.proofs.search.next_on_upload.Goals as goal

pub returns-in_ok-on_key-in-Some-first_on_upload-clause-own : goal.returns-in_ok-on_key-in-Some-first_on_upload-clause-own
returns-in_ok-on_key-in-Some-first_on_upload-clause-own c =
    ap (λ (d : Candidate). d.action.target) c.in_ok-on_key-in-Some-first_on_upload.ensures
    ∙ on_upload c.args.bucket.now c.in-Some.rules c.args.number c.in-Some-get.upload.now c.in-Some-first_on_upload.place c.in-Some-first_on_upload.ensures
