use Rattle.std.proofs.Common.{rules, ◌≡◌, subst}
use Rattle.due_index.specs.Actions.{SetsNextOnUpload}
use Rattle.due_index.proofs.Building.{AreUploadsLeft, all_uploads_left, one_upload_less}
use Rattle.due_index.proofs.actions.ActionIndex.take_uploads.Goals as goal

pub loop-number-init : goal.loop-number-init
loop-number-init c =
    let all : c.args.bucket.now.uploads ≡ c.into_iter-number-iterator.result = search rules in
    subst (λ left. AreUploadsLeft c.args.self.now c.args.self.now c.args.bucket.now left) all
    (all_uploads_left c.args.self.now c.args.bucket.now c.requires.none c.requires.table)

pub loop-number-preserved : goal.loop-number-preserved
loop-number-preserved c =
    one_upload_less c.args.self.now c.loop-number.self c.set_upload.new.self c.args.bucket.now c.in-Some.number.now c.in-Some.field-0-1.now c.next.new.self
    (subst (λ left. AreUploadsLeft c.args.self.now c.loop-number.self c.args.bucket.now left) c.in-Some.ensures.steps c.loop-number.invariant)
    (subst (λ next. SetsNextOnUpload c.loop-number.self c.set_upload.new.self c.in-Some.number.now next) c.in_ok-next.ensures.first c.in_ok-set_upload.ensures.ok)
