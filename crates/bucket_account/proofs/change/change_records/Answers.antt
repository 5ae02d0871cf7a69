use Rattle.std.proofs.Common.{sym, subst}
use Rattle.bucket_account.specs.Changing.{limits_of}
use Rattle.bucket_account.specs.Counting.{account_of}
use Rattle.bucket_account.proofs.Accepted.{IsNoAct, as_asked, something_done}
use Rattle.bucket_account.proofs.change.change_records.Goals as goal

pub returns-in-SetVersioning-clause-done : goal.returns-in-SetVersioning-clause-done
returns-in-SetVersioning-clause-done c = λ account stands orderly.
    as_asked _ c.args.bucket.now account _ _ c.set_versioning.result _ _ c.in-SetVersioning.is (c.set_versioning.ensures.done account stands orderly)

pub returns-in-SetRules-clause-done : goal.returns-in-SetRules-clause-done
returns-in-SetRules-clause-done c = λ account stands orderly.
    as_asked _ c.args.bucket.now account _ _ c.set_rules.result _ _ c.in-SetRules.is (c.set_rules.ensures.done account stands orderly)

pub returns-in-DropRules-clause-done : goal.returns-in-DropRules-clause-done
returns-in-DropRules-clause-done c = λ account stands orderly.
    as_asked _ c.args.bucket.now account _ _ c.drop_rules.result _ _ c.in-DropRules.is (c.drop_rules.ensures.done account stands orderly)

pub returns-in-Put-clause-done : goal.returns-in-Put-clause-done
returns-in-Put-clause-done c = λ account stands orderly.
    as_asked _ c.args.bucket.now account _ _ c.put.result _ _ c.in-Put.is (c.put.ensures.done account stands orderly)

pub returns-in-Delete-clause-done : goal.returns-in-Delete-clause-done
returns-in-Delete-clause-done c = λ account stands orderly.
    as_asked _ c.args.bucket.now account _ _ c.delete.result _ _ c.in-Delete.is (c.delete.ensures.done account stands orderly)

pub returns-in-DeleteVersion-clause-done : goal.returns-in-DeleteVersion-clause-done
returns-in-DeleteVersion-clause-done c = λ account stands orderly.
    as_asked _ c.args.bucket.now account _ _ c.delete_version.result _ _ c.in-DeleteVersion.is (c.delete_version.ensures.done account stands orderly)

pub returns-in-SetTags-clause-done : goal.returns-in-SetTags-clause-done
returns-in-SetTags-clause-done c = λ account stands orderly.
    as_asked _ c.args.bucket.now account _ _ c.set_tags.result _ _ c.in-SetTags.is (c.set_tags.ensures.done account stands orderly)

pub returns-in-StartUpload-clause-done : goal.returns-in-StartUpload-clause-done
returns-in-StartUpload-clause-done c = λ account stands orderly.
    as_asked _ c.args.bucket.now account _ _ c.start_upload.result _ _ c.in-StartUpload.is (c.start_upload.ensures.done account stands orderly)

pub returns-in-PutPart-clause-done : goal.returns-in-PutPart-clause-done
returns-in-PutPart-clause-done c = λ account stands orderly.
    as_asked _ c.args.bucket.now account _ _ c.put_part.result _ _ c.in-PutPart.is (c.put_part.ensures.done account stands orderly)

pub returns-in-Abort-clause-done : goal.returns-in-Abort-clause-done
returns-in-Abort-clause-done c = λ account stands orderly.
    as_asked _ c.args.bucket.now account _ _ c.abort.result _ _ c.in-Abort.is (c.abort.ensures.done account stands orderly)

-- only an act may find nothing to do

pub returns-in-SetVersioning-clause-nothing : goal.returns-in-SetVersioning-clause-nothing
returns-in-SetVersioning-clause-nothing c =
    let account = c.requires.account in
    something_done c.args.t c.args.command.now (subst IsNoAct (sym c.in-SetVersioning.is) tt)
    (limits_of c.args.command.now c.args.bucket.now) account.0 c.args.counts (account_of c.set_versioning.new.bucket c.set_versioning.new.meters) c.set_versioning.result
    (returns-in-SetVersioning-clause-done c account.0 account.1 account.2) _

pub returns-in-SetRules-clause-nothing : goal.returns-in-SetRules-clause-nothing
returns-in-SetRules-clause-nothing c =
    let account = c.requires.account in
    something_done c.args.t c.args.command.now (subst IsNoAct (sym c.in-SetRules.is) tt)
    (limits_of c.args.command.now c.args.bucket.now) account.0 c.args.counts (account_of c.set_rules.new.bucket c.set_rules.new.meters) c.set_rules.result
    (returns-in-SetRules-clause-done c account.0 account.1 account.2) _

pub returns-in-DropRules-clause-nothing : goal.returns-in-DropRules-clause-nothing
returns-in-DropRules-clause-nothing c =
    let account = c.requires.account in
    something_done c.args.t c.args.command.now (subst IsNoAct (sym c.in-DropRules.is) tt)
    (limits_of c.args.command.now c.args.bucket.now) account.0 c.args.counts (account_of c.drop_rules.new.bucket c.drop_rules.new.meters) c.drop_rules.result
    (returns-in-DropRules-clause-done c account.0 account.1 account.2) _

pub returns-in-Put-clause-nothing : goal.returns-in-Put-clause-nothing
returns-in-Put-clause-nothing c =
    let account = c.requires.account in
    something_done c.args.t c.args.command.now (subst IsNoAct (sym c.in-Put.is) tt)
    (limits_of c.args.command.now c.args.bucket.now) account.0 c.args.counts (account_of c.put.new.bucket c.put.new.meters) c.put.result
    (returns-in-Put-clause-done c account.0 account.1 account.2) _

pub returns-in-Delete-clause-nothing : goal.returns-in-Delete-clause-nothing
returns-in-Delete-clause-nothing c =
    let account = c.requires.account in
    something_done c.args.t c.args.command.now (subst IsNoAct (sym c.in-Delete.is) tt)
    (limits_of c.args.command.now c.args.bucket.now) account.0 c.args.counts (account_of c.delete.new.bucket c.delete.new.meters) c.delete.result
    (returns-in-Delete-clause-done c account.0 account.1 account.2) _

pub returns-in-DeleteVersion-clause-nothing : goal.returns-in-DeleteVersion-clause-nothing
returns-in-DeleteVersion-clause-nothing c =
    let account = c.requires.account in
    something_done c.args.t c.args.command.now (subst IsNoAct (sym c.in-DeleteVersion.is) tt)
    (limits_of c.args.command.now c.args.bucket.now) account.0 c.args.counts (account_of c.delete_version.new.bucket c.delete_version.new.meters) c.delete_version.result
    (returns-in-DeleteVersion-clause-done c account.0 account.1 account.2) _

pub returns-in-SetTags-clause-nothing : goal.returns-in-SetTags-clause-nothing
returns-in-SetTags-clause-nothing c =
    let account = c.requires.account in
    something_done c.args.t c.args.command.now (subst IsNoAct (sym c.in-SetTags.is) tt)
    (limits_of c.args.command.now c.args.bucket.now) account.0 c.args.counts (account_of c.set_tags.new.bucket c.set_tags.new.meters) c.set_tags.result
    (returns-in-SetTags-clause-done c account.0 account.1 account.2) _

pub returns-in-StartUpload-clause-nothing : goal.returns-in-StartUpload-clause-nothing
returns-in-StartUpload-clause-nothing c =
    let account = c.requires.account in
    something_done c.args.t c.args.command.now (subst IsNoAct (sym c.in-StartUpload.is) tt)
    (limits_of c.args.command.now c.args.bucket.now) account.0 c.args.counts (account_of c.start_upload.new.bucket c.start_upload.new.meters) c.start_upload.result
    (returns-in-StartUpload-clause-done c account.0 account.1 account.2) _

pub returns-in-PutPart-clause-nothing : goal.returns-in-PutPart-clause-nothing
returns-in-PutPart-clause-nothing c =
    let account = c.requires.account in
    something_done c.args.t c.args.command.now (subst IsNoAct (sym c.in-PutPart.is) tt)
    (limits_of c.args.command.now c.args.bucket.now) account.0 c.args.counts (account_of c.put_part.new.bucket c.put_part.new.meters) c.put_part.result
    (returns-in-PutPart-clause-done c account.0 account.1 account.2) _

pub returns-in-Abort-clause-nothing : goal.returns-in-Abort-clause-nothing
returns-in-Abort-clause-nothing c =
    let account = c.requires.account in
    something_done c.args.t c.args.command.now (subst IsNoAct (sym c.in-Abort.is) tt)
    (limits_of c.args.command.now c.args.bucket.now) account.0 c.args.counts (account_of c.abort.new.bucket c.abort.new.meters) c.abort.result
    (returns-in-Abort-clause-done c account.0 account.1 account.2) _
