use Rattle.std.proofs.Common.{[], ◌∷◌, sym, ap, ◌∙◌, subst, arith}
use Rattle.std.specs.Prelude.{Result}
use Rattle.std.specs.BTreeMap.{is_at}
use Rattle.std.specs.Map.{set_value}
use Rattle.std.specs.Ordering.{nat_cmp}
use Rattle.std.proofs.lemmas.Map.Steps.{set_value_same}
use Rattle.uploads.specs.Uploads.{UploadRecord}
use Rattle.plain_office.specs.Office.{book_of}
use Rattle.plain_office.specs.Step.{put_part}
use Rattle.office_types.specs.declared.refusal.Refusal.{Refusal}
use Rattle.office_types.specs.declared.refusal.What.TheVariants.{Parts}
use Rattle.bucket_account.specs.declared.change.Done.{Done}
use Rattle.bucket_account.specs.Changing.{DoesTold}
use Rattle.bucket_account.specs.Counting.{AccountRecord, account_of}
use Rattle.bucket_account.proofs.Handed.{err_of}
use Rattle.bucket_account.proofs.SetAt.{set_is_with_number}
use Rattle.bucket_account.proofs.PartPut.{changed_for, numbers_for, stay_for, part_done_for, part_refused_for, in_part}
use Rattle.bucket_account.proofs.upload.put_part.Goals as goal

pub with_part-requires-clause-later : goal.with_part-requires-clause-later
with_part-requires-clause-later c =
    let a = c.requires.account in
    changed_for _ a.0 (c.bucket.view_is ∙ a.1.bucket) c.args.upload c.args.part c.args.size c.args.t c.in-Some.kept.now (sym c.in-Some.ensures.value) a.2

pub with_part-requires-clause-few : goal.with_part-requires-clause-few
with_part-requires-clause-few c = let over = c.requires.counts Parts in omega (arith, over.1)

pub put_in-requires-clause-later : goal.put_in-requires-clause-later
put_in-requires-clause-later c =
    let a = c.requires.account in
    changed_for _ a.0 (c.bucket.view_is ∙ a.1.bucket) c.args.upload c.args.part c.args.size c.args.t c.in-Some.kept.now (sym c.in-Some.ensures.value) a.2

pub put_in-requires-clause-open : goal.put_in-requires-clause-open
put_in-requires-clause-open c =
    let a = c.requires.account in (
      c.args.upload,
      a.0.books,
      a.1.meters,
      stay_for _ a.0 (c.bucket.view_is ∙ a.1.bucket) c.args.upload c.args.part c.args.size c.args.t c.in-Some.kept.now (sym c.in-Some.ensures.value) a.2,
    )

pub returns-in_err-counts-clause-done : goal.returns-in_err-counts-clause-done
returns-in_err-counts-clause-done c = λ account stands orderly.
    let entries = c.bucket.inside.uploads.entries in
    let kept = c.in-Some.kept.now in
    let after : AccountRecord =
    account_of (record {
      versioning = c.bucket.inside.versioning;
      rules = c.bucket.inside.rules;
      rules_since = c.bucket.inside.rules_since;
      stacks = c.bucket.inside.stacks.entries;
      uploads = (c.get_mut.follows.lender kept).entries;
      next_version = c.bucket.inside.next_version;
      next_upload = c.bucket.inside.next_upload;
    }) c.args.meters.now in
    subst (λ (r : Result Done Refusal). DoesTold (Parts ∷ []) (put_part c.args.t c.args.upload c.args.part c.args.size account) account c.args.counts after r)
    (err_of c.from_residual.result c.in_err-counts.field-0.0 c.from_residual.ensures.1)
    (part_refused_for _ account (c.bucket.view_is ∙ stands.bucket) c.args.upload c.args.part c.args.size c.args.t kept (sym c.in-Some.ensures.value) orderly c.args.counts
    (c.get_mut.follows.lender kept).entries
    ((c.get_mut.follows.holds kept).0 ∙ set_value_same (is_at (nat_cmp c.args.upload)) entries kept (sym c.in-Some.ensures.value))
    c.args.meters.now stands.meters c.in_err-counts.field-0.0 c.in_err-counts.ensures.refused)

pub returns-in_err-put_in-clause-done : goal.returns-in_err-put_in-clause-done
returns-in_err-put_in-clause-done c = λ account stands orderly.
    let entries = c.bucket.inside.uploads.entries in
    let kept = c.in-Some.kept.now in
    let after : AccountRecord =
    account_of (record {
      versioning = c.bucket.inside.versioning;
      rules = c.bucket.inside.rules;
      rules_since = c.bucket.inside.rules_since;
      stacks = c.bucket.inside.stacks.entries;
      uploads = (c.get_mut.follows.lender c.put_in.new.upload).entries;
      next_version = c.bucket.inside.next_version;
      next_upload = c.bucket.inside.next_upload;
    }) c.put_in.new.meters in
    subst (λ (r : Result Done Refusal). DoesTold (Parts ∷ []) (put_part c.args.t c.args.upload c.args.part c.args.size account) account c.args.counts after r)
    (err_of c.from_residual-in_err-put_in.result c.in_err-put_in.field-0.0 c.from_residual-in_err-put_in.ensures.1)
    (part_refused_for _ account (c.bucket.view_is ∙ stands.bucket) c.args.upload c.args.part c.args.size c.args.t kept (sym c.in-Some.ensures.value) orderly c.args.counts
    (c.get_mut.follows.lender c.put_in.new.upload).entries
    ((c.get_mut.follows.holds c.put_in.new.upload).0
    ∙ ap (λ (u : UploadRecord). set_value (is_at (nat_cmp c.args.upload)) entries u) c.in_err-put_in.ensures.upload_kept
    ∙ set_value_same (is_at (nat_cmp c.args.upload)) entries kept (sym c.in-Some.ensures.value))
    c.put_in.new.meters (c.in_err-put_in.ensures.meters_kept (book_of account.books) stands.meters) c.in_err-put_in.field-0.0
    (in_part c.args.part c.args.size c.args.t kept c.args.counts c.in_err-put_in.field-0.0 c.in_err-put_in.ensures.refusal))

pub returns-clause-done : goal.returns-clause-done
returns-clause-done c = λ account stands orderly.
    let entries = c.bucket.inside.uploads.entries in
    let kept = c.in-Some.kept.now in
    let same = c.bucket.view_is ∙ stands.bucket in
    let found = sym c.in-Some.ensures.value in
    part_done_for _ account same c.args.upload c.args.part c.args.size c.args.t kept found orderly c.args.counts c.in_ok-put_in.ensures.admitted
    (c.get_mut.follows.lender c.put_in.new.upload).entries
    ((c.get_mut.follows.holds c.put_in.new.upload).0
    ∙ ap (λ (u : UploadRecord). set_value (is_at (nat_cmp c.args.upload)) entries u) c.in_ok-put_in.ensures.upload
    ∙ set_is_with_number c.args.upload _ kept entries (numbers_for _ account same c.args.upload c.args.part c.args.size c.args.t kept found orderly) found)
    c.put_in.new.meters
    (c.in_ok-put_in.ensures.meters c.args.upload account.books stands.meters (stay_for _ account same c.args.upload c.args.part c.args.size c.args.t kept found orderly))
    c.in_ok-counts.counts c.in_ok-counts.ensures.ok.0 c.in_ok-counts.ensures.ok.1
