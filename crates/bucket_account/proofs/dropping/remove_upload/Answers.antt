use Rattle.std.proofs.Common.{sym, ◌∙◌, subst}
use Rattle.due_core.specs.Buckets.{BucketRecord}
use Rattle.bucket_account.specs.Counting.{AreCountsOver}
use Rattle.bucket_account.proofs.Gone.{rises_for, stays_for, endable_for, uploads_for, parts_for, names_for, gone_for}
use Rattle.bucket_account.proofs.dropping.remove_upload.Goals as goal

pub without-after-requires-clause-uploads : goal.without-after-requires-clause-uploads
without-after-requires-clause-uploads c =
    let a = c.requires.account in
    uploads_for _ a.0 (c.bucket.view_is ∙ a.1.bucket) c.args.number c.args.at c.in-Some.upload.now (sym c.in-Some.ensures.value) a.2
    c.args.counts (subst (λ (b : BucketRecord). AreCountsOver b c.args.counts) (sym c.bucket.view_is) c.requires.counts)

pub without-after-requires-clause-parts : goal.without-after-requires-clause-parts
without-after-requires-clause-parts c =
    let a = c.requires.account in
    parts_for _ a.0 (c.bucket.view_is ∙ a.1.bucket) c.args.number c.args.at c.in-Some.upload.now (sym c.in-Some.ensures.value) a.2
    c.args.counts (subst (λ (b : BucketRecord). AreCountsOver b c.args.counts) (sym c.bucket.view_is) c.requires.counts)

pub without-after-requires-clause-names : goal.without-after-requires-clause-names
without-after-requires-clause-names c =
    let a = c.requires.account in
    names_for _ a.0 (c.bucket.view_is ∙ a.1.bucket) c.args.number c.args.at c.in-Some.upload.now (sym c.in-Some.ensures.value) a.2
    c.args.counts (subst (λ (b : BucketRecord). AreCountsOver b c.args.counts) (sym c.bucket.view_is) c.requires.counts)

pub end_parts-requires-clause-rises : goal.end_parts-requires-clause-rises
end_parts-requires-clause-rises c =
    let a = c.requires.account in
    rises_for _ a.0 (c.bucket.view_is ∙ a.1.bucket) c.args.number c.args.at c.in-Some.upload.now (sym c.in-Some.ensures.value) a.2

pub end_parts-requires-clause-endable : goal.end_parts-requires-clause-endable
end_parts-requires-clause-endable c =
    let a = c.requires.account in
    endable_for _ a.0 (c.bucket.view_is ∙ a.1.bucket) c.args.number c.args.at c.in-Some.upload.now (sym c.in-Some.ensures.value) a.2
    c.first_put.result c.reserve.new.meters c.in_ok-reserve.ensures.rows c.first_put.ensures.parts

pub end_parts-requires-clause-open : goal.end_parts-requires-clause-open
end_parts-requires-clause-open c =
    let a = c.requires.account in (
      c.args.number,
      a.0.books,
      c.in_ok-reserve.ensures.stands _ a.1.meters,
      stays_for _ a.0 (c.bucket.view_is ∙ a.1.bucket) c.args.number c.args.at c.in-Some.upload.now (sym c.in-Some.ensures.value) a.2,
    )

pub returns-clause-done : goal.returns-clause-done
returns-clause-done c = λ account stands ready.
    let same = c.bucket.view_is ∙ stands.bucket in
    let found = sym c.in-Some.ensures.value in
    gone_for _ account same c.args.number c.args.at c.in-Some.upload.now found ready
    c.args.counts (subst (λ (b : BucketRecord). AreCountsOver b c.args.counts) (sym c.bucket.view_is) c.requires.counts)
    c.remove.new.self.entries c.remove.ensures.entries c.end_parts.new.meters
    (c.end_parts.ensures.stands c.args.number account.books (c.in_ok-reserve.ensures.stands _ stands.meters)
    (stays_for _ account same c.args.number c.args.at c.in-Some.upload.now found ready))
    c.without-after.result c.without-after.ensures
