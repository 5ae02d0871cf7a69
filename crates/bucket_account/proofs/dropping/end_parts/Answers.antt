use Rattle.std.proofs.Common.{◌≡◌, ℕ, List, refl, ap, sym, ◌∙◌, subst, rules}
use Rattle.std.specs.Ordering.{nat_cmp}
use Rattle.std.specs.Map.Iter.{deref_pair}
use Rattle.std.proofs.lemmas.Map.Iter.{rest_more, rest_all}
use Rattle.class_rules.specs.declared.class.Class.{Class}
use Rattle.class_rules.specs.Lines.{part_line}
use Rattle.accrual.specs.Totals.{HasOpenStay}
use Rattle.office_base.specs.Maps.{Rises}
use Rattle.uploads.specs.declared.part.Part.{Part}
use Rattle.bucket_account.specs.Uploading.{AreEndableAt}
use Rattle.bucket_account.proofs.Ending.{Ends}
use Rattle.bucket_account.proofs.Parting.{AreSmall, IsOnTheWay, parts_small, way_begins, way_opened, way_goes_on, way_ends, endable_kept}
use Rattle.bucket_account.proofs.dropping.end_parts.Goals as goal

pub loop-part-init : goal.loop-part-init
loop-part-init c =
    let all : c.into_iter-part-iterator.result ≡ c.args.upload.now.parts = search rules in
    record {
      rises = subst (λ (l : List (ℕ × Part)). Rises nat_cmp l) (sym all) c.requires.rises;
      endable = subst (λ (l : List (ℕ × Part)). AreEndableAt c.args.at c.args.meters.now l) (sym all) c.requires.endable;
      small = subst (λ (l : List (ℕ × Part)). AreSmall l) (sym all) (parts_small c.args.upload.now c.parts.ensures.ranges);
      stands = λ number books stands stays.
          subst (λ (l : List (ℕ × Part)). IsOnTheWay c.args.upload.now number c.args.at books c.args.meters.now l) (sym all)
          (way_begins c.args.upload.now number c.args.at books c.args.meters.now stands stays);
      booked = refl;
    }

pub end-requires-clause-opened : goal.end-requires-clause-opened
end-requires-clause-opened c =
    let more = rest_more deref_pair c.loop-part.part-iterator c.next.new.self c.next.result (c.in-Some.field-0-0, c.in-Some.part) c.in-Some.is c.next.ensures.steps in
    let line = c.part_billed.ensures.lines ∙ ap (λ (k : Class). part_line k c.in-Some.part.now.size) c.class-class.ensures in
    let way =
    subst (λ (l : List (ℕ × Part)). IsOnTheWay c.args.upload.now c.requires.open.0 c.args.at c.requires.open.1 c.loop-part.meters l) more
    (c.loop-part.invariant.stands c.requires.open.0 c.requires.open.1 c.requires.open.2 c.requires.open.3) in
    let there =
    way_opened c.args.upload.now c.requires.open.0 c.args.at c.requires.open.1 (c.in-Some.field-0-0.now, c.in-Some.part.now) c.next.new.self c.loop-part.meters way in
    (there.0, there.1, subst (λ (l : List (Class × ℕ)). HasOpenStay l c.in-Some.part.now.put there.0) (sym line) there.2)

pub loop-part-preserved : goal.loop-part-preserved
loop-part-preserved c =
    let more = rest_more deref_pair c.loop-part.part-iterator c.next.new.self c.next.result (c.in-Some.field-0-0, c.in-Some.part) c.in-Some.is c.next.ensures.steps in
    let line = c.part_billed.ensures.lines ∙ ap (λ (k : Class). part_line k c.in-Some.part.now.size) c.class-class.ensures in
    let rises = subst (λ (l : List (ℕ × Part)). Rises nat_cmp l) more c.loop-part.invariant.rises in
    let endable = subst (λ (l : List (ℕ × Part)). AreEndableAt c.args.at c.loop-part.meters l) more c.loop-part.invariant.endable in
    let small = subst (λ (l : List (ℕ × Part)). AreSmall l) more c.loop-part.invariant.small in
    let ends =
    subst (λ (l : List (Class × ℕ)). Ends c.loop-part.meters c.end.new.self c.args.at l c.in-Some.part.now.put) line c.end.ensures.stands in
    record {
      rises = rises.1;
      endable = endable_kept c.args.at c.loop-part.meters c.end.new.self c.end.ensures.rows c.next.new.self endable.1;
      small = small.1;
      stands = λ number books stands stays.
          way_goes_on c.args.upload.now number c.args.at books (c.in-Some.field-0-0.now, c.in-Some.part.now) c.next.new.self c.loop-part.meters c.end.new.self rises ends
          (subst (λ (l : List (ℕ × Part)). IsOnTheWay c.args.upload.now number c.args.at books c.loop-part.meters l) more (c.loop-part.invariant.stands number books stands stays));
      booked = c.end.ensures.booked ∙ c.loop-part.invariant.booked;
    }

pub returns-clause-stands : goal.returns-clause-stands
returns-clause-stands c = λ number books stands stays.
    let none = rest_all deref_pair c.loop-part.part-iterator c.next.new.self c.next.result c.in-None.is c.next.ensures.steps in
    way_ends c.args.upload.now number c.args.at books c.loop-part.meters
    (subst (λ (l : List (ℕ × Part)). IsOnTheWay c.args.upload.now number c.args.at books c.loop-part.meters l) none (c.loop-part.invariant.stands number books stands stays))
