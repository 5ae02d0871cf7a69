use Rattle.std.proofs.Common.{◌≡◌, ◌+◌, ℕ, List, [], ◌∷◌, length, map, ap, sym, subst, ◌∙◌, rules, arith}
use Rattle.std.specs.Map.Iter.{deref_pair}
use Rattle.std.proofs.lemmas.Map.Iter.{rest_more}
use Rattle.class_rules.specs.Lines.{part_line}
use Rattle.class_rules.specs.declared.class.Class.{Class}
use Rattle.uploads.specs.declared.part.Part.{Part}
use Rattle.accrual.specs.Books.{open_stay, book_with_stay}
use Rattle.accrual.specs.Totals.{AreTotalsOf}
use Rattle.plain_office.specs.Orderly.{stay_of_part}
use Rattle.bucket_account.specs.Restoring.{upload_stays}
use Rattle.bucket_account.proofs.Parting.{AreSmall, parts_small}
use Rattle.bucket_account.proofs.Reopening.{IsOpening, opening_begins, opening_more}
use Rattle.bucket_account.proofs.restoring.open_upload.Goals as goal

pub loop-part-init : goal.loop-part-init
loop-part-init c =
    let all : c.into_iter-part-iterator.result ≡ c.args.upload.now.parts = search rules in
    let meters = c.args.meters.now in
    let upload = c.args.upload.now in
    record {
      small = subst (λ (l : List (ℕ × Part)). AreSmall l) (sym all) (parts_small upload c.parts.ensures.ranges);
      opening = λ number.
          subst (λ (l : List (ℕ × Part)). IsOpening meters meters (map (λ (part : ℕ × Part). stay_of_part number upload part.0 part.1) l) (upload_stays (number, upload))) (sym all)
          (opening_begins meters (upload_stays (number, upload)));
      booked = ap (λ (l : List (ℕ × Part)). meters.booked + length l) all;
    }

pub loop-part-preserved : goal.loop-part-preserved
loop-part-preserved c =
    let more = rest_more deref_pair c.loop-part.part-iterator c.next.new.self c.next.result (c.in-Some.field-0-0, c.in-Some.part) c.in-Some.is c.next.ensures.steps in
    let upload = c.args.upload.now in
    let part = c.in-Some.part.now in
    let place = c.in-Some.field-0-0.now in
    let line = c.part_billed.ensures.lines ∙ ap (λ (k : Class). part_line k part.size) c.class-class.ensures in
    let length_is = ap (λ (l : List (ℕ × Part)). length l) more in
    let before = c.loop-part.invariant.booked in
    let booked = c.in_ok-begin_stay.ensures.booked in
    record {
      small = (subst (λ (l : List (ℕ × Part)). AreSmall l) more c.loop-part.invariant.small).1;
      opening = λ number.
          opening_more c.args.meters.now c.loop-part.meters c.begin_stay.new.meters (stay_of_part number upload place part ∷ [])
          (map (λ (part : ℕ × Part). stay_of_part number upload part.0 part.1) c.next.new.self) (upload_stays (number, upload))
          (λ book stands. subst (λ (lines : List (Class × ℕ)). AreTotalsOf c.begin_stay.new.meters (book_with_stay (open_stay lines part.put) book)) line (c.in_ok-begin_stay.ensures.stands book stands))
          (subst (λ (l : List (ℕ × Part)). IsOpening c.args.meters.now c.loop-part.meters (map (λ (part : ℕ × Part). stay_of_part number upload part.0 part.1) l) (upload_stays (number, upload)))
          more (c.loop-part.invariant.opening number));
      booked = omega (arith, length_is, before, booked);
    }
