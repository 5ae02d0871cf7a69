use Rattle.std.proofs.Common.{ℕ, List, sym, subst}
use Rattle.accrual.specs.Totals.{HasOpenStay}
use Rattle.class_rules.specs.declared.class.Class.{Class}
use Rattle.plain_office.specs.Office.{book_of}
use Rattle.bucket_account.proofs.Ending.{Ends}
use Rattle.bucket_account.proofs.PartStays.{part_open, part_ended, no_part_ended}
use Rattle.bucket_account.proofs.parts.end_part.Goals as goal

pub end-requires-clause-opened : goal.end-requires-clause-opened
end-requires-clause-opened c =
    let o = c.requires.open in (
      book_of o.2,
      o.3,
      subst (λ (l : List (Class × ℕ)). HasOpenStay l c.in-Some.part.put (book_of o.2)) (sym c.part_billed.ensures.lines)
          (part_open o.0 o.1 c.args.at c.args.class o.2 c.args.gone.now c.in-Some.part c.in-Some.is o.4),
    )

pub returns-in-Some-clause-stands : goal.returns-in-Some-clause-stands
returns-in-Some-clause-stands c = λ key item books stands has.
    part_ended key item c.args.at c.args.class books c.args.gone.now c.in-Some.part c.in-Some.is has c.args.meters.now c.end.new.self stands
    (subst (λ (l : List (Class × ℕ)). Ends c.args.meters.now c.end.new.self c.args.at l c.in-Some.part.put) c.part_billed.ensures.lines c.end.ensures.stands)

pub returns-in_default-clause-stands : goal.returns-in_default-clause-stands
returns-in_default-clause-stands c = λ key item books stands has.
    no_part_ended key item c.args.at c.args.class books c.args.gone.now c.in_default.is has c.args.meters.now stands
