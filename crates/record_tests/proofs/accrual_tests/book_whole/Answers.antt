use Rattle.std.proofs.Common.{[], ◌∷◌, ◌++◌, refl}
use Rattle.class_rules.specs.Lines.{lines_of}
use Rattle.accrual.specs.Books.{open_stay, ended_stay, book_with_stay}
use Rattle.record_tests.proofs.accrual_tests.book_whole.Goals as goal

pub returns : goal.returns
returns g c =
    let some = c.requires.some in
    let ended = record some.0 { stays = some.0.stays ++ ended_stay (lines_of c.args.lines.now) c.args.from c.args.at ∷ [] } in (
      ended,
      c.end.ensures.stands (book_with_stay (open_stay (lines_of c.args.lines.now) c.args.from) some.0) some.0.stays []
          (c.open.ensures.stands some.0 (c.reserve.ensures.stands some.0 some.1)) refl,
    )
