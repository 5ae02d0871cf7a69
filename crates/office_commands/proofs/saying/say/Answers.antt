use Rattle.std.proofs.Common.{List, ℕ, Option, inr, refl, sym, subst, take}
use Rattle.std.specs.Io.KnownBytes.{Appends}
use Rattle.office_commands.specs.Running.{IsNoted}
use Rattle.office_commands.proofs.saying.say.Goals as goal

pub returns-in-Err-clause-told : goal.returns-in-Err-clause-told
returns-in-Err-clause-told g c =
    let w = g.W.Replies in
    let part = c.in-Err.ensures.texts in
    let old = w.texts c.args.out.now in
    inr (
      refl,
      (part.0, subst (λ (texts : Option (List ℕ)). Appends old texts (take part.0 c.args.text.now)) (sym c.note_line.ensures.silent.2) part.1),
      record {
        behind = c.text.new.self;
        unnoted = c.text.ensures.noted;
        lost = λ four. c.in-Err.ensures.cause.failed;
        kept = λ not. absurd (not refl);
        silent = c.note_line.ensures.silent;
        note = subst (λ (t : List ℕ). IsNoted w c.text.new.self c.note_line.new.out t) c.end_line.ensures c.note_line.ensures.noted;
      },
    )
