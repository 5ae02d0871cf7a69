use Rattle.std.proofs.Common.{ℕ, inl, refl, sym, subst}
use Rattle.office_types.specs.declared.command.Ask.{Ask}
use Rattle.office_types.specs.declared.command.Ask.TheVariants.{Command, Once, Query}
use Rattle.desk_core.specs.Answering.{call_time, AnswersInTime}
use Rattle.desk_core.specs.Submitting.{RepliesInTime}
use Rattle.desk_core.proofs.engine.Engine.answer_at.Goals as goal

pub returns-in-Command-clause-answers : goal.returns-in-Command-clause-answers
returns-in-Command-clause-answers g c before hold =
    let d = g.D.Disk in
    let keeps = subst
    (λ (t : ℕ). AnswersInTime d (call_time t c.args.told) (Command c.in-Command.command) hold.office.plain before c.args.self.now c.run_command.new.self c.run_command.result) c.in-Ok.ensures.ok.0
    (c.run_command.ensures.keeps (Command c.in-Command.command) before hold refl) in
    inl (
      c.in-Ok.ensures.ok.1,
      subst (λ (q : Ask). AnswersInTime d (call_time c.args.moment c.args.told) q hold.office.plain before c.args.self.now c.run_command.new.self c.run_command.result)
          (sym c.in-Command.is) keeps,
    )

pub returns-in-Once-clause-answers : goal.returns-in-Once-clause-answers
returns-in-Once-clause-answers g c before hold =
    let d = g.D.Disk in
    let once = Once c.in-Once.token c.in-Once.command in
    let keeps = subst
    (λ (t : ℕ). AnswersInTime d (call_time t c.args.told) once hold.office.plain before c.args.self.now c.run_once.new.self c.run_once.result) c.in-Ok.ensures.ok.0
    (c.run_once.ensures.keeps before hold) in
    inl (
      c.in-Ok.ensures.ok.1,
      subst (λ (q : Ask). AnswersInTime d (call_time c.args.moment c.args.told) q hold.office.plain before c.args.self.now c.run_once.new.self c.run_once.result)
          (sym c.in-Once.is) keeps,
    )

pub returns-in-Query-clause-answers : goal.returns-in-Query-clause-answers
returns-in-Query-clause-answers g c before hold =
    let d = g.D.Disk in
    let keeps = subst
    (λ (t : ℕ). AnswersInTime d (call_time t c.args.told) (Query c.in-Query.query) hold.office.plain before c.args.self.now c.args.self.now c.answer_query.result) c.in-Ok.ensures.ok.0
    (c.answer_query.ensures.keeps before hold) in
    inl (
      c.in-Ok.ensures.ok.1,
      subst (λ (q : Ask). AnswersInTime d (call_time c.args.moment c.args.told) q hold.office.plain before c.args.self.now c.args.self.now c.answer_query.result)
          (sym c.in-Query.is) keeps,
    )

pub returns-in-Command-clause-replies : goal.returns-in-Command-clause-replies
returns-in-Command-clause-replies g c p stands lt =
    let said = c.run_command.result in
    let view = c.run_command.new.self.office in
    subst (λ (q : Ask). RepliesInTime c.args.moment q p said view) (sym c.in-Command.is)
    (subst (λ (t : ℕ). RepliesInTime t (Command c.in-Command.command) p said view) c.in-Ok.ensures.ok.0
    (c.run_command.ensures.replies (Command c.in-Command.command) p stands refl))

pub returns-in-Once-clause-replies : goal.returns-in-Once-clause-replies
returns-in-Once-clause-replies g c p stands lt =
    let said = c.run_once.result in
    let view = c.run_once.new.self.office in
    subst (λ (q : Ask). RepliesInTime c.args.moment q p said view) (sym c.in-Once.is)
    (subst (λ (t : ℕ). RepliesInTime t (Once c.in-Once.token c.in-Once.command) p said view) c.in-Ok.ensures.ok.0 (c.run_once.ensures.replies p stands))

pub returns-in-Query-clause-replies : goal.returns-in-Query-clause-replies
returns-in-Query-clause-replies g c p stands lt =
    let said = c.answer_query.result in
    let view = c.args.self.now.office in
    subst (λ (q : Ask). RepliesInTime c.args.moment q p said view) (sym c.in-Query.is)
    (subst (λ (t : ℕ). RepliesInTime t (Query c.in-Query.query) p said view) c.in-Ok.ensures.ok.0 (c.answer_query.ensures.replies p stands))
