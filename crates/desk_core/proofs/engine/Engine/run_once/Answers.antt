use Rattle.std.proofs.Common.{◌≡◌, true, false, Ok, Err, rules, subst, sym, ap, refl}
use Rattle.office_types.specs.Tokens.{takes_token}
use Rattle.office_types.specs.declared.command.Ask.TheVariants as ask
use Rattle.office_machine.specs.Once.{StandsFor}
use Rattle.desk_core.specs.Answers.{Answer}
use Rattle.desk_core.specs.Desk.{DeskView}
use Rattle.desk_core.proofs.Recalled.{asks_with, asks_without, reply_told_again, refusal_told_again, recalled_fits, told_again, so_again, not_passing}
use Rattle.desk_core.proofs.engine.Engine.run_once.Goals as goal

pub returns-then-not-takes_token-clause-keeps : goal.returns-then-not-takes_token-clause-keeps
returns-then-not-takes_token-clause-keeps g c = λ before hold.
    let none : takes_token c.args.command.now ≡ false = search rules in
    c.run_command.ensures.keeps (ask.Once c.args.token.now c.args.command.now) before hold (asks_without c.args.token.now c.args.command.now none)

pub answer-requires-clause-reply_fits : goal.answer-requires-clause-reply_fits
answer-requires-clause-reply_fits g c =
    let P : Type 0 = DeskView g.row.D.Denot g.row.C.Denot in
    let hold = c.requires.ready.holds in
    let p = hold.office.plain in
    let stands : StandsFor c.self.inside.office p = subst (λ (s : P). StandsFor s.office p) (sym c.self.view_is) hold.office.stands in
    recalled_fits p c.args.token.now c.args.command.now c.self.inside.office stands (Ok c.in-Ok-Some.reply)
    (reply_told_again p c.args.token.now c.args.command.now c.in-Ok-Some.field-0 c.in-Ok-Some.reply (search rules) (c.in-Ok-Some.ensures.exact p stands))

pub returns-in-Ok-Some-clause-keeps : goal.returns-in-Ok-Some-clause-keeps
returns-in-Ok-Some-clause-keeps g c = λ before hold.
    let P : Type 0 = DeskView g.row.D.Denot g.row.C.Denot in
    let takes : takes_token c.args.command.now ≡ true = search rules in
    told_again g.D.Disk c.args.moment c.args.told c.args.token.now c.args.command.now takes before c.ms.result (Ok c.in-Ok-Some.reply) c.answer.result
    refl c.ms.ensures.same c.answer.ensures
    (λ p stands. reply_told_again p c.args.token.now c.args.command.now c.in-Ok-Some.field-0 c.in-Ok-Some.reply (search rules)
    (c.in-Ok-Some.ensures.exact p (subst (λ (s : P). StandsFor s.office p) (sym c.self.view_is) stands))) hold

pub returns-in-Ok-Some-clause-full : goal.returns-in-Ok-Some-clause-full
returns-in-Ok-Some-clause-full g c = λ passes.
    let P : Type 0 = DeskView g.row.D.Denot g.row.C.Denot in
    let takes : takes_token c.args.command.now ≡ true = search rules in
    let hold = c.requires.ready.holds in
    let p = hold.office.plain in
    let stands : StandsFor c.self.inside.office p = subst (λ (s : P). StandsFor s.office p) (sym c.self.view_is) hold.office.stands in
    absurd (not_passing c.args.moment c.args.self.now c.args.token.now c.args.command.now p (Ok c.in-Ok-Some.reply) takes hold.office.stands
    (reply_told_again p c.args.token.now c.args.command.now c.in-Ok-Some.field-0 c.in-Ok-Some.reply (search rules) (c.in-Ok-Some.ensures.exact p stands)) passes)

pub returns-in-Ok-None-clause-keeps : goal.returns-in-Ok-None-clause-keeps
returns-in-Ok-None-clause-keeps g c = λ before hold.
    let takes : takes_token c.args.command.now ≡ true = search rules in
    c.run_command-in-Ok-None.ensures.keeps (ask.Once c.args.token.now c.args.command.now) before hold (asks_with c.args.token.now c.args.command.now takes)

pub returns-in_default : goal.returns-in_default
returns-in_default g c =
    let P : Type 0 = DeskView g.row.D.Denot g.row.C.Denot in
    let takes : takes_token c.args.command.now ≡ true = search rules in
    let hold = c.requires.ready.holds in
    let p = hold.office.plain in
    let stands : StandsFor c.self.inside.office p = subst (λ (s : P). StandsFor s.office p) (sym c.self.view_is) hold.office.stands in
    record {
      keeps = λ before hold.
          told_again g.D.Disk c.args.moment c.args.told c.args.token.now c.args.command.now takes before c.ms-in_default.result (Err c.in-Err.refusal) c.answer-in_default.result
          refl c.ms-in_default.ensures.same c.answer-in_default.ensures
          (λ p stands. refusal_told_again p c.args.token.now c.args.command.now c.in-Err.refusal c.in_default.not-NoMemory
          (c.in-Err.ensures.exact p (subst (λ (s : P). StandsFor s.office p) (sym c.self.view_is) stands))) hold;
      full = λ passes.
          absurd (not_passing c.args.moment c.args.self.now c.args.token.now c.args.command.now p (Err c.in-Err.refusal) takes hold.office.stands
          (refusal_told_again p c.args.token.now c.args.command.now c.in-Err.refusal c.in_default.not-NoMemory (c.in-Err.ensures.exact p stands)) passes);
      clock = search rules;
      replies = λ p stands. so_again c.args.moment c.args.token.now c.args.command.now takes p c.args.self.now.office (Err c.in-Err.refusal) c.answer-in_default.result
          (ap (λ (a : Answer). a.reply) c.answer-in_default.ensures) stands
          (refusal_told_again p c.args.token.now c.args.command.now c.in-Err.refusal c.in_default.not-NoMemory
          (c.in-Err.ensures.exact p (subst (λ (s : P). StandsFor s.office p) (sym c.self.view_is) stands)));
      limit = search rules;
      opened_at = search rules;
      later = search rules;
    }

pub returns-then-not-takes_token-clause-replies : goal.returns-then-not-takes_token-clause-replies
returns-then-not-takes_token-clause-replies g c = λ p stands.
    let none : takes_token c.args.command.now ≡ false = search rules in
    c.run_command.ensures.replies (ask.Once c.args.token.now c.args.command.now) p stands (asks_without c.args.token.now c.args.command.now none)

pub returns-in-Ok-None-clause-replies : goal.returns-in-Ok-None-clause-replies
returns-in-Ok-None-clause-replies g c = λ p stands.
    let takes : takes_token c.args.command.now ≡ true = search rules in
    c.run_command-in-Ok-None.ensures.replies (ask.Once c.args.token.now c.args.command.now) p stands (asks_with c.args.token.now c.args.command.now takes)

pub returns-in-Ok-Some-clause-replies : goal.returns-in-Ok-Some-clause-replies
returns-in-Ok-Some-clause-replies g c = λ p stands.
    let P : Type 0 = DeskView g.row.D.Denot g.row.C.Denot in
    let takes : takes_token c.args.command.now ≡ true = search rules in
    let there = subst (λ (s : P). StandsFor s.office p) (sym c.self.view_is) stands in
    so_again c.args.moment c.args.token.now c.args.command.now takes p c.args.self.now.office (Ok c.in-Ok-Some.reply) c.answer.result (ap (λ (a : Answer). a.reply) c.answer.ensures) stands
    (reply_told_again p c.args.token.now c.args.command.now c.in-Ok-Some.field-0 c.in-Ok-Some.reply (search rules) (c.in-Ok-Some.ensures.exact p there))
