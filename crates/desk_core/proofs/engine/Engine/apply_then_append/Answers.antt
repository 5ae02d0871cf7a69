use Rattle.std.proofs.Common.{◌≡◌, ◌<◌, arith, refl, subst, sym, ap, Ok, Err, None, option_copied}
use Rattle.std.specs.Prelude.{IfSome}
use Rattle.office_types.specs.declared.reply.Reply.{Reply}
use Rattle.office_types.specs.declared.reply.Reply.TheVariants.{NothingDue}
use Rattle.office_types.specs.Entries.{entry_with}
use Rattle.plain_office.specs.Once.{step_with}
use Rattle.plain_office.proofs.Runs.{accepted_reply}
use Rattle.bucket_account.specs.Standing.{most_commands}
use Rattle.office_machine.specs.Standing.{accepted_after}
use Rattle.kept_replies.specs.Queue.{kept_in}
use Rattle.office_machine.specs.Once.{DoesOnce, StandsFor}
use Rattle.desk_core.specs.declared.fault.DeskFault.TheVariants.{NoMemory}
use Rattle.desk_core.specs.Asked.{Asked}
use Rattle.meter_journal.specs.History.{end_gate, IsAtRest}
use Rattle.desk_core.specs.Desk.{DeskView}
use Rattle.desk_core.specs.Offices.{Tail}
use Rattle.desk_core.proofs.Adding.{seen_so, added, unaccepted, wanting, so_replied, so_added, so_wanting}
use Rattle.desk_core.specs.Answers.{Answer}
use Rattle.desk_core.proofs.Offices.{few, fresh_in, no_lack, other_lack}
use Rattle.desk_core.proofs.engine.Engine.apply_then_append.Goals as goal

pub returns-in_default-clause-keeps : goal.returns-in_default-clause-keeps
returns-in_default-clause-keeps g c question before hold asks =
    let d = g.D.Disk in
    let call : Asked = record { token = option_copied c.args.token; command = c.args.command.now } in
    let from = c.self.inside in
    let inside : DeskView g.row.D.Denot g.row.C.Denot =
    record { disk = from.journal.disk; clock = from.clock; office = from.office; gate = from.journal.gate; opened_at = from.opened_at; limit = from.journal.limit; stale = from.stale } in
    let new = c.append_then_answer.new.self in
    seen_so d c.args.moment c.args.told call c.args.bytes.now question before new c.append_then_answer.result c.self.view_is c.requires.spelled
    (λ holds fits later new_one. added d c.args.moment c.args.told before inside holds question call asks new_one fits c.requires.entry
    (record inside { office = c.apply.new.self }) new c.in-Ok.reply c.append_then_answer.result
    (accepted_reply c.in-Ok.reply c.in_default.not-NothingDue) later c.in-Ok.ensures.step c.in-Ok.ensures.accepted refl
    c.append_then_answer.ensures.office c.append_then_answer.ensures.limit
    (c.append_then_answer.ensures.adds before (entry_with c.args.moment call.token c.args.command.now) c.requires.entry c.requires.spelled holds.end holds.at_rest))
    hold c.requires.fits c.requires.later c.requires.new

pub answer-requires-in_default-refusal-clause-enough : goal.answer-requires-in_default-refusal-clause-enough
answer-requires-in_default-refusal-clause-enough g c = other_lack c.in-Err.refusal c.in_default-refusal.not-NoMemory

pub returns-in-NothingDue-clause-keeps : goal.returns-in-NothingDue-clause-keeps
returns-in-NothingDue-clause-keeps g c question before hold asks =
    let d = g.D.Disk in
    let call : Asked = record { token = option_copied c.args.token; command = c.args.command.now } in
    let from = c.self.inside in
    let inside : DeskView g.row.D.Denot g.row.C.Denot =
    record { disk = from.journal.disk; clock = from.clock; office = from.office; gate = from.journal.gate; opened_at = from.opened_at; limit = from.journal.limit; stale = from.stale } in
    let new : DeskView g.row.D.Denot g.row.C.Denot = record inside { office = c.apply.new.self } in
    seen_so d c.args.moment c.args.told call c.args.bytes.now question before new (Ok c.answer.result) c.self.view_is c.requires.spelled
    (λ holds fits later new_one. unaccepted d c.args.moment c.args.told before inside holds question call asks new_one fits c.ms.result new (Ok NothingDue) c.answer.result
    c.ms.ensures.same refl (no_lack NothingDue)
    (subst (λ (r : Reply). DoesOnce (step_with c.args.moment call.token c.args.command.now holds.office.plain) holds.office.plain c.apply.new.self (Ok r)) c.in-NothingDue.is
    (c.in-Ok.ensures.step holds.office.plain holds.office.stands))
    (subst (λ (r : Reply). c.apply.new.self.records.accepted ≡ accepted_after (Ok r) inside.office.records.accepted) c.in-NothingDue.is c.in-Ok.ensures.accepted)
    refl refl refl c.answer.ensures)
    hold c.requires.fits c.requires.later c.requires.new

pub returns-in-NoMemory-clause-keeps : goal.returns-in-NoMemory-clause-keeps
returns-in-NoMemory-clause-keeps g c question before hold asks =
    let d = g.D.Disk in
    let call : Asked = record { token = option_copied c.args.token; command = c.args.command.now } in
    let from = c.self.inside in
    let inside : DeskView g.row.D.Denot g.row.C.Denot =
    record { disk = from.journal.disk; clock = from.clock; office = from.office; gate = from.journal.gate; opened_at = from.opened_at; limit = from.journal.limit; stale = from.stale } in
    let new : DeskView g.row.D.Denot g.row.C.Denot = record inside { office = c.apply.new.self } in
    seen_so d c.args.moment c.args.told call c.args.bytes.now question before new (Err NoMemory) c.self.view_is c.requires.spelled
    (λ holds fits later new_one. wanting d c.args.moment c.args.told before inside holds question call asks new_one fits new c.in-Err.refusal
    (c.in-Err.ensures.step holds.office.plain holds.office.stands) c.in-Err.ensures.accepted refl refl refl)
    hold c.requires.fits c.requires.later c.requires.new

pub returns-in_default-refusal-clause-keeps : goal.returns-in_default-refusal-clause-keeps
returns-in_default-refusal-clause-keeps g c question before hold asks =
    let d = g.D.Disk in
    let call : Asked = record { token = option_copied c.args.token; command = c.args.command.now } in
    let from = c.self.inside in
    let inside : DeskView g.row.D.Denot g.row.C.Denot =
    record { disk = from.journal.disk; clock = from.clock; office = from.office; gate = from.journal.gate; opened_at = from.opened_at; limit = from.journal.limit; stale = from.stale } in
    let new : DeskView g.row.D.Denot g.row.C.Denot = record inside { office = c.apply.new.self } in
    let said = c.answer-in_default-refusal.result in
    seen_so d c.args.moment c.args.told call c.args.bytes.now question before new (Ok said) c.self.view_is c.requires.spelled
    (λ holds fits later new_one. unaccepted d c.args.moment c.args.told before inside holds question call asks new_one fits c.ms-in_default-refusal.result new (Err c.in-Err.refusal) said
    c.ms-in_default-refusal.ensures.same refl (other_lack c.in-Err.refusal c.in_default-refusal.not-NoMemory)
    (c.in-Err.ensures.step holds.office.plain holds.office.stands) c.in-Err.ensures.accepted refl refl refl c.answer-in_default-refusal.ensures)
    hold c.requires.fits c.requires.later c.requires.new

pub apply-requires-clause-few : goal.apply-requires-clause-few
apply-requires-clause-few g c =
    let P : Type 0 = DeskView g.row.D.Denot g.row.C.Denot in
    let hold = c.requires.ready.holds in
    subst (λ (s : P). s.office.records.accepted < most_commands) (sym c.self.view_is)
    (few c.requires.ready.tail.head c.requires.ready.tail.entries c.args.self.now.office c.args.self.now.gate hold.office hold.end (omega (arith, c.requires.fits, hold.limit)))

pub append_then_answer-requires-clause-at_rest : goal.append_then_answer-requires-clause-at_rest
append_then_answer-requires-clause-at_rest g c tells =
    let d = g.D.Disk in
    let P : Type 0 = DeskView g.row.D.Denot g.row.C.Denot in
    let tail : Tail = c.requires.ready.tail in (
      tail,
      subst (λ (s : P). IsAtRest tail.head (d.state s.disk) s.gate tail.entries) (sym c.self.view_is) (c.requires.ready.holds.at_rest tells),
    )

pub returns-in_default-clause-replies : goal.returns-in_default-clause-replies
returns-in_default-clause-replies g c question p stands asks =
    let d = g.D.Disk in
    let P : Type 0 = DeskView g.row.D.Denot g.row.C.Denot in
    let call : Asked = record { token = option_copied c.args.token; command = c.args.command.now } in
    let there : StandsFor c.self.inside.office p = subst (λ (s : P). StandsFor s.office p) (sym c.self.view_is) stands in
    let from = c.self.inside in
    let tail = c.requires.ready.tail in
    let holds = c.requires.ready.holds in
    let mid : P = record {
      disk = from.journal.disk;
      clock = from.clock;
      office = c.apply.new.self;
      gate = from.journal.gate;
      opened_at = from.opened_at;
      limit = from.journal.limit;
      stale = from.stale;
    } in
    so_added c.args.moment question call asks p d c.args.told tail (entry_with c.args.moment call.token c.args.command.now) mid c.append_then_answer.new.self c.in-Ok.reply c.append_then_answer.result
    (c.in-Ok.ensures.step p there) c.append_then_answer.ensures.office
    (c.append_then_answer.ensures.adds tail (entry_with c.args.moment call.token c.args.command.now) c.requires.entry c.requires.spelled
    (subst (λ (s : P). s.gate ≡ end_gate tail.head tail.entries) (sym c.self.view_is) holds.end)
    (λ tells. subst (λ (s : P). IsAtRest tail.head (d.state s.disk) s.gate tail.entries) (sym c.self.view_is) (holds.at_rest tells)))

pub returns-in-NothingDue-clause-replies : goal.returns-in-NothingDue-clause-replies
returns-in-NothingDue-clause-replies g c question p stands asks =
    let d = g.D.Disk in
    let P : Type 0 = DeskView g.row.D.Denot g.row.C.Denot in
    let call : Asked = record { token = option_copied c.args.token; command = c.args.command.now } in
    let there : StandsFor c.self.inside.office p = subst (λ (s : P). StandsFor s.office p) (sym c.self.view_is) stands in
    so_replied c.args.moment question call asks p c.apply.new.self (Ok NothingDue) c.answer.result (ap (λ (a : Answer). a.reply) c.answer.ensures) (no_lack NothingDue)
    (subst (λ (r : Reply). DoesOnce (step_with c.args.moment call.token c.args.command.now p) p c.apply.new.self (Ok r)) c.in-NothingDue.is (c.in-Ok.ensures.step p there))

pub returns-in-NoMemory-clause-replies : goal.returns-in-NoMemory-clause-replies
returns-in-NoMemory-clause-replies g c question p stands asks =
    let d = g.D.Disk in
    let P : Type 0 = DeskView g.row.D.Denot g.row.C.Denot in
    let call : Asked = record { token = option_copied c.args.token; command = c.args.command.now } in
    let there : StandsFor c.self.inside.office p = subst (λ (s : P). StandsFor s.office p) (sym c.self.view_is) stands in
    let new_one = subst (λ (s : P). IfSome call.token (λ one. kept_in one s.office.kept.queue ≡ None)) (sym c.self.view_is) c.requires.new in
    so_wanting c.args.moment call p c.apply.new.self c.in-Err.refusal (fresh_in call.token c.self.inside.office p there new_one) (c.in-Err.ensures.step p there)

pub returns-in_default-refusal-clause-replies : goal.returns-in_default-refusal-clause-replies
returns-in_default-refusal-clause-replies g c question p stands asks =
    let d = g.D.Disk in
    let P : Type 0 = DeskView g.row.D.Denot g.row.C.Denot in
    let call : Asked = record { token = option_copied c.args.token; command = c.args.command.now } in
    let there : StandsFor c.self.inside.office p = subst (λ (s : P). StandsFor s.office p) (sym c.self.view_is) stands in
    so_replied c.args.moment question call asks p c.apply.new.self (Err c.in-Err.refusal) c.answer-in_default-refusal.result
    (ap (λ (a : Answer). a.reply) c.answer-in_default-refusal.ensures) (other_lack c.in-Err.refusal c.in_default-refusal.not-NoMemory) (c.in-Err.ensures.step p there)
