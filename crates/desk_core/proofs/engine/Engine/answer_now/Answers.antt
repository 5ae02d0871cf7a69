use Rattle.std.proofs.Common.{◌≡◌, ◌⊎◌, ℕ, ◌+◌, ◌<◌, ◌-◌, ◌^◌, min, [], ◌∷◌, Option, Err, refl, sym, ap, ◌∙◌, subst}
use Rattle.std.specs.Io.KnownBytes.{Appends}
use Rattle.disk_core.proofs.Laws.{laws_of}
use Rattle.desk_core.specs.declared.fault.DeskFault.TheVariants.{JournalFull, NoMemory}
use Rattle.moments.specs.Time.{end_of_time}
use Rattle.plain_office.specs.Office.{Office}
use Rattle.office_machine.specs.Once.{StandsFor}
use Rattle.desk_core.specs.Submitting.{PassesLimit, RepliesInTime}
use Rattle.desk_core.specs.Calls.{moment_after}
use Rattle.desk_core.specs.Desk.{DeskView, HoldsTail}
use Rattle.desk_core.specs.Offices.{Tail}
use Rattle.desk_core.specs.Answering.{call_time, AnswersAt, AnswersAsk}
use Rattle.desk_core.proofs.Submitted.{stamped_by, numbered_by, last_by, ready_by, openable_by, tells_by}
use Rattle.desk_core.proofs.engine.Engine.answer_now.Goals as goal

pub returns-clause-asks : goal.returns-clause-asks
returns-clause-asks g c =
    let d = g.D.Disk in
    let P : Type 0 = DeskView g.row.D.Denot g.row.C.Denot in
    let last_is : g.C.Clock.last c.answer_at.new.self.clock ≡ c.now-told.result = ap g.C.Clock.last c.answer_at.ensures.clock ∙ c.now-told.ensures.last in
    subst (λ (n : ℕ). AnswersAsk d n c.args.ask.now c.args.self.now c.answer_at.new.self c.answer_at.result) (sym last_is)
    (record {
      t = c.moment_for-moment.result;
      at = subst (λ (s : P). c.moment_for-moment.result ≡ moment_after c.now-told.result s.office.records.last) c.self.view_is
          (c.moment_for-moment.ensures.same ∙ ap (λ (o : Option ℕ). moment_after c.now-told.result o) c.last.ensures.same);
      clock = c.now-told.new.self;
      answers = subst (λ (s : P). (before : Tail) (hold : HoldsTail d before (record s { clock = c.now-told.new.self }))
          → AnswersAt d (call_time c.moment_for-moment.result c.now-told.result) c.args.ask.now hold.office.plain before
          (record s { clock = c.now-told.new.self }) c.answer_at.new.self c.answer_at.result)
          c.self.view_is c.answer_at.ensures.answers;
    })

pub returns-clause-stamped : goal.returns-clause-stamped
returns-clause-stamped g c =
    stamped_by (returns-clause-asks g c) c.requires.ready

pub returns-clause-last : goal.returns-clause-last
returns-clause-last g c =
    last_by (returns-clause-asks g c) c.requires.ready

pub returns-clause-ready : goal.returns-clause-ready
returns-clause-ready g c fine =
    ready_by (returns-clause-asks g c) c.requires.ready fine

pub returns-clause-number : goal.returns-clause-number
returns-clause-number g c small =
    let k = g.C.Clock in
    let more = c.now-told.ensures.told (subst (λ (x : g.row.C.Denot). k.count x < 2 ^ 64 - 1) c.answer_at.ensures.clock small) in
    let from = subst (λ (s : DeskView g.row.D.Denot g.row.C.Denot). Appends (k.told s.clock) (k.told c.now-told.new.self) (c.now-told.result ∷ [])) c.self.view_is more in
    let both = subst (λ (x : g.row.C.Denot). Appends (k.told c.args.self.now.clock) (k.told x) (c.now-told.result ∷ [])) (sym c.answer_at.ensures.clock) from in
    let last_is : k.last c.answer_at.new.self.clock ≡ c.now-told.result = ap k.last c.answer_at.ensures.clock ∙ c.now-told.ensures.last in
    numbered_by (returns-clause-asks g c) c.requires.ready
    (k.told c.args.self.now.clock) (k.told c.answer_at.new.self.clock) (subst (λ (n : ℕ). Appends (k.told c.args.self.now.clock) (k.told c.answer_at.new.self.clock) (n ∷ [])) (sym last_is) both)

pub returns-clause-tells : goal.returns-clause-tells
returns-clause-tells g c =
    let k = g.C.Clock in
    let P : Type 0 = DeskView g.row.D.Denot g.row.C.Denot in
    let last_is : k.last c.answer_at.new.self.clock ≡ c.now-told.result = ap k.last c.answer_at.ensures.clock ∙ c.now-told.ensures.last in
    let at : c.moment_for-moment.result ≡ moment_after c.now-told.result c.args.self.now.office.records.last =
    subst (λ (s : P). c.moment_for-moment.result ≡ moment_after c.now-told.result s.office.records.last) c.self.view_is
    (c.moment_for-moment.ensures.same ∙ ap (λ (o : Option ℕ). moment_after c.now-told.result o) c.last.ensures.same) in
    let now_is : c.moment_for-moment.result
    ≡ moment_after (k.last c.answer_at.new.self.clock) c.args.self.now.office.records.last = at
    ∙ ap (λ (n : ℕ). moment_after n c.args.self.now.office.records.last) (sym last_is) in
    let once : k.count c.answer_at.new.self.clock ≡ min (k.count c.args.self.now.clock + 1) (2 ^ 64 - 1) =
    ap k.count c.answer_at.ensures.clock
    ∙ subst (λ (s : P). k.count c.now-told.new.self ≡ min (k.count s.clock + 1) (2 ^ 64 - 1)) c.self.view_is
    c.now-told.ensures.count in
    let full = subst (λ (s : P). PassesLimit c.moment_for-moment.result s c.args.ask.now
    → (c.answer_at.result ≡ Err JournalFull) ⊎ (c.answer_at.result ≡ Err NoMemory)) c.self.view_is
    c.answer_at.ensures.full in
    let replies = subst (λ (s : P). (p : Office) → StandsFor s.office p → c.moment_for-moment.result < end_of_time
    → RepliesInTime c.moment_for-moment.result c.args.ask.now p c.answer_at.result c.answer_at.new.self.office) c.self.view_is
    c.answer_at.ensures.replies in
    tells_by (returns-clause-asks g c) c.requires.ready
    k (laws_of g.met.D.Disk) refl once (subst (λ (t : ℕ).
    PassesLimit t c.args.self.now c.args.ask.now
    → (c.answer_at.result ≡ Err JournalFull) ⊎ (c.answer_at.result ≡ Err NoMemory)) now_is full)
    (subst (λ (t : ℕ). (p : Office) → StandsFor c.args.self.now.office p → t < end_of_time
    → RepliesInTime t c.args.ask.now p c.answer_at.result c.answer_at.new.self.office) now_is replies)

pub returns-clause-openable : goal.returns-clause-openable
returns-clause-openable g c tells =
    openable_by (returns-clause-asks g c) c.requires.ready tells
