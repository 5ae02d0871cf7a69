use Rattle.std.proofs.Common.{[], ◌∙◌, ◌<◌, ◌≡◌, inr, refl, sym, ap, subst, Result, Ok, Err}
use Rattle.std.specs.Result.{IsErrAnd}
use Rattle.std.proofs.lemmas.List.Elements.{All-nil}
use Rattle.http_asks.specs.Faults.{refused_of}
use Rattle.http_asks.specs.Meaning.{Refused}
use Rattle.http_asks.specs.Tells.{TellsHeard, OnFramed}
use Rattle.http_asks.specs.declared.reader.Heard.{Heard}
use Rattle.http_wire.specs.declared.message.MessageStop.{MessageStop}
use Rattle.http_front.specs.Counts.{stream_ends, IsHeldBack}
use Rattle.http_front.specs.Session.{sides}
use Rattle.http_front.specs.Talk.{Went}
use Rattle.http_front.specs.declared.answering.SessionEnd.{SessionEnd}
use Rattle.http_front.specs.declared.answering.SessionEnd.TheVariants.{Ended}
use Rattle.http_front.proofs.RefusalLemmas.{of_rule}
use Rattle.http_front.proofs.TalkLemmas.{asked_on, asked_end, bad_on, bad_end, session_here, item_refused, says_none, IsNoLack}
use Rattle.http_front.proofs.answering.answer_heard.Goals as goal

err_of : (result : Result Unit SessionEnd) (end : SessionEnd) → IsErrAnd result (λ (other : SessionEnd). other ≡ end) → Err end ≡ result
err_of (Ok x) end same = absurd same
err_of (Err other) end same = ap (λ (e : SessionEnd). Err e) (sym same)

pub returns-in_ok-answer_asked-in-Asked-clause-went : goal.returns-in_ok-answer_asked-in-Asked-clause-went
returns-in_ok-answer_asked-in-Asked-clause-went g c stream rest left total tells under within ahead held =
    asked_on g.T.Teller.moves g.W.Replies left (sides c.args.teller.now c.args.out.now) (sides c.answer_asked.new.teller c.answer_asked.new.out)
    stream rest total c.in-Asked.ask c.in-Asked.last
    (Ok c.in_ok-answer_asked-in-Asked.field-0) c.go_on_unless.result refl c.in_ok-answer_asked-in-Asked.ensures.answers
    (subst (λ (h : Heard). TellsHeard stream h rest) c.in-Asked.is tells)
    (subst (λ (h : Heard). OnFramed {E = MessageStop} (Ok h) (IsHeldBack rest left)) c.in-Asked.is held)
    c.go_on_unless.ensures.goes_on c.go_on_unless.ensures.ends

pub returns-in_err-answer_asked-in-Asked-clause-went : goal.returns-in_err-answer_asked-in-Asked-clause-went
returns-in_err-answer_asked-in-Asked-clause-went g c stream rest left total tells under within ahead held =
    let before = sides c.args.teller.now c.args.out.now in
    let after = sides c.answer_asked.new.teller c.answer_asked.new.out in
    subst (Went g.T.Teller.moves g.W.Replies before after (stream_ends stream left) rest total)
    (err_of c.from_residual.result c.in_err-answer_asked-in-Asked.field-0.0 c.from_residual.ensures.1) (
    asked_end g.T.Teller.moves g.W.Replies left before after stream rest total c.in-Asked.ask c.in-Asked.last
    c.in_err-answer_asked-in-Asked.field-0.0 c.in_err-answer_asked-in-Asked.ensures.answers
    (subst (λ (h : Heard). TellsHeard stream h rest) c.in-Asked.is tells)
    (subst (λ (h : Heard). OnFramed {E = MessageStop} (Ok h) (IsHeldBack rest left)) c.in-Asked.is held)
    )

pub returns-in_ok-say_bad-in-Bad-clause-went : goal.returns-in_ok-say_bad-in-Bad-clause-went
returns-in_ok-say_bad-in-Bad-clause-went g c stream rest left total tells under within ahead held =
    of_rule (refused_of c.in-Bad.bad) (subst (λ (h : Heard). TellsHeard stream h rest) c.in-Bad.is tells) c.in_ok-say_bad-in-Bad.ensures.said
    (subst (λ (h : Heard). OnFramed {E = MessageStop} (Ok h) (IsHeldBack rest left)) c.in-Bad.is held)
    (λ (broken : Refused) told said behind.
    bad_on g.T.Teller.moves g.W.Replies left c.args.teller.now c.args.out.now c.say_bad.new.out stream rest total broken c.in-Bad.last
    (Ok c.in_ok-say_bad-in-Bad.field-0) c.go_on_unless-in-Bad.result refl
    said told within ahead behind c.go_on_unless-in-Bad.ensures.goes_on c.go_on_unless-in-Bad.ensures.ends)

pub returns-in_ok-say_bad-in-Bad-clause-item : goal.returns-in_ok-say_bad-in-Bad-clause-item
returns-in_ok-say_bad-in-Bad-clause-item g c stream rest few many tells item =
    let used = subst (λ (h : Heard). OnFramed {E = MessageStop} (Ok h) (few < many)) c.in-Bad.is item in
    of_rule (refused_of c.in-Bad.bad) (subst (λ (h : Heard). TellsHeard stream h rest) c.in-Bad.is tells) used used
    (λ (broken : Refused) told served _.
    item_refused stream rest broken c.in-Bad.last c.go_on_unless-in-Bad.result (few < many) told served c.go_on_unless-in-Bad.ensures.ends)

pub returns-in_err-say_bad-in-Bad-clause-went : goal.returns-in_err-say_bad-in-Bad-clause-went
returns-in_err-say_bad-in-Bad-clause-went g c stream rest left total tells under within ahead held =
    subst (Went g.T.Teller.moves g.W.Replies (sides c.args.teller.now c.args.out.now) (sides c.args.teller.now c.say_bad.new.out)
    (stream_ends stream left) rest total) (err_of
    c.from_residual-in_err-say_bad-in-Bad.result c.in_err-say_bad-in-Bad.field-0.0
    c.from_residual-in_err-say_bad-in-Bad.ensures.1) (
    of_rule (refused_of c.in-Bad.bad) (subst (λ (h : Heard). TellsHeard stream h rest) c.in-Bad.is tells) c.in_err-say_bad-in-Bad.ensures.said
    (subst (λ (h : Heard). OnFramed {E = MessageStop} (Ok h) (IsHeldBack rest left)) c.in-Bad.is held)
    (λ (broken : Refused) told said behind.
    bad_end g.T.Teller.moves g.W.Replies left c.args.teller.now c.args.out.now c.say_bad.new.out stream rest total broken c.in-Bad.last
    c.in_err-say_bad-in-Bad.field-0.0 said told within ahead behind)
    )

pub returns-in-End-clause-went : goal.returns-in-End-clause-went
returns-in-End-clause-went g c stream rest left total tells under within ahead held =
    session_here g.T.Teller.moves g.W.Replies left c.args.teller.now c.args.out.now c.args.out.now stream total
    Ended [] (says_none g.T.Teller.moves g.W.Replies c.args.out.now)
    (inr (refl, (subst (λ (h : Heard). TellsHeard stream h rest) c.in-End.is tells), under c.in-End.is, record { whole = refl; written = refl })) (All-nil IsNoLack) ahead
    (λ is. absurd cc)

pub returns-in_err-say_bad-in-Bad-clause-not_read : goal.returns-in_err-say_bad-in-Bad-clause-not_read
returns-in_err-say_bad-in-Bad-clause-not_read g c is =
    c.in_err-say_bad-in-Bad.ensures.not_read
    (err_of c.from_residual-in_err-say_bad-in-Bad.result c.in_err-say_bad-in-Bad.field-0.0 c.from_residual-in_err-say_bad-in-Bad.ensures.1 ∙ is)

pub returns-in_err-say_bad-in-Bad-clause-not_spent : goal.returns-in_err-say_bad-in-Bad-clause-not_spent
returns-in_err-say_bad-in-Bad-clause-not_spent g c is =
    c.in_err-say_bad-in-Bad.ensures.not_spent
    (err_of c.from_residual-in_err-say_bad-in-Bad.result c.in_err-say_bad-in-Bad.field-0.0 c.from_residual-in_err-say_bad-in-Bad.ensures.1 ∙ is)
