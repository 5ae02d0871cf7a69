use Rattle.std.proofs.Common.{inl, inr, refl, sym, ap, subst, arith, List, Option, Err}
use Rattle.desk_core.specs.Submitting.{Submits}
use Rattle.serving.specs.Connections.{Connection}
use Rattle.serving.specs.Serving.{Serves}
use Rattle.serving.proofs.Divided.{none_serve}
use Rattle.serving.proofs.Gathered.{served_since}
use Rattle.serving.proofs.Served.{is_memory}
use Rattle.serving.proofs.office.listen_and_serve.Goals as goal

pub returns-in-Err-clause-serves : goal.returns-in-Err-clause-serves
returns-in-Err-clause-serves g c =
    let d = g.D.Disk in
    let k = g.C.Clock in
    let told = g.P.Port.connections c.args.port.now in
    let lets = g.G.Gate.let_through c.args.gate.now in
    subst (λ (after : Option (List Connection)). Serves (Submits d k) lets c.args.workers c.args.connections c.args.desk c.args.desk told after) (sym c.listen.ensures.connections)
    (none_serve (Submits d k) lets c.args.workers c.args.connections c.args.desk c.args.desk told refl)

pub returns-in-Ok-clause-listens : goal.returns-in-Ok-clause-listens
returns-in-Ok-clause-listens g c = inl (λ none. c.serve.ensures.listens c.args.address.now (c.in-Ok.ensures.listens none))

pub returns-in-Err-clause-listens : goal.returns-in-Err-clause-listens
returns-in-Err-clause-listens g c = inr c.listen.ensures.given

pub returns-in-Err-clause-counts : goal.returns-in-Err-clause-counts
returns-in-Err-clause-counts g c = record {
  count = 0;
  given = inl (refl, c.listen.ensures.given);
  ended = inl (refl, c.listen.ensures.ended);
  within = omega arith;
  done = λ is. absurd (c.end_of.ensures.ended is);
}

pub returns-in-Err-clause-shifts : goal.returns-in-Err-clause-shifts
returns-in-Err-clause-shifts g c = inr (record {
  undone = λ is. absurd (c.end_of.ensures.ended is);
  given = inl (refl, c.listen.ensures.given);
  ended = inl (refl, c.listen.ensures.ended);
})

pub returns-in-Ok-clause-shifts : goal.returns-in-Ok-clause-shifts
returns-in-Ok-clause-shifts g c =
    let heard = c.listen.ensures in
    served_since g.P.Port c.args.workers c.args.connections c.serve.result.1 c.args.port.now c.listen.new.self c.serve.new.port
    heard.given heard.ended c.in-Ok.ensures.quiet heard.connections c.serve.ensures.shifts

pub returns-in-Ok-clause-quiet : goal.returns-in-Ok-clause-quiet
returns-in-Ok-clause-quiet g c not =
    let less = c.serve.ensures.quiet not in
    let same = c.in-Ok.ensures.quiet in
    omega (arith, less, same)

pub returns-in-Err-clause-quiet : goal.returns-in-Err-clause-quiet
returns-in-Err-clause-quiet g c not =
    let same = c.in-Err.ensures.memory (ap Err (is_memory _ _ c.end_of.ensures.failed not)) in
    omega (arith, same)
