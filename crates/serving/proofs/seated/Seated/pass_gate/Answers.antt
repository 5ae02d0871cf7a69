use Rattle.std.proofs.Common.{◌≡◌, ℕ, ◌-◌, ◌^◌, min, length, subst, arith}
use Rattle.turn_core.specs.Passes.{view}
use Rattle.serving.specs.Seats.{Seat, gate_number, IsLetThrough}
use Rattle.serving.proofs.seated.Seated.pass_gate.Goals as goal

pub returns : goal.returns
returns g c =
    let lets = g.G.Gate.let_through in
    let inside = c.self.inside in
    let made = (view inside.pass).made in
    let calls : c.calls.result ≡ min (length made) (2 ^ 64 - 1) = c.calls.ensures c.self.invariant.1 in
    let number : c.saturating_add-call.result ≡ gate_number (length made) = omega (arith, calls, c.saturating_add-call.ensures) in
    subst (λ (s : Seat g.row.D.Denot g.row.C.Denot g.row.G.Denot). IsLetThrough lets s) c.self.view_is
    (subst (λ (n : ℕ). lets inside.gate.now inside.worker n) number c.pass.ensures)
