use Rattle.std.proofs.Common.{◌≡◌, ◌+◌, ◌<◌, ℕ, Some, ap, sym, subst, ◌∙◌, length, arith}
use Rattle.moments.specs.Months.{months}
use Rattle.office_machine.proofs.FirstOpen.{small_open, some_open, none_open}
use Rattle.office_machine.proofs.Seen.{seen_stands}
use Rattle.office_machine.proofs.machine.Machine.first_open.Goals as goal

pub numbered-requires : goal.numbered-requires
numbered-requires c =
    let small = subst (λ (n : ℕ). n < months) c.number.ensures.number c.number.ensures.among in
    let fits = small_open _ c.self.invariant.office c.self.invariant.stands c.know_moment.ensures c.in-Some.first c.in-Some.is small in
    record { among = omega (arith, fits, c.number.ensures.number, c.len.ensures, c.self.inside.closed.ok.0) }

pub returns-in-Some : goal.returns-in-Some
returns-in-Some c = λ p stands.
    let is : c.numbered.result ≡ c.in-Some.first + length c.self.inside.closed.items = omega (arith, c.numbered.ensures, c.number.ensures.number, c.len.ensures, c.self.inside.closed.ok.0) in
    ap Some is ∙ some_open _ p (seen_stands c.self.view_is stands) c.in-Some.first c.in-Some.is

pub returns-in-None : goal.returns-in-None
returns-in-None c = λ p stands. none_open _ p (seen_stands c.self.view_is stands) c.in-None.is
