use Rattle.std.proofs.Common.{◌≡◌, ℕ, List, Option, Some, None, true, subst, ap}
use Rattle.std.specs.Prelude.{option_copied}
use Rattle.office_types.specs.Tokens.{MayCarry}
use Rattle.plain_office.specs.Office.{Office}
use Rattle.plain_office.specs.Run.{is_not_before}
use Rattle.office_machine.specs.Once.{OfficeView, StandsFor}
use Rattle.office_machine.proofs.Lateness.{leaves_next, nothing_next}
use Rattle.office_machine.proofs.office.Office.apply.Goals as goal

later_of : (view : OfficeView) (p : Office) (t : ℕ) → StandsFor view p → is_not_before view.records.last t ≡ true → is_not_before p.last t ≡ true
later_of view p t stands later = subst (λ (last : Option ℕ). is_not_before last t ≡ true) stands.records.last later

pub returns-in-Some-clause-leaves : goal.returns-in-Some-clause-leaves
returns-in-Some-clause-leaves c = λ p stands.
    leaves_next c.args.t (Some c.in-Some.token.now) c.args.command.now p stands.records.orderly (later_of c.args.self.now p c.args.t stands c.requires.later)
    (subst (λ (token : Option (List ℕ)). MayCarry token c.args.command.now) (ap option_copied c.in-Some.is) c.requires.carries) c.apply_once.new.self c.apply_once.result c.know_size.ensures (c.apply_once.ensures.step p stands)

pub returns-in-None-clause-leaves : goal.returns-in-None-clause-leaves
returns-in-None-clause-leaves c = λ p stands.
    leaves_next c.args.t None c.args.command.now p stands.records.orderly (later_of c.args.self.now p c.args.t stands c.requires.later)
    tt c.apply_plain.new.self c.apply_plain.result c.know_size.ensures (c.apply_plain.ensures.step p stands)

pub returns-in-None-clause-nothing_due : goal.returns-in-None-clause-nothing_due
returns-in-None-clause-nothing_due c = λ p name stands is told.
    nothing_next c.args.t None c.args.command.now p stands.records.orderly (later_of c.args.self.now p c.args.t stands c.requires.later)
    tt c.apply_plain.new.self c.apply_plain.result name is told (c.apply_plain.ensures.step p stands)
