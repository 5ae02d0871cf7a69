use Rattle.office_machine.proofs.Copied.{copy_stands, copy_is_office}
use Rattle.office_machine.proofs.Seen.{seen_stands}
use Rattle.office_machine.proofs.machine.Machine.copy.Goals as goal

pub invariant_of-result : goal.invariant_of-result
invariant_of-result c =
    copy_is_office _ c.in_ok-tariffs.tariffs.items c.in_ok-closed.closed.items c.in_ok-accounts.accounts.entries c.in_ok-tariffs.ensures c.in_ok-closed.ensures c.in_ok-accounts.ensures
    c.self.invariant

pub returns-clause-stands : goal.returns-clause-stands
returns-clause-stands c = λ p stands.
    copy_stands _ c.in_ok-tariffs.tariffs.items c.in_ok-closed.closed.items c.in_ok-accounts.accounts.entries c.in_ok-tariffs.ensures c.in_ok-closed.ensures c.in_ok-accounts.ensures p
    (seen_stands c.self.view_is stands)
