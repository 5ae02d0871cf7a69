use Rattle.office_machine.proofs.Parts.{shows_told, parts_form}
use Rattle.office_machine.proofs.Seen.{seen_stands}
use Rattle.office_machine.proofs.machine.Machine.snapshot.Goals as goal

pub returns-clause-shows : goal.returns-clause-shows
returns-clause-shows c = λ p stands replies.
    shows_told _ p (seen_stands c.self.view_is stands) c.in_ok-buckets.buckets.items c.in_ok-buckets.ensures c.in_ok-tariffs.tariffs.items c.in_ok-closed.closed.items c.first_open-first_open.result c.args.kept.items
    c.in_ok-tariffs.ensures c.in_ok-closed.ensures (c.first_open-first_open.ensures p stands) replies

pub returns-clause-sums : goal.returns-clause-sums
returns-clause-sums c = parts_form c.in_ok-buckets.buckets.items c.self.inside.accounts.entries c.in_ok-buckets.ensures
