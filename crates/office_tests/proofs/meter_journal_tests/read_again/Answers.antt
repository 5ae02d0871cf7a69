use Rattle.std.proofs.Common.{[], ◌∷◌, take, refl, sym, subst, arith}
use Rattle.disk_core.specs.Files.{State}
use Rattle.std.proofs.lemmas.List.{length-take}
use Rattle.disk_core.specs.declared.disk.FileNo.TheVariants.{Journal}
use Rattle.meter_journal.proofs.Prefix.{prefix_start, read_more, read_end}
use Rattle.meter_journal.proofs.Parts.{no_part}
use Rattle.meter_journal.specs.Windows.{IsPart}
use Rattle.office_tests.proofs.meter_journal_tests.read_again.Goals as goal

pub next_in-requires-clause-part : goal.next_in-requires-clause-part
next_in-requires-clause-part g c told =
    no_part c.in_ok-window.window.at c.in_ok-window.window.bytes (g.D.Disk.state c.open.new.self.disk).journal.seen c.in_ok-window.ensures

pub next_in-requires-2-clause-part : goal.next_in-requires-2-clause-part
next_in-requires-2-clause-part g c told =
    subst (λ (s : State). IsPart c.next_in.new.window.at c.next_in.new.window.bytes s.journal.seen) (sym (c.next_in.ensures.untouched.files told).now) (c.next_in.ensures.part told)

pub returns-in_default : goal.returns-in_default
returns-in_default g c told =
    let state = g.D.Disk.state in
    let tells = g.met.D.Disk.honest_tells told in
    let file = (state c.args.journal.now.disk).journal.seen in
    let opened = c.open.new.self in
    let ok = c.in-Ok.ensures.ok tells in
    let head = take opened.gate file in
    let prefix = prefix_start head opened.gate file refl (omega (arith, length-take opened.gate file, ok.0.0, c.in-Ok.ensures.start)) in (
      head,
      [],
      read_end {first = state opened.disk} prefix refl (c.in-Ok.ensures.synced told) (state c.next_in.new.self.disk) c.next_in.new.self.gate c.in-Ok-next_in.first
          (c.next_in.ensures.untouched.files tells).now c.in_default.is (c.in-Ok-next_in.ensures.exact tells),
    )

pub returns-in-None : goal.returns-in-None
returns-in-None g c told =
    let state = g.D.Disk.state in
    let tells = g.met.D.Disk.honest_tells told in
    let file = (state c.args.journal.now.disk).journal.seen in
    let opened = c.open.new.self in
    let after = c.next_in.new.self in
    let entries = c.in-Some.entry ∷ [] in
    let ok = c.in-Ok.ensures.ok tells in
    let head = take opened.gate file in
    let prefix = prefix_start head opened.gate file refl (omega (arith, length-take opened.gate file, ok.0.0, c.in-Ok.ensures.start)) in
    let longer = read_more {first = state opened.disk} prefix refl (c.in-Ok.ensures.synced told) after.gate c.in-Ok-next_in.first c.in-Some.entry
    (g.met.D.Disk.holds_bytes tells opened.disk Journal) c.in-Some.is (c.in-Ok-next_in.ensures.exact tells) in (
      head,
      entries,
      read_end longer (c.next_in.ensures.untouched.files tells).now (c.in-Ok.ensures.synced told) (state c.next_in-2.new.self.disk) c.next_in-2.new.self.gate c.in-Ok-next_in-2.second
          (c.next_in-2.ensures.untouched.files tells).now c.in-None.is (c.in-Ok-next_in-2.ensures.exact tells),
    )
