use Rattle.std.proofs.Common.{◌≡◌, sym, subst, List, [], ◌∷◌, Option, Some, None}
use Rattle.atomic_table.specs.Table.{opening}
use Rattle.turn_core.specs.declared.view.Kept.{Kept}
use Rattle.turn_core.specs.Rule.{OneList}
use Rattle.turn_core.specs.Views.{newcomer}
use Rattle.turn_core.proofs.Ends.{starts}
use Rattle.turn_core.proofs.Parts.{pushed}
use Rattle.turn_core.proofs.turns.TicketLock+Held+T+Known+T+Snapshot+T+Law+T.new.Goals as goal

pub new-requires : goal.new-requires
new-requires g c =
    let K : Type 0 = Kept g.row.T.Denot g.row.T-Ask.Denot g.row.T-Say.Denot in
    let value = c.of-about.result.value in
    let kept : K = record { value = c.args.inner; last = None } in
    let items : c.push.new.self.items ≡ Some kept ∷ [] = pushed c.new-slots.result.items c.push.new.self.items (Some kept) c.new-slots.ensures.items c.in_default.ensures.items in
    let ok = subst (λ (x : g.row.T.Denot). g.T.Turned.stands x x []) (sym c.of-about.ensures) c.requires.stands in
    subst (λ (xs : List (Option K)). OneList g.T.Turned.stands value (opening (0 ∷ 0 ∷ []) xs (newcomer value))) (sym items) (starts g.T.Turned.stands value kept (sym c.of-about.ensures) ok)
