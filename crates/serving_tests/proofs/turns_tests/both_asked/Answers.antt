use Rattle.std.proofs.Common.{◌≡◌, ◌∙◌, sym, ap, subst, ◌+◌, ◌-◌, Option, IsSome, arith, rules}
use Rattle.std.specs.Prelude.{Result}
use Rattle.turn_core.specs.Passes.{view}
use Rattle.turn_core.specs.Views.{left, right, newcomer}
use Rattle.turn_core.proofs.Parts.{some_same}
use Rattle.desk_core.specs.Answers.{Answer}
use Rattle.desk_core.specs.Turns.{Reaches, LegalSince}
use Rattle.desk_core.specs.declared.fault.DeskFault.{DeskFault}
use Rattle.serving.specs.Askers.{AsksOnce}
use Rattle.serving.specs.Seats.{Seat, DeskPass}
use Rattle.serving_tests.specs.declared.turns_tests.Asker.{Asker}
use Rattle.serving_tests.specs.declared.turns_tests.HoldingGate.{HoldingGate}
use Rattle.serving.proofs.TwoCalls.{either_way, called_so, each_took}
use Rattle.serving_tests.proofs.turns_tests.both_asked.Given as given
use Rattle.serving_tests.proofs.turns_tests.both_asked.Goals as goal

abbrev One : given.Over → Type 0
One g = Asker g.row.D.Denot g.row.C.Denot g.row.R.Denot

abbrev Place : given.Over → Type 0
Place g = Seat g.row.D.Denot g.row.C.Denot HoldingGate

abbrev Known : given.Over → Type 0
Known g = DeskPass g.row.D.Denot g.row.C.Denot

abbrev Took : (g : given.Over) → One g → One g → Type 0
Took g old new =
    let d = g.D.Disk in
    AsksOnce (λ gate worker call. Unit {0}) (LegalSince d) old.seated old.ask.now new.said new.seated

pub leave-pass-requires : goal.leave-pass-requires
leave-pass-requires g c =
    let s = c.seat-askers.ensures.seated (search rules) in
    let t = each_took (Took g) c.seat-askers.result.0.len c.seat-askers.result.0.items c.as_mut_slice.result.now c.ask_all.new.askers s.0 s.1 c.part-one.result.0 c.part-one.result.1
    c.seat-askers.result.0.ok.0 c.ask_all.auto.askers c.as_mut_slice.ensures.value s.2 c.part-one.ensures c.ask_all.ensures in
    subst (λ (o : Option (Result Answer DeskFault)). IsSome o) (sym t.0.kept) (search rules)

pub leave-other-requires : goal.leave-other-requires
leave-other-requires g c =
    let s = c.seat-askers.ensures.seated (search rules) in
    let t = each_took (Took g) c.seat-askers.result.0.len c.seat-askers.result.0.items c.as_mut_slice.result.now c.ask_all.new.askers s.0 s.1 c.part-one.result.0 c.part-one.result.1
    c.seat-askers.result.0.ok.0 c.ask_all.auto.askers c.as_mut_slice.ensures.value s.2 c.part-one.ensures c.ask_all.ensures in
    subst (λ (o : Option (Result Answer DeskFault)). IsSome o) (sym t.1.kept) (search rules)

pub meet-requires-clause-own : goal.meet-requires-clause-own
meet-requires-clause-own g c =
    let s = c.seat-askers.ensures.seated (search rules) in
    let t = each_took (Took g) c.seat-askers.result.0.len c.seat-askers.result.0.items c.as_mut_slice.result.now c.ask_all.new.askers s.0 s.1 c.part-one.result.0 c.part-one.result.1
    c.seat-askers.result.0.ok.0 c.ask_all.auto.askers c.as_mut_slice.ensures.value s.2 c.part-one.ensures c.ask_all.ensures in
    let own = c.leave-pass.ensures.own in
    (own.0 ∙ t.0.turn.same ∙ ap (λ (p : Place g). p.turns) s.3, own.1)

pub meet-requires-clause-fellow : goal.meet-requires-clause-fellow
meet-requires-clause-fellow g c =
    let s = c.seat-askers.ensures.seated (search rules) in
    let t = each_took (Took g) c.seat-askers.result.0.len c.seat-askers.result.0.items c.as_mut_slice.result.now c.ask_all.new.askers s.0 s.1 c.part-one.result.0 c.part-one.result.1
    c.seat-askers.result.0.ok.0 c.ask_all.auto.askers c.as_mut_slice.ensures.value s.2 c.part-one.ensures c.ask_all.ensures in
    let own = c.leave-other.ensures.own in
    (own.0 ∙ t.1.turn.same ∙ ap (λ (p : Place g). p.turns) s.5, own.1)

pub close-requires-2-clause-share : goal.close-requires-2-clause-share
close-requires-2-clause-share g c =
    let s = c.seat-askers.ensures.seated (search rules) in
    let t = each_took (Took g) c.seat-askers.result.0.len c.seat-askers.result.0.items c.as_mut_slice.result.now c.ask_all.new.askers s.0 s.1 c.part-one.result.0 c.part-one.result.1
    c.seat-askers.result.0.ok.0 c.ask_all.auto.askers c.as_mut_slice.ensures.value s.2 c.part-one.ensures c.ask_all.ensures in
    let first : (view c.in-Ok.pass).share ≡ 4_294_967_295 = ap (λ (v : Known g). v.share) c.in-Ok.ensures.made.1 in
    let mine : (view c.leave-pass.result.0).share ≡ (view c.in-Ok.pass).share - 1 =
    ap (λ (v : Known g). v.share) c.leave-pass.ensures.pass ∙ ap (λ (v : Known g). v.share) t.0.turn.called.others ∙ ap (λ (p : Place g). p.pass.share) s.3 in
    let theirs : (view c.leave-other.result.0).share ≡ 1 =
    ap (λ (v : Known g). v.share) c.leave-other.ensures.pass ∙ ap (λ (v : Known g). v.share) t.1.turn.called.others ∙ ap (λ (p : Place g). p.pass.share) s.5 in
    let both : (view c.meet.new.pass).share ≡ (view c.leave-pass.result.0).share + (view c.leave-other.result.0).share = ap (λ (v : Known g). v.share) c.meet.ensures.met.both in
    omega (arith, first, mine, theirs, both)

pub returns : goal.returns
returns g c =
    let d = g.D.Disk in
    let k = g.C.Clock in
    let s = c.seat-askers.ensures.seated (search rules) in
    let t = each_took (Took g) c.seat-askers.result.0.len c.seat-askers.result.0.items c.as_mut_slice.result.now c.ask_all.new.askers s.0 s.1 c.part-one.result.0 c.part-one.result.1
    c.seat-askers.result.0.ok.0 c.ask_all.auto.askers c.as_mut_slice.ensures.value s.2 c.part-one.ensures c.ask_all.ensures in
    let made = c.in-Ok.ensures.made.1 in
    let one = called_so _ (left (newcomer c.args.desk)) _ (view c.leave-pass.result.0) _ c.args.make.now _ c.leave-pass.result.1
    (ap (λ (p : Place g). p.pass) s.3 ∙ ap (λ (v : Known g). left v) made) s.4
    (some_same t.0.what c.leave-pass.result.1 (sym t.0.kept ∙ c.leave-pass.ensures.said))
    (sym c.leave-pass.ensures.pass) t.0.turn.called in
    let other = called_so _ (right (newcomer c.args.desk)) _ (view c.leave-other.result.0) _ c.args.show.now _ c.leave-other.result.1
    (ap (λ (p : Place g). p.pass) s.5 ∙ ap (λ (v : Known g). right v) made) s.6
    (some_same t.1.what c.leave-other.result.1 (sym t.1.kept ∙ c.leave-other.ensures.said))
    (sym c.leave-other.ensures.pass) t.1.turn.called in
    let first : (view c.in-Ok.pass).share ≡ 4_294_967_295 = ap (λ (v : Known g). v.share) made in
    let mine : (view c.leave-pass.result.0).share ≡ 4_294_967_294 = ap (λ (v : Known g). v.share) one.others in
    let theirs : (view c.leave-other.result.0).share ≡ 1 = ap (λ (v : Known g). v.share) other.others in
    let both : (view c.meet.new.pass).share ≡ (view c.leave-pass.result.0).share + (view c.leave-other.result.0).share = ap (λ (v : Known g). v.share) c.meet.ensures.met.both in
    either_way (Reaches d k) c.args.desk c.close-2.result c.args.make.now c.args.show.now c.leave-pass.result.1 c.leave-other.result.1
    (view c.leave-pass.result.0) (view c.leave-other.result.0) (view c.meet.new.pass) one other c.meet.ensures.met
    c.meet.ensures.counted (c.meet.ensures.whole (omega (arith, mine, theirs, both))) c.close-2.ensures.value
