use Rattle.std.proofs.Common.{◌≡◌, ◌∙◌, ℕ, List, ◌++◌, ◌∷◌, [], Option, Some, None, refl, sym, ap, subst}
use Rattle.atomic_table.specs.Table.{rest}
use Rattle.turn_core.specs.declared.view.Kept.{Kept}
use Rattle.turn_core.specs.declared.view.View.{View}
use Rattle.turn_core.specs.Calls.{plain}
use Rattle.turn_core.specs.Views.{next_call, StandsSince}
use Rattle.turn_core.proofs.Parts.{first_same, exchanged_twice, makes_call, some_same}
use Rattle.turn_core.proofs.steps.call.Goals as goal

pub exchange-requires : goal.exchange-requires
exchange-requires g c =
    let k = c.requires.holds.0 in
    let held = c.requires.holds.1 in
    (c.requires.table.0, (Some k, held ∙ ap (λ (s : List (ℕ × Option (Kept g.row.T.Denot g.row.T-Ask.Denot g.row.T-Say.Denot))). (0, Some k) ∷ rest s) (sym held)))

pub take-say-requires : goal.take-say-requires
take-say-requires g c =
    let k = c.requires.holds.0 in
    let held = c.requires.holds.1 in
    let found : Some k ≡ c.exchange.result = first_same 0 (Some k) c.exchange.result [] (rest c.args.place.now.me.1) (sym held ∙ c.exchange.ensures.2) in
    let same : k ≡ c.in-Some.kept = some_same k c.in-Some.kept (found ∙ c.in-Some.is) in
    let stood = c.requires.holds.2 in
    record {
      stands = (
        stood.0,
        plain c.args.place.now.me.0.seen,
        subst (λ (x : Kept g.row.T.Denot g.row.T-Ask.Denot g.row.T-Say.Denot).
            g.T.Turned.stands stood.0 x.value (plain c.args.place.now.me.0.seen)) same stood.2,
      );
    }

pub returns-clause-called : goal.returns-clause-called
returns-clause-called g c =
    let k = c.requires.holds.0 in
    let held = c.requires.holds.1 in
    let found : Some k ≡ c.exchange.result = first_same 0 (Some k) c.exchange.result [] (rest c.args.place.now.me.1) (sym held ∙ c.exchange.ensures.2) in
    let same : k ≡ c.in-Some.kept = some_same k c.in-Some.kept (found ∙ c.in-Some.is) in
    let both = exchanged_twice c.args.place.now.me c.exchange.new.seat.me c.exchange-left.new.seat.me (Some k) None _ held c.exchange.ensures.3 c.exchange-left.ensures.3 in
    let view = c.args.place.now.me.0 in
    let stood = subst (λ (x : Kept g.row.T.Denot g.row.T-Ask.Denot g.row.T-Say.Denot). StandsSince g.T.Turned.stands view.opening x.value view.seen) same c.requires.holds.2 in
    let made = makes_call g.T.Turned.stands view.opening c.in-Some.kept.value c.take-say.new.self view.seen
    (next_call view c.of.result.value c.of-2.result.value) c.args.ask.now c.take-say.result c.take-say.ensures
    c.of.ensures c.of-2.ensures stood in (
      record { value = c.take-say.new.self; last = Some (record { ask = c.of.result; say = c.of-2.result }) },
      record { ask = c.of.result; say = c.of-2.result },
      both.1,
      refl,
      c.of.ensures,
      c.of-2.ensures,
      subst (λ (x : View g.row.T.Denot g.row.T-Ask.Denot g.row.T-Say.Denot).
          StandsSince g.T.Turned.stands x.opening c.take-say.new.self
          (view.seen ++ next_call view c.of.result.value c.of-2.result.value ∷ [])) (sym both.0) made,
    )
