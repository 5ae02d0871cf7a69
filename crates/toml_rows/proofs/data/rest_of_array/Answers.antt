use Rattle.std.proofs.Common.{◌≡◌, ◌==◌, ◌-◌, true, false, le_refl, ap, ◌∙◌, rules, arith}
use Rattle.std.proofs.lemmas.Grind.{common_steps}
use Rattle.toml_parser.specs.Lexical.{first, skip_blank}
use Rattle.toml.specs.Parse.{val}
use Rattle.toml.proofs.Turns.{items_end, items_more, items_bad, items_bad_end}
use Rattle.toml_rows.specs.Reading.{data_at}
use Rattle.toml_rows.specs.Walking.{items_of, data_of_all}
use Rattle.toml_rows.proofs.EnterLemmas.{match_err}
use Rattle.toml_rows.proofs.LoopLemmas.{read_is, unread_is}
use Rattle.toml_rows.proofs.DataLemmas.{what_of, data_push}
use Rattle.toml_rows.proofs.data.rest_of_array.Goals as goal

pub items-init : goal.items-init
items-init c = (search rules, le_refl _, λ n h. (n, h, rw c.new-found.ensures.items))

pub returns-then-first-eq93 : goal.returns-then-first-eq93
returns-then-first-eq93 c n h =
    let l = c.items in
    let (m, room, loop) = l.invariant.2 n h in
    let start_is = c.skip_blank-start.ensures.rest in
    let closing : (first (skip_blank l.rest.now) == 93) ≡ true = grind (arith, common_steps) in
    ap what_of (loop ∙ items_end (val c.args.depth) m (items_of (data_of_all c.args.depth l.found.items)) l.rest.now (omega arith) closing)

pub returns-in_err-after : goal.returns-in_err-after
returns-in_err-after c n h =
    let l = c.items in
    let start_is = c.skip_blank-start.ensures.rest in
    let other : (first (skip_blank l.rest.now) == 93) ≡ false = grind (arith, common_steps) in
    let (m, room, loop) = l.invariant.2 n h in
    match_err c.from_residual.result _ _ c.in_err-after.field-0.0 _ c.from_residual.ensures.1 (λ y p. p) λ refused.
    loop ∙ items_bad (val c.args.depth) m _ l.rest.now (omega arith) other
    (unread_is (val c.args.depth (skip_blank l.rest.now)) (rw start_is at (c.in_err-after.ensures.value refused)))

pub returns-in_err-rest : goal.returns-in_err-rest
returns-in_err-rest c n h =
    let l = c.items in
    let start_is = c.skip_blank-start.ensures.rest in
    let other : (first (skip_blank l.rest.now) == 93) ≡ false = grind (arith, common_steps) in
    let (m, room, loop) = l.invariant.2 n h in
    match_err c.from_residual-in_err-rest.result _ _ c.in_err-rest.field-0.0 _ c.from_residual-in_err-rest.ensures.1 (λ y p. p) λ refused.
    loop ∙ items_bad_end (val c.args.depth) m _ l.rest.now (data_at c.args.depth (skip_blank l.rest.now)) c.in_ok-after.after.now (omega arith) other
    (read_is (val c.args.depth (skip_blank l.rest.now)) c.in_ok-after.after.now (rw start_is at c.in_ok-after.ensures.value))
    (c.in_err-rest.ensures.value refused)

pub items-preserved : goal.items-preserved
items-preserved c =
    let l = c.items in
    let start_is = c.skip_blank-start.ensures.rest in
    let other : (first (skip_blank l.rest.now) == 93) ≡ false = grind (arith, common_steps) in
    let shorter = c.in_ok-after.ensures.shorter in
    let within = c.in_ok-rest.ensures.within in
    let before = c.skip_blank-start.ensures.within in (
      search rules,
      omega (arith, l.invariant.1),
      λ n h.
          let (m, room, loop) = l.invariant.2 n h in (
            m - 1,
            omega arith,
            loop ∙ items_more (val c.args.depth) m _ l.rest.now (data_at c.args.depth (skip_blank l.rest.now)) c.in_ok-after.after.now c.in_ok-rest.rest.now (omega arith) other
                (read_is (val c.args.depth (skip_blank l.rest.now)) c.in_ok-after.after.now (rw start_is at c.in_ok-after.ensures.value))
                c.in_ok-rest.ensures.value
                ∙ rw (c.in_ok-push.ensures.items, data_push c.args.depth l.found.items c.skip_blank-start.result, start_is),
          ),
    )
