use Rattle.std.proofs.Common.{◌≡◌, ◌==◌, ◌-◌, ◌<◌, ◌||◌, true, false, [], Some, None, length, drop, le_refl, refl, ap, ◌∙◌, rules, arith}
use Rattle.std.proofs.lemmas.Grind.{common_steps}
use Rattle.toml_parser.specs.Lexical.{first, skip_blank}
use Rattle.toml_parser.specs.Strings.{Key}
use Rattle.toml_parser.specs.Reading.{key_view}
use Rattle.toml_parser.proofs.StringsLemmas.{gives_err}
use Rattle.toml.specs.Data.{no_items, array, table, push_item}
use Rattle.toml.specs.Tables.{no_nodes, close, put}
use Rattle.toml.specs.Parse.{val, items, members, key_equals}
use Rattle.toml.proofs.Turns.{val_atom, val_open_array, val_open_table, val_deep, keyval_ok, keyval_no_key, keyval_no_value, items_end, items_more, items_bad, items_bad_end, members_end, members_more, members_bad, members_bad_put, members_bad_end}
use Rattle.toml_rows.specs.Rows.{row_of}
use Rattle.toml_rows.specs.Tables.{at_root}
use Rattle.toml_rows.specs.Reading.{data_at}
use Rattle.toml_rows.specs.Documents.{rest_of}
use Rattle.toml_rows.proofs.EnterLemmas.{match_err}
use Rattle.toml_rows.proofs.LoopLemmas.{holds_empty, read_is, unread_is, rest_map, at_top}
use Rattle.toml_rows.proofs.values.+value.Goals as goal

pub array-items-init : goal.array-items-init
array-items-init t c = (search rules, le_refl _, λ n h. (n, no_items, h, refl))

pub array-returns-then-first-eq93-clause-value : goal.array-returns-then-first-eq93-clause-value
array-returns-then-first-eq93-clause-value t c n h =
    let l = c.items in
    let (m, found, room, loop) = l.invariant.2 n h in
    let start_is = c.skip_blank-start.ensures.rest in
    let closing : (first (skip_blank l.rest.now) == 93) ≡ true = grind (arith, common_steps) in
    ap rest_of (loop ∙ items_end (val c.args.depth) m found l.rest.now (omega arith) closing) ∙ rw (c.skip.ensures.rest, c.skip_blank-start.ensures.rest)

pub array-returns-in_err-after-clause-value : goal.array-returns-in_err-after-clause-value
array-returns-in_err-after-clause-value t c n h =
    let l = c.items in
    let start_is = c.skip_blank-start.ensures.rest in
    let other : (first (skip_blank l.rest.now) == 93) ≡ false = grind (arith, common_steps) in
    let (m, found, room, loop) = l.invariant.2 n h in
    gives_err _ c.from_residual.result _ c.in_err-after.field-0.0 _ c.from_residual.ensures.1 (λ y p. p) λ refused.
    ap rest_of (loop ∙ items_bad (val c.args.depth) m found l.rest.now (omega arith) other
    (unread_is (val c.args.depth (skip_blank l.rest.now)) (rw start_is at (c.in_err-after.ensures.value refused))))

pub array-returns-in_err-rest-clause-value : goal.array-returns-in_err-rest-clause-value
array-returns-in_err-rest-clause-value t c n h =
    let l = c.items in
    let start_is = c.skip_blank-start.ensures.rest in
    let other : (first (skip_blank l.rest.now) == 93) ≡ false = grind (arith, common_steps) in
    let (m, found, room, loop) = l.invariant.2 n h in
    gives_err _ c.from_residual-in_err-rest.result _ c.in_err-rest.field-0.0 _ c.from_residual-in_err-rest.ensures.1 (λ y p. p) λ refused.
    ap rest_of (loop ∙ items_bad_end (val c.args.depth) m found l.rest.now (data_at c.args.depth (skip_blank l.rest.now)) c.in_ok-after.after.now (omega arith) other
    (read_is (val c.args.depth (skip_blank l.rest.now)) c.in_ok-after.after.now (rw start_is at c.in_ok-after.ensures.value))
    (c.in_err-rest.ensures.value refused))

pub array-items-preserved : goal.array-items-preserved
array-items-preserved t c =
    let l = c.items in
    let start_is = c.skip_blank-start.ensures.rest in
    let other : (first (skip_blank l.rest.now) == 93) ≡ false = grind (arith, common_steps) in
    let shorter = c.in_ok-after.ensures.shorter in
    let within = c.in_ok-rest.ensures.within in
    let before = c.skip_blank-start.ensures.within in (
      search rules,
      omega (arith, l.invariant.1),
      λ n h.
          let (m, found, room, loop) = l.invariant.2 n h in
          let d = data_at c.args.depth (skip_blank l.rest.now) in (
            m - 1,
            push_item found d,
            omega arith,
            loop ∙ items_more (val c.args.depth) m found l.rest.now d c.in_ok-after.after.now c.in_ok-rest.rest.now (omega arith) other
                (read_is (val c.args.depth (skip_blank l.rest.now)) c.in_ok-after.after.now (rw start_is at c.in_ok-after.ensures.value))
                c.in_ok-rest.ensures.value,
          ),
    )

pub inline_table-members-init : goal.inline_table-members-init
inline_table-members-init t c =
    (search rules, le_refl _, (λ i. no_nodes), (λ i. no_items), holds_empty c.args.depth (row_of c.in_ok-keys.keys) c.in_ok-keys.ensures, λ n h. (n, h, refl))

pub inline_table-returns-then-first-eq125-clause-value : goal.inline_table-returns-then-first-eq125-clause-value
inline_table-returns-then-first-eq125-clause-value t c n h =
    let l = c.members in
    let start_is = c.skip_blank-start.ensures.rest in
    let tables = l.invariant.2 in
    let (m, room, loop) = l.invariant.5 n h in
    let closing : (first (skip_blank l.rest.now) == 125) ≡ true = grind (arith, common_steps) in (
      close (tables 0),
      record { tables = tables; elements = l.invariant.3; holds = l.invariant.4; members = refl },
      loop ∙ members_end (val c.args.depth) m (tables 0) l.rest.now (omega arith) closing ∙ rw (c.skip.ensures.rest, c.skip_blank-start.ensures.rest),
    )

pub inline_table-returns-in_err-key-clause-value : goal.inline_table-returns-in_err-key-clause-value
inline_table-returns-in_err-key-clause-value t c n h =
    let l = c.members in
    let start_is = c.skip_blank-start.ensures.rest in
    let other : (first (skip_blank l.rest.now) == 125) ≡ false = grind (arith, common_steps) in
    let tables = l.invariant.2 in
    let (m, room, loop) = l.invariant.5 n h in
    match_err c.from_residual-in_err-key.result _ _ c.in_err-key.field-0.0 _ c.from_residual-in_err-key.ensures.1 (λ y p. p) λ refused.
    loop ∙ members_bad (val c.args.depth) m (tables 0) l.rest.now (omega arith) other
    (keyval_no_key (val c.args.depth) _ (rw start_is at (c.in_err-key.ensures.value refused)))

pub inline_table-returns-in_err-after-clause-value : goal.inline_table-returns-in_err-after-clause-value
inline_table-returns-in_err-after-clause-value t c n h =
    let l = c.members in
    let start_is = c.skip_blank-start.ensures.rest in
    let other : (first (skip_blank l.rest.now) == 125) ≡ false = grind (arith, common_steps) in
    let key : Key = key_view c.in_ok-key.key in
    let read_key : key_equals (skip_blank l.rest.now) ≡ Some (key, c.in_ok-key.at_value.now) = rw start_is at c.in_ok-key.ensures.value in
    let tables = l.invariant.2 in
    let (m, room, loop) = l.invariant.5 n h in
    match_err c.from_residual-in_err-after.result _ _ c.in_err-after.field-0.0 _ c.from_residual-in_err-after.ensures.1 (λ y p. p) λ refused.
    loop ∙ members_bad (val c.args.depth) m (tables 0) l.rest.now (omega arith) other
    (keyval_no_value (val c.args.depth) _ _ key read_key (unread_is (val c.args.depth c.in_ok-key.at_value.now) (c.in_err-after.ensures.value refused)))

pub inline_table-returns-in_err-put-clause-value : goal.inline_table-returns-in_err-put-clause-value
inline_table-returns-in_err-put-clause-value t c n h =
    let l = c.members in
    let start_is = c.skip_blank-start.ensures.rest in
    let other : (first (skip_blank l.rest.now) == 125) ≡ false = grind (arith, common_steps) in
    let key : Key = key_view c.in_ok-key.key in
    let d = data_at c.args.depth c.in_ok-key.at_value.now in
    let read_key : key_equals (skip_blank l.rest.now) ≡ Some (key, c.in_ok-key.at_value.now) = rw start_is at c.in_ok-key.ensures.value in
    let read = keyval_ok (val c.args.depth) (skip_blank l.rest.now) _ c.in_ok-after.after.now key d read_key
    (read_is (val c.args.depth c.in_ok-key.at_value.now) c.in_ok-after.after.now c.in_ok-after.ensures.value) in
    let tables = l.invariant.2 in
    let (m, room, loop) = l.invariant.5 n h in
    match_err c.from_residual-in_err-put.result _ _ c.in_err-put.field-0.0 _ c.from_residual-in_err-put.ensures.1 (λ y p. p) λ refused.
    loop ∙ members_bad_put (val c.args.depth) m (tables 0) l.rest.now key d c.in_ok-after.after.now (omega arith) other read
    (at_top (put key d) (tables 0) None (c.in_err-put.ensures c.args.depth tables l.invariant.3 [] l.invariant.4 at_root refused))

pub inline_table-returns-in_err-rest-clause-value : goal.inline_table-returns-in_err-rest-clause-value
inline_table-returns-in_err-rest-clause-value t c n h =
    let l = c.members in
    let start_is = c.skip_blank-start.ensures.rest in
    let other : (first (skip_blank l.rest.now) == 125) ≡ false = grind (arith, common_steps) in
    let key : Key = key_view c.in_ok-key.key in
    let d = data_at c.args.depth c.in_ok-key.at_value.now in
    let read_key : key_equals (skip_blank l.rest.now) ≡ Some (key, c.in_ok-key.at_value.now) = rw start_is at c.in_ok-key.ensures.value in
    let read = keyval_ok (val c.args.depth) (skip_blank l.rest.now) _ c.in_ok-after.after.now key d read_key
    (read_is (val c.args.depth c.in_ok-key.at_value.now) c.in_ok-after.after.now c.in_ok-after.ensures.value) in
    let tables = l.invariant.2 in
    let (m, room, loop) = l.invariant.5 n h in
    let e = (c.in_ok-put.ensures c.args.depth tables l.invariant.3 [] l.invariant.4 at_root).1 in
    match_err c.from_residual-in_err-rest.result _ _ c.in_err-rest.field-0.0 _ c.from_residual-in_err-rest.ensures.1 (λ y p. p) λ refused.
    loop ∙ members_bad_end (val c.args.depth) m (tables 0) (e.tables 0) l.rest.now key d c.in_ok-after.after.now (omega arith) other read
    (at_top (put key d) (tables 0) (Some (e.tables 0)) e.is) (c.in_err-rest.ensures.value refused)

pub inline_table-members-preserved : goal.inline_table-members-preserved
inline_table-members-preserved t c =
    let l = c.members in
    let start_is = c.skip_blank-start.ensures.rest in
    let other : (first (skip_blank l.rest.now) == 125) ≡ false = grind (arith, common_steps) in
    let key : Key = key_view c.in_ok-key.key in
    let d = data_at c.args.depth c.in_ok-key.at_value.now in
    let read_key : key_equals (skip_blank l.rest.now) ≡ Some (key, c.in_ok-key.at_value.now) = rw start_is at c.in_ok-key.ensures.value in
    let read = keyval_ok (val c.args.depth) (skip_blank l.rest.now) _ c.in_ok-after.after.now key d read_key
    (read_is (val c.args.depth c.in_ok-key.at_value.now) c.in_ok-after.after.now c.in_ok-after.ensures.value) in
    let tables = l.invariant.2 in
    let shorter = c.in_ok-key.ensures.shorter in
    let shorter_again = c.in_ok-after.ensures.shorter in
    let within = c.in_ok-rest.ensures.within in
    let before = c.skip_blank-start.ensures.within in
    let e = (c.in_ok-put.ensures c.args.depth tables l.invariant.3 [] l.invariant.4 at_root).1 in (
      search rules,
      omega (arith, l.invariant.1),
      e.tables,
      e.elements,
      e.holds,
      λ n h.
          let (m, room, loop) = l.invariant.5 n h in (
            m - 1,
            omega arith,
            loop ∙ members_more (val c.args.depth) m (tables 0) (e.tables 0) l.rest.now key d c.in_ok-after.after.now c.in_ok-rest.rest.now (omega arith) other read
                (at_top (put key d) (tables 0) (Some (e.tables 0)) e.is) c.in_ok-rest.ensures.value,
          ),
    )

pub value-returns-then-byte-ne123-clause-value : goal.value-returns-then-byte-ne123-clause-value
value-returns-then-byte-ne123-clause-value t c =
    let s = c.args.s.now in
    let a : (first s == 91) ≡ false = grind (arith, common_steps) in
    let b : (first s == 123) ≡ false = grind (arith, common_steps) in
    rw (val_atom c.args.depth s a b) c.atom.ensures.value

pub value-returns-then-depth-eq0-clause-value : goal.value-returns-then-depth-eq0-clause-value
value-returns-then-depth-eq0-clause-value t c refused =
    let s = c.args.s.now in
    let bracket : ((first s == 91) || (first s == 123)) ≡ true = grind (arith, common_steps) in
    let zero : c.args.depth ≡ 0 = omega arith in
    ap rest_of (ap (λ d. val d s) zero ∙ val_deep s bracket)

pub value-returns-in_err-rest-clause-value : goal.value-returns-in_err-rest-clause-value
value-returns-in_err-rest-clause-value t c =
    let s = c.args.s.now in
    let some : 0 < c.args.depth = omega arith in
    let a : (first s == 91) ≡ true = grind (arith, common_steps) in
    gives_err _ c.from_residual.result _ c.in_err-rest.field-0.0 _ c.from_residual.ensures.1 (λ y p. p) λ refused.
    ap rest_of (val_open_array c.args.depth s some a) ∙ rest_map array (items (val (c.args.depth - 1)) (length s) no_items (drop 1 s))
    ∙ rw c.skip.ensures.rest at (c.in_err-rest.ensures.value (length s) c.skip.ensures.shorter refused)

pub value-returns-in_err-rest-2-clause-value : goal.value-returns-in_err-rest-2-clause-value
value-returns-in_err-rest-2-clause-value t c =
    let s = c.args.s.now in
    let some : 0 < c.args.depth = omega arith in
    let a : (first s == 91) ≡ false = grind (arith, common_steps) in
    let b : (first s == 123) ≡ true = grind (arith, common_steps) in
    gives_err _ c.from_residual-in_err-rest-2.result _ c.in_err-rest-2.field-0.0 _ c.from_residual-in_err-rest-2.ensures.1 (λ y p. p) λ refused.
    ap rest_of (val_open_table c.args.depth s some a b) ∙ rest_map table (members (val (c.args.depth - 1)) (length s) no_nodes (drop 1 s))
    ∙ ap rest_of (rw c.skip-else-byte-eq91.ensures.rest at (c.in_err-rest-2.ensures.value (length s) c.skip-else-byte-eq91.ensures.shorter refused))

pub value-returns-in_ok-rest-clause-value : goal.value-returns-in_ok-rest-clause-value
value-returns-in_ok-rest-clause-value t c =
    let s = c.args.s.now in
    let some : 0 < c.args.depth = omega arith in
    let a : (first s == 91) ≡ true = grind (arith, common_steps) in
    ap rest_of (val_open_array c.args.depth s some a) ∙ rest_map array (items (val (c.args.depth - 1)) (length s) no_items (drop 1 s))
    ∙ rw c.skip.ensures.rest at (c.in_ok-rest.ensures.value (length s) c.skip.ensures.shorter)

pub value-returns-in_ok-rest-2-clause-value : goal.value-returns-in_ok-rest-2-clause-value
value-returns-in_ok-rest-2-clause-value t c =
    let s = c.args.s.now in
    let some : 0 < c.args.depth = omega arith in
    let a : (first s == 91) ≡ false = grind (arith, common_steps) in
    let b : (first s == 123) ≡ true = grind (arith, common_steps) in
    let (ms, table_is, whole) = c.in_ok-rest-2.ensures.value (length s) c.skip-else-byte-eq91.ensures.shorter in
    ap rest_of (val_open_table c.args.depth s some a b) ∙ rest_map table (members (val (c.args.depth - 1)) (length s) no_nodes (drop 1 s))
    ∙ ap rest_of (rw c.skip-else-byte-eq91.ensures.rest at whole)
