use Rattle.std.proofs.Common.{◌≡◌, ◌-◌, ◌<◌, ◌∷◌, [], length, Some, None, refl, sym, ap, ap₂, ◌∙◌, arith}
use Rattle.json.specs.Reads.{token_of}
use Rattle.json.specs.Json.{after_end_array, read_key, items, members, value, parse_map}
use Rattle.json.proofs.Grammar.{value_is, value-begin_array, value-begin_object, read_key-shorter}
use Rattle.serde_json.specs.Data.{array, object, string}
use Rattle.serde_json.specs.Read.{of_json, of_members, converted}
use Rattle.json_fields.specs.Nodes.{items_from, members_from, values_of, value_of, top}
use Rattle.json_fields.proofs.NodeLemmas.{items_from-none, members_from-none, one_more_item, one_more_member, drop-more, drop-more_two}
use Rattle.json_fields.proofs.Turns.{value_from, in_array, in_object, next_item, no_next_item, after_items, next_member, no_next_member, no_key, after_members}
use Rattle.json_fields.proofs.nodes.+read.Goals as goal

pub read-returns-in_err-token-clause-err : goal.read-returns-in_err-token-clause-err
read-returns-in_err-token-clause-err t c refused =
    let empty : c.args.reader.now ≡ [] = grind arith in
    ap (converted of_json) (ap (value c.args.depth) empty ∙ value_is c.args.depth [])

pub read-returns-then-depth-eq0-clause-err : goal.read-returns-then-depth-eq0-clause-err
unfolding value
read-returns-then-depth-eq0-clause-err t c never =
    let first : c.args.reader.now ≡ token_of c.in_ok-token.token ∷ c.next.new.self = grind arith in
    let none : c.args.depth ≡ 0 = omega arith in
    ap (converted of_json) (ap₂ value none (first ∙ ap (λ k. token_of k ∷ c.next.new.self) c.in-BeginArray.is))

pub read-returns-then-depth-eq0-2-clause-err : goal.read-returns-then-depth-eq0-2-clause-err
unfolding value
read-returns-then-depth-eq0-2-clause-err t c never =
    let first : c.args.reader.now ≡ token_of c.in_ok-token.token ∷ c.next.new.self = grind arith in
    let none : c.args.depth ≡ 0 = omega arith in
    ap (converted of_json) (ap₂ value none (first ∙ ap (λ k. token_of k ∷ c.next.new.self) c.in-BeginObject.is))

pub read-returns-in_err-count-in-BeginArray-clause-err : goal.read-returns-in_err-count-in-BeginArray-clause-err
read-returns-in_err-count-in-BeginArray-clause-err t c refused =
    let first : c.args.reader.now ≡ token_of c.in_ok-token.token ∷ c.next.new.self = grind arith in
    let opened = value_from token_of c.args.depth _ _ _ _ first c.in-BeginArray.is
    ∙ ap (converted of_json) (value-begin_array c.args.depth c.next.new.self (omega arith)) ∙ in_array (items (value (c.args.depth - 1)) (length c.next.new.self) c.next.new.self) in
    opened ∙ ap (parse_map array) (c.read_items.ensures.err (grind arith))

pub read-returns-in_err-count-in-BeginObject-clause-err : goal.read-returns-in_err-count-in-BeginObject-clause-err
read-returns-in_err-count-in-BeginObject-clause-err t c refused =
    let first : c.args.reader.now ≡ token_of c.in_ok-token.token ∷ c.next.new.self = grind arith in
    let opened = value_from token_of c.args.depth _ _ _ _ first c.in-BeginObject.is
    ∙ ap (converted of_json) (value-begin_object c.args.depth c.next.new.self (omega arith)) ∙ in_object (members (value (c.args.depth - 1)) (length c.next.new.self) c.next.new.self) in
    opened ∙ ap (parse_map object) (c.read_members.ensures.err (grind arith))

pub read-returns-in_ok-put-in-String-clause-ok : goal.read-returns-in_ok-put-in-String-clause-ok
read-returns-in_ok-put-in-String-clause-ok t c =
    let first : c.args.reader.now ≡ token_of c.in_ok-token.token ∷ c.next.new.self = grind arith in
    value_from token_of c.args.depth _ _ _ _ first c.in-String.is ∙ ap (converted of_json) (value_is c.args.depth _) ∙ ap (λ d. Some (d, c.next.new.self)) (sym (ap top c.in_ok-put-in-String.ensures.value))

pub read-returns-in_ok-put-in-Bool-clause-ok : goal.read-returns-in_ok-put-in-Bool-clause-ok
read-returns-in_ok-put-in-Bool-clause-ok t c =
    let first : c.args.reader.now ≡ token_of c.in_ok-token.token ∷ c.next.new.self = grind arith in
    value_from token_of c.args.depth _ _ _ _ first c.in-Bool.is ∙ ap (converted of_json) (value_is c.args.depth _) ∙ ap (λ d. Some (d, c.next.new.self)) (sym (ap top c.in_ok-put-in-Bool.ensures.value))

pub read-returns-in_ok-put-in-Null-clause-ok : goal.read-returns-in_ok-put-in-Null-clause-ok
read-returns-in_ok-put-in-Null-clause-ok t c =
    let first : c.args.reader.now ≡ token_of c.in_ok-token.token ∷ c.next.new.self = grind arith in
    value_from token_of c.args.depth _ _ _ _ first c.in-Null.is ∙ ap (converted of_json) (value_is c.args.depth _) ∙ ap (λ d. Some (d, c.next.new.self)) (sym (ap top c.in_ok-put-in-Null.ensures.value))

pub read-returns-in_ok-put-in-Some-clause-ok : goal.read-returns-in_ok-put-in-Some-clause-ok
read-returns-in_ok-put-in-Some-clause-ok t c =
    let first : c.args.reader.now ≡ token_of c.in_ok-token.token ∷ c.next.new.self = grind arith in
    value_from token_of c.args.depth _ _ _ _ first c.in-Number.is ∙ ap (converted of_json) (value_is c.args.depth _)
    ∙ rw (← c.in-Some.ensures) (ap (λ d. Some (d, c.next.new.self)) (sym (ap top c.in_ok-put-in-Some.ensures.value)))

pub read-returns-in-None-clause-err : goal.read-returns-in-None-clause-err
read-returns-in-None-clause-err t c refused =
    let first : c.args.reader.now ≡ token_of c.in_ok-token.token ∷ c.next.new.self = grind arith in
    value_from token_of c.args.depth _ _ _ _ first c.in-Number.is ∙ ap (converted of_json) (value_is c.args.depth _) ∙ rw (← c.in-None.ensures)

pub read-returns-in-EndObject-clause-err : goal.read-returns-in-EndObject-clause-err
read-returns-in-EndObject-clause-err t c refused =
    let first : c.args.reader.now ≡ token_of c.in_ok-token.token ∷ c.next.new.self = grind arith in
    let none : value c.args.depth c.args.reader.now ≡ None = rw (value_is c.args.depth c.args.reader.now, first) (grind arith) in
    ap (converted of_json) none

pub read-returns-in_ok-put-in-BeginArray-clause-ok : goal.read-returns-in_ok-put-in-BeginArray-clause-ok
read-returns-in_ok-put-in-BeginArray-clause-ok t c =
    let first : c.args.reader.now ≡ token_of c.in_ok-token.token ∷ c.next.new.self = grind arith in
    let opened = value_from token_of c.args.depth _ _ _ _ first c.in-BeginArray.is
    ∙ ap (converted of_json) (value-begin_array c.args.depth c.next.new.self (omega arith)) ∙ in_array (items (value (c.args.depth - 1)) (length c.next.new.self) c.next.new.self) in
    opened ∙ ap (parse_map array) c.in_ok-count-in-BeginArray.ensures.ok ∙ ap (λ d. Some (d, c.read_items.new.reader)) (sym (ap top c.in_ok-put-in-BeginArray.ensures.value))

pub read-returns-in_ok-put-in-BeginObject-clause-ok : goal.read-returns-in_ok-put-in-BeginObject-clause-ok
read-returns-in_ok-put-in-BeginObject-clause-ok t c =
    let first : c.args.reader.now ≡ token_of c.in_ok-token.token ∷ c.next.new.self = grind arith in
    let opened = value_from token_of c.args.depth _ _ _ _ first c.in-BeginObject.is
    ∙ ap (converted of_json) (value-begin_object c.args.depth c.next.new.self (omega arith)) ∙ in_object (members (value (c.args.depth - 1)) (length c.next.new.self) c.next.new.self) in
    opened ∙ ap (parse_map object) c.in_ok-count-in-BeginObject.ensures.ok ∙ ap (λ d. Some (d, c.read_members.new.reader)) (sym (ap top c.in_ok-put-in-BeginObject.ensures.value))

pub read_items-items-init : goal.read_items-items-init
read_items-items-init t c =
    (length c.args.reader.now, omega arith, items_from-none (values_of c.args.nodes.now.items) _, omega arith, refl, omega arith)

pub read_items-returns-in_err-read-clause-err : goal.read_items-returns-in_err-read-clause-err
read_items-returns-in_err-read-clause-err t c refused =
    let p = value c.args.depth in
    let l = c.items in
    let n = l.invariant.0 in
    let going : (after_end_array l.reader ≡ None) × (c.take_end_array.new.self ≡ l.reader) = grind arith in
    l.invariant.2 ∙ ap (parse_map (items_from l.count (values_of l.nodes.items))) (no_next_item p n l.reader going.0 (rw (← going.1) (c.read.ensures.err (grind arith))))

pub read_items-items-preserved : goal.read_items-items-preserved
read_items-items-preserved t c =
    let p = value c.args.depth in
    let l = c.items in
    let n = l.invariant.0 in
    let going : (after_end_array l.reader ≡ None) × (c.take_end_array.new.self ≡ l.reader) = grind arith in
    let done = c.in_ok-read.ensures in
    let old = values_of l.nodes.items in
    let nodes = c.read.new.nodes.items in
    let r = c.read.new.reader in
    let less : length r < length l.reader = rw (← going.1) done.shorter in
    let turn = next_item p n (n - 1) l.reader r (value_of nodes) (omega (arith, l.invariant.1)) going.0 (rw (← going.1) done.ok) in (
      n - 1,
      omega (arith, l.invariant.1),
      l.invariant.2 ∙ ap (parse_map (items_from l.count old)) turn ∙ one_more_item l.count (value_of nodes) old (values_of nodes) done.pushed _,
      omega (arith, l.invariant.3),
      drop-more l.count (value_of nodes) old (values_of nodes) done.pushed ∙ l.invariant.4,
      omega (arith, l.invariant.5, done.longer),
    )

pub read_items-returns-clause-ok : goal.read_items-returns-clause-ok
read_items-returns-clause-ok t c =
    let p = value c.args.depth in
    let l = c.items in
    let n = l.invariant.0 in
    let r = c.take_end_array.new.self in
    l.invariant.2 ∙ ap (parse_map (items_from l.count (values_of l.nodes.items))) (after_items p n l.reader r l.invariant.1 (grind arith))

pub read_members-members-init : goal.read_members-members-init
read_members-members-init t c =
    let all = members (value c.args.depth) (length c.args.reader.now) c.args.reader.now in
    let stack = values_of c.args.nodes.now.items in
    (length c.args.reader.now, omega arith, ap (λ found. converted (λ ms. of_members ms found) all) (sym (members_from-none stack)), omega arith, refl, omega arith)

pub read_members-returns-in_err-name-clause-err : goal.read_members-returns-in_err-name-clause-err
read_members-returns-in_err-name-clause-err t c refused =
    let p = value c.args.depth in
    let l = c.members in
    l.invariant.2 ∙ no_key p (members_from l.count (values_of l.nodes.items)) l.invariant.0 l.reader c.in_err-name.ensures.value

pub read_members-returns-in_err-read-clause-err : goal.read_members-returns-in_err-read-clause-err
read_members-returns-in_err-read-clause-err t c refused =
    let p = value c.args.depth in
    let l = c.members in
    let k = c.in-Some.name.now in
    let s = c.next_key.new.self in
    let named : read_key l.reader ≡ Some (Some k, s) = grind arith in
    l.invariant.2 ∙ no_next_member p (members_from l.count (values_of l.nodes.items)) l.invariant.0 k l.reader s named (c.read.ensures.err (grind arith))

pub read_members-members-preserved : goal.read_members-members-preserved
read_members-members-preserved t c =
    let p = value c.args.depth in
    let l = c.members in
    let n = l.invariant.0 in
    let k = c.in-Some.name.now in
    let s = c.next_key.new.self in
    let named : read_key l.reader ≡ Some (Some k, s) = grind arith in
    let done = c.in_ok-read.ensures in
    let old = values_of l.nodes.items in
    let read = c.read.new.nodes.items in
    let nodes = c.put.new.nodes.items in
    let d = value_of read in
    let r = c.read.new.reader in
    let less = read_key-shorter l.reader (Some k) s named in
    let lesser = done.shorter in
    let stack : values_of nodes ≡ string k ∷ d ∷ old = c.in_ok-put.ensures.value ∙ ap (λ st. string k ∷ st) done.pushed in (
      n - 1,
      omega (arith, l.invariant.1),
      l.invariant.2 ∙ next_member p (members_from l.count old) n (n - 1) k l.reader s r d (omega (arith, l.invariant.1)) named done.ok
          ∙ ap (λ found. converted (λ ms. of_members ms found) (members p (n - 1) r)) (sym (one_more_member l.count k d old (values_of nodes) stack)),
      omega (arith, l.invariant.3),
      drop-more_two l.count (string k) d old (values_of nodes) stack ∙ l.invariant.4,
      omega (arith, l.invariant.5, done.longer, c.in_ok-put.ensures.longer),
    )

pub read_members-returns-clause-ok : goal.read_members-returns-clause-ok
read_members-returns-clause-ok t c =
    let p = value c.args.depth in
    let l = c.members in
    l.invariant.2 ∙ after_members p (members_from l.count (values_of l.nodes.items)) l.invariant.0 l.reader c.next_key.new.self l.invariant.1 (grind arith)
