-- Nodes, one more at a time.
use Rattle.std.proofs.Common.{◌≡◌, ℕ, zero, suc, ◌+◌, ◌-◌, ◌<◌, ◌≤◌, List, [], ◌∷◌, ◌++◌, length, take, drop, get_or, min, Option, Some, None}
use Rattle.std.proofs.Common.{refl, sym, ap, ◌∙◌, arith}
use Rattle.std.specs.List.{fold}
use Rattle.std.proofs.lemmas.List.{length-drop, drop-drop, drop_min, take_more}
use Rattle.std.proofs.lemmas.List.Sums.{fold-append}
use Rattle.json.specs.Token.{Token}
use Rattle.json.specs.Json.{parse_map}
use Rattle.serde_json.specs.Data.{Data, string, Items, item, no_members, put}
use Rattle.json_fields.specs.Nodes.{items_from, members_from, inside, onto, values_of, text_in}
use Rattle.json_fields.specs.declared.node.Node.{Node}
use Rattle.json_fields.specs.declared.node.Node.TheVariants.{Null, Truth, Number, Text, Array, Object}

pub values_of_push : (nodes : List Node) (node : Node) → values_of (nodes ++ node ∷ []) ≡ onto (values_of nodes) node
unfolding values_of
values_of_push nodes node = fold-append onto [] nodes (node ∷ [])

pub values_of_none : (nodes : List Node) → length nodes ≡ 0 → values_of nodes ≡ []
unfolding values_of
values_of_none [] is = refl
values_of_none (node ∷ nodes) is = absurd (omega arith)

-- no more values than nodes
onto-len : (stack : List Data) (node : Node) → length (onto stack node) ≤ length stack + 1
onto-len stack Null = omega arith
onto-len stack (Truth b) = omega arith
onto-len stack (Number n) = omega arith
onto-len stack (Text s) = omega arith
onto-len stack (Array n) = omega (arith, length-drop n stack)
onto-len stack (Object n) = omega (arith, length-drop n stack)

folded-len : (nodes : List Node) (stack : List Data) → length (fold onto stack nodes) ≤ length stack + length nodes
folded-len [] stack = omega arith
folded-len (node ∷ nodes) stack = omega (arith, onto-len stack node, folded-len nodes (onto stack node))

pub values_of-len : (nodes : List Node) → length (values_of nodes) ≤ length nodes
unfolding values_of
values_of-len nodes = omega (arith, folded-len nodes [])

-- the values below a node's value
pub drop-onto : (n : ℕ) (stack : List Data) (node : Node) → 0 < n → drop n (onto stack node) ≡ drop (n - 1 + inside node) stack
drop-onto zero stack node some = absurd (omega arith)
drop-onto (suc n) stack Null some = let e : n ≡ suc n - 1 + 0 = omega arith in ap (λ k. drop k stack) e
drop-onto (suc n) stack (Truth b) some = let e : n ≡ suc n - 1 + 0 = omega arith in ap (λ k. drop k stack) e
drop-onto (suc n) stack (Number x) some = let e : n ≡ suc n - 1 + 0 = omega arith in ap (λ k. drop k stack) e
drop-onto (suc n) stack (Text s) some = let e : n ≡ suc n - 1 + 0 = omega arith in ap (λ k. drop k stack) e
drop-onto (suc n) stack (Array m) some =
    let e : m + n ≡ suc n - 1 + m = omega arith in drop-drop n m stack ∙ ap (λ k. drop k stack) e
drop-onto (suc n) stack (Object m) some =
    let e : m + n ≡ suc n - 1 + m = omega arith in drop-drop n m stack ∙ ap (λ k. drop k stack) e

-- a node further on
pub values_of-take : (nodes : List Node) (i : ℕ) (node : Node) → i < length nodes
    → values_of (take (i + 1) nodes) ≡ onto (values_of (take i nodes)) (get_or nodes i node)
values_of-take nodes i node within =
    ap values_of (take_more nodes i node within) ∙ values_of_push (take i nodes) (get_or nodes i node)

-- a count that is capped passes the same values
pub drop-capped : (n m : ℕ) (nodes : List Node) → length nodes ≤ m
    → drop (min n m) (values_of nodes) ≡ drop n (values_of nodes)
drop-capped n m nodes enough =
    let stack = values_of nodes in
    let fewer : length stack ≤ m = omega (arith, values_of-len nodes) in
    let same : min (min n m) (length stack) ≡ min n (length stack) = omega arith in
    sym (drop_min (min n m) stack) ∙ ap (λ k. drop k stack) same ∙ drop_min n stack

-- one more item
pub items_from-more : (n : ℕ) (d : Data) (stack : List Data) (more : Items)
    → items_from (n + 1) (d ∷ stack) more ≡ items_from n stack (item d more)
unfolding items_from
items_from-more n d stack more = let e : n + 1 ≡ suc n = omega arith in ap (λ k. items_from k (d ∷ stack) more) e

-- one more member
pub members_from-more : (n : ℕ) (name d : Data) (stack : List Data)
    → members_from (n + 2) (name ∷ d ∷ stack) ≡ put (text_in name) d (members_from n stack)
unfolding members_from
members_from-more n name d stack =
    let e : n + 2 ≡ suc (suc n) = omega arith in ap (λ k. members_from k (name ∷ d ∷ stack)) e

-- no items yet
pub items_from-none : (stack : List Data) (r : Option (Items × List Token)) → r ≡ parse_map (items_from 0 stack) r
unfolding items_from
items_from-none stack None = refl
items_from-none stack (Some p) = refl

pub members_from-none : (stack : List Data) → members_from 0 stack ≡ no_members
unfolding members_from
members_from-none stack = refl

-- one more value was read into an array
pub one_more_item : (n : ℕ) (d : Data) (old new : List Data) → new ≡ d ∷ old → (r : Option (Items × List Token))
    → parse_map (items_from n old) (parse_map (item d) r) ≡ parse_map (items_from (n + 1) new) r
one_more_item n d old new is None = refl
one_more_item n d old new is (Some p) =
    ap (λ ds. Some (ds, p.1)) (sym (items_from-more n d old p.0) ∙ ap (λ stack. items_from (n + 1) stack p.0) (sym is))

-- a value and its name were read into an object
pub one_more_member : (n : ℕ) (name : List ℕ) (d : Data) (old new : List Data) → new ≡ string name ∷ d ∷ old
    → members_from (n + 2) new ≡ put name d (members_from n old)
one_more_member n name d old new is =
    ap (members_from (n + 2)) is ∙ members_from-more n (string name) d old

pub drop-more : (n : ℕ) (d : Data) (old new : List Data) → new ≡ d ∷ old → drop (n + 1) new ≡ drop n old
drop-more n d old new is = let e : n + 1 ≡ suc n = omega arith in ap (λ k. drop k new) e ∙ ap (drop (suc n)) is

pub drop-more_two : (n : ℕ) (d e : Data) (old new : List Data) → new ≡ d ∷ e ∷ old → drop (n + 2) new ≡ drop n old
drop-more_two n d e old new is =
    let eq : n + 2 ≡ suc (suc n) = omega arith in ap (λ k. drop k new) eq ∙ ap (drop (suc (suc n))) is
