-- Elements and fields, one after another.
use Rattle.std.proofs.Common.{◌≡◌, ℕ, zero, suc, ◌+◌, ◌-◌, ◌<◌, ◌≤◌, List, [], ◌∷◌, length, take, drop, get_or}
use Rattle.std.proofs.Common.{refl, sym, ap, ◌∙◌, subst, arith, take_all}
use Rattle.serde_json.specs.Data.{Data, Items, item, no_members, put}
use Rattle.json_fields.specs.Nodes.{items_from, members_from, onto, values_of, value_of, text_in, top}
use Rattle.json_fields.specs.declared.node.Node.{Node}
use Rattle.json_fields.specs.declared.node.Node.TheVariants.{Null, Truth, Number, Text, Array, Object}
use Rattle.json_fields.proofs.NodeLemmas.{values_of-take, values_of_none, items_from-more, members_from-more}

onto-some : (stack : List Data) (node : Node) → onto stack node ≡ top (onto stack node) ∷ drop 1 (onto stack node)
onto-some stack Null = refl
onto-some stack (Truth b) = refl
onto-some stack (Number n) = refl
onto-some stack (Text s) = refl
onto-some stack (Array n) = refl
onto-some stack (Object n) = refl

-- nodes are a value and those below it
pub values_of-some : (nodes : List Node) → 0 < length nodes → values_of nodes ≡ value_of nodes ∷ drop 1 (values_of nodes)
values_of-some nodes some =
    let n = length nodes - 1 in
    let node = get_or nodes n Null in
    let whole : take (n + 1) nodes ≡ nodes = take_all (n + 1) nodes (omega arith) in
    let is : values_of nodes ≡ onto (values_of (take n nodes)) node =
    ap values_of (sym whole) ∙ values_of-take nodes n Null (omega arith) in
    let P : List Data → Type 0 = λ stack. stack ≡ top stack ∷ drop 1 stack in
    subst P (sym is) (onto-some (values_of (take n nodes)) node)

two_on_top : (stack : List Data) (d : Data) (more : List Data) → drop 1 stack ≡ d ∷ more → stack ≡ top stack ∷ d ∷ more
two_on_top [] d more is = absurd cc
two_on_top (name ∷ stack) d more is = ap (λ rest. name ∷ rest) is

-- the next element
pub items_from_step : (n : ℕ) (nodes : List Node) (more : Items) → 0 < n → 0 < length nodes
    → items_from n (values_of nodes) more ≡ items_from (n - 1) (drop 1 (values_of nodes)) (item (value_of nodes) more)
items_from_step n nodes more counted some =
    let e : n ≡ n - 1 + 1 = omega arith in
    ap (λ stack. items_from n stack more) (values_of-some nodes some)
    ∙ ap (λ k. items_from k (value_of nodes ∷ drop 1 (values_of nodes)) more) e
    ∙ items_from-more (n - 1) (value_of nodes) (drop 1 (values_of nodes)) more

-- no element is left
pub items_from_over : (n : ℕ) (stack : List Data) (more : Items) → n ≡ 0 → items_from n stack more ≡ more
unfolding items_from
items_from_over zero stack more is = refl
items_from_over (suc n) stack more is = absurd (omega arith)

items_of_none : (n : ℕ) (more : Items) → items_from n [] more ≡ more
unfolding items_from
items_of_none zero more = refl
items_of_none (suc n) more = refl

pub items_from_end : (n : ℕ) (nodes : List Node) (more : Items) → length nodes ≡ 0 → items_from n (values_of nodes) more ≡ more
items_from_end n nodes more is = ap (λ stack. items_from n stack more) (values_of_none nodes is) ∙ items_of_none n more

-- the next field
pub members_from_step : (n : ℕ) (nodes rest : List Node) → 2 ≤ n → values_of rest ≡ drop 1 (values_of nodes) → 0 < length rest
    → members_from n (values_of nodes)
    ≡ put (text_in (value_of nodes)) (value_of rest) (members_from (n - 2) (drop 1 (values_of rest)))
members_from_step n nodes rest counted is some =
    let e : n ≡ n - 2 + 2 = omega arith in
    let two : values_of nodes ≡ value_of nodes ∷ value_of rest ∷ drop 1 (values_of rest) =
    two_on_top (values_of nodes) (value_of rest) (drop 1 (values_of rest)) (sym is ∙ values_of-some rest some) in
    ap (members_from n) two ∙ ap (λ k. members_from k (value_of nodes ∷ value_of rest ∷ drop 1 (values_of rest))) e
    ∙ members_from-more (n - 2) (value_of nodes) (value_of rest) (drop 1 (values_of rest))

-- no field is left
pub members_from_over : (n : ℕ) (stack : List Data) → n < 2 → members_from n stack ≡ no_members
unfolding members_from
members_from_over zero stack few = refl
members_from_over (suc zero) stack few = refl
members_from_over (suc (suc n)) stack few = absurd (omega arith)

below_one : (n : ℕ) (stack : List Data) → drop 1 stack ≡ [] → members_from n stack ≡ no_members
unfolding members_from
below_one zero stack is = refl
below_one (suc zero) stack is = refl
below_one (suc (suc n)) [] is = refl
below_one (suc (suc n)) (name ∷ []) is = refl
below_one (suc (suc n)) (name ∷ d ∷ stack) is = absurd cc

pub members_from_end : (n : ℕ) (nodes rest : List Node) → values_of rest ≡ drop 1 (values_of nodes) → length rest ≡ 0
    → members_from n (values_of nodes) ≡ no_members
members_from_end n nodes rest is none = below_one n (values_of nodes) (sym is ∙ values_of_none rest none)
