-- A value as a row of nodes: the values in an array or an object stand before it, and a member's name after its value.
use Rattle.std.specs.Prelude.{ℕ, zero, suc, List, [], ◌∷◌, drop}
use Rattle.std.specs.List.{fold}
use Rattle.serde_json.specs.Data.{Data, null, boolean, number, string, array, object}
use Rattle.serde_json.specs.Data.{Items, no_items, item, Members, no_members, put}
use Rattle.serde_json.specs.View.{number_view}
use Rattle.json_fields.specs.declared.node.Node.{Node}
use Rattle.json_fields.specs.declared.node.Node.TheVariants.{Null, Truth, Number, Text, Array, Object}

-- the text of a string, and the empty text of another value
abbrev pub text_in : Data → List ℕ
text_in null = []
text_in (boolean b) = []
text_in (number n) = []
text_in (string s) = s
text_in (array ds) = []
text_in (object ms) = []

-- these items after the first so many of a stack, whose first is the last item
unfoldable pub items_from : ℕ → List Data → Items → Items
items_from zero stack more = more
items_from (suc n) [] more = more
items_from (suc n) (d ∷ stack) more = items_from n stack (item d more)

-- the members that the first so many of a stack are: a name stands before its value, and the last member first
unfoldable pub members_from : ℕ → List Data → Members
members_from zero stack = no_members
members_from (suc zero) stack = no_members
members_from (suc (suc n)) [] = no_members
members_from (suc (suc n)) (name ∷ []) = no_members
members_from (suc (suc n)) (name ∷ value ∷ stack) = put (text_in name) value (members_from n stack)

-- how many of the values before a node are inside it
abbrev pub inside : Node → ℕ
inside Null = 0
inside (Truth b) = 0
inside (Number n) = 0
inside (Text s) = 0
inside (Array n) = n
inside (Object n) = n

-- the stack of values after one more node
abbrev pub onto : List Data → Node → List Data
onto stack Null = null ∷ stack
onto stack (Truth b) = boolean b ∷ stack
onto stack (Number n) = number (number_view n) ∷ stack
onto stack (Text s) = string s.now ∷ stack
onto stack (Array n) = array (items_from n stack no_items) ∷ drop n stack
onto stack (Object n) = object (members_from n stack) ∷ drop n stack

-- the values that nodes are, without those inside others; the last is the first
unfoldable pub values_of : List Node → List Data
values_of nodes = fold onto [] nodes

-- the first of a stack, and null if it is empty
abbrev pub top : List Data → Data
top [] = null
top (d ∷ stack) = d

-- the last value that nodes are
abbrev pub value_of : List Node → Data
value_of nodes = top (values_of nodes)
