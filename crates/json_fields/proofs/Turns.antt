-- A turn of the grammar's loops, seen as data: what comes of it depends only on the data that was read, and on what follows.
use Rattle.std.proofs.Common.{◌≡◌, ℕ, zero, suc, ◌≤◌, List, [], ◌∷◌, length, Option, Some, None, option_map, option_and_then, refl, ap, ◌∙◌}
use Rattle.json.specs.Token.{Token}
use Rattle.json.specs.Json as json
use Rattle.json.specs.Json.{Parse, parse_map, after_end_array, read_key, items_step, members_step, items, members, value, if_last}
use Rattle.json.proofs.Grammar.{items_end, members_end, members_no_key}
use Rattle.serde_json.specs.Data.{Data, array, object, Items, no_items, item, Members, no_members, put}
use Rattle.serde_json.specs.Read.{of_json, of_items, of_members, converted}

-- ---- the first token

-- what tokens are of which the first is of this kind
pub value_from : {A : Type 0} (token : A → Token) (depth : ℕ) (ts us : List Token) (a b : A) → ts ≡ token a ∷ us → a ≡ b
    → converted of_json (value depth ts) ≡ converted of_json (value depth (token b ∷ us))
value_from token depth ts us a b first is = ap (λ l. converted of_json (value depth l)) (first ∙ ap (λ x. token x ∷ us) is)

-- ---- data with what follows it

abbrev Rest : Type 0 → Type 0
Rest A = Option (A × List Token)

paired : {A B : Type 0} (g : A → B) (rest : List Token) (x : Option A)
    → option_map (λ b. (b, rest)) (option_map g x) ≡ parse_map g (option_map (λ a. (a, rest)) x)
paired g rest None = refl
paired g rest (Some a) = refl

pub in_array : (o : Rest json.Items) → converted of_json (parse_map json.array o) ≡ parse_map array (converted of_items o)
in_array None = refl
in_array (Some q) = paired array q.1 (of_items q.0)

pub in_object : (o : Rest json.Members)
    → converted of_json (parse_map json.object o) ≡ parse_map object (converted (λ ms. of_members ms no_members) o)
in_object None = refl
in_object (Some q) = paired object q.1 (of_members q.0 no_members)

-- ---- items

-- an item, and then the others
abbrev then_items : Parse Items → Rest Data → Rest Items
then_items more first = option_and_then (λ q. parse_map (item q.0) (more q.1)) first

before_items : (j : json.Json) (rest : List Token) (o : Rest json.Items) (x : Option Data) → of_json j ≡ x
    → converted of_items (parse_map (json.item j) o) ≡ then_items (λ _. converted of_items o) (option_map (λ d. (d, rest)) x)
before_items j rest None None is = refl
before_items j rest None (Some d) is = refl
before_items j rest (Some q) None is = rw is refl
before_items j rest (Some q) (Some d) is = rw is (paired (item d) q.1 (of_items q.0))

same_items : (more : Parse Items) (rest : List Token) (x : Option Data)
    → then_items (λ _. more rest) (option_map (λ d. (d, rest)) x) ≡ then_items more (option_map (λ d. (d, rest)) x)
same_items more rest None = refl
same_items more rest (Some d) = refl

items_turn : (more : Parse json.Items) (o : Rest json.Json)
    → converted of_items (option_and_then (λ q. parse_map (json.item q.0) (more q.1)) o)
    ≡ then_items (λ ts. converted of_items (more ts)) (converted of_json o)
items_turn more None = refl
items_turn more (Some q) =
    before_items q.0 q.1 (more q.1) (of_json q.0) refl ∙ same_items (λ ts. converted of_items (more ts)) q.1 (of_json q.0)

-- ---- members

-- a member of this name after these, and then the others
abbrev then_members : List ℕ → Members → Parse json.Members → Rest Data → Rest Members
then_members name old more first = option_and_then (λ q. converted (λ ms. of_members ms (put name q.0 old)) (more q.1)) first

before_members : (name : List ℕ) (old : Members) (j : json.Json) (rest : List Token) (o : Rest json.Members) (x : Option Data) → of_json j ≡ x
    → converted (λ ms. of_members ms old) (parse_map (json.member name j) o)
    ≡ then_members name old (λ _. o) (option_map (λ d. (d, rest)) x)
before_members name old j rest None None is = refl
before_members name old j rest None (Some d) is = refl
before_members name old j rest (Some q) None is = rw is refl
before_members name old j rest (Some q) (Some d) is = rw is refl

same_members : (name : List ℕ) (old : Members) (more : Parse json.Members) (rest : List Token) (x : Option Data)
    → then_members name old (λ _. more rest) (option_map (λ d. (d, rest)) x) ≡ then_members name old more (option_map (λ d. (d, rest)) x)
same_members name old more rest None = refl
same_members name old more rest (Some d) = refl

members_turn : (name : List ℕ) (old : Members) (more : Parse json.Members) (o : Rest json.Json)
    → converted (λ ms. of_members ms old) (option_and_then (λ q. parse_map (json.member name q.0) (more q.1)) o)
    ≡ then_members name old more (converted of_json o)
members_turn name old more None = refl
members_turn name old more (Some q) =
    before_members name old q.0 q.1 (more q.1) (of_json q.0) refl ∙ same_members name old more q.1 (of_json q.0)

-- ---- the loops

module _ (p : Parse json.Json) where
  items_going : (n : ℕ) (ts : List Token) → after_end_array ts ≡ None
      → converted of_items (items p (suc n) ts) ≡ then_items (λ us. converted of_items (items p n us)) (converted of_json (p ts))
  unfolding items
  items_going n ts going =
      ap (λ o. converted of_items (items_step p (items p n) ts o)) going ∙ items_turn (items p n) (p ts)

  pub next_item : (n m : ℕ) (ts rest : List Token) (d : Data) → n ≡ suc m → after_end_array ts ≡ None → converted of_json (p ts) ≡ Some (d, rest)
      → converted of_items (items p n ts) ≡ parse_map (item d) (converted of_items (items p m rest))
  next_item n m ts rest d more going is =
      ap (λ k. converted of_items (items p k ts)) more ∙ items_going m ts going
      ∙ ap (then_items (λ us. converted of_items (items p m us))) is

  pub no_next_item : (n : ℕ) (ts : List Token) → after_end_array ts ≡ None → converted of_json (p ts) ≡ None → converted of_items (items p n ts) ≡ None
  unfolding items
  no_next_item zero ts going none = refl
  no_next_item (suc n) ts going none =
      items_going n ts going ∙ ap (then_items (λ us. converted of_items (items p n us))) none

  pub after_items : (n : ℕ) (ts rest : List Token) → length ts ≤ n → after_end_array ts ≡ Some rest → converted of_items (items p n ts) ≡ Some (no_items, rest)
  after_items n ts rest enough ends = ap (converted of_items) (items_end p n ts rest enough ends)

  module _ (old : Members) where
    members_going : (n : ℕ) (name : List ℕ) (ts us : List Token) → read_key ts ≡ Some (Some name, us)
        → converted (λ ms. of_members ms old) (members p (suc n) ts) ≡ then_members name old (members p n) (converted of_json (p us))
    unfolding members
    members_going n name ts us key =
        ap (λ o. converted (λ ms. of_members ms old) (option_and_then (λ q. members_step p (members p n) q.0 q.1) o)) key
        ∙ members_turn name old (members p n) (p us)

    pub next_member : (n m : ℕ) (name : List ℕ) (ts us rest : List Token) (d : Data) → n ≡ suc m → read_key ts ≡ Some (Some name, us)
        → converted of_json (p us) ≡ Some (d, rest)
        → converted (λ ms. of_members ms old) (members p n ts) ≡ converted (λ ms. of_members ms (put name d old)) (members p m rest)
    next_member n m name ts us rest d more key is =
        ap (λ k. converted (λ ms. of_members ms old) (members p k ts)) more ∙ members_going m name ts us key
        ∙ ap (then_members name old (members p m)) is

    pub no_next_member : (n : ℕ) (name : List ℕ) (ts us : List Token) → read_key ts ≡ Some (Some name, us) → converted of_json (p us) ≡ None
        → converted (λ ms. of_members ms old) (members p n ts) ≡ None
    unfolding members
    no_next_member zero name ts us key none = refl
    no_next_member (suc n) name ts us key none =
        members_going n name ts us key ∙ ap (then_members name old (members p n)) none

    pub no_key : (n : ℕ) (ts : List Token) → read_key ts ≡ None → converted (λ ms. of_members ms old) (members p n ts) ≡ None
    no_key n ts none = ap (converted (λ ms. of_members ms old)) (members_no_key p n ts none)

    pub after_members : (n : ℕ) (ts rest : List Token) → length ts ≤ n → read_key ts ≡ Some (None, rest)
        → converted (λ ms. of_members ms old) (members p n ts) ≡ Some (old, rest)
    after_members n ts rest enough ends = ap (converted (λ ms. of_members ms old)) (members_end p n ts rest enough ends)

-- ---- the whole text

-- the data, if nothing follows it
abbrev alone : Rest Data → Option Data
alone None = None
alone (Some (d, [])) = Some d
alone (Some (d, t ∷ rest)) = None

abbrev pub read_alone : Rest json.Json → Option Data
read_alone o = option_and_then of_json (option_and_then (λ q. if_last q.0 q.1) o)

read_alone_is : (o : Rest json.Json) → read_alone o ≡ alone (converted of_json o)
read_alone_is None = refl
read_alone_is (Some (j, [])) = one (of_json j)
  where
    one : (x : Option Data) → x ≡ alone (option_map (λ d. (d, [])) x)
    one None = refl
    one (Some d) = refl
read_alone_is (Some (j, t ∷ rest)) = none (of_json j)
  where
    none : (x : Option Data) → None ≡ alone (option_map (λ d. (d, t ∷ rest)) x)
    none None = refl
    none (Some d) = refl

pub text_read : (o : Rest json.Json) (d : Data) → converted of_json o ≡ Some (d, []) → read_alone o ≡ Some d
text_read o d is = read_alone_is o ∙ ap alone is

pub text_and_more : (o : Rest json.Json) (d : Data) (t : Token) (rest : List Token) → converted of_json o ≡ Some (d, t ∷ rest) → read_alone o ≡ None
text_and_more o d t rest is = read_alone_is o ∙ ap alone is

pub text_refused : (o : Rest json.Json) → converted of_json o ≡ None → read_alone o ≡ None
text_refused o none = read_alone_is o ∙ ap alone none
