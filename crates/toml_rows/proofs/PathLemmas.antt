-- A path, one key after the other.
use Rattle.std.proofs.Common.{◌≡◌, ℕ, List, [], ◌∷◌, ◌++◌, Option, Some, None, option_map, option_and_then, refl, sym, ap, ◌∙◌}
use Rattle.toml.specs.Tables.{Node, Nodes, no_nodes, value, open_table, open_array, implicit, dotted, header, get_node, insert, replace, Edit, by_dot, along_header, along_dots}
use Rattle.toml.proofs.NodeLaws.{seq, get_node-insert, get_node-replace, replace-insert, replace-replace, along_found, along_missing, along_seq, along_append, by_header-same}
use Rattle.toml_rows.specs.Reading.{mark_header, mark_dots, pass_header, pass_dots}

-- edits with the same answers
pub along_same : (p : List (List ℕ)) (e f : Edit) → ((n : Nodes) → e n ≡ f n) → (ns : Nodes) → along_header p e ns ≡ along_header p f ns
unfolding along_header
along_same [] e f same ns = same ns
along_same (k ∷ p) e f same ns = by_header-same k _ _ ns (get_node k ns) (λ n. along_same p e f same n)

insert_twice : (k : List ℕ) (w : Nodes → Node) (x : Node) (ns : Nodes) (o : Option Nodes)
    → option_map (λ new. insert k (w new) ns) o ≡ option_map (λ new. replace k new (insert k x ns)) (option_map w o)
insert_twice k w x ns None = refl
insert_twice k w x ns (Some new) = ap Some (sym (replace-insert k x (w new) ns))

replace_twice : (k : List ℕ) (w : Nodes → Node) (x : Node) (ns : Nodes) (o : Option Nodes)
    → option_map (λ new. replace k new ns) (option_map w o) ≡ option_map (λ new. replace k new (replace k x ns)) (option_map w o)
replace_twice k w x ns None = refl
replace_twice k w x ns (Some new) = ap Some (sym (replace-replace k x (w new) ns))

-- a header's path by its first key
header_by : (k : List ℕ) (rest : List (List ℕ)) (edit : Edit) (ns : Nodes) (o : Option Node) → get_node k ns ≡ o
    → along_header (k ∷ rest) edit ns ≡ option_and_then (along_header (k ∷ []) (along_header rest edit)) (pass_header k ns o)
unfolding along_header
header_by k rest edit ns None is =
    let made = insert k (open_table implicit no_nodes) ns in
    along_missing k rest edit ns is
    ∙ insert_twice k (open_table implicit) (open_table implicit no_nodes) ns (along_header rest edit no_nodes)
    ∙ sym (along_found k [] (along_header rest edit) made (open_table implicit no_nodes) (get_node-insert k (open_table implicit no_nodes) ns))
header_by k rest edit ns (Some (value d)) is = along_found k rest edit ns (value d) is
header_by k rest edit ns (Some (open_table o inner)) is =
    along_found k rest edit ns (open_table o inner) is ∙ sym (along_found k [] (along_header rest edit) ns (open_table o inner) is)
header_by k rest edit ns (Some (open_array done last)) is =
    along_found k rest edit ns (open_array done last) is ∙ sym (along_found k [] (along_header rest edit) ns (open_array done last) is)

pub header_mark : (k : List ℕ) (rest : List (List ℕ)) (edit : Edit) (ns : Nodes)
    → along_header (k ∷ rest) edit ns ≡ seq (mark_header k) (along_header (k ∷ []) (along_header rest edit)) ns
unfolding mark_header
header_mark k rest edit ns = header_by k rest edit ns (get_node k ns) refl

dots_found : (k : List ℕ) (rest : List (List ℕ)) (edit : Edit) (ns : Nodes) (o : Option Node) → get_node k ns ≡ o
    → along_dots (k ∷ rest) edit ns ≡ by_dot k (along_dots rest edit) ns o
unfolding along_dots
dots_found k rest edit ns o is = ap (by_dot k (along_dots rest edit) ns) is

-- a dotted path by its first key
dots_by : (k : List ℕ) (rest : List (List ℕ)) (edit : Edit) (ns : Nodes) (o : Option Node) → get_node k ns ≡ o
    → along_dots (k ∷ rest) edit ns ≡ option_and_then (along_header (k ∷ []) (along_dots rest edit)) (pass_dots k ns o)
unfolding along_header
dots_by k rest edit ns None is =
    let made = insert k (open_table dotted no_nodes) ns in
    dots_found k rest edit ns None is
    ∙ insert_twice k (open_table dotted) (open_table dotted no_nodes) ns (along_dots rest edit no_nodes)
    ∙ sym (along_found k [] (along_dots rest edit) made (open_table dotted no_nodes) (get_node-insert k (open_table dotted no_nodes) ns))
dots_by k rest edit ns (Some (value d)) is = dots_found k rest edit ns (Some (value d)) is
dots_by k rest edit ns (Some (open_table header inner)) is = dots_found k rest edit ns (Some (open_table header inner)) is
dots_by k rest edit ns (Some (open_table implicit inner)) is =
    let made = replace k (open_table dotted inner) ns in
    dots_found k rest edit ns (Some (open_table implicit inner)) is
    ∙ replace_twice k (open_table dotted) (open_table dotted inner) ns (along_dots rest edit inner)
    ∙ sym (along_found k [] (along_dots rest edit) made (open_table dotted inner) (get_node-replace k (open_table dotted inner) ns _ is))
dots_by k rest edit ns (Some (open_table dotted inner)) is =
    dots_found k rest edit ns (Some (open_table dotted inner)) is ∙ sym (along_found k [] (along_dots rest edit) ns (open_table dotted inner) is)
dots_by k rest edit ns (Some (open_array done last)) is = dots_found k rest edit ns (Some (open_array done last)) is

pub dots_mark : (k : List ℕ) (rest : List (List ℕ)) (edit : Edit) (ns : Nodes)
    → along_dots (k ∷ rest) edit ns ≡ seq (mark_dots k) (along_header (k ∷ []) (along_dots rest edit)) ns
unfolding mark_dots
dots_mark k rest edit ns = dots_by k rest edit ns (get_node k ns) refl

-- a mark, and the rest from there
more : (p : List (List ℕ)) (k : List ℕ) (mark whole rest : Edit) (old new : Nodes)
    → ((ns : Nodes) → whole ns ≡ seq mark (along_header (k ∷ []) rest) ns) → along_header p mark old ≡ Some new
    → along_header p whole old ≡ along_header (p ++ k ∷ []) rest new
more p k mark whole rest old new same marked =
    along_same p whole (seq mark (along_header (k ∷ []) rest)) same old
    ∙ along_seq p mark (along_header (k ∷ []) rest) old
    ∙ ap (option_and_then (along_header p (along_header (k ∷ []) rest))) marked
    ∙ sym (along_append p (k ∷ []) rest new)

pub header_more : (p : List (List ℕ)) (k : List ℕ) (rest : List (List ℕ)) (edit : Edit) (old new : Nodes) → along_header p (mark_header k) old ≡ Some new
    → along_header p (along_header (k ∷ rest) edit) old ≡ along_header (p ++ k ∷ []) (along_header rest edit) new
header_more p k rest edit old new marked =
    more p k (mark_header k) (along_header (k ∷ rest) edit) (along_header rest edit) old new (header_mark k rest edit) marked

pub dots_more : (p : List (List ℕ)) (k : List ℕ) (rest : List (List ℕ)) (edit : Edit) (old new : Nodes) → along_header p (mark_dots k) old ≡ Some new
    → along_header p (along_dots (k ∷ rest) edit) old ≡ along_header (p ++ k ∷ []) (along_dots rest edit) new
dots_more p k rest edit old new marked =
    more p k (mark_dots k) (along_dots (k ∷ rest) edit) (along_dots rest edit) old new (dots_mark k rest edit) marked

pub header_refused : (k : List ℕ) (rest : List (List ℕ)) (edit : Edit) (ns : Nodes) → mark_header k ns ≡ None → along_header (k ∷ rest) edit ns ≡ None
header_refused k rest edit ns h = header_mark k rest edit ns ∙ ap (option_and_then (along_header (k ∷ []) (along_header rest edit))) h

pub dots_refused : (k : List ℕ) (rest : List (List ℕ)) (edit : Edit) (ns : Nodes) → mark_dots k ns ≡ None → along_dots (k ∷ rest) edit ns ≡ None
dots_refused k rest edit ns h = dots_mark k rest edit ns ∙ ap (option_and_then (along_header (k ∷ []) (along_dots rest edit))) h
