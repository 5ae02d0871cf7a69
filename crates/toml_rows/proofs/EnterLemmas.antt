-- One key of a path: what the row stands for after it.
use Rattle.std.proofs.Common.{◌≡◌, ℕ, ◌<◌, true, false, List, [], ◌∷◌, ◌++◌, length, Some, None, Result, Ok, Err, MatchResult, append_assoc, refl, sym, ap, ◌∙◌, subst, arith, inl, inr, ◌⊎◌}
use Rattle.std.proofs.lemmas.Bool.{cases_eq}
use Rattle.std.proofs.lemmas.List.{append-nil}
use Rattle.std.specs.Result.{IsErrAnd}
use Rattle.toml_parser.specs.declared.error.ParseError.{ParseError}
use Rattle.toml_parser.specs.declared.error.ParseError.TheVariants.{OutOfMemory}
use Rattle.toml_rows.proofs.PathLemmas.{along_same, header_more, dots_more}
use Rattle.toml.specs.Data.{Data, Items}
use Rattle.toml.specs.Tables.{Nodes, get_node, insert, replace, Edit, along_header, along_dots}
use Rattle.toml_rows.specs.declared.row.What.{What}
use Rattle.toml_rows.specs.declared.row.What.TheVariants.{Value, Implicit, Dotted, Header, Tables, Element}
use Rattle.toml_rows.specs.Rows.{is_key, is_open, is_table, is_plain, inside, Row, HasKey, Adds, Puts}
use Rattle.toml_rows.specs.Tables.{node_of, IsTold, Leads, step}
use Rattle.toml_rows.specs.Reading.{datum_of, Holds, Entered, Keeps, mark_header, mark_dots, pass_header, pass_dots, is_dots}
use Rattle.toml_rows.proofs.TableLemmas.{climb, leads_within, agree, fall}
use Rattle.toml_rows.proofs.ChangeLemmas.{fresh, added, leads_grown, new_key, replaced, leads_set, table_open, table_inside}
use Rattle.toml_rows.proofs.RowLemmas.{found_put}

-- ---- marks

module _ (datum : ℕ → Data) (f : ℕ → Nodes) (d : ℕ → Items) (i : ℕ) (k : List ℕ) (ns : Nodes) where
  header_passes : (w : What) → is_open w ≡ true → pass_header k ns (Some (node_of datum f d i w)) ≡ Some ns
  header_passes (Value v) opens = absurd cc
  header_passes Implicit opens = refl
  header_passes Dotted opens = refl
  header_passes Header opens = refl
  header_passes (Tables l) opens = refl
  header_passes (Element b) opens = absurd cc

  header_stops : (w : What) → is_open w ≡ false → pass_header k ns (Some (node_of datum f d i w)) ≡ None
  header_stops (Value v) opens = refl
  header_stops Implicit opens = absurd cc
  header_stops Dotted opens = absurd cc
  header_stops Header opens = absurd cc
  header_stops (Tables l) opens = absurd cc
  header_stops (Element b) opens = refl

  dots_stop : (w : What) → is_dots w ≡ false → pass_dots k ns (Some (node_of datum f d i w)) ≡ None
  dots_stop (Value v) no_dots = refl
  dots_stop Implicit no_dots = absurd cc
  dots_stop Dotted no_dots = absurd cc
  dots_stop Header no_dots = refl
  dots_stop (Tables l) no_dots = refl
  dots_stop (Element b) no_dots = refl

  pub mark_passes : (w : What) → get_node k ns ≡ Some (node_of datum f d i w) → is_open w ≡ true → mark_header k ns ≡ Some ns
  unfolding mark_header
  mark_passes w is opens = ap (pass_header k ns) is ∙ header_passes w opens

  pub mark_stops : (w : What) → get_node k ns ≡ Some (node_of datum f d i w) → is_open w ≡ false → mark_header k ns ≡ None
  unfolding mark_header
  mark_stops w is opens = ap (pass_header k ns) is ∙ header_stops w opens

  pub mark_dotted : (w : What) → get_node k ns ≡ Some (node_of datum f d i w) → w ≡ Dotted → mark_dots k ns ≡ Some ns
  unfolding mark_dots
  mark_dotted w is dots = ap (pass_dots k ns) (is ∙ ap (λ v. Some (node_of datum f d i v)) dots)

  pub mark_implicit : (w : What) → get_node k ns ≡ Some (node_of datum f d i w) → w ≡ Implicit → mark_dots k ns ≡ Some (replace k (node_of datum f d i Dotted) ns)
  unfolding mark_dots
  mark_implicit w is dots = ap (pass_dots k ns) (is ∙ ap (λ v. Some (node_of datum f d i v)) dots)

  pub mark_no_dots : (w : What) → get_node k ns ≡ Some (node_of datum f d i w) → is_dots w ≡ false → mark_dots k ns ≡ None
  unfolding mark_dots
  mark_no_dots w is no_dots = ap (pass_dots k ns) is ∙ dots_stop w no_dots

pub mark_new_header : (datum : ℕ → Data) (k : List ℕ) (ns : Nodes) → get_node k ns ≡ None → mark_header k ns ≡ Some (insert k (fresh datum Implicit) ns)
unfolding mark_header
mark_new_header datum k ns is = ap (pass_header k ns) is

pub mark_new_dots : (datum : ℕ → Data) (k : List ℕ) (ns : Nodes) → get_node k ns ≡ None → mark_dots k ns ≡ Some (insert k (fresh datum Dotted) ns)
unfolding mark_dots
mark_new_dots datum k ns is = ap (pass_dots k ns) is

module _ (depth : ℕ) (old : Row) (f : ℕ → Nodes) (d : ℕ → Items) (p : List (List ℕ)) (t : ℕ) (holds : Holds depth old f d) (leads : Leads old p t) where
  pub told_at : (i : ℕ) (k : List ℕ) → HasKey old i t k → get_node k (f t) ≡ Some (node_of (datum_of depth old.values) f d i (old.what i))
  told_at i k has = let told = holds.told in told.there i t k has

  pub gone_at : (k : List ℕ) → ((i : ℕ) → ¬ HasKey old i t k) → get_node k (f t) ≡ None
  gone_at k nothing = let told = holds.told in told.gone t k nothing

  -- what the rules refuse at the end of the path
  pub refused_at : (edit : Edit) → edit (f t) ≡ None → along_header p edit (f 0) ≡ None
  refused_at edit h = fall (datum_of depth old.values) old holds.tree d leads f holds.told edit h

  pub agree_at : (e e' : Edit) → e (f t) ≡ e' (f t) → along_header p e (f 0) ≡ along_header p e' (f 0)
  agree_at e e' h = agree (datum_of depth old.values) old holds.tree d leads f holds.told e e' h

  pub keeps_same : Keeps old old
  keeps_same q s there = there

  pub leads_in : (i : ℕ) (k : List ℕ) → HasKey old i t k → is_open (old.what i) ≡ true → Leads old (p ++ k ∷ []) (inside i (old.what i))
  leads_in i k has opens = step i k leads has opens

  -- an edit that changes nothing
  pub still : (edit : Edit) → edit (f t) ≡ Some (f t) → (q : List (List ℕ)) (s : ℕ) → Leads old q s
      → Entered depth old q s (λ top. along_header p edit (f 0) ≡ Some top)
  still edit h q s there =
      let c = climb (datum_of depth old.values) old holds.tree d leads f f holds.told (λ s other. refl) in
      record {
        tables = c.tables;
        elements = d;
        holds = record { tree = holds.tree; told = c.told; found = holds.found; values = holds.values };
        leads = there;
        is = c.edits edit h;
      }

  -- ---- a new key

  module _ (new : Row) (k : List ℕ) (w : What) (n : ℕ) (adds : Adds old new t k w n) (free : (i : ℕ) → ¬ HasKey old i t k) (plain : is_plain w ≡ true) where
    pub keeps_add : Keeps old new
    keeps_add q s there = leads_grown old new t k w adds.grows there

    values_add : ((v : ℕ) → w ≡ Value v → v < length old.values) → (i v : ℕ) → i < new.count → new.what i ≡ Value v → v < length new.values
    values_add small i v low is =
        let g = adds.grows in
        elim (cases_eq i old.count) [
          | inl here ↦ rw g.values (small v (sym g.what ∙ ap new.what (sym here) ∙ is))
          | inr other ↦
              let low' : i < old.count = omega (arith, g.count) in
              rw g.values (holds.values i v low' (sym (g.whats i low') ∙ is))
        ]

    -- the edit that inserts it
    pub inserted : ((v : ℕ) → w ≡ Value v → v < length old.values) → (edit : Edit)
        → edit (f t) ≡ Some (insert k (fresh (datum_of depth old.values) w) (f t)) → (q : List (List ℕ)) (s : ℕ) → Leads new q s
        → Entered depth new q s (λ top. along_header p edit (f 0) ≡ Some top)
    inserted small edit h q s there =
        let g = adds.grows in
        let c = added old new t k w adds.grows plain holds.tree adds.small (leads_within old holds.tree leads) free
        (datum_of depth old.values) f d holds.told leads in
        let e = c.climbed in
        let same : datum_of depth new.values ≡ datum_of depth old.values = ap (datum_of depth) g.values in
        let P : (ℕ → Data) → Type 0 = λ x. IsTold x new e.tables e.tables c.elements in
        record {
          tables = e.tables;
          elements = c.elements;
          holds = record { tree = c.tree; told = subst P (sym same) e.told; found = adds.found; values = values_add small };
          leads = there;
          is = e.edits edit h;
        }

    pub leads_new : is_open w ≡ true → inside n w ≡ n → Leads new (p ++ k ∷ []) n
    leads_new opens own =
        let g = adds.grows in
        let number : n ≡ old.count = adds.number in
        let e : new.what old.count ≡ w = g.what in
        let s = step old.count k (keeps_add p t leads) (new_key old new t k w adds.grows plain) (ap is_open e ∙ opens) in
        let P : ℕ → Type 0 = λ m. Leads new (p ++ k ∷ []) m in
        subst P (ap (inside old.count) e ∙ ap (λ m. inside m w) (sym number) ∙ own) s

  -- ---- another word at a key

  module _ (new : Row) (at : ℕ) (k : List ℕ) (w : What) (puts : Puts old new at w) (has : HasKey old at t k)
      (was : is_table (old.what at) ≡ true) (is : is_table w ≡ true) (key : is_key (old.what at) ≡ is_key w) where
    pub keeps_put : Keeps old new
    keeps_put q s there = leads_set old new at t k w puts.sets has was is there

    values_put : (i v : ℕ) → i < new.count → new.what i ≡ Value v → v < length new.values
    values_put i v low e =
        let s = puts.sets in
        let low' : i < old.count = omega (arith, s.count) in
        elim (cases_eq i at) [
          | inl here ↦ let no_table : is_table (Value v) ≡ true = ap is_table (sym e ∙ ap new.what here ∙ s.what) ∙ is in absurd cc
          | inr other ↦ rw s.values (holds.values i v low' (sym (s.whats i low' other) ∙ e))
        ]

    pub put_there : (edit : Edit) → edit (f t) ≡ Some (replace k (node_of (datum_of depth old.values) f d at w) (f t))
        → (q : List (List ℕ)) (s : ℕ) → Leads new q s → Entered depth new q s (λ top. along_header p edit (f 0) ≡ Some top)
    put_there edit h q s there =
        let sets = puts.sets in
        let c = replaced old new at t k w puts.sets has was is holds.tree (datum_of depth old.values) f d holds.told leads in
        let e = c.climbed in
        let same : datum_of depth new.values ≡ datum_of depth old.values = ap (datum_of depth) sets.values in
        let P : (ℕ → Data) → Type 0 = λ x. IsTold x new e.tables e.tables c.elements in
        record {
          tables = e.tables;
          elements = c.elements;
          holds = record { tree = c.tree; told = subst P (sym same) e.told; found = found_put old new at w puts key holds.found; values = values_put };
          leads = there;
          is = e.edits edit h;
        }

    pub leads_put : Leads new (p ++ k ∷ []) at
    leads_put =
        let P : ℕ → Type 0 = λ m. Leads old (p ++ k ∷ []) m in
        keeps_put (p ++ k ∷ []) at (subst P (table_inside at (old.what at) was) (step at k leads has (table_open (old.what at) was)))

-- an error that a `?` passes on
pub match_err : {A : Type 0} (r : Result A ParseError) (P : A → Type 0) (R : Type 0) (e : ParseError) (Q : ParseError → Type 0)
    → IsErrAnd r Q → ((y : ParseError) → Q y → y ≡ e) → (¬ (e ≡ OutOfMemory) → R) → MatchResult r P (λ y. ¬ (y ≡ OutOfMemory) → R)
match_err (Ok a) P R e Q h same refused = absurd h
match_err (Err y) P R e Q h same refused = λ other. refused (λ m. other (same y h ∙ m))

-- ---- one step of a path

module _ (depth : ℕ) (old : Row) (f : ℕ → Nodes) (d : ℕ → Items) (p : List (List ℕ)) (t : ℕ) (holds : Holds depth old f d) (leads : Leads old p t) (k : List ℕ) where
  pub header_found : (i s : ℕ) → HasKey old i t k → is_open (old.what i) ≡ true → s ≡ inside i (old.what i)
      → Keeps old old × Entered depth old (p ++ k ∷ []) s (λ top. along_header p (mark_header k) (f 0) ≡ Some top)
  header_found i s has opens is =
      let P : ℕ → Type 0 = λ m. Leads old (p ++ k ∷ []) m in (
        (λ q s there. there),
        still depth old f d p t holds leads (mark_header k)
            (mark_passes (datum_of depth old.values) f d i k (f t) (old.what i) (told_at depth old f d p t holds leads i k has) opens)
            (p ++ k ∷ []) s (subst P (sym is) (step i k leads has opens)),
      )

  pub header_stopped : (i : ℕ) → HasKey old i t k → is_open (old.what i) ≡ false → mark_header k (f t) ≡ None
  header_stopped i has opens =
      mark_stops (datum_of depth old.values) f d i k (f t) (old.what i) (told_at depth old f d p t holds leads i k has) opens

  pub dots_stopped : (i : ℕ) → HasKey old i t k → is_dots (old.what i) ≡ false → mark_dots k (f t) ≡ None
  dots_stopped i has no_dots =
      mark_no_dots (datum_of depth old.values) f d i k (f t) (old.what i) (told_at depth old f d p t holds leads i k has) no_dots

  pub header_new : (new : Row) (n : ℕ) → Adds old new t k Implicit n → ((i : ℕ) → ¬ HasKey old i t k)
      → Keeps old new × Entered depth new (p ++ k ∷ []) n (λ top. along_header p (mark_header k) (f 0) ≡ Some top)
  header_new new n adds nothing = (
    keeps_add depth old f d p t holds leads new k Implicit n adds nothing refl,
    inserted depth old f d p t holds leads new k Implicit n adds nothing refl (λ v is. absurd cc) (mark_header k)
        (mark_new_header (datum_of depth old.values) k (f t) (gone_at depth old f d p t holds leads k nothing))
        (p ++ k ∷ []) n (leads_new depth old f d p t holds leads new k Implicit n adds nothing refl refl refl),
  )

  pub dots_new : (new : Row) (n : ℕ) → Adds old new t k Dotted n → ((i : ℕ) → ¬ HasKey old i t k)
      → Keeps old new × Entered depth new (p ++ k ∷ []) n (λ top. along_header p (mark_dots k) (f 0) ≡ Some top)
  dots_new new n adds nothing = (
    keeps_add depth old f d p t holds leads new k Dotted n adds nothing refl,
    inserted depth old f d p t holds leads new k Dotted n adds nothing refl (λ v is. absurd cc) (mark_dots k)
        (mark_new_dots (datum_of depth old.values) k (f t) (gone_at depth old f d p t holds leads k nothing))
        (p ++ k ∷ []) n (leads_new depth old f d p t holds leads new k Dotted n adds nothing refl refl refl),
  )

  dots_here : (i : ℕ) → HasKey old i t k → old.what i ≡ Dotted
      → Keeps old old × Entered depth old (p ++ k ∷ []) i (λ top. along_header p (mark_dots k) (f 0) ≡ Some top)
  dots_here i has dots =
      let opens : is_open (old.what i) ≡ true = ap is_open dots in
      let own : inside i (old.what i) ≡ i = ap (inside i) dots in
      let P : ℕ → Type 0 = λ m. Leads old (p ++ k ∷ []) m in (
        (λ q s there. there),
        still depth old f d p t holds leads (mark_dots k)
            (mark_dotted (datum_of depth old.values) f d i k (f t) (old.what i) (told_at depth old f d p t holds leads i k has) dots)
            (p ++ k ∷ []) i (subst P own (step i k leads has opens)),
      )

  dots_put : (new : Row) (i : ℕ) → HasKey old i t k → old.what i ≡ Implicit → Puts old new i Dotted
      → Keeps old new × Entered depth new (p ++ k ∷ []) i (λ top. along_header p (mark_dots k) (f 0) ≡ Some top)
  dots_put new i has was puts =
      let table : is_table (old.what i) ≡ true = ap is_table was in
      let key : is_key (old.what i) ≡ true = ap is_key was in (
        keeps_put depth old f d p t holds leads new i k Dotted puts has table refl key,
        put_there depth old f d p t holds leads new i k Dotted puts has table refl key (mark_dots k)
            (mark_implicit (datum_of depth old.values) f d i k (f t) (old.what i) (told_at depth old f d p t holds leads i k has) was)
            (p ++ k ∷ []) i (leads_put depth old f d p t holds leads new i k Dotted puts has table refl key),
      )

  pub dots_found : (new : Row) (i s : ℕ) → HasKey old i t k → s ≡ i
      → ((old.what i ≡ Dotted) × (new ≡ old)) ⊎ ((old.what i ≡ Implicit) × Puts old new i Dotted)
      → Keeps old new × Entered depth new (p ++ k ∷ []) s (λ top. along_header p (mark_dots k) (f 0) ≡ Some top)
  dots_found new i s has is how =
      let P : ℕ → Type 0 = λ m. Keeps old new × Entered depth new (p ++ k ∷ []) m (λ top. along_header p (mark_dots k) (f 0) ≡ Some top) in
      subst P (sym is) (elim how [
        | inl here ↦
            let R : Row → Type 0 = λ row. Keeps old row × Entered depth row (p ++ k ∷ []) i (λ top. along_header p (mark_dots k) (f 0) ≡ Some top) in
            subst R (sym here.1) (dots_here i has here.0)
        | inr there ↦ dots_put new i has there.0 there.1
      ])

-- ---- a whole path

module _ (depth : ℕ) (old : Row) (f : ℕ → Nodes) (d : ℕ → Items) (p : List (List ℕ)) (t : ℕ) (holds : Holds depth old f d) (leads : Leads old p t) where
  pub path_over : (walk : Edit → Edit) → ((edit : Edit) (ns : Nodes) → walk edit ns ≡ edit ns)
      → Keeps old old × Entered depth old (p ++ []) t (λ top. (edit : Edit) → along_header p (walk edit) (f 0) ≡ along_header (p ++ []) edit top)
  path_over walk same =
      let P : List (List ℕ) → Type 0 = λ q. Leads old q t in (
        (λ q s there. there),
        record {
          tables = f;
          elements = d;
          holds = holds;
          leads = subst P (sym (append-nil p)) leads;
          is = λ edit. along_same p (walk edit) edit (same edit) (f 0) ∙ ap (λ q. along_header q edit (f 0)) (sym (append-nil p));
        },
      )

  pub header_over : (path : List (List ℕ)) → path ≡ []
      → Keeps old old × Entered depth old (p ++ path) t (λ top. (edit : Edit) → along_header p (along_header path edit) (f 0) ≡ along_header (p ++ path) edit top)
  unfolding along_header
  header_over path is =
      let P : List (List ℕ) → Type 0 = λ q. Keeps old old × Entered depth old (p ++ q) t (λ top. (edit : Edit) → along_header p (along_header q edit) (f 0) ≡ along_header (p ++ q) edit top) in
      subst P (sym is) (path_over (along_header []) (λ edit ns. refl))

  pub dots_over : (path : List (List ℕ)) → path ≡ []
      → Keeps old old × Entered depth old (p ++ path) t (λ top. (edit : Edit) → along_header p (along_dots path edit) (f 0) ≡ along_header (p ++ path) edit top)
  unfolding along_dots
  dots_over path is =
      let P : List (List ℕ) → Type 0 = λ q. Keeps old old × Entered depth old (p ++ q) t (λ top. (edit : Edit) → along_header p (along_dots q edit) (f 0) ≡ along_header (p ++ q) edit top) in
      subst P (sym is) (path_over (along_dots []) (λ edit ns. refl))

-- the rest of a path after one step
pub path_more : (depth : ℕ) (old mid new : Row) (p : List (List ℕ)) (k : List ℕ) (rest : List (List ℕ)) (s r : ℕ) (top : Nodes) (mark : Edit) (walk walk_rest : Edit → Edit)
    → ((edit : Edit) (from to : Nodes) → along_header p mark from ≡ Some to → along_header p (walk edit) from ≡ along_header (p ++ k ∷ []) (walk_rest edit) to)
    → Keeps old mid → (e : Entered depth mid (p ++ k ∷ []) s (λ to. along_header p mark top ≡ Some to))
    → Keeps mid new × Entered depth new ((p ++ k ∷ []) ++ rest) r (λ to. (edit : Edit) → along_header (p ++ k ∷ []) (walk_rest edit) (e.tables 0) ≡ along_header ((p ++ k ∷ []) ++ rest) edit to)
    → Keeps old new × Entered depth new (p ++ k ∷ rest) r (λ to. (edit : Edit) → along_header p (walk edit) top ≡ along_header (p ++ k ∷ rest) edit to)
path_more depth old mid new p k rest s r top mark walk walk_rest step_law keeps e after =
    let a = after.1 in
    let joined : (p ++ k ∷ []) ++ rest ≡ p ++ k ∷ rest = append_assoc p (k ∷ []) rest in
    let P : List (List ℕ) → Type 0 = λ q. Leads new q r in (
      (λ q m there. after.0 q m (keeps q m there)),
      record {
        tables = a.tables;
        elements = a.elements;
        holds = a.holds;
        leads = subst P joined a.leads;
        is = λ edit. step_law edit top (e.tables 0) e.is ∙ a.is edit ∙ ap (λ q. along_header q edit (a.tables 0)) joined;
      },
    )

pub header_rest : (depth : ℕ) (old mid new : Row) (p : List (List ℕ)) (k : List ℕ) (rest path : List (List ℕ)) (s r : ℕ) (top : Nodes) → path ≡ k ∷ rest
    → Keeps old mid → (e : Entered depth mid (p ++ k ∷ []) s (λ to. along_header p (mark_header k) top ≡ Some to))
    → Keeps mid new × Entered depth new ((p ++ k ∷ []) ++ rest) r (λ to. (edit : Edit) → along_header (p ++ k ∷ []) (along_header rest edit) (e.tables 0) ≡ along_header ((p ++ k ∷ []) ++ rest) edit to)
    → Keeps old new × Entered depth new (p ++ path) r (λ to. (edit : Edit) → along_header p (along_header path edit) top ≡ along_header (p ++ path) edit to)
header_rest depth old mid new p k rest path s r top is keeps e after =
    let P : List (List ℕ) → Type 0 = λ q. Keeps old new × Entered depth new (p ++ q) r (λ to. (edit : Edit) → along_header p (along_header q edit) top ≡ along_header (p ++ q) edit to) in
    subst P (sym is) (path_more depth old mid new p k rest s r top (mark_header k) (along_header (k ∷ rest)) (along_header rest)
    (λ edit from to marked. header_more p k rest edit from to marked) keeps e after)

pub dots_rest : (depth : ℕ) (old mid new : Row) (p : List (List ℕ)) (k : List ℕ) (rest path : List (List ℕ)) (s r : ℕ) (top : Nodes) → path ≡ k ∷ rest
    → Keeps old mid → (e : Entered depth mid (p ++ k ∷ []) s (λ to. along_header p (mark_dots k) top ≡ Some to))
    → Keeps mid new × Entered depth new ((p ++ k ∷ []) ++ rest) r (λ to. (edit : Edit) → along_header (p ++ k ∷ []) (along_dots rest edit) (e.tables 0) ≡ along_header ((p ++ k ∷ []) ++ rest) edit to)
    → Keeps old new × Entered depth new (p ++ path) r (λ to. (edit : Edit) → along_header p (along_dots path edit) top ≡ along_header (p ++ path) edit to)
dots_rest depth old mid new p k rest path s r top is keeps e after =
    let P : List (List ℕ) → Type 0 = λ q. Keeps old new × Entered depth new (p ++ q) r (λ to. (edit : Edit) → along_header p (along_dots q edit) top ≡ along_header (p ++ q) edit to) in
    subst P (sym is) (path_more depth old mid new p k rest s r top (mark_dots k) (along_dots (k ∷ rest)) (along_dots rest)
    (λ edit from to marked. dots_more p k rest edit from to marked) keeps e after)
