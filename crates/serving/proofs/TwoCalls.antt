-- A list of two calls, each by a pass of its own.
use Rattle.std.proofs.Common.{◌≡◌, ◌≢◌, ◌⊎◌, inl, inr, ⊎_elim, ◌∙◌, sym, ap, subst, refl, ℕ, zero, suc, ◌<◌, Bool, cond, List, [], ◌∷◌, ◌++◌, Some, length, get_or, take}
use Rattle.std.proofs.Common.{drop, arith, eq-eqb, ne_eqb, map}
use Rattle.std.specs.Prelude.{All, Contains, AllPairs}
use Rattle.std.proofs.lemmas.List.Elements.{All-head, All-tail, All-weaker}
use Rattle.turn_core.specs.declared.view.TurnCall.{TurnCall}
use Rattle.turn_core.specs.declared.view.Met.{Met}
use Rattle.turn_core.specs.declared.view.View.{View}
use Rattle.turn_core.specs.Calls.{calls_under, plain}
use Rattle.turn_core.specs.Views.{HasMade, Counted, IsWhole, Called, Joined, StandsSince, numbers, newcomer, left, right, next_call}
use Rattle.turn_core.proofs.Parts.{some_same}
use Rattle.serving.proofs.Gathered.{slice_back}

either_of : (one other n : ℕ) → Contains (one ∷ other ∷ []) n → (n ≡ one) ⊎ (n ≡ other)
either_of one other n (zero, lt, e) = inl (sym e)
either_of one other n (suc zero, lt, e) = inr (sym e)
either_of one other n (suc (suc k), lt, e) = absurd (omega (arith, lt))

module _ {A S : Type 0} where
  abbrev IsBy : ℕ → ℕ → TurnCall A S → Type 0
  IsBy one other c = (c.by ≡ one) ⊎ (c.by ≡ other)

  turned : (one other : ℕ) (c : TurnCall A S) → IsBy one other c → IsBy other one c
  turned one other c h = ⊎_elim (λ (e : c.by ≡ one). inr e) (λ (e : c.by ≡ other). inl e) h

  abbrev head_of : TurnCall A S → List (TurnCall A S) → TurnCall A S
  head_of d [] = d
  head_of d (x ∷ xs) = x

  abbrev tail_of : List (TurnCall A S) → List (TurnCall A S)
  tail_of [] = []
  tail_of (x ∷ xs) = xs

  not_empty : (x : TurnCall A S) (xs : List (TurnCall A S)) → x ∷ xs ≡ [] → ⊥
  not_empty x xs e = absurd (cc)

  taken : (n : ℕ) (x : TurnCall A S) (xs : List (TurnCall A S)) → x.by ≡ n → calls_under n (x ∷ xs) ≡ x ∷ calls_under n xs
  taken n x xs is = ap (λ (b : Bool). cond b (x ∷ calls_under n xs) (calls_under n xs)) (eq-eqb x.by n is)

  passed : (n : ℕ) (x : TurnCall A S) (xs : List (TurnCall A S)) → x.by ≢ n → calls_under n (x ∷ xs) ≡ calls_under n xs
  passed n x xs not = ap (λ (b : Bool). cond b (x ∷ calls_under n xs) (calls_under n xs)) (ne_eqb x.by n not)

  none : (one other : ℕ) (xs : List (TurnCall A S)) → All (IsBy one other) xs → calls_under one xs ≡ [] → calls_under other xs ≡ [] → xs ≡ []
  none one other [] by p q = refl
  none one other (x ∷ xs) by p q = ⊎_elim
      (λ (e : x.by ≡ one). absurd (not_empty x (calls_under one xs) (sym (taken one x xs e) ∙ p)))
      (λ (e : x.by ≡ other). absurd (not_empty x (calls_under other xs) (sym (taken other x xs e) ∙ q)))
      (All-head (IsBy one other) x xs by)

  only : (one other : ℕ) (y : TurnCall A S) (xs : List (TurnCall A S)) → one ≢ other → All (IsBy one other) xs → calls_under one xs ≡ y ∷ [] → calls_under other xs ≡ [] → xs ≡ y ∷ []
  only one other y [] apart by p q = p
  only one other y (x ∷ xs) apart by p q = ⊎_elim
      (λ (e : x.by ≡ one).
      let mine : x ∷ calls_under one xs ≡ y ∷ [] = sym (taken one x xs e) ∙ p in
      let theirs : calls_under other xs ≡ [] = sym (passed other x xs (λ (f : x.by ≡ other). apart (sym e ∙ f))) ∙ q in
      let rest : xs ≡ [] = none one other xs (All-tail (IsBy one other) x xs by) (ap tail_of mine) theirs in
      let same : x ≡ y = ap (head_of x) mine in
      (λ i. same i ∷ rest i))
      (λ (e : x.by ≡ other). absurd (not_empty x (calls_under other xs) (sym (taken other x xs e) ∙ q)))
      (All-head (IsBy one other) x xs by)

  -- begun by the first
  begun : (one other : ℕ) (x y z : TurnCall A S) (xs : List (TurnCall A S)) → one ≢ other → All (IsBy one other) (x ∷ xs) → x.by ≡ one
      → calls_under one (x ∷ xs) ≡ y ∷ [] → calls_under other (x ∷ xs) ≡ z ∷ [] → x ∷ xs ≡ y ∷ z ∷ []
  begun one other x y z xs apart by e p q =
      let mine : x ∷ calls_under one xs ≡ y ∷ [] = sym (taken one x xs e) ∙ p in
      let theirs : calls_under other xs ≡ z ∷ [] = sym (passed other x xs (λ (f : x.by ≡ other). apart (sym e ∙ f))) ∙ q in
      let by_either = All-weaker (IsBy one other) (IsBy other one) (turned one other) xs (All-tail (IsBy one other) x xs by) in
      let rest : xs ≡ z ∷ [] = only other one z xs (λ (f : other ≡ one). apart (sym f)) by_either theirs (ap tail_of mine) in
      let same : x ≡ y = ap (head_of x) mine in
      (λ i. same i ∷ rest i)

  either_first : (one other : ℕ) (y z : TurnCall A S) (xs : List (TurnCall A S)) → one ≢ other → All (IsBy one other) xs
      → calls_under one xs ≡ y ∷ [] → calls_under other xs ≡ z ∷ [] → (xs ≡ y ∷ z ∷ []) ⊎ (xs ≡ z ∷ y ∷ [])
  either_first one other y z [] apart by p q = absurd (not_empty y [] (sym p))
  either_first one other y z (x ∷ xs) apart by p q = ⊎_elim
      (λ (e : x.by ≡ one). inl (begun one other x y z xs apart by e p q))
      (λ (e : x.by ≡ other). inr (begun other one x z y xs (λ (f : other ≡ one). apart (sym f)) (All-weaker (IsBy one other) (IsBy other one) (turned one other) (x ∷ xs) by) e q p))
      (All-head (IsBy one other) x xs by)

module _ {T A S : Type 0} where
  -- a pass that made one call, and met one that made one, has seen both in one order or the other
  pub in_some_order : (v : View T A S) (m : Met A S) (mine theirs : TurnCall A S) → Counted v → IsWhole v → v.made ≡ mine ∷ [] → v.met ≡ m ∷ [] → m.made ≡ theirs ∷ []
      → (v.seen ≡ mine ∷ theirs ∷ []) ⊎ (v.seen ≡ theirs ∷ mine ∷ [])
  in_some_order v m mine theirs counted whole made met its =
      let both : numbers v ≡ v.number ∷ m.number ∷ [] = ap (λ (l : List (Met A S)). v.number ∷ map (λ (x : Met A S). x.number) l) met in
      let apart : v.number ≢ m.number = (subst (λ (l : List ℕ). AllPairs (λ x y. x ≢ y) l) both counted.distinct) 0 1 0 (omega arith) (omega arith) in
      let by = All-weaker (λ (c : TurnCall A S). Contains (numbers v) c.by) (IsBy v.number m.number)
      (λ c h. either_of v.number m.number c.by (subst (λ (l : List ℕ). Contains l c.by) both h)) v.seen whole in
      let theirs_made : calls_under m.number v.seen ≡ m.made = All-head (HasMade v.seen) m [] (subst (All (HasMade v.seen)) met counted.met) in
      either_first v.number m.number mine theirs v.seen apart by (counted.own ∙ made) (theirs_made ∙ its)

-- two passes made a call each and met: the value then stands for both calls, in one order or the other
module _ {T A S : Type 0} (stands : T → T → List (A × S) → Type 0) (first now : T) (make show : A) (made shown : S) (v w u : View T A S) where
  abbrev One : TurnCall A S
  One = next_call (left (newcomer first)) make made

  abbrev Other : TurnCall A S
  Other = next_call (right (newcomer first)) show shown

  abbrev ToldOf : View T A S → Met A S
  ToldOf x = record { number = x.number; made = x.made }

  begins_with : (list : List (TurnCall A S)) → u.opening ≡ Some first → u.seen ≡ list → StandsSince stands u.opening now u.seen → stands first now (plain list)
  begins_with list opened is (opening, e, h) =
      let same : opening ≡ first = some_same opening first (sym e ∙ opened) in
      subst (λ (x : T). stands x now (plain list)) same (subst (λ (l : List (TurnCall A S)). stands opening now (plain l)) is h)

  pub either_way : Called (left (newcomer first)) make made v → Called (right (newcomer first)) show shown w → Joined v w u → Counted u → IsWhole u → StandsSince stands u.opening now u.seen
      → stands first now ((make, made) ∷ (show, shown) ∷ []) ⊎ stands first now ((show, shown) ∷ (make, made) ∷ [])
  either_way one other joined counted whole value =
      let opened : u.opening ≡ Some first = ap (λ (x : View T A S). x.opening) joined.both ∙ ap (λ (x : View T A S). x.opening) one.others in
      let mine : u.made ≡ One ∷ [] = ap (λ (x : View T A S). x.made) joined.both ∙ one.made in
      let none_before : v.met ≡ [] = ap (λ (x : View T A S). x.met) one.others in
      let none_there : w.met ≡ [] = ap (λ (x : View T A S). x.met) other.others in
      let all_met : u.met ≡ v.met ++ ToldOf w ∷ w.met = ap (λ (x : View T A S). x.met) joined.both in
      let met : u.met ≡ ToldOf w ∷ [] = all_met ∙ (λ i. none_before i ++ ToldOf w ∷ none_there i) in
      ⊎_elim
      (λ (e : u.seen ≡ One ∷ Other ∷ []). inl (begins_with (One ∷ Other ∷ []) opened e value))
      (λ (e : u.seen ≡ Other ∷ One ∷ []). inr (begins_with (Other ∷ One ∷ []) opened e value))
      (in_some_order u (ToldOf w) One Other counted whole mine met other.made)

module _ {T A S : Type 0} where
  pub called_so : (v v_as w w_as : View T A S) (ask ask_as : A) (said said_as : S) → v ≡ v_as → ask ≡ ask_as → said ≡ said_as → w ≡ w_as → Called v ask said w → Called v_as ask_as said_as w_as
  called_so v v_as w w_as ask ask_as said said_as e f h k called = subst (λ (q : View T A S × A × S × View T A S). Called q.0 q.1 q.2 q.3) (λ i. (e i, f i, h i, k i)) called

-- two of a list that was lent as a slice and written
module _ {W : Type 0} (Took : W → W → Type 0) where
  pub each_took : (n : ℕ) (ws lent new : List W) (a b x y : W) → n ≡ length ws → length new ≡ length lent → lent ≡ ws → ws ≡ a ∷ b ∷ [] → take n (new ++ drop (length new) ws) ≡ x ∷ y ∷ []
      → ((i : ℕ) (d : W) → i < length lent → Took (get_or lent i d) (get_or new i d)) → Took a x × Took b y
  each_took n ws lent new a b x y all kept is both after took =
      let same : length new ≡ length ws = kept ∙ ap length is in
      let now : new ≡ x ∷ y ∷ [] = sym (slice_back n ws new all same) ∙ after in
      let old : lent ≡ a ∷ b ∷ [] = is ∙ both in
      let each : (i : ℕ) (d : W) → i < 2 → Took (get_or (a ∷ b ∷ []) i d) (get_or (x ∷ y ∷ []) i d) =
      subst (λ (q : List W × List W). (i : ℕ) (d : W) → i < length q.0 → Took (get_or q.0 i d) (get_or q.1 i d))
      (λ i. (old i, now i)) took in
      (each 0 a (omega arith), each 1 a (omega arith))
