-- A whole turn: drawn, served, called, and moved on.
use Rattle.std.proofs.Common.{◌≡◌, ◌∙◌, sym, ap, subst, ℕ, ◌%◌, ◌^◌, ◌<◌, List, [], ◌∷◌, ◌++◌, Option, Some, None, true, false}
use Rattle.atomic_table.specs.Table.{Me}
use Rattle.turn_core.specs.declared.view.TurnCall.{TurnCall}
use Rattle.turn_core.specs.declared.view.View.{View}
use Rattle.turn_core.specs.declared.view.LastCall.{LastCall}
use Rattle.turn_core.specs.declared.view.Kept.{Kept}
use Rattle.turn_core.specs.Calls.{plain}
use Rattle.turn_core.specs.Plays.{Served, moved}
use Rattle.turn_core.specs.Views.{StandsSince, IsLawful, Called, AtRest, next_call, Counted}
use Rattle.turn_core.proofs.Parts.{lawful_of}

module _ {T A S : Type 0} (stands : T → T → List (A × S) → Type 0) where
  abbrev D : Type 0
  D = View T A S

  abbrev K : Type 0
  K = Kept T A S

  abbrev M : Type 0
  M = Me (Option K) D

  abbrev drew : D → ℕ → D
  drew v t = record v { ticket = Some t }

  pub holds_value : (m₁ m₂ : M) → Served stands m₁ m₂ → (k : K) × (m₂.1 ≡ (0, Some k) ∷ []) × StandsSince stands m₂.0.opening k.value m₂.0.seen
  holds_value m₁ m₂ h = (h.0, h.1, subst (λ (o : Option T). StandsSince stands o h.0.value m₂.0.seen) (sym (ap (λ (v : D). v.opening) h.4)) h.2)

  pub may_move : (m₂ m₃ : M) (k : K) (d : LastCall A S) → m₃.0 ≡ m₂.0 → m₃.1 ≡ (0, Some k) ∷ [] → k.last ≡ Some d
      → StandsSince stands m₃.0.opening k.value (m₂.0.seen ++ next_call m₂.0 d.ask.value d.say.value ∷ [])
      → (k : K) × (d : LastCall A S) × (m₃.1 ≡ (0, Some k) ∷ []) × (k.last ≡ Some d) × StandsSince stands m₃.0.opening k.value (m₃.0.seen ++ next_call m₃.0 d.ask.value d.say.value ∷ [])
  may_move m₂ m₃ k d same held last for = (k, d, held, last, subst (λ (v : D). StandsSince stands m₃.0.opening k.value (v.seen ++ next_call v d.ask.value d.say.value ∷ [])) (sym same) for)

  module _ (m₀ m₁ m₂ m₃ m₄ : M) (t : ℕ) (k : K) (d : LastCall A S) (a : A) (s : S) (at_rest : AtRest m₀) (drawn : m₁ ≡ (drew m₀.0 t, [])) (served : Served stands m₁ m₂)
      (same : m₃.0 ≡ m₂.0) (held : m₃.1 ≡ (0, Some k) ∷ []) (last : k.last ≡ Some d) (asked : d.ask.value ≡ a) (said : d.say.value ≡ s)
      (moves : (k : K) (d : LastCall A S) → m₃.1 ≡ (0, Some k) ∷ [] → k.last ≡ Some d → (m₄ ≡ (moved m₃.0 d, [])) × Counted m₄.0) where
    abbrev v : D
    v = m₀.0

    abbrev x : List (TurnCall A S)
    x = m₂.0.seen

    view₁ : m₁.0 ≡ drew v t
    view₁ = ap (λ (m : M). m.0) drawn

    view₂ : m₂.0 ≡ record (drew v t) { seen = x; served = true }
    view₂ = served.4 ∙ ap (λ (u : D). record u { seen = x; served = true }) view₁

    view₄ : m₄.0 ≡ record v { seen = x ++ next_call v a s ∷ []; made = v.made ++ next_call v a s ∷ []; ticket = None; served = false }
    view₄ = ap (λ (m : M). m.0) (moves k d held last).0 ∙ ap (λ (u : D). moved u d) (same ∙ view₂)
        ∙ (λ i. record v { seen = x ++ next_call v (asked i) (said i) ∷ []; made = v.made ++ next_call v (asked i) (said i) ∷ []; ticket = None; served = false })

    pub rests : AtRest m₄
    rests = (
      ap (λ (m : M). m.1) (moves k d held last).0,
      ap (λ (u : D). u.ticket) view₄,
      ap (λ (u : D). u.served) view₄,
      subst (λ (n : ℕ). 0 < n) (sym (ap (λ (u : D). u.share) view₄)) at_rest.3,
    )

    pub is_called : Called v a s m₄.0
    is_called = let between = served.3 in record {
      list = (between.0, ap (λ (u : D). u.seen) view₄ ∙ ap (λ (l : List (TurnCall A S)). l ++ next_call v a s ∷ []) (sym between.1 ∙ ap (λ (u : D). u.seen ++ between.0) view₁));
      made = ap (λ (u : D). u.made) view₄;
      others = view₄ ∙ (λ i. record v { seen = sym (ap (λ (u : D). u.seen) view₄) i; made = sym (ap (λ (u : D). u.made) view₄) i; ticket = sym at_rest.1 i; served = sym at_rest.2 i });
    }

    pub is_counted : Counted m₄.0
    is_counted = (moves k d held last).1

    -- the list at the end is what the value stands for
    pub lawful_at_end : StandsSince stands m₃.0.opening k.value (m₂.0.seen ++ next_call m₂.0 d.ask.value d.say.value ∷ [])
        → (lawful : T → List (A × S) → Type 0) → ((first now : T) (calls : List (A × S)) → stands first now calls → lawful first calls)
        → IsLawful lawful m₄.0
    lawful_at_end for lawful law =
        let is : m₄.0 ≡ moved m₃.0 d = ap (λ (m : M). m.0) (moves k d held last).0 in
        let list : m₄.0.seen ≡ m₂.0.seen ++ next_call m₂.0 d.ask.value d.say.value ∷ [] = ap (λ (u : D). u.seen) is ∙ ap (λ (u : D). u.seen ++ next_call u d.ask.value d.say.value ∷ []) same in
        let all = lawful_of stands lawful law m₃.0.opening k.value (m₂.0.seen ++ next_call m₂.0 d.ask.value d.say.value ∷ []) for in
        (all.0, ap (λ (u : D). u.opening) is ∙ all.1, subst (λ (l : List (TurnCall A S)). lawful all.0 (plain l)) (sym list) all.2)

  pub served_from : (m m' n : M) (t found : ℕ) → m' ≡ m → m.0.ticket ≡ Some t → found ≡ t % 2 ^ 64
      → ((t : ℕ) → m'.0.ticket ≡ Some t → found ≡ t % 2 ^ 64 → Served stands m' n) → Served stands m n
  served_from m m' n t found same mine hit looked = subst (λ (x : M). Served stands x n) same (looked t (ap (λ (x : M). x.0.ticket) same ∙ mine) hit)
