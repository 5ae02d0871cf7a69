-- The marks of a block, over the turns of the loops through the rules and their moves.
use Rattle.std.proofs.Common.{◌≡◌, ℕ, ◌+◌, ◌<◌, ◌⊎◌, inl, inr, List, [], ◌∷◌, ◌++◌, length, get_or, take, map, All, refl, sym, ap, ◌∙◌, subst, Bool, true, arith, zero, suc}
use Rattle.std.specs.Prelude.{Some, slice_get}
use Rattle.std.proofs.lemmas.List.{map_more}
use Rattle.std.proofs.lemmas.Option.{slice_get_read}
use Rattle.class_rules.specs.declared.class.Class.TheVariants.{Standard, StandardIa, OnezoneIa, GlacierIr, Glacier, DeepArchive}
use Rattle.due_core.specs.declared.action.ActionKind.TheVariants.{Remove, Transition, Marker, Abort}
use Rattle.rules_core.specs.declared.rule.Rule.{Rule}
use Rattle.rules_core.specs.declared.rule.Filter.{Filter}
use Rattle.rules_core.specs.declared.rule.SizeMode.{SizeMode}
use Rattle.rules_core.specs.declared.rule.NoncurrentMove.{NoncurrentMove}
use Rattle.stacks.specs.declared.version.Version.{Version}
use Rattle.due_core.specs.declared.action.ActionKind.{ActionKind}
use Rattle.due_index.specs.Blocks.{kind_code, is_marked, IsMarkedFor, KeepsMarks}
use Rattle.due_index.specs.Search.{Among, takes_step, move_step}
use Rattle.due_index.specs.declared.noncurrent.Step.{Step}
use Rattle.due_index.proofs.Among.{among_append, among_front, among_back}

number_or : (a b : ℕ) → (a ≡ b) ⊎ (a ≡ b → ⊥)
number_or zero zero = inl refl
number_or zero (suc b) = inr (λ h. omega arith)
number_or (suc a) zero = inr (λ h. omega arith)
number_or (suc a) (suc b) = elim (number_or a b) [ inl e ↦ inl (omega arith) | inr other ↦ inr (λ h. other (omega arith)) ]

-- ---- two kinds of action are the same, or not: by their numbers

kinds : List ActionKind
kinds = Remove ∷ Transition Standard ∷ Transition StandardIa ∷ Transition OnezoneIa ∷ Transition GlacierIr ∷ Transition Glacier ∷ Transition DeepArchive ∷ Marker ∷ Abort ∷ []

code_names : (kind : ActionKind) → get_or kinds (kind_code kind) Remove ≡ kind
unfolding kinds
code_names Remove = refl
code_names (Transition Standard) = refl
code_names (Transition StandardIa) = refl
code_names (Transition OnezoneIa) = refl
code_names (Transition GlacierIr) = refl
code_names (Transition Glacier) = refl
code_names (Transition DeepArchive) = refl
code_names Marker = refl
code_names Abort = refl

same_kind : (a b : ActionKind) → kind_code a ≡ kind_code b → a ≡ b
same_kind a b is = sym (code_names a) ∙ ap (λ n. get_or kinds n Remove) is ∙ code_names b

kind_or : (a b : ActionKind) → (a ≡ b) ⊎ (a ≡ b → ⊥)
kind_or a b = elim (number_or (kind_code a) (kind_code b)) [ inl e ↦ inl (same_kind a b e) | inr other ↦ inr (λ h. other (ap kind_code h)) ]

-- ---- the mark of one step is cleared

module _ (mode : SizeMode) (key : List ℕ) (place : ℕ) (rule : Rule) where
  -- what was marked first for these versions is
  pub step_cleared : (versions : List Version) (first old new : List Bool) (kind : ActionKind)
      → All (λ version. (takes_step mode rule.filter kind key version ≡ true → is_marked old place kind ≡ true)
      → takes_step mode rule.filter kind key version ≡ true → is_marked new place kind ≡ true) versions
      → ((p : ℕ) (k : ActionKind) → ((p ≡ place) × (k ≡ kind) → ⊥) → is_marked new p k ≡ is_marked old p k)
      → All (λ version. IsMarkedFor mode key place rule first version → IsMarkedFor mode key place rule old version) versions
      → All (λ version. IsMarkedFor mode key place rule first version → IsMarkedFor mode key place rule new version) versions
  step_cleared versions first old new kind here others was i d less = λ marked step among takes. elim (kind_or step.kind kind) [
    | inl e ↦ subst (λ k. is_marked new place k ≡ true) (sym e)
        (here i d less (λ taken. subst (λ k. is_marked old place k ≡ true) e (was i d less marked step among takes))
        (subst (λ k. takes_step mode rule.filter k key (get_or versions i d) ≡ true) e takes))
    | inr other ↦ others place step.kind (λ both. other both.1) ∙ was i d less marked step among takes
  ]

-- ---- these steps are marked, if the version takes them

abbrev pub AreMarked : SizeMode → List ℕ → ℕ → Filter → List Bool → Version → List Step → Type 0
AreMarked mode key place filter marks version steps = (step : Step) → Among steps step
    → takes_step mode filter step.kind key version ≡ true → is_marked marks place step.kind ≡ true

only : {X : Type 0} (x y : X) → Among (x ∷ []) y → x ≡ y
only x y (inl e) = e
only x y (inr h) = absurd h

module _ (mode : SizeMode) (key : List ℕ) (place : ℕ) (filter : Filter) (version : Version) where
  -- one more move is marked
  pub mark_more : (first : List Step) (moves : List NoncurrentMove) (i : ℕ) (d : NoncurrentMove) (step : Step) (old new : List Bool) → i < length moves
      → step ≡ move_step (get_or moves i d) → AreMarked mode key place filter old version (first ++ map move_step (take i moves)) → KeepsMarks old new
      → (takes_step mode filter step.kind key version ≡ true → is_marked new place step.kind ≡ true)
      → AreMarked mode key place filter new version (first ++ map move_step (take (i + 1) moves))
  mark_more first moves i d step old new less is was kept here = λ s among takes.
      elim (among_append first (map move_step (take (i + 1) moves)) s among) [
        | inl a ↦ kept place s.kind (was s (among_front first (map move_step (take i moves)) s a) takes)
        | inr b ↦ elim (among_append (map move_step (take i moves)) (move_step (get_or moves i d) ∷ []) s
            (subst (λ steps. Among steps s) (map_more move_step moves i d less) b)) [
              | inl a ↦ kept place s.kind (was s (among_back first (map move_step (take i moves)) s a) takes)
              | inr a ↦ let same : step ≡ s = is ∙ only (move_step (get_or moves i d)) s a in
                  subst (λ (t : Step). is_marked new place t.kind ≡ true) same
                  (here (subst (λ (t : Step). takes_step mode filter t.kind key version ≡ true) (sym same) takes))
            ]
      ]

-- ---- the marks of all rules

module _ (mode : SizeMode) (rules : List Rule) (key : List ℕ) where
  -- what was marked first for these versions is
  abbrev pub AreLeft : List Bool → List Bool → List Version → Type 0
  AreLeft first marks versions = (p : ℕ) (rule : Rule) → slice_get rules p ≡ Some rule
      → All (λ version. IsMarkedFor mode key p rule first version → IsMarkedFor mode key p rule marks version) versions

  -- the marks of one rule are cleared, the others stay
  pub rule_cleared : (versions : List Version) (place : ℕ) (x : Rule) (first old new : List Bool) → place < length rules → x ≡ get_or rules place x
      → All (λ version. IsMarkedFor mode key place x old version → IsMarkedFor mode key place x new version) versions
      → ((p : ℕ) (k : ActionKind) → (p ≡ place → ⊥) → is_marked new p k ≡ is_marked old p k) → AreLeft first old versions → AreLeft first new versions
  rule_cleared versions place x first old new less is here others was p rule at = elim (number_or p place) [
    | inl e ↦ let there : slice_get rules place ≡ Some x = slice_get_read rules (length rules) place x refl less is in
        let same : Some x ≡ Some rule = sym there ∙ ap (slice_get rules) (sym e) ∙ at in
        let one : x ≡ rule = cc in
        subst (λ q. All (λ version. IsMarkedFor mode key q rule first version → IsMarkedFor mode key q rule new version) versions) (sym e)
        (subst (λ r. All (λ version. IsMarkedFor mode key place r first version → IsMarkedFor mode key place r new version) versions) one
        (λ i d within marked. here i d within (was place x there i d within marked)))
    | inr other ↦ λ i d within marked step among takes. others p step.kind other ∙ was p rule at i d within marked step among takes
  ]

  -- the rules before this place are marked for a version
  abbrev pub AreMarkedBefore : ℕ → List Bool → Version → Type 0
  AreMarkedBefore place marks version = (p : ℕ) (rule : Rule) → p < place → slice_get rules p ≡ Some rule → IsMarkedFor mode key p rule marks version

  pub rule_marked : (version : Version) (place : ℕ) (x : Rule) (old new : List Bool) → place < length rules → x ≡ get_or rules place x
      → IsMarkedFor mode key place x new version → KeepsMarks old new → AreMarkedBefore place old version → AreMarkedBefore (place + 1) new version
  rule_marked version place x old new less is here kept was p rule before at = elim (number_or p place) [
    | inl e ↦ let there : slice_get rules place ≡ Some x = slice_get_read rules (length rules) place x refl less is in
        let same : Some x ≡ Some rule = sym there ∙ ap (slice_get rules) (sym e) ∙ at in
        let one : x ≡ rule = cc in
        subst (λ q. IsMarkedFor mode key q rule new version) (sym e) (subst (λ r. IsMarkedFor mode key place r new version) one here)
    | inr other ↦ λ step among takes. kept p step.kind (was p rule (omega (arith, other)) at step among takes)
  ]
