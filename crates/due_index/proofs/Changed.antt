-- After a change, the blocks are right for all versions once they are right for the newest noncurrent one and the one
-- that was touched.
use Rattle.std.proofs.Common.{◌≡◌, ℕ, ◌<◌, ◌⊎◌, inl, inr, List, [], ◌∷◌, length, get_or, All, refl, sym, ap, ◌∙◌, subst, Bool, true, false, cond, not, arith, zero, suc}
use Rattle.std.specs.Prelude.{Option, Some, None, IfSome, slice_get}
use Rattle.std.specs.List.{list_any}
use Rattle.std.proofs.lemmas.Bool.{cases_Bool, and_parts, not-true, eq-eqb}
use Rattle.std.proofs.lemmas.List.Folds.{list_any_at}
use Rattle.office_base.specs.declared.version_id.VersionId.{VersionId}
use Rattle.office_base.specs.declared.version_id.VersionId.TheVariants.{Null, Number}
use Rattle.rules_core.specs.declared.rule.Rule.{Rule}
use Rattle.rules_core.specs.declared.rule.SizeMode.{SizeMode}
use Rattle.stacks.specs.declared.version.Version.{Version}
use Rattle.stacks.specs.Stacks.{same_id, has_id, version_at, ids_differ}
use Rattle.stacks.proofs.Sole.{same_id_is}
use Rattle.due_index.specs.Blocks.{BlockRecord, IsRightFor, AreRight, AreRightBut, but_first}

id_itself : (id : VersionId) → same_id id id ≡ true
id_itself Null = refl
id_itself (Number n) = eq-eqb n n refl

touched_or : (touched : Option VersionId) (id : VersionId) → (touched ≡ Some id) ⊎ (touched ≡ Some id → ⊥)
touched_or None id = inr (λ h. absurd cc)
touched_or (Some t) id = elim (cases_Bool (same_id t id)) [
  | inl same ↦ inl (ap Some (same_id_is t id same))
  | inr differs ↦ inr (λ h. let is : t ≡ id = cc in let itself = id_itself t in let other : same_id t t ≡ false = ap (same_id t) is ∙ differs in absurd cc)
]

take_true : {X : Type 0} (b : Bool) (x y : X) → b ≡ true → cond b x y ≡ x
take_true true x y is = refl
take_true false x y is = absurd cc

take_false : {X : Type 0} (b : Bool) (x y : X) → b ≡ false → cond b x y ≡ y
take_false true x y is = absurd cc
take_false false x y is = refl

-- of versions whose ids differ, each one is found by its id
differs_from : (v : Version) (vs : List Version) (k : ℕ) (d : Version) → list_any (has_id v.id) vs ≡ false → k < length vs → has_id (get_or vs k d).id v ≡ false
differs_from v vs k d none less = elim (cases_Bool (same_id (get_or vs k d).id v.id)) [
  | inl same ↦ let is = same_id_is (get_or vs k d).id v.id same in
      let here : has_id v.id (get_or vs k d) ≡ true = ap (λ id. same_id id (get_or vs k d).id) (sym is) ∙ id_itself (get_or vs k d).id in
      let found = list_any_at (has_id v.id) vs k d less here in absurd cc
  | inr differs ↦ differs
]

found_itself : (versions : List Version) (k : ℕ) (d : Version) → ids_differ versions ≡ true → k < length versions
    → version_at (get_or versions k d).id versions ≡ Some (get_or versions k d)
found_itself [] k d differ less = absurd (omega arith)
found_itself (v ∷ vs) zero d differ less = take_true (same_id v.id v.id) (Some v) (version_at v.id vs) (id_itself v.id)
found_itself (v ∷ vs) (suc k) d differ less =
    let parts = and_parts (not (list_any (has_id v.id) vs)) (ids_differ vs) differ in
    let within : k < length vs = omega arith in
    take_false (has_id (get_or vs k d).id v) (Some v) (version_at (get_or vs k d).id vs)
    (differs_from v vs k d (not-true (list_any (has_id v.id) vs) parts.0) within) ∙ found_itself vs k d parts.1 within

module _ (mode : SizeMode) (rules : List Rule) (key : List ℕ) where
  -- the blocks are right for one version
  abbrev AreRightOne : List BlockRecord → Version → Type 0
  AreRightOne blocks v = All (λ block. IsRightFor mode rules key block v) blocks

  module _ (touched : Option VersionId) (old mid new : List BlockRecord) (newest found : Option Version) (newest_right : IfSome newest (AreRightOne mid))
      (keeps : (v : Version) → AreRightOne old v → AreRightOne mid v) (found_right : IfSome found (AreRightOne new)) (then_keeps : (v : Version) → AreRightOne mid v → AreRightOne new v) where
    each_right : (versions : List Version) → ids_differ versions ≡ true → newest ≡ slice_get (but_first versions) 0 → ((id : VersionId) → touched ≡ Some id → found ≡ version_at id versions)
        → AreRightBut touched mode rules key old (but_first versions) → (k : ℕ) (e : Version) → k < length (but_first versions) → AreRightOne new (get_or (but_first versions) k e)
    each_right [] differ newest_is found_is rest k e within = absurd (omega arith)
    each_right (v ∷ []) differ newest_is found_is rest k e within = absurd (omega arith)
    each_right (v ∷ u ∷ us) differ newest_is found_is rest zero e within = then_keeps u (subst (λ o. IfSome o (AreRightOne mid)) newest_is newest_right)
    each_right (v ∷ u ∷ us) differ newest_is found_is rest (suc k) e within = elim (touched_or touched (get_or us k e).id) [
      | inl is ↦ subst (λ o. IfSome o (AreRightOne new))
          (found_is (get_or us k e).id is ∙ found_itself (v ∷ u ∷ us) (suc (suc k)) e differ (omega arith)) found_right
      | inr other ↦ then_keeps (get_or us k e) (keeps (get_or us k e) (λ i d less. rest i d less k e (omega arith) other))
    ]

    pub changed_right : (versions : List Version) → ids_differ versions ≡ true → newest ≡ slice_get (but_first versions) 0 → ((id : VersionId) → touched ≡ Some id → found ≡ version_at id versions)
        → AreRightBut touched mode rules key old (but_first versions) → AreRight mode rules key new (but_first versions)
    changed_right versions differ newest_is found_is rest i d less k e within = each_right versions differ newest_is found_is rest k e within i d less
