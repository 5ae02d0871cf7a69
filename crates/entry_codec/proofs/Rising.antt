-- Keys that rise, each above the one before.
use Rattle.std.proofs.Common.{◌≡◌, ◌∙◌, ◌-◌, ◌≤◌, Bool, true, false, ◌&&◌, List, [], ◌∷◌, length, get_or, take, String, refl, sym, ap, arith}
use Rattle.std.proofs.Math.Seq.{take-length}
use Rattle.std.specs.declared.alloc.Global.{Global}
use Rattle.std.specs.List.{list_all}
use Rattle.office_base.specs.Tags.{Tag, is_tag_before, keys_rise, tag_of, tags_of}
use Rattle.office_base.proofs.InOrder.{others, all_later}

-- tests of which one follows from two others
follows : (ab all_a all_b rest : Bool) → (ab ≡ true → all_b ≡ true → all_a ≡ true) → (ab && all_a) && (all_b && rest) ≡ ab && (all_b && rest)
follows false all_a all_b rest told = refl
follows true all_a false rest told = by all_a
  where
    by : (b : Bool) → b && false ≡ false
    by true = refl
    by false = refl
follows true all_a true rest told = rw (told refl refl) refl

pub rise_by_steps : (a b : Tag) (tags : List Tag) → keys_rise (a ∷ b ∷ tags) ≡ is_tag_before a b && keys_rise (b ∷ tags)
rise_by_steps a b tags = follows (is_tag_before a b) (list_all (is_tag_before a) tags) (list_all (is_tag_before b) tags) (keys_rise tags) (all_later a b tags)

-- the first pair against the second
pub rise_first : (pairs : List (String Global × String Global)) (first second : String Global × String Global) → 1 ≤ length pairs → first ≡ get_or pairs 0 first
    → 1 ≤ length (others pairs) → second ≡ get_or (others pairs) 0 second
    → keys_rise (tags_of pairs) ≡ is_tag_before (tag_of first) (tag_of second) && keys_rise (tags_of (others pairs))
rise_first [] first second some is more next = absurd (omega (arith, some))
rise_first (a ∷ []) first second some is more next = absurd (omega (arith, more))
rise_first (a ∷ b ∷ pairs) first second some is more next =
    let e : length (a ∷ b ∷ pairs) - 1 ≡ length (b ∷ pairs) = omega arith in
    let rest : others (a ∷ b ∷ pairs) ≡ b ∷ pairs = ap (λ n. take n (b ∷ pairs)) e ∙ take-length (b ∷ pairs) in
    let second_is : second ≡ b = next ∙ ap (λ (ps : List (String Global × String Global)). get_or ps 0 second) rest in
    rise_by_steps (tag_of a) (tag_of b) (tags_of pairs)
    ∙ ap (λ p. is_tag_before (tag_of p) (tag_of b) && keys_rise (tags_of (b ∷ pairs))) (sym is)
    ∙ ap (λ p. is_tag_before (tag_of first) (tag_of p) && keys_rise (tags_of (b ∷ pairs))) (sym second_is)
    ∙ ap (λ ps. is_tag_before (tag_of first) (tag_of second) && keys_rise (tags_of ps)) (sym rest)
