-- The parts of a text are texts.
use Rattle.std.proofs.Common.{◌≡◌, ℕ, ◌<◌, List, [], ◌∷◌, ◌++◌, length, get_or, refl, sym, ap, ◌∙◌, subst, arith, inl, inr, length-append, append-nil}
use Rattle.std.specs.Prelude.{◌⊎◌}
use Rattle.std.specs.Str.{IsUtf8}
use Rattle.std.proofs.lemmas.Str.{IsUtf8-take, IsUtf8-drop, IsCharBoundary-before_ascii, IsCharBoundary-after_ascii}
use Rattle.std.proofs.Math.Seq.{drop-append_seam, take-append_seam, get_or-append_seam}
use Rattle.matchit.specs.Rows.{param_token}
use Rattle.route_table.specs.Routed.{AreTexts}
use Rattle.route_table.proofs.Tokens.{Takes, IsPlain, IsSpelled}

after_ascii : (x : ℕ) (rest : List ℕ) → x < 128 → IsUtf8 (x ∷ rest) → IsUtf8 rest
after_ascii x rest small text =
    IsUtf8-drop (x ∷ rest) 1 text (IsCharBoundary-after_ascii (x ∷ rest) 0 text (omega arith) small)

-- a text is cut before a slash
before_slash : (part tail : List ℕ) → IsUtf8 (part ++ 47 ∷ tail) → IsUtf8 part × IsUtf8 (47 ∷ tail)
before_slash part tail text =
    let at : get_or (part ++ 47 ∷ tail) (length part) 0 ≡ 47 = get_or-append_seam part 47 tail 0 in
    let cut = IsCharBoundary-before_ascii (part ++ 47 ∷ tail) (length part) (omega (arith, length-append part (47 ∷ tail))) (omega (arith, at)) in (
      subst IsUtf8 (take-append_seam part (47 ∷ tail)) (IsUtf8-take (part ++ 47 ∷ tail) (length part) text cut),
      subst IsUtf8 (drop-append_seam part (47 ∷ tail)) (IsUtf8-drop (part ++ 47 ∷ tail) (length part) text cut),
    )

-- a text is cut where a part ends
part_cut : (p part rest : List ℕ) (later : List (List ℕ)) → IsPlain (param_token ∷ p) → Takes p rest later → IsUtf8 (part ++ rest)
    → IsUtf8 part × (IsUtf8 rest ⊎ (p ≡ []))
part_cut [] part rest later plain (e, q) text = (subst IsUtf8 (ap (λ (y : List ℕ). part ++ y) e ∙ append-nil part) text, inr refl)
part_cut (x ∷ p) part rest later plain (inl (small, tail, e, t)) text =
    let slash : rest ≡ 47 ∷ tail = e ∙ ap (λ (y : ℕ). y ∷ tail) (plain.0 refl) in
    let both = before_slash part tail (subst (λ (y : List ℕ). IsUtf8 (part ++ y)) slash text) in
    (both.0, inl (subst IsUtf8 (sym slash) both.1))
part_cut (x ∷ p) part rest later plain (inr (inl t)) text = absurd (omega (arith, plain.0 refl, t.0))
part_cut (x ∷ p) part rest later plain (inr (inr t)) text = absurd (omega (arith, plain.0 refl, t.0))

pub are_texts : (p path : List ℕ) (parts : List (List ℕ)) → IsPlain p → IsSpelled p → Takes p path parts → IsUtf8 path → AreTexts parts
are_texts [] path parts plain ascii (e, q) text = subst AreTexts (sym q) tt
are_texts (x ∷ p) path parts plain ascii (inl (small, rest, e, t)) text =
    are_texts p rest parts plain.1 ascii.1 t (after_ascii x rest (ascii.0 small) (subst IsUtf8 e text))
are_texts (x ∷ p) path parts plain ascii (inr (inr (is, end, some, q))) text = subst AreTexts (sym q) (text, tt)
are_texts (x ∷ p) path parts plain ascii (inr (inl (is, part, rest, later, segment, e, q, t))) text =
    let cut = part_cut p part rest later (subst (λ (y : ℕ). IsPlain (y ∷ p)) is plain) t (subst IsUtf8 e text) in
    subst AreTexts (sym q) (cut.0, others cut.1 (λ (u : IsUtf8 rest). are_texts p rest later plain.1 ascii.1 t u) t)
  where
    others : IsUtf8 rest ⊎ (p ≡ []) → (IsUtf8 rest → AreTexts later) → Takes p rest later → AreTexts later
    others (inl u) go t = go u
    others (inr end) go t = subst AreTexts (sym (subst (λ (y : List ℕ). Takes y rest later) end t).1) tt
