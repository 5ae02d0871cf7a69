-- One more name, and the name at an index.
use Rattle.std.proofs.Common.{◌≡◌, ℕ, zero, suc, ◌+◌, ◌-◌, ◌<◌, ◌≤◌, List, [], ◌∷◌, ◌++◌, length, take, drop, get_or, refl, ap, ap₂, sym, ◌∙◌, arith, length-drop, take_all}
use Rattle.std.specs.Str.{IsUtf8, IsCharBoundary}
use Rattle.std.proofs.lemmas.List.{take-append-le, drop-append-le, drop_at, drop_all, length-append}
use Rattle.std.proofs.lemmas.Str.{IsUtf8-append, IsUtf8-nil, IsCharBoundary-from_drop}
use Rattle.toml_rows.specs.Names.{names_from, Rise, AreCuts, start_of}

pub rise_le : (start : ℕ) (ends : List ℕ) (last : ℕ) → Rise start ends last → start ≤ last
rise_le start [] last h = omega arith
rise_le start (end ∷ ends) last h = omega (arith, rise_le end ends last h.1)

pub rise_push : (start : ℕ) (ends : List ℕ) (last new : ℕ) → Rise start ends last → last ≤ new → Rise start (ends ++ new ∷ []) new
rise_push start [] last new h le = (omega arith, refl)
rise_push start (end ∷ ends) last new h le = (h.0, rise_push end ends last new h.1 le)

part_kept : (start end : ℕ) (bytes more : List ℕ) → start ≤ end → end ≤ length bytes
    → take (end - start) (drop start (bytes ++ more)) ≡ take (end - start) (drop start bytes)
part_kept start end bytes more low high =
    ap (take (end - start)) (drop-append-le start bytes more (omega arith))
    ∙ take-append-le (end - start) (drop start bytes) more (omega (arith, length-drop start bytes))

part_new : (start : ℕ) (bytes more : List ℕ) (end : ℕ) → start ≡ length bytes → end ≡ length bytes + length more
    → take (end - start) (drop start (bytes ++ more)) ≡ more
part_new start bytes more end is is_end =
    ap (take (end - start)) (drop_at bytes more start (sym is)) ∙ take_all (end - start) more (omega arith)

-- one more name
pub names_push : (start : ℕ) (ends bytes more : List ℕ) (end : ℕ) → Rise start ends (length bytes) → end ≡ length bytes + length more
    → names_from start (ends ++ end ∷ []) (bytes ++ more) ≡ names_from start ends bytes ++ more ∷ []
unfolding names_from
names_push start [] bytes more end rise is = ap (λ x. x ∷ []) (part_new start bytes more end rise is)
names_push start (e ∷ ends) bytes more end rise is =
    ap₂ (λ x xs. x ∷ xs) (part_kept start e bytes more rise.0 (rise_le e ends (length bytes) rise.1)) (names_push e ends bytes more end rise.1 is)

pub names_none : (bytes : List ℕ) → names_from 0 [] bytes ≡ []
unfolding names_from
names_none bytes = refl

pub names_length : (start : ℕ) (ends bytes : List ℕ) → length (names_from start ends bytes) ≡ length ends
unfolding names_from
names_length start [] bytes = refl
names_length start (e ∷ ends) bytes = ap suc (names_length e ends bytes)

-- a name has its place among the bytes
pub place : (start : ℕ) (ends : List ℕ) (last i : ℕ) → Rise start ends last → i < length ends
    → (start_of start ends i ≤ get_or ends i 0) × (get_or ends i 0 ≤ last)
place start [] last i rise within = absurd (omega arith)
place start (e ∷ ends) last zero rise within = (rise.0, rise_le e ends last rise.1)
place start (e ∷ ends) last (suc zero) rise within = place e ends last zero rise.1 (omega arith)
place start (e ∷ ends) last (suc (suc i)) rise within = place e ends last (suc i) rise.1 (omega arith)

pub name_at : (start : ℕ) (ends bytes : List ℕ) (i : ℕ) → i < length ends
    → get_or (names_from start ends bytes) i [] ≡ take (get_or ends i 0 - start_of start ends i) (drop (start_of start ends i) bytes)
unfolding names_from
name_at start [] bytes i within = absurd (omega arith)
name_at start (e ∷ ends) bytes zero within = refl
name_at start (e ∷ ends) bytes (suc zero) within = name_at e ends bytes zero (omega arith)
name_at start (e ∷ ends) bytes (suc (suc i)) within = name_at e ends bytes (suc i) (omega arith)

pub no_name : (start : ℕ) (ends bytes : List ℕ) (i : ℕ) → length ends ≤ i → get_or (names_from start ends bytes) i [] ≡ []
unfolding names_from
no_name start [] bytes i past = refl
no_name start (e ∷ ends) bytes zero past = absurd (omega arith)
no_name start (e ∷ ends) bytes (suc i) past = no_name e ends bytes i (omega arith)

-- one more cut, at the end of the text
pub cuts_push : (start : ℕ) (ends text more : List ℕ) (end : ℕ) → Rise start ends (length text) → AreCuts ends text → IsUtf8 more
    → end ≡ length text + length more → AreCuts (ends ++ end ∷ []) (text ++ more)
cuts_push start [] text more end rise cuts is_text is =
    let gone : drop end (text ++ more) ≡ [] = drop_all end (text ++ more) (omega (arith, length-append text more)) in
    (rw gone IsUtf8-nil, tt)
cuts_push start (e ∷ ends) text more end rise cuts is_text is = (
  rw (drop-append-le e text more (rise_le e ends (length text) rise.1)) (IsUtf8-append (drop e text) more cuts.0 is_text),
  cuts_push e ends text more end rise.1 cuts.1 is_text is,
)

-- the name at an index begins and ends between characters
pub end_cut : (start : ℕ) (ends text : List ℕ) (i : ℕ) → Rise start ends (length text) → AreCuts ends text → i < length ends
    → IsCharBoundary text (get_or ends i 0)
end_cut start [] text i rise cuts within = absurd (omega arith)
end_cut start (e ∷ ends) text zero rise cuts within = IsCharBoundary-from_drop text e (rise_le e ends (length text) rise.1) cuts.0
end_cut start (e ∷ ends) text (suc i) rise cuts within = end_cut e ends text i rise.1 cuts.1 (omega arith)

pub start_cut : (ends text : List ℕ) (i : ℕ) → Rise 0 ends (length text) → AreCuts ends text → 0 < start_of 0 ends i → i < length ends
    → IsCharBoundary text (start_of 0 ends i)
start_cut ends text zero rise cuts some within = absurd (omega arith)
start_cut ends text (suc i) rise cuts some within = end_cut 0 ends text i rise cuts (omega arith)

-- an index as the code computes with it
pub start_later : (ends : List ℕ) (i : ℕ) → ¬ (i ≡ 0) → start_of 0 ends i ≡ get_or ends (i - 1) 0
start_later ends zero some = absurd (some refl)
start_later ends (suc i) some = let e : suc i - 1 ≡ i = omega arith in rw e

pub start_first : (ends : List ℕ) (i : ℕ) → i ≡ 0 → start_of 0 ends i ≡ 0
start_first ends zero is = refl
start_first ends (suc i) is = absurd (omega arith)
