-- What fronts of a text say of each other.
use Rattle.std.proofs.Common.{◌≡◌, ℕ, ◌<◌, ◌≤◌, Bool, List, [], ◌∷◌, ◌++◌, length, take, drop, refl, sym, ap, ◌∙◌, subst, arith, append_assoc, append-nil, inl, inr, take-append-drop, codes}
use Rattle.std.specs.Prelude.{◌⊎◌, IsTrue}
use Rattle.std.proofs.lemmas.Bool.{cases_lt}
use Rattle.std.proofs.lemmas.List.Elements.{All-nil, All-cons, All-head, All-tail}
use Rattle.httparse.specs.Grammar.{AllPass, IsToken, is_token_byte, is_uri_byte, print_blank, RequestHead, print_request, ReadsRequest, MayBecomeRequest}
use Rattle.http_wire.specs.Heads.{IsHopeless}
use Rattle.http_wire.proofs.TargetLemmas.{some_rest, some_head, cut_goes_on}

-- two fronts of one text: the shorter begins the longer
pub front_of_front : (p x q y : List ℕ) → p ++ x ≡ q ++ y → length p ≤ length q
    → (z : List ℕ) × (q ≡ p ++ z) × (x ≡ z ++ y)
front_of_front [] x q y e fits = (q, refl, e)
front_of_front (a ∷ p) x [] y e fits = absurd (omega arith)
front_of_front (a ∷ p) x (b ∷ q) y e fits =
    let rest = front_of_front p x q y (cc) (omega arith) in
    let same : a ≡ b = cc in
    (rest.0, cc, rest.2)

all_front : (test : ℕ → Bool) (z x : List ℕ) → AllPass test (z ++ x) → AllPass test z
all_front test [] x all = All-nil (λ b. IsTrue (test b))
all_front test (b ∷ z) x all =
    let P = λ (b : ℕ). IsTrue (test b) in
    All-cons P b z (All-head P b (z ++ x) all) (all_front test z x (All-tail P b (z ++ x) all))

-- a front of what may become a head may become one
pub may_front : (p x : List ℕ) → MayBecomeRequest (p ++ x) → MayBecomeRequest p
may_front p x (inl (more, h, reads)) = inl (x ++ more, h, (reads.0, sym (append_assoc p x more) ∙ reads.1))
may_front p x (inr (blank, method, target, token, uri, is)) = by_length (cases_lt (length line) (length p))
  where
    line : List ℕ
    line = (print_blank blank ++ method) ++ 32 ∷ []

    by_length : (length line < length p) ⊎ (length p ≤ length line) → MayBecomeRequest p
    by_length (inl long) =
        let z = front_of_front line target p x (append_assoc (print_blank blank ++ method) (32 ∷ []) target ∙ sym is) (omega arith) in
        inr (blank, method, z.0, token, all_front is_uri_byte z.0 x (subst (AllPass is_uri_byte) z.2 uri), z.1 ∙ append_assoc (print_blank blank ++ method) (32 ∷ []) z.0)
    by_length (inr short) =
        let z = front_of_front p x line target (is ∙ sym (append_assoc (print_blank blank ++ method) (32 ∷ []) target)) (omega arith) in
        let goes = cut_goes_on (print_blank blank ++ method) blank method token refl in
        inl (
          z.0 ++ some_rest,
          some_head blank method,
          (goes.0, sym (append_assoc p z.0 some_rest) ∙ ap (λ (t : List ℕ). t ++ some_rest) (sym z.1) ∙ goes.1),
        )

-- no front of what is still open is hopeless
pub open_front : (buf : List ℕ) (n : ℕ) → MayBecomeRequest buf → ¬ (IsHopeless (take n buf))
open_front buf n may none =
    none.closed (may_front (take n buf) (drop n buf) (subst MayBecomeRequest (sym (take-append-drop n buf)) may))

-- nor is a front of what begins with a head
pub head_front : (buf : List ℕ) (h : RequestHead) (rest : List ℕ) (n : ℕ) → ReadsRequest buf h rest → ¬ (IsHopeless (take n buf))
head_front buf h rest n reads none = by_length (cases_lt (length (take n buf)) (length (print_request h)))
  where
    whole : take n buf ++ drop n buf ≡ print_request h ++ rest
    whole = take-append-drop n buf ∙ reads.1

    by_length : (length (take n buf) < length (print_request h)) ⊎ (length (print_request h) ≤ length (take n buf)) → ⊥
    by_length (inl short) =
        let z = front_of_front (take n buf) (drop n buf) (print_request h) rest whole (omega arith) in
        none.closed (inl (z.0, h, (reads.0, sym z.1 ∙ sym (append-nil (print_request h)))))
    by_length (inr long) =
        let z = front_of_front (print_request h) rest (take n buf) (drop n buf) (sym whole) (omega arith) in
        none.none h z.0 (reads.0, z.1)

abbrev IsTokenByte : ℕ → Type 0
IsTokenByte b = IsTrue (is_token_byte b)

get_token : IsToken (codes "GET")
unfolding is_token_byte
get_token = (omega arith, All-cons IsTokenByte 71 (69 ∷ 84 ∷ []) refl (All-cons IsTokenByte 69 (84 ∷ []) refl (All-cons IsTokenByte 84 [] refl (All-nil IsTokenByte))))

-- no bytes may become a head
pub empty_may : MayBecomeRequest []
empty_may =
    let goes = cut_goes_on (codes "GET") [] (codes "GET") get_token refl in
    inl ((codes "GET" ++ 32 ∷ []) ++ some_rest, some_head [] (codes "GET"), goes)
