-- What is kept of commands with a token.
use Rattle.std.proofs.Common.{◌≡◌, ◌⊎◌, inl, inr, ◌∙◌, ℕ, ◌≤◌, Bool, true, false, List, [], ◌∷◌, length, refl, sym, subst, arith}
use Rattle.std.specs.Prelude.{Some, None}
use Rattle.std.specs.Bool.{Decides}
use Rattle.std.specs.Str.{bytes_eq}
use Rattle.std.specs.List.{AllByRecursion, list_any}
use Rattle.std.proofs.lemmas.Bool.{not-true, not_from_false, or_parts, or_from, cond-true, cond-false, cases_Bool}
use Rattle.office_types.specs.Kept.{reply_of, tells_marker, number_told}
use Rattle.office_types.specs.Tokens.{takes_token}
use Rattle.office_types.specs.declared.kept.Kept.{Kept}
use Rattle.plain_office.specs.Office.{KeptReply}
use Rattle.plain_office.specs.Once.{kept_at, most_kept}
use Rattle.plain_office.specs.Orderly.{TokensDiffer, AreKept}
use Rattle.office_snapshot.specs.Snapshots.{replies_of}
use Rattle.office_snapshot.specs.Restorable.{IsKept}
use Rattle.restorable.specs.Tests.{is_kept, tokens_differ, are_kept}
use Rattle.restorable.proofs.Lists.{change, both, le, eq, itself, each, same_flags}

abbrev reply_in : Kept → KeptReply
reply_in kept = record { token = kept.token; command = kept.command; reply = reply_of kept }

abbrev others_have : List ℕ → List Kept → Bool
others_have token kept = list_any (λ (other : Kept). bytes_eq token other.token) kept

none_to : (token : List ℕ) (kept : List Kept) → others_have token kept ≡ false → kept_at token (replies_of kept) ≡ None
none_to token [] e = refl
none_to token (k ∷ kept) e =
    let h = or_parts (bytes_eq token k.token) (others_have token kept) e in
    cond-false (bytes_eq token k.token) (Some (reply_in k)) (kept_at token (replies_of kept)) h.0 ∙ none_to token kept h.1

none_back : (token : List ℕ) (kept : List Kept) → kept_at token (replies_of kept) ≡ None → others_have token kept ≡ false
none_back token [] n = refl
none_back token (k ∷ kept) n = by (cases_Bool (bytes_eq token k.token)) (none_back token kept)
  where
    there : Some (reply_in k) ≡ None → ⊥
    there e = absurd cc

    by : (bytes_eq token k.token ≡ true) ⊎ (bytes_eq token k.token ≡ false) → (kept_at token (replies_of kept) ≡ None → others_have token kept ≡ false) → others_have token (k ∷ kept) ≡ false
    by (inl on) rest = absurd (there (sym (cond-true (bytes_eq token k.token) (Some (reply_in k)) (kept_at token (replies_of kept)) on) ∙ n))
    by (inr off) rest =
        or_from _ _ off (rest (sym (cond-false (bytes_eq token k.token) (Some (reply_in k)) (kept_at token (replies_of kept)) off) ∙ n))

differ_decide : (kept : List Kept) → Decides (tokens_differ kept) (TokensDiffer (replies_of kept))
differ_decide [] = (λ e. tt, λ d. refl)
differ_decide (k ∷ kept) =
    both _ _ (λ e. none_to k.token kept (not-true _ e), λ n. not_from_false _ (none_back k.token kept n)) (differ_decide kept)

kept_decides : (kept : Kept) → Decides (is_kept kept) (IsKept kept)
kept_decides kept =
    change (is_kept kept) (λ p. record { takes = p.0.0; marker = p.0.1; told = p.1 }) (λ h. ((h.takes, h.marker), h.told))
    (both _ _ (both _ _ (itself (takes_token kept.command)) (same_flags kept.marker (tells_marker (reply_of kept)))) (eq kept.told (number_told (reply_of kept))))

as_many : (kept : List Kept) → length (replies_of kept) ≡ length kept
as_many [] = refl
as_many (k ∷ kept) = let rest : length (replies_of kept) ≡ length kept = as_many kept in omega (arith, rest)

-- what is said of the kept replies
pub record AreKeptSo (kept : List Kept) : Type 0 where
  pub form : AllByRecursion IsKept kept
  pub kept_so : AreKept (replies_of kept)

abbrev KeptParts : List Kept → Type 0
KeptParts kept = ((length kept ≤ most_kept) × AllByRecursion IsKept kept) × TokensDiffer (replies_of kept)

pub all_kept_decide : (kept : List Kept) → Decides (are_kept kept) (AreKeptSo kept)
all_kept_decide kept =
    change (are_kept kept) to back (both _ _ (both _ _ (le (length kept) most_kept) (each is_kept IsKept kept_decides kept)) (differ_decide kept))
  where
    to : KeptParts kept → AreKeptSo kept
    to p = record { form = p.0.1; kept_so = record { few = subst (λ (n : ℕ). n ≤ most_kept) (sym (as_many kept)) p.0.0; differ = p.1 } }

    back : AreKeptSo kept → KeptParts kept
    back h = ((subst (λ (n : ℕ). n ≤ most_kept) (as_many kept) h.kept_so.few, h.form), h.kept_so.differ)
