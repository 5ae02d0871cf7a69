use Rattle.std.proofs.Common.{◌≡◌, ◌+◌, List, ℕ, drop, refl, sym, ap, ◌∙◌, subst}
use Rattle.std.specs.List.{list_all}
use Rattle.std.proofs.lemmas.Bool.{false≢true}
use Rattle.std.proofs.lemmas.List.Sums.{AllPass-from_list_all, list_all-from_AllPass}
use Rattle.httparse.specs.Grammar.{MayBecomeRequest, HasNoRequest, NeverHasRequest, is_uri_byte}
use Rattle.http_wire.proofs.TargetLemmas.{whole_rest, take_at, ends_by_cut, target_uri, not_never, no_space_no_target}
use Rattle.http_wire.proofs.head.ends_in_target.Goals as goal

pub returns-then-is_partial : goal.returns-then-is_partial
returns-then-is_partial c =
    let buf = c.args.bytes.now in
    let at = c.in-Some.space in
    let found = c.in-Some.ensures.found in
    let all : c.all_in_target.result ≡ list_all is_uri_byte (drop (at + 1) buf) = c.all_in_target.ensures ∙ ap (list_all is_uri_byte) (whole_rest buf at) in (
      λ yes. ends_by_cut buf at found.0 found.1 found.2
          (subst MayBecomeRequest (take_at buf at found.0 found.1) (c.if-is_partial.ensures.yes refl).may)
          (AllPass-from_list_all is_uri_byte (drop (at + 1) buf) (sym all ∙ yes)),
      λ ends. all ∙ list_all-from_AllPass is_uri_byte (drop (at + 1) buf) (target_uri buf at found.0 found.1 found.2 ends),
    )

pub returns-else-is_partial : goal.returns-else-is_partial
returns-else-is_partial c =
    let buf = c.args.bytes.now in
    let at = c.in-Some.space in
    let found = c.in-Some.ensures.found in
    let never = subst (λ (t : List ℕ). HasNoRequest t → NeverHasRequest t) (take_at buf at found.0 found.1)
    (c.if-is_partial.ensures.no refl) in (
      λ yes. absurd (false≢true (sym c.if-is_partial.false ∙ yes)),
      λ ends. absurd (not_never buf at found.0 found.1 found.2 never ends),
    )

pub returns-in-None : goal.returns-in-None
returns-in-None c = (
  λ yes. absurd (false≢true yes),
  λ ends. absurd (no_space_no_target c.args.bytes.now (c.in-None.ensures.none refl) ends),
)
