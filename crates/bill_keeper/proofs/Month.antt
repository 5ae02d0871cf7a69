-- What the third statement shows.
use Rattle.std.proofs.Common.{◌≡◌, inl, inr, ℕ, List, [], ◌∷◌, map, filter, flat_map, Bool, true, false, ◌&&◌, Ok, Err, Result, IfOk, if◌then◌else◌, IsPermutation, IsSorted, refl, sym, ap, subst, ◌∙◌}
use Rattle.std.specs.Ordering.{is_lt, ordering_then}
use Rattle.std.specs.declared.cmp.Ordering.{Ordering}
use Rattle.std.specs.declared.cmp.Ordering.TheVariants.{Less, Equal, Greater}
use Rattle.std.proofs.lemmas.Bool.{cases_Bool}
use Rattle.sqlite.specs.declared.types.Value.TheVariants.{Null, Text}
use Rattle.sqlite.specs.Order.{Row, column}
use Rattle.sqlite.specs.Term.{Env}
use Rattle.sqlite.specs.Query.{IsAnswer, Output, output, output_cmp}
use Rattle.sqlite.specs.Program.{overlay}
use Rattle.sqlite_value.specs.Keys.{by_key, ascending}
use Rattle.sqlite.specs.Collation.TheVariants.{Binary}
use Rattle.sqlite.specs.declared.error.Error.{Error}
use Rattle.sqlite.specs.State.{State, Shown}
use Rattle.sqlite.proofs.Callers.{reads_as}
use Rattle.bill_rows.specs.Rows.{bills_schema, select_text, in_month, keyed, IsMonth}
use Rattle.bill_keeper.proofs.Texts.{month_query, month_is, month_plain}

staged_are : (month : List ℕ) (rows : List Row) (pick : Row → Bool) → ((r : Row) → pick r ≡ in_month month r)
    → flat_map (λ r. if pick r && true then ((Text month ∷ []) ∷ r ∷ []) ∷ [] else []) rows ≡ map (λ (r : Row). (Text month ∷ []) ∷ r ∷ []) (filter (in_month month) rows)
staged_are month [] pick same = refl
staged_are month (r ∷ rows) pick same = elim (cases_Bool (in_month month r)) [
  | inl here ↦ rw (same r, here, staged_are month rows pick same)
  | inr not ↦ rw (same r, not, staged_are month rows pick same)
]

map-map : {A B C : Type 0} (g : B → C) (f : A → B) (xs : List A) → map g (map f xs) ≡ map (λ x. g (f x)) xs
map-map g f [] = refl
map-map g f (x ∷ xs) = ap (λ more. g (f x) ∷ more) (map-map g f xs)

then_same : (o : Ordering) → ordering_then o Equal ≡ o
then_same Less = refl
then_same Equal = refl
then_same Greater = refl

pub month_shows : (old new : State) (month : List ℕ) (rows : List Row) → old.now.schema ≡ bills_schema → Shown select_text (Text month ∷ []) old new rows → IsMonth month (old.now.trees 0) rows
month_shows old new month rows has h =
    let params = Text month ∷ [] in
    let got = reads_as select_text params old new bills_schema has _ month_is.0 month_plain month_is.1 rows h in
    let a : IsAnswer month_query (overlay old.now.trees []) params rows = got.answer Null in
    let staged : a.staged ≡ map (λ (r : Row). params ∷ r ∷ []) (filter (in_month month) (old.now.trees 0)) = a.grouped ∙ staged_are month (old.now.trees 0) _ (λ r. refl) in
    let kept : a.kept ≡ map keyed (filter (in_month month) (old.now.trees 0)) = a.distinct ∙ ap (map (output month_query)) staged ∙ map-map (output month_query) _ _ in
    record { ordered = a.ordered; same = subst (λ k. IsPermutation k a.ordered) kept a.same; sorted = λ k d low high. subst (λ o. is_lt o ≡ false) (then_same _) (a.sorted k d low high); answer_is = a.shown }

pub answer_shows : {V : Type 0} (items : V → List Row) (old new : State) (month : List ℕ) (r : Result V Error) → old.now.schema ≡ bills_schema
    → IfOk r (λ v. Shown select_text (Text month ∷ []) old new (items v)) → IfOk r (λ v. IsMonth month (old.now.trees 0) (items v))
answer_shows items old new month (Err e) has h = tt
answer_shows items old new month (Ok v) has h = month_shows old new month (items v) has h
