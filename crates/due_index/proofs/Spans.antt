-- The noncurrent versions that ceased from one moment until another are a part of the stack.
use Rattle.std.proofs.Common.{◌≡◌, ℕ, ◌+◌, ◌-◌, ◌<◌, ◌≤◌, inl, inr, List, [], ◌∷◌, length, get_or, All, sym, ap, ◌∙◌, subst, true, arith, zero, suc}
use Rattle.std.specs.Prelude.{Some, IfSome, slice_get, Contains}
use Rattle.std.specs.List.{between}
use Rattle.std.proofs.lemmas.Bool.{cases_lt}
use Rattle.std.proofs.lemmas.List.{get_or_default}
use Rattle.std.proofs.lemmas.Option.{slice_get-get_or}
use Rattle.std.proofs.lemmas.List.Edits.{get_or-between, length-between}
use Rattle.stacks.specs.Ceasing.{cease_in_order}
use Rattle.stacks.specs.declared.version.Version.{Version}
use Rattle.rules_core.specs.declared.rule.Rule.{Rule}
use Rattle.rules_core.specs.declared.rule.SizeMode.{SizeMode}
use Rattle.due_index.specs.Blocks.{KeepsMarks, BlockRecord, IsMarkedFor, IsRightFor, HasSpan, but_first}
use Rattle.std.proofs.lemmas.List.Elements.{All-contains}
use Rattle.due_index.proofs.Oldest.{noncurrent_order}

-- an older one of the noncurrent versions did not cease after a newer one
rest_order : (changed : ℕ) (versions : List Version) → cease_in_order changed versions ≡ true → (j k : ℕ) (d : Version) → j ≤ k → k < length (but_first versions)
    → (get_or (but_first versions) k d).ceased ≤ (get_or (but_first versions) j d).ceased
rest_order changed [] is j k d le less = absurd (omega arith)
rest_order changed (v ∷ vs) is j k d le less = noncurrent_order changed (v ∷ vs) is (suc j) (suc k) d (omega arith) (omega arith) (omega arith)

there : (vs : List Version) (k : ℕ) (d : Version) (P : Version → Type 0) → k < length vs → IfSome (slice_get vs k) P → P (get_or vs k d)
there vs k d P less h = subst (λ o. IfSome o P) (slice_get-get_or vs k d less) h

within_part : (vs : List Version) (start end k : ℕ) (d : Version) → start ≤ k → k < end → end ≤ length vs → Contains (between start end vs) (get_or vs k d)
within_part vs start end k d from less past =
    let length_is = length-between vs start end past in
    let size : k - start < length (between start end vs) = omega (arith, length_is) in
    let same : start + (k - start) ≡ k = omega arith in
    let less : k < length vs = omega arith in (
      k - start,
      size,
      get_or-between vs start end (k - start) (get_or vs k d) (omega arith) ∙ ap (λ n. get_or vs n (get_or vs k d)) same
          ∙ get_or_default vs k (get_or vs k d) d less,
    )

has_span : (changed : ℕ) (versions : List Version) → cease_in_order changed versions ≡ true → (start end from until : ℕ) → start ≤ end → end ≤ length (but_first versions)
    → (0 < start → IfSome (slice_get (but_first versions) (start - 1)) (λ v. until < v.ceased))
    → IfSome (slice_get (but_first versions) end) (λ v. v.ceased < from) → HasSpan from until (between start end (but_first versions)) (but_first versions)
has_span changed versions is start end from until ends past newer older k d less after before = elim (cases_lt k start) [
  | inl new ↦ let last = there (but_first versions) (start - 1) d (λ v. until < v.ceased) (omega arith) (newer (omega arith)) in
      let order = rest_order changed versions is k (start - 1) d (omega arith) (omega arith) in absurd (omega (arith, last, order, before))
  | inr from_start ↦ elim (cases_lt k end) [
    | inl in_part ↦ within_part (but_first versions) start end k d from_start in_part past
    | inr old ↦ let first = there (but_first versions) end d (λ v. v.ceased < from) (omega arith) older in
        let order = rest_order changed versions is end k d old less in absurd (omega (arith, first, order, after))
  ]
]

pub span_of : (changed : ℕ) (versions rest : List Version) → cease_in_order changed versions ≡ true → rest ≡ but_first versions → (start end from until : ℕ) → start ≤ end → end ≤ length rest
    → (0 < start → IfSome (slice_get rest (start - 1)) (λ v. until < v.ceased)) → IfSome (slice_get rest end) (λ v. v.ceased < from)
    → HasSpan from until (between start end rest) (but_first versions)
span_of changed versions rest is same start end from until ends =
    subst (λ (vs : List Version). end ≤ length vs → (0 < start → IfSome (slice_get vs (start - 1)) (λ v. until < v.ceased))
    → IfSome (slice_get vs end) (λ v. v.ceased < from) → HasSpan from until (between start end vs) (but_first versions)) (sym same)
    (λ past newer older. has_span changed versions is start end from until ends past newer older)

-- ---- a block of a span

-- a block that goes on until a later moment
abbrev pub until_later : ℕ → BlockRecord → BlockRecord
until_later until block = record { from = block.from; until = until; marks = block.marks }

module _ (mode : SizeMode) (rules : List Rule) (key : List ℕ) (versions : List Version) where
  -- a block whose marks have what the versions of its span take is right
  pub span_right : (block : BlockRecord) (from until : ℕ) (part : List Version) → block.from ≡ from → block.until ≡ until → HasSpan from until part versions
      → ((place : ℕ) (rule : Rule) → slice_get rules place ≡ Some rule → All (IsMarkedFor mode key place rule block.marks) part)
      → All (IsRightFor mode rules key block) versions
  span_right block from until part from_is until_is span marked i d less = λ inside place rule at.
      All-contains (IsMarkedFor mode key place rule block.marks) part (get_or versions i d) (marked place rule at)
      (span i d less (let after = inside.0 in omega (arith, after, from_is)) (let before = inside.1 in omega (arith, before, until_is)))

  -- a block that takes in the newest version stays right, if no other one is newer than the block
  module _ (changed : ℕ) (all : List Version) (same : versions ≡ but_first all) (is : cease_in_order changed all ≡ true) (old new : BlockRecord)
      (from_is : new.from ≡ old.from) (kept : KeepsMarks old.marks new.marks) (newest : Version) (here : newest ≡ get_or versions 0 newest) (some : 0 < length versions)
      (marked : (place : ℕ) (rule : Rule) → slice_get rules place ≡ Some rule → IsMarkedFor mode key place rule new.marks newest)
      (second : IfSome (slice_get versions 1) (λ v. v.ceased ≤ old.until)) (right : All (IsRightFor mode rules key old) versions) where
    order : (j k : ℕ) (d : Version) → j ≤ k → k < length versions → (get_or versions k d).ceased ≤ (get_or versions j d).ceased
    order = subst (λ (vs : List Version). (j k : ℕ) (d : Version) → j ≤ k → k < length vs → (get_or vs k d).ceased ≤ (get_or vs j d).ceased) (sym same)
        (rest_order changed all is)

    pub grown_right : All (IsRightFor mode rules key new) versions
    grown_right zero d less = λ inside place rule at. subst (IsMarkedFor mode key place rule new.marks) (here ∙ get_or_default versions 0 newest d some) (marked place rule at)
    grown_right (suc i) d less = λ inside place rule at step among takes.
        let next = there versions 1 d (λ v. v.ceased ≤ old.until) (omega arith) second in
        let older = order 1 (suc i) d (omega arith) less in
        let from : old.from ≤ (get_or versions (suc i) d).ceased = (let after = inside.0 in omega (arith, after, from_is)) in
        let until : (get_or versions (suc i) d).ceased ≤ old.until = omega (arith, next, older) in
        kept place step.kind (right (suc i) d less (from, until) place rule at step among takes)
