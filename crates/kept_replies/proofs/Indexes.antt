-- The index of the queue agrees with the queue.
use Rattle.std.proofs.Common.{◌≡◌, ℕ, suc, ◌+◌, ◌-◌, ◌≤◌, ◌<◌, List, [], ◌∷◌, ◌++◌, length, drop, refl, ap, sym, ◌∙◌, subst, Bool, true, false, cond, arith, Option, Some, None}
use Rattle.std.proofs.lemmas.Bool.{ltb-true, ltb-false, le-ltb}
use Rattle.std.proofs.lemmas.List.{length-append}
use Rattle.std.proofs.lemmas.Option.{same_Some}
use Rattle.std.specs.Prelude.{option_map, option_and_then, slice_get, nat_lt}
use Rattle.std.specs.Str.{bytes_eq}
use Rattle.office_base.specs.Maps.{at_name, with_name, without_name}
use Rattle.office_types.specs.declared.command.Command.{Command}
use Rattle.office_types.specs.declared.kept.Kept.{Kept}
use Rattle.office_laws.proofs.Maps.{by_name, bytes_same, bytes_itself, other_names, at_other, at_left}
use Rattle.plain_office.specs.Once.{most_kept, kept_at}
use Rattle.kept_replies.specs.Queue.{plain_reply, plain_replies, kept_in, with_kept}
use Rattle.kept_replies.specs.Indexed.{IsIndexed, IsHeld, without_held, if_its, found_at}

abbrev Numbers : Type 0
Numbers = List (List ℕ × ℕ)

-- ---- texts that differ

-- two texts differ either way round
pub apart_back : (a b : List ℕ) → bytes_eq a b ≡ false → bytes_eq b a ≡ false
apart_back a b apart = by (bytes_eq b a) refl where
  by : (t : Bool) → bytes_eq b a ≡ t → t ≡ false
  by false is = refl
  by true is =
      let same = bytes_same b a is in
      let itself : bytes_eq a b ≡ true = subst (λ (x : List ℕ). bytes_eq a x ≡ true) (sym same) (bytes_itself a) in
      absurd cc

-- texts under which other numbers stand differ
apart_by : (numbers : Numbers) (a b : List ℕ) (m n : ℕ) → at_name a numbers ≡ Some m → at_name b numbers ≡ Some n → m < n → bytes_eq a b ≡ false
apart_by numbers a b m n is_a is_b less = by (bytes_eq a b) refl where
  by : (t : Bool) → bytes_eq a b ≡ t → t ≡ false
  by false is = refl
  by true is =
      let both = sym is_a ∙ ap (λ (x : List ℕ). at_name x numbers) (bytes_same a b is) ∙ is_b in
      let same : m ≡ n = same_Some m n both in
      absurd (let bad : n < n = subst (λ (x : ℕ). x < n) same less in omega (arith, bad))

-- ---- what is found

found_none : (first : ℕ) (token : List ℕ) (o : Option ℕ) → found_at first token [] o ≡ None
found_none first token None = refl
found_none first token (Some n) = by (nat_lt n first) where
  by : (b : Bool) → cond b None (option_and_then (if_its token) (slice_get [] (n - first))) ≡ None
  by true = refl
  by false = refl

-- the first is found at the first number
found_first : (first : ℕ) (token : List ℕ) (kept : Kept) (queue : List Kept) → bytes_eq token kept.token ≡ true → found_at first token (kept ∷ queue) (Some first) ≡ Some kept
found_first first token kept queue is =
    let not_before : nat_lt first first ≡ false = le-ltb first first (omega arith) in
    let here : first - first ≡ 0 = omega arith in
    let same : bytes_eq kept.token token ≡ true = subst (λ (t : List ℕ). bytes_eq t token ≡ true) (bytes_same token kept.token is) (bytes_itself token) in
    rw (not_before, here, same) refl

-- behind the first it is as if that were not there
found_behind : (first : ℕ) (token : List ℕ) (kept : Kept) (queue : List Kept) (o : Option ℕ) → bytes_eq token kept.token ≡ false
    → found_at first token (kept ∷ queue) o ≡ found_at (first + 1) token queue o
found_behind first token kept queue None apart = refl
found_behind first token kept queue (Some n) apart = by (nat_lt n first) refl (nat_lt n (first + 1)) refl where
  by : (b : Bool) → nat_lt n first ≡ b → (c : Bool) → nat_lt n (first + 1) ≡ c
      → cond b None (option_and_then (if_its token) (slice_get (kept ∷ queue) (n - first))) ≡ cond c None (option_and_then (if_its token) (slice_get queue (n - (first + 1))))
  by true is true same = refl
  by true is false same = absurd (let less = ltb-true n first is in let from = ltb-false n (first + 1) same in omega (arith, less, from))
  by false is true same =
      let from = ltb-false n first is in
      let below = ltb-true n (first + 1) same in
      let here : n - first ≡ 0 = omega (arith, from, below) in
      let not_its = apart_back token kept.token apart in
      rw (here, not_its) refl
  by false is false same =
      let from = ltb-false n (first + 1) same in
      let next : n - first ≡ suc (n - (first + 1)) = omega (arith, from) in
      rw next refl

pub found_is : (first : ℕ) (numbers : Numbers) (token : List ℕ) (queue : List Kept) → IsIndexed first numbers queue → found_at first token queue (at_name token numbers) ≡ kept_in token queue
found_is first numbers token [] is = found_none first token (at_name token numbers)
found_is first numbers token (kept ∷ queue) is = by (bytes_eq token kept.token) refl (found_is (first + 1) numbers token queue is.1) where
  by : (b : Bool) → bytes_eq token kept.token ≡ b → found_at (first + 1) token queue (at_name token numbers) ≡ kept_in token queue
      → found_at first token (kept ∷ queue) (at_name token numbers) ≡ cond b (Some kept) (kept_in token queue)
  by true same more =
      let under : at_name token numbers ≡ Some first = ap (λ (t : List ℕ). at_name t numbers) (bytes_same token kept.token same) ∙ is.0 in
      ap (found_at first token (kept ∷ queue)) under ∙ found_first first token kept queue same
  by false apart more = found_behind first token kept queue (at_name token numbers) apart ∙ more

-- ---- the index after a change

-- a token that is not in the queue gets a number
pub indexed_with : (first : ℕ) (numbers : Numbers) (token : List ℕ) (n : ℕ) (queue : List Kept) → kept_in token queue ≡ None → IsIndexed first numbers queue → IsIndexed first (with_name token n numbers) queue
indexed_with first numbers token n [] none is = tt
indexed_with first numbers token n (kept ∷ queue) none is = by (bytes_eq token kept.token) refl none (λ h. indexed_with (first + 1) numbers token n queue h is.1) where
  by : (b : Bool) → bytes_eq token kept.token ≡ b → cond b (Some kept) (kept_in token queue) ≡ None
      → (kept_in token queue ≡ None → IsIndexed (first + 1) (with_name token n numbers) queue) → IsIndexed first (with_name token n numbers) (kept ∷ queue)
  by true same h more = absurd cc
  by false apart h more = (at_other by_name token n kept.token (other_names kept.token token (apart_back token kept.token apart)) numbers ∙ is.0, more h)

-- a token with a number that is no place of the queue is let go
pub indexed_without : (first : ℕ) (numbers : Numbers) (token : List ℕ) (next : ℕ) (queue : List Kept) → at_name token numbers ≡ Some next → first + length queue ≤ next → IsIndexed first numbers queue
    → IsIndexed first (without_name token numbers) queue
indexed_without first numbers token next [] under behind is = tt
indexed_without first numbers token next (kept ∷ queue) under behind is = (
  at_left by_name token kept.token (other_names kept.token token (apart_by numbers kept.token token first next is.0 under (omega (arith, behind)))) numbers ∙ is.0,
  indexed_without (first + 1) numbers token next queue under (omega (arith, behind)) is.1,
)

-- so is the first token
later_than : (first : ℕ) (numbers : Numbers) (token : List ℕ) (old : ℕ) (queue : List Kept) → at_name token numbers ≡ Some old → old < first → IsIndexed first numbers queue → IsIndexed first (without_name token numbers) queue
later_than first numbers token old [] under before is = tt
later_than first numbers token old (kept ∷ queue) under before is = (
  at_left by_name token kept.token (other_names kept.token token (apart_back token kept.token (apart_by numbers token kept.token old first under is.0 before))) numbers ∙ is.0,
  later_than (first + 1) numbers token old queue under (omega (arith, before)) is.1,
)

pub indexed_behind : (first : ℕ) (numbers : Numbers) (oldest : Kept) (queue : List Kept) → IsIndexed first numbers (oldest ∷ queue) → IsIndexed (first + 1) (without_name oldest.token numbers) queue
indexed_behind first numbers oldest queue is = later_than (first + 1) numbers oldest.token first queue is.0 (omega arith) is.1

-- the one that was held comes to the end
pub indexed_more : (first : ℕ) (numbers : Numbers) (kept : Kept) (queue : List Kept) → at_name kept.token numbers ≡ Some (first + length queue) → IsIndexed first numbers queue → IsIndexed first numbers (queue ++ kept ∷ [])
indexed_more first numbers kept [] under is = (let here : first + length (let none : List Kept = [] in none) ≡ first = omega arith in under ∙ ap Some here, tt)
indexed_more first numbers kept (oldest ∷ queue) under is = (is.0, indexed_more (first + 1) numbers kept queue (let same : first + length (oldest ∷ queue) ≡ (first + 1) + length queue = omega arith in under ∙ ap Some same) is.1)

-- ---- as the plain office keeps them

pub plain_found : (token : List ℕ) (queue : List Kept) → kept_at token (plain_replies queue) ≡ option_map plain_reply (kept_in token queue)
plain_found token [] = refl
plain_found token (kept ∷ queue) = by (bytes_eq token kept.token) (plain_found token queue) where
  by : (b : Bool) → kept_at token (plain_replies queue) ≡ option_map plain_reply (kept_in token queue)
      → cond b (Some (plain_reply kept)) (kept_at token (plain_replies queue)) ≡ option_map plain_reply (cond b (Some kept) (kept_in token queue))
  by true more = refl
  by false more = more

-- what was held is let go
pub indexed_let_go : (first : ℕ) (numbers : Numbers) (held : Option (List ℕ × Command)) (queue : List Kept) → IsHeld (first + length queue) numbers held → IsIndexed first numbers queue
    → IsIndexed first (without_held held numbers) queue
indexed_let_go first numbers None queue under is = is
indexed_let_go first numbers (Some held) queue under is = indexed_without first numbers held.0 (first + length queue) queue under (omega arith) is

-- ---- one more

pub pushed_all : (kept : Kept) (queue : List Kept) → length (queue ++ kept ∷ []) ≤ most_kept → with_kept kept queue ≡ queue ++ kept ∷ []
pushed_all kept queue few = let none : length (queue ++ kept ∷ []) - most_kept ≡ 0 = omega (arith, few) in ap (λ (n : ℕ). drop n (queue ++ kept ∷ [])) none

pub pushed_one : (kept : Kept) (queue : List Kept) → length queue ≤ most_kept → most_kept < length (queue ++ kept ∷ []) → with_kept kept queue ≡ drop 1 (queue ++ kept ∷ [])
pushed_one kept queue few many =
    let long = length-append queue (kept ∷ []) in
    let one : length (queue ++ kept ∷ []) - most_kept ≡ 1 = omega (arith, few, many, long) in
    ap (λ (n : ℕ). drop n (queue ++ kept ∷ [])) one
