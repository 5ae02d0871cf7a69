-- Each tidy account has one sweep at each moment, and it is short.
use Rattle.std.proofs.Common.{◌≡◌, ℕ, zero, suc, ◌*◌, ◌≤◌, List, [], ◌∷◌, refl, sym, ◌∙◌, subst, true, arith, length, sum_by}
use Rattle.std.specs.Prelude.{Option, Some, None, MatchOption}
use Rattle.std.specs.List.{AllByRecursion, list_all}
use Rattle.std.proofs.lemmas.Bool.{and_parts}
use Rattle.std.proofs.lemmas.List.Sums.{sum_by-cons}
use Rattle.office_base.specs.Maps.{at_name}
use Rattle.stacks.specs.Stacks.{ids_differ, has_moments_until}
use Rattle.stacks.specs.Stacks.{StackRecord}
use Rattle.due_core.specs.Choice.{choice}
use Rattle.due_core.specs.declared.action.Action.{Action}
use Rattle.due_core.specs.Buckets.{BucketRecord}
use Rattle.plain_office.specs.Office.{Account, Office}
use Rattle.plain_office.specs.Changes.{effect}
use Rattle.plain_office.specs.Orderly.{IsOrderlyStack, IsOrderlyBucket, IsBlank, IsOrderlyUntil, IsOrderly}
use Rattle.plain_office.specs.Sweep.{IsSwept}
use Rattle.office_laws.specs.Bound.{most_actions, HasSweepWithin}
use Rattle.office_laws.proofs.Work.{work_left, stack_work, IsTidy}
use Rattle.office_laws.proofs.Lists.{every_weaker}
use Rattle.office_laws.proofs.Maps.{by_name, found_every}
use Rattle.office_laws.proofs.Lowers.{stack_most}
use Rattle.office_laws.proofs.Asked.{choice_suits}
use Rattle.office_laws.proofs.Effect.{effect_lowers}

-- ---- there is a sweep, no longer than the work that is left

sweep_from : (n u : ℕ) (account : Account) → IsTidy account.bucket → work_left account ≤ n → HasSweepWithin u account (work_left account)
sweep_from zero u account tidy enough = by (choice account.bucket u) refl where
  by : (o : Option Action) → choice account.bucket u ≡ o → HasSweepWithin u account (work_left account)
  by None is = ([], account, (is, refl), omega arith)
  by (Some chosen) is =
      let less = (effect_lowers account tidy chosen (choice_suits account.bucket tidy u chosen is)).0 in
      absurd (omega arith)
sweep_from (suc n) u account tidy enough = by (choice account.bucket u) refl (λ after tidy enough. sweep_from n u after tidy enough) where
  by : (o : Option Action) → choice account.bucket u ≡ o
      → ((after : Account) → IsTidy after.bucket → work_left after ≤ n → HasSweepWithin u after (work_left after)) → HasSweepWithin u account (work_left account)
  by None is more = ([], account, (is, refl), omega arith)
  by (Some chosen) is more =
      let less = effect_lowers account tidy chosen (choice_suits account.bucket tidy u chosen is) in
      let fewer : work_left (effect chosen account) ≤ n = omega (arith, less.0) in
      let rest = more (effect chosen account) less.1 fewer in
      (chosen ∷ rest.0, rest.1, (is, rest.2), omega (arith, less.0, rest.3))

pub sweep_exists : (u : ℕ) (account : Account) → IsTidy account.bucket → HasSweepWithin u account (work_left account)
sweep_exists u account tidy = sweep_from (work_left account) u account tidy (omega arith)

-- ---- and only one

pub one_sweep : (u : ℕ) (actions others : List Action) (before after end : Account) → IsSwept u actions before after → IsSwept u others before end → (actions ≡ others) × (after ≡ end)
one_sweep u [] [] before after end h k = (refl, h.1 ∙ sym k.1)
one_sweep u [] (b ∷ others) before after end h k = absurd (cc)
one_sweep u (a ∷ actions) [] before after end h k = absurd (cc)
one_sweep u (a ∷ actions) (b ∷ others) before after end h k =
    let same : b ≡ a = cc in
    let next : IsSwept u others (effect a before) end = subst (λ (x : Action). IsSwept u others (effect x before) end) same k.1 in
    let rest = one_sweep u actions others (effect a before) after end h.1 next in
    (cc, rest.1)

-- ---- the bound

stacks_most : (stacks : List (List ℕ × StackRecord))
    → sum_by (λ (stack : List ℕ × StackRecord). stack_work stack.1) stacks ≤ 8 * sum_by (λ (stack : List ℕ × StackRecord). length stack.1.versions) stacks
stacks_most [] = omega arith
stacks_most (e ∷ es) =
    let h = stacks_most es in
    let a = sum_by-cons (λ (stack : List ℕ × StackRecord). stack_work stack.1) e es in
    let b = sum_by-cons (λ (stack : List ℕ × StackRecord). length stack.1.versions) e es in
    omega (arith, stack_most e.1.versions)

pub work_most : (account : Account) → work_left account ≤ most_actions account.bucket
work_most account = omega (arith, stacks_most account.bucket.stacks)

-- ---- an orderly bucket is tidy

pub tidy_from_orderly : (last : ℕ) (bucket : BucketRecord) → IsOrderlyBucket last bucket → IsTidy bucket
tidy_from_orderly last bucket orderly = record {
  keys = orderly.keys;
  numbers = orderly.numbers;
  ids = every_weaker (λ (entry : List ℕ × StackRecord). IsOrderlyStack bucket.versioning bucket.next_version last entry.1) (λ (entry : List ℕ × StackRecord). ids_differ entry.1.versions ≡ true)
      (λ entry h. (and_parts (ids_differ entry.1.versions) (list_all (has_moments_until entry.1.changed) entry.1.versions) h.ids_and_moments).0) bucket.stacks orderly.stacks;
}

pub sweep_ends : (u last : ℕ) (account : Account) → IsOrderlyBucket last account.bucket → HasSweepWithin u account (most_actions account.bucket)
sweep_ends u last account orderly =
    let s = sweep_exists u account (tidy_from_orderly last account.bucket orderly) in
    let most = work_most account in
    (s.0, s.1, s.2, omega (arith, s.3))

-- ---- each account of an orderly office

abbrev HasSweeps : List ℕ × Account → Type 0
HasSweeps entry = (u : ℕ) → HasSweepWithin u entry.1 (most_actions entry.1.bucket)

sweeps_by : (office : Office) (last : Option ℕ) → MatchOption last (IsBlank office) (λ moment. IsOrderlyUntil moment office) → AllByRecursion HasSweeps office.accounts
sweeps_by office None blank = subst (AllByRecursion HasSweeps) (sym blank.accounts) tt
sweeps_by office (Some last) until =
    every_weaker (λ (entry : List ℕ × Account). IsOrderlyBucket last entry.1.bucket) HasSweeps (λ entry h u. sweep_ends u last entry.1 h) office.accounts until.buckets

pub office_sweeps : (u : ℕ) (office : Office) (name : List ℕ) (account : Account) → IsOrderly office → at_name name office.accounts ≡ Some account
    → HasSweepWithin u account (most_actions account.bucket)
office_sweeps u office name account orderly is =
    found_every by_name HasSweeps name account office.accounts (sweeps_by office office.last orderly.records.moments) is u
