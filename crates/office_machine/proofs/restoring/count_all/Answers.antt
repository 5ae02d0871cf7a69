use Rattle.std.proofs.Common.{◌≡◌, ◌+◌, ◌*◌, ◌≤◌, ℕ, List, ap, sym, subst, rules, arith}
use Rattle.std.specs.List.{AllByRecursion}
use Rattle.std.specs.Map.Iter.{deref_pair}
use Rattle.std.proofs.lemmas.Map.Iter.{rest_more, rest_all}
use Rattle.plain_office.specs.Counts.{limit_of}
use Rattle.office_types.specs.declared.refusal.What.{What}
use Rattle.bucket_account.specs.Counting.{amount}
use Rattle.bucket_account.specs.Restoring.{AreFewIn}
use Rattle.office_machine.specs.Parts.{in_all}
use Rattle.office_machine.proofs.Parts.{Entry, amount_more, amount_fits, amount_all}
use Rattle.office_machine.proofs.restoring.count_all.Goals as goal

abbrev AreFew : List Entry → Type 0
AreFew entries = AllByRecursion (λ (entry : Entry). AreFewIn entry.1.bucket) entries

pub loop-account-init : goal.loop-account-init
loop-account-init c =
    let all : c.into_iter-account-iterator.result ≡ c.args.accounts.now.entries = search rules in
    record {
      each = subst AreFew (sym all) c.requires.few.each;
      counted = λ what. ap (λ (l : List Entry). amount what c.args.beside + in_all what l) all;
    }

pub counts-requires : goal.counts-requires
counts-requires c =
    let more = rest_more deref_pair c.loop-account.account-iterator c.next.new.self c.next.result (c.in-Some.field-0-0, c.in-Some.account) c.in-Some.is c.next.ensures.steps in
    record { few = (subst AreFew more c.loop-account.invariant.each).0 }

pub sum_of-counts-requires : goal.sum_of-counts-requires
sum_of-counts-requires c = record { few = fits } where
  fits : (what : What) → amount what c.loop-account.counts + amount what c.counts.result ≤ 4 * limit_of what
  fits what =
      let more = rest_more deref_pair c.loop-account.account-iterator c.next.new.self c.next.result (c.in-Some.field-0-0, c.in-Some.account) c.in-Some.is c.next.ensures.steps in
      let total = amount what c.args.beside + in_all what c.args.accounts.now.entries in
      let few : total ≤ 4 * limit_of what = omega (arith, c.requires.beside what, c.requires.few.all what) in
      amount_fits (amount what c.loop-account.counts) what c.loop-account.account-iterator total (4 * limit_of what) (c.in-Some.field-0-0.now, c.in-Some.account.now) c.next.new.self
      (c.loop-account.invariant.counted what) more (amount what c.counts.result) (c.counts.ensures what) few

pub loop-account-preserved : goal.loop-account-preserved
loop-account-preserved c =
    let more = rest_more deref_pair c.loop-account.account-iterator c.next.new.self c.next.result (c.in-Some.field-0-0, c.in-Some.account) c.in-Some.is c.next.ensures.steps in
    record {
      each = (subst AreFew more c.loop-account.invariant.each).1;
      counted = λ what.
          let total = amount what c.args.beside + in_all what c.args.accounts.now.entries in
          amount_more (amount what c.loop-account.counts) what c.loop-account.account-iterator total (4 * limit_of what) (c.in-Some.field-0-0.now, c.in-Some.account.now) c.next.new.self
          (c.loop-account.invariant.counted what) more (amount what c.counts.result) (amount what c.sum_of-counts.result) (c.counts.ensures what) (c.sum_of-counts.ensures what);
    }

pub returns : goal.returns
returns c = λ what.
    amount_all (amount what c.loop-account.counts) what c.loop-account.account-iterator (amount what c.args.beside + in_all what c.args.accounts.now.entries) (c.loop-account.invariant.counted what)
    (rest_all deref_pair c.loop-account.account-iterator c.next.new.self c.next.result c.in-None.is c.next.ensures.steps)
