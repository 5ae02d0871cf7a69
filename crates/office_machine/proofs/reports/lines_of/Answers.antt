use Rattle.std.proofs.Common.{◌≡◌, ◌+◌, ℕ, List, ◌∷◌, length, sym, ap, ◌∙◌, subst, arith, add-one}
use Rattle.bucket_account.specs.Counting.{AccountRecord}
use Rattle.office_machine.proofs.Rows.{IsListing, went_on}
use Rattle.office_machine.proofs.reports.lines_of.Goals as goal

fewer_by : {X : Type 0} {xs : List X} {x : X} {rest : List X} → xs ≡ x ∷ rest → length xs ≡ length rest + 1
fewer_by is = ap (λ (l : List _). length l) is ∙ sym (add-one _)

pub loop-name-preserved : goal.loop-name-preserved
loop-name-preserved c =
    let listing = c.loop-name.invariant.0 in
    let small = c.loop-name.invariant.1 in
    let added = c.in_ok-push_bucket.ensures.small in
    let left : c.loop-name.name-iterator ≡ (c.in-Some.name.now, c.in-Some.account.now) ∷ c.next.new.self = c.in-Some.ensures.steps in
    let fewer : length c.loop-name.name-iterator ≡ length c.next.new.self + 1 = fewer_by left in (
      went_on c.args.tariff.now c.args.month c.args.t (c.in-Some.name.now, c.in-Some.account.now) c.next.new.self c.loop-name.lines.items c.push_bucket.new.lines.items c.used_of.result
          c.in_ok-push_bucket.ensures.lines c.used_of.ensures c.args.accounts.now.entries
          (subst (λ (l : List (List ℕ × AccountRecord)). IsListing c.args.tariff.now c.args.month c.args.t c.args.accounts.now.entries l c.loop-name.lines.items) left listing),
      omega (arith, small, added, fewer),
    )
