-- What putting a month in makes of a connection, from its three steps.
use Rattle.std.proofs.Common.{◌≡◌, ◌≢◌, ◌⊎◌, inl, inr, ℕ, pos, ◌≤◌, List, [], length, Bool, true, false, Ok, Err, Result, IsTrue, MatchBool, refl, sym, ap, subst, ◌∙◌, arith}
use Rattle.std.specs.Global.{Vec}
use Rattle.std.specs.Prelude.{filter}
use Rattle.sqlite.specs.Order.{Row}
use Rattle.sqlite.specs.View.{doubt}
use Rattle.sqlite.specs.declared.error.Error.{Error}
use Rattle.sqlite.specs.State.{State, HasCleanDisk, KeepsCommit}
use Rattle.bill_book.specs.declared.bill.Bill.{Bill}
use Rattle.bill_rows.specs.Rows.{in_month, IsMonth}
use Rattle.bill_rows.specs.Books.{has_header}
use Rattle.bill_rows.specs.Puts.{IsHeaderPut, PutsRow, PutsBills}
use Rattle.bill_rows.proofs.Alone.{had_none}
use Rattle.bill_keeper.specs.Steps.{Works, WorksBy, PostsMonth}
use Rattle.bill_keeper.proofs.Inside.{keeps_then}

module _ (month total : List ℕ) (count : ℕ) (bills : List Bill) where
  put_at : (b : Bool) (written : ℕ) (before after : List Row) → has_header month before ≡ b → (written ≡ 0 → ⊥)
      → MatchBool b ((written ≡ 0) × (after ≡ before)) ((written ≡ 1) × PutsRow month [] total (pos count) before after)
      → (has_header month before ≡ false) × PutsRow month [] total (pos count) before after
  put_at true written before after is some put = absurd (some put.0)
  put_at false written before after is some put = (is, put.1)

  there_at : (b : Bool) (written : ℕ) (before after : List Row) → has_header month before ≡ b → written ≡ 0
      → MatchBool b ((written ≡ 0) × (after ≡ before)) ((written ≡ 1) × PutsRow month [] total (pos count) before after)
      → (has_header month before ≡ true) × (after ≡ before)
  there_at true written before after is none put = (is, put.1)
  there_at false written before after is none put = absurd (omega (arith, none, put.0))

  pub month_there : (a b : State) (written : ℕ) → WorksBy a b (Ok written) (IsHeaderPut month total (pos count)) → written ≡ 0 → WorksBy a b (Ok false) (PostsMonth month total count bills)
  month_there a b written put none clean begun =
      let first = put clean begun in
      record {
        kept = first.kept;
        stays = first.stays;
        done = λ has. let it = first.done has in (it.0, (there_at (has_header month (a.now.trees 0)) written (a.now.trees 0) (b.now.trees 0) refl none it.1, λ no. absurd (let e = no in cc)));
      }

  pub month_put : (a b c d : State) (written : ℕ) (rows : Vec Row) → (written ≡ 0 → ⊥) → doubt b.is_clean ≤ doubt c.is_clean → doubt c.is_clean ≤ doubt d.is_clean
      → WorksBy a b (Ok written) (IsHeaderPut month total (pos count))
      → WorksBy b c (Ok rows) (λ (it : Vec Row) before after. (after ≡ before) × IsMonth month before it.items × (length it.items ≡ 1))
      → WorksBy c d (Ok (tt {0})) (λ _. PutsBills month bills) → WorksBy a d (Ok true) (PostsMonth month total count bills)
  month_put a b c d written rows some less more put read puts clean begun =
      let clean_c : HasCleanDisk c = omega (arith, more, clean) in
      let clean_b : HasCleanDisk b = omega (arith, less, clean_c) in
      let first = put clean_b begun in
      let then = read clean_c first.stays in
      let last = puts clean then.stays in
      record {
        kept = keeps_then a c d (keeps_then a b c first.kept then.kept) last.kept;
        stays = last.stays;
        done = λ has.
            let headed = first.done has in
            let header = put_at (has_header month (a.now.trees 0)) written (a.now.trees 0) (b.now.trees 0) refl some headed.1 in
            let same = then.done headed.0 in
            let all = last.done same.0 in
            (all.0, ((header.0, (b.now.trees 0, header.1, subst (λ (rs : List Row). PutsBills month bills rs (d.now.trees 0)) same.1.0 all.1)), λ _. had_none month total count (a.now.trees 0) (b.now.trees 0) rows.items header.1 same.1.1 same.1.2));
      }
