use Rattle.std.proofs.Common.{◌≡◌, [], sym, subst, rules}
use Rattle.stay_explain.specs.Ledgers.{IsLedgerOf, Tables}
use Rattle.stay_explain.proofs.Histories.{none_yet}
use Rattle.stay_explain.proofs.ledger.Ledger.new.Goals as goal

pub returns : goal.returns
returns c =
    let none : c.new-2.result.entries ≡ [] = search rules in
    record {
      empty = subst (λ (tables : Tables). IsLedgerOf [] (record { office = c.new.result; tables = tables })) (sym none)
          (none_yet c.new.result c.new.ensures.stands c.new.ensures.accepted);
    }
