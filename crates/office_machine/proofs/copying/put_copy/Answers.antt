use Rattle.std.proofs.Common.{List, ℕ, ap, ◌∙◌}
use Rattle.office_base.specs.Maps.{with_name}
use Rattle.office_machine.proofs.copying.put_copy.Goals as goal

pub returns : goal.returns
returns c = record {
  copy = c.in_ok-account.account;
  is = c.in_ok-account.ensures;
  written = c.in_ok-put.ensures.put ∙ ap (λ (n : List ℕ). with_name n c.in_ok-account.account c.args.copies.now.entries) c.in_ok-name.ensures;
}
