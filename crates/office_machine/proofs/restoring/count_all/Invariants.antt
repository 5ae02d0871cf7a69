use Rattle.std.proofs.Common.{◌≡◌, ◌+◌}
use Rattle.std.specs.List.{AllByRecursion}
use Rattle.office_types.specs.declared.refusal.What.{What}
use Rattle.bucket_account.specs.Counting.{amount}
use Rattle.bucket_account.specs.Restoring.{AreFewIn}
use Rattle.office_machine.specs.Parts.{in_all}
use Rattle.office_machine.proofs.restoring.count_all.Given as goal

abbrev pub invariant-loop-account : goal.invariant-loop-account
invariant-loop-account l = record {
  each : AllByRecursion (λ entry. AreFewIn entry.1.bucket) l.account-iterator;
  counted : (what : What) → amount what l.counts + in_all what l.account-iterator ≡ amount what l.fn.beside + in_all what l.accounts.entries;
}
