-- How long tokens are.
use Rattle.std.proofs.Common.{ℕ, ◌≤◌, List, length, arith}
use Rattle.std.proofs.lemmas.Bool.Decides.{nat_tests}
use Rattle.office_types.specs.Tokens.{IsToken, is_token}

pub token_small : (bytes : List ℕ) → IsToken bytes → length bytes ≤ 64
unfolding is_token
token_small bytes is = grind (arith, nat_tests)
