-- How long names and keys are.
use Rattle.std.proofs.Common.{ℕ, ◌≤◌, List, length, arith}
use Rattle.std.proofs.lemmas.Bool.Decides.{nat_tests}
use Rattle.office_base.specs.Keys.{IsKey, is_key}
use Rattle.office_base.specs.Names.{IsBucketName, is_bucket_name}

pub name_small : (text : List ℕ) → IsBucketName text → length text ≤ 63
unfolding is_bucket_name
name_small text is = grind (arith, nat_tests)

pub key_small : (bytes : List ℕ) → IsKey bytes → length bytes ≤ 1_024
unfolding is_key
key_small bytes is = grind (arith, nat_tests)
