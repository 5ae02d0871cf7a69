use Rattle.std.proofs.Common.{◌≡◌, ◌+◌, ◌*◌, ◌<◌, ◌-◌, ◌/◌, ◌%◌, ℕ, arith, inr, length, take, ap, ◌∙◌}
use Rattle.std.proofs.Math.Nat.{mod-lt, mul-mod_left}
use Rattle.std.proofs.lemmas.List.{length-take, length-replicate}
use Rattle.std.proofs.lemmas.Nat.{div-add-mod'}
use Rattle.meter_journal.proofs.History.{first_zeros}
use Rattle.meter_journal.proofs.framing.ending.Goals as goal

pub returns-clause-zeros : goal.returns-clause-zeros
returns-clause-zeros c =
    let block = c.args.block in
    let below : c.args.end % block < block = mod-lt c.args.end (omega (arith, c.if-block-eq0.false)) in
    first_zeros c.zeros-zeros.result.now 4096 (block - c.args.end % block) c.zeros-zeros.ensures
    (omega (arith, below)) (omega (arith, c.requires.block))

pub returns-clause-whole : goal.returns-clause-whole
returns-clause-whole c =
    let block = c.args.block in
    let end = c.args.end in
    let xs = c.zeros-zeros.result.now in
    let below : end % block < block = mod-lt end (omega (arith, c.if-block-eq0.false)) in
    let long : length xs ≡ 4096 = ap length c.zeros-zeros.ensures ∙ length-replicate {A = ℕ} 4096 0 in
    let rest : length (take (block - end % block) xs) ≡ block - end % block =
    omega (arith, long, length-take (block - end % block) xs, c.requires.block) in
    let sum : end + length (take (block - end % block) xs) ≡ (end / block + 1) * block =
    omega (arith, rest, below, div-add-mod' end block) in
    inr (ap (λ (k : ℕ). k % block) sum ∙ mul-mod_left (end / block + 1) block)
