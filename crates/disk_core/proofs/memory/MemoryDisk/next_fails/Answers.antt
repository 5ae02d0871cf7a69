use Rattle.std.proofs.Common.{◌≡◌, rules, subst, ℕ, List, length}
use Rattle.std.proofs.lemmas.List.Elements.{Decides-contains, contains_decides}
use Rattle.std.specs.Bool.{Decides}
use Rattle.std.specs.Cmp.{unsigned_Decides}
use Rattle.std.specs.List.{Contains}
use Rattle.std.specs.Prelude.{◌+◌, nat_eq}
use Rattle.disk_core.proofs.memory.MemoryDisk.next_fails.Goals as goal

pub returns : goal.returns
returns c =
    let r = c.contains.result in
    let numbers = c.deref.result.now in
    let count : c.len.result ≡ length c.args.self.now.calls = search rules in
    let among : Decides r (Contains numbers (c.len.result + 1)) =
    Decides-contains numbers (c.len.result + 1) r (contains_decides nat_eq unsigned_Decides numbers (c.len.result + 1) r c.contains.ensures.cases) in
    subst (λ (xs : List ℕ). Decides r (Contains xs (length c.args.self.now.calls + 1))) c.deref.ensures.value
    (subst (λ (n : ℕ). Decides r (Contains numbers (n + 1))) count among)
