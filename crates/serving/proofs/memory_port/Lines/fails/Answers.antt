use Rattle.std.proofs.Common.{subst, ℕ, List}
use Rattle.std.proofs.lemmas.List.Elements.{Decides-contains, contains_decides}
use Rattle.std.specs.Bool.{Decides}
use Rattle.std.specs.Cmp.{unsigned_Decides}
use Rattle.std.specs.List.{Contains}
use Rattle.std.specs.Prelude.{nat_eq}
use Rattle.serving.proofs.memory_port.Lines.fails.Goals as goal

pub returns-clause-fails : goal.returns-clause-fails
returns-clause-fails c =
    let r = c.contains.result in
    let number = c.saturating_add-self.result in
    subst (λ (xs : List ℕ). Decides r (Contains xs number)) c.deref.ensures.value
    (Decides-contains c.deref.result.now number r (contains_decides nat_eq unsigned_Decides c.deref.result.now number r c.contains.ensures.cases))
