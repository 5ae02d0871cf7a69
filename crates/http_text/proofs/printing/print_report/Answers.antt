use Rattle.std.proofs.Common.{◌≡◌, ◌∙◌, ℕ, List, ◌++◌, codes, length, ap, subst, IfOk}
use Rattle.http_text.specs.Replies.{head_with}
use Rattle.http_text.proofs.printing.print_report.Goals as goal

pub returns : goal.returns
returns c =
    let reply = ap (λ (t : List ℕ). head_with (codes "text/csv") 200 (length t) ++ t) (c.deref.ensures.value ∙ c.in_ok-body.ensures) in
    record { text = subst (λ (t : List ℕ). IfOk c.print_text.result (λ v. v.items ≡ t)) reply c.print_text.ensures.text }
