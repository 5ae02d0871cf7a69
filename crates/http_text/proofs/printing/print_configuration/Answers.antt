use Rattle.std.proofs.Common.{◌≡◌, ◌∙◌, ℕ, List, ◌++◌, codes, length, ap, subst, IfOk}
use Rattle.http_text.specs.Replies.{head_with}
use Rattle.http_text.proofs.Whole.{rules_reply}
use Rattle.http_text.proofs.printing.print_configuration.Goals as goal

pub returns : goal.returns
returns c =
    let reply = ap (λ (t : List ℕ). head_with (codes "application/json") 200 (length t) ++ t) c.as_bytes.ensures.value ∙ rules_reply c.args.rules.now _ c.in_ok-body.ensures.text in
    record { text = subst (λ (t : List ℕ). IfOk c.print_text.result (λ v. v.items ≡ t)) reply c.print_text.ensures.text }
