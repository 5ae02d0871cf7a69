use Rattle.std.proofs.Common.{◌≡◌, ◌∙◌, ◌++◌, ◌∷◌, [], ℕ, List, ap, decimal, rules}
use Rattle.std.proofs.lemmas.Result.{on_ok_weaker}
use Rattle.usage_report.specs.Tables.{left_aligned, right_aligned}
use Rattle.usage_report.proofs.TableLines.{two_steps}
use Rattle.usage_report.proofs.table.put_row.Goals as goal

pub returns : goal.returns
returns c =
    let names : c.put_names.new.out.items ≡ c.args.out.now.items
    ++ (left_aligned 24 c.args.bucket.now ++ 32 ∷ left_aligned 12 c.args.kind.now ++ 32 ∷ left_aligned 14 c.args.class.now ++ 32 ∷ []) = search rules in
    on_ok_weaker c.put_numbers.result (λ is. is
    ∙ ap (λ (t : List ℕ). t ++ (right_aligned 28 c.as_bytes-4.result.now ++ 32 ∷ right_aligned 16 (decimal c.args.charge) ++ 10 ∷ [])) names
    ∙ ap (λ (q : List ℕ). c.args.out.now.items ++ (left_aligned 24 c.args.bucket.now ++ 32 ∷ left_aligned 12 c.args.kind.now ++ 32 ∷ left_aligned 14 c.args.class.now ++ 32 ∷ [])
    ++ (right_aligned 28 q ++ 32 ∷ right_aligned 16 (decimal c.args.charge) ++ 10 ∷ [])) c.as_bytes-4.ensures.value
    ∙ two_steps c.args.out.now.items c.args.bucket.now c.args.kind.now c.args.class.now c.args.quantity.now c.args.charge) c.put_numbers.ensures
