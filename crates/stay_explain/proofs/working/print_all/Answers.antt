use Rattle.std.proofs.Common.{◌≡◌, ◌∙◌, ◌<◌, ℕ, sym, subst, rules}
use Rattle.std.proofs.lemmas.List.{same_lists}
use Rattle.stay_explain.proofs.working.print_all.Goals as goal

pub returns : goal.returns
returns g c = same_lists c.for_each_mut.new.s c.args.pages.now c.for_each_mut.auto.s
    (λ k d within. let f = (c.for_each_mut.ensures k d (subst (λ (n : ℕ). k < n) c.for_each_mut.auto.s within)).1 in
    let same : f.after_call.now ≡ f.argument.now = search (f.call, rules) in
    sym f.left ∙ same ∙ f.argument_is)
