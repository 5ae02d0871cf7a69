use Rattle.std.proofs.Common.{inl, List, ℕ, subst}
use Rattle.office_commands.specs.Running.{IsPutOut}
use Rattle.office_commands.proofs.MadeSo.{made_so}
use Rattle.office_commands.proofs.making.init.Goals as goal

pub returns-in-Ok-clause-inits : goal.returns-in-Ok-clause-inits
returns-in-Ok-clause-inits g c =
    let d = g.D.Disk in
    let w = g.W.Replies in
    record {
      ends = inl (record {
        made = c.in-Ok.made;
        is_made = λ tells. made_so c.in-Ok.made (d.state c.args.disk.now) (d.state c.create.new.disk) (c.in-Ok.ensures.before tells) (c.in-Ok.ensures.now tells);
        kept = c.in-Ok.ensures.writes;
        nothing_left = c.in-Ok.ensures.nothing_left;
        quiet = c.in-Ok.ensures.cause.quiet (λ is. absurd cc);
        told = subst (λ (t : List ℕ). IsPutOut w t c.args.out.now c.say.new.out c.say.result) c.made_text.ensures c.say.ensures.told;
      });
      unchanged = c.create.ensures.unchanged;
      any_moment = c.create.ensures.any_moment;
    }
