use Rattle.office_laws.proofs.Sweeps.{act_chosen, act_idle, due_idle}
use Rattle.office_laws.proofs.laws.an_act_does_the_choice.Goals as goal

pub returns : goal.returns
returns c = record {
  chosen = λ t p name account action is chosen. act_chosen t name p account action is chosen;
  nothing = λ t p name account is. act_idle t name p account is;
  asked = λ t p name account is. due_idle t name p account is;
}
