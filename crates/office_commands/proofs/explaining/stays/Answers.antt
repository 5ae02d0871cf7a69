use Rattle.std.proofs.Common.{◌∙◌, ℕ, List, Err, ap, inl, inr, refl, sym, subst}
use Rattle.disk_core.specs.Fronts.{Narrower}
use Rattle.disk_core.specs.Moments.{KeepsTo}
use Rattle.meter_journal.specs.declared.fault.OpenFault.TheVariants.{StoreFault}
use Rattle.desk_core.proofs.Damage.{opens}
use Rattle.http_front.proofs.TalkLemmas.{same_err}
use Rattle.office_commands.specs.Running.{IsPutOut}
use Rattle.office_commands.proofs.ReadOnly.{nothing_written, images_stay}
use Rattle.office_commands.proofs.Said.{not_five}
use Rattle.office_commands.proofs.explaining.stays.Goals as goal

pub returns-in-Ok-clause-explains : goal.returns-in-Ok-clause-explains
returns-in-Ok-clause-explains g c =
    let reads = c.explain.ensures.untouched in
    inl (record {
      text = c.in-Ok.text.items;
      table = c.in-Ok.ensures.table;
      writes = nothing_written reads;
      any_moment = images_stay reads g.met.D.Disk.honest_tells;
      quiet = c.in-Ok.ensures.cause.quiet (λ is. absurd cc);
      clock = refl;
      told =
          subst (λ (t : List ℕ). IsPutOut g.W.Replies t c.args.out.now c.say-status.new.out c.say-status.result)
          c.deref.ensures.value c.say-status.ensures.told;
    })

pub returns-in-Err-clause-explains : goal.returns-in-Err-clause-explains
returns-in-Err-clause-explains g c =
    let d = g.D.Disk in
    let reads = c.explain.ensures.untouched in
    let same = c.refuse.ensures.disk in
    inr (record {
      fault = c.in-Err.fault;
      why = c.in-Err.ensures.fault;
      refused = record {
        quiet = λ other. ap d.fault_count same ∙ c.in-Err.ensures.cause.quiet (λ is. other (same_err (Err c.in-Err.fault) c.in-Err.fault StoreFault refl is));
        writes = ap (λ (x : g.row.D.Denot). (d.tally x).writes) same ∙ nothing_written reads;
        any_moment = λ honest. subst (λ (x : g.row.D.Denot). KeepsTo d c.args.disk x (Narrower (d.state c.args.disk))) (sym same)
            (images_stay reads g.met.D.Disk.honest_tells honest);
        clock = c.refuse.ensures.clock;
        silent = c.refuse.ensures.silent;
        status_is = c.refuse.ensures.status;
        note = c.refuse.ensures.noted;
      };
    })

pub returns-in-Err-clause-sound : goal.returns-in-Err-clause-sound
returns-in-Err-clause-sound g c tells history has =
    not_five c.in-Err.fault c.refuse.result.status
    (opens c.in-Err.fault history (g.D.Disk.state c.args.disk).journal.seen has (c.in-Err.ensures.fault (g.met.D.Disk.honest_tells tells))) c.refuse.ensures.status
