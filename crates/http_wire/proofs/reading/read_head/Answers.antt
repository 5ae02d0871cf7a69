use Rattle.std.proofs.Common.{◌∙◌, length, ap, subst, arith, length-append}
use Rattle.http_wire.specs.Heads.{IsOpen}
use Rattle.http_wire.proofs.Taking.{took_then, took_seen}
use Rattle.http_wire.proofs.reading.read_head.Goals as goal

pub reading-preserved : goal.reading-preserved
reading-preserved g c =
    let left = g.R.Source.left in
    record {
      took = took_then c.args.buffer.now c.reading.buffer c.fill.new.self (left c.args.source.now) (left c.reading.source) (left c.fill.new.source) c.reading.invariant.took
          (took_then c.reading.buffer c.look.new.self c.fill.new.self (left c.reading.source) (left c.reading.source) (left c.fill.new.source)
          (took_seen c.reading.buffer c.look.new.self (left c.reading.source) c.look.ensures.bytes c.look.ensures.taken) c.in-Ok.ensures.took);
      unread = λ settled. absurd (settled (subst IsOpen (c.look.ensures.bytes ∙ (c.reading.invariant.unread settled).1) (c.look.ensures.open c.in-Open.is)));
      full = λ long. absurd (omega (
        arith,
        long,
        ap length c.reading.invariant.took.held,
        length-append c.args.buffer.now.bytes c.reading.invariant.took.given,
        ap length c.look.ensures.bytes,
        ap length c.held.ensures.value,
      ));
      stream = c.fill.ensures.only_reads.stream ∙ c.reading.invariant.stream;
      faults = c.in-Ok.ensures.only_reads.quiet (λ no. absurd cc) ∙ c.reading.invariant.faults;
    }
