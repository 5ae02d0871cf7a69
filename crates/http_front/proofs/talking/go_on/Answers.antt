use Rattle.std.proofs.Common.{◌∙◌, ap, Err}
use Rattle.std.specs.Io.KnownBytes.{prepend_known}
use Rattle.http_front.specs.Session.{sides}
use Rattle.http_front.proofs.TalkLemmas.{talked_none, talked_then, session_then, given_none, given_then, says_nothing, says_on, reads_nothing, reads_on, same_err}
use Rattle.http_front.specs.declared.answering.SessionEnd.TheVariants.{ReadFault, WriteFault}
use Rattle.http_front.proofs.talking.go_on.Goals as goal

pub talking-init : goal.talking-init
talking-init g c = record {
  talked = talked_none g.T.Teller.moves g.W.Replies (sides c.args.teller.now c.args.out.now) (prepend_known c.args.reader.now.bytes (g.R.Source.left c.args.source.now));
  room = c.requires.room;
  given = given_none c.args.reader.now.taken (g.R.Source.left c.args.source.now);
  limit = c.requires.limit;
  only_says = says_nothing g.W.Replies c.args.out.now;
  only_reads = reads_nothing g.R.Source c.args.source.now;
}

pub talking-preserved : goal.talking-preserved
talking-preserved g c =
    let left = g.R.Source.left in
    record {
      talked = talked_then g.T.Teller.moves g.W.Replies (sides c.args.teller.now c.args.out.now) (sides c.talking.teller c.talking.out) (sides c.answer_one.new.teller c.answer_one.new.out)
          (prepend_known c.args.reader.now.bytes (left c.args.source.now))
          (prepend_known c.talking.reader.bytes (left c.talking.source))
          (prepend_known c.answer_one.new.reader.bytes (left c.answer_one.new.source))
          c.talking.invariant.talked c.in-Ok.ensures.goes_on;
      room = c.answer_one.ensures.room;
      given = given_then c.args.reader.now.taken c.talking.reader.taken c.answer_one.new.reader.taken (left c.args.source.now) (left c.talking.source) (left c.answer_one.new.source)
          c.talking.invariant.given c.answer_one.ensures.given;
      limit = c.answer_one.ensures.limit;
      only_says = says_on g.W.Replies c.args.out.now c.talking.out c.answer_one.new.out c.talking.invariant.only_says c.in-Ok.ensures.only_says (λ no. absurd no) (λ is. absurd cc);
      only_reads = reads_on g.R.Source c.args.source.now c.talking.source c.answer_one.new.source c.talking.invariant.only_reads c.in-Ok.ensures.only_reads (λ no. absurd no) (λ is. absurd cc);
    }

pub returns-in-Err-clause-session : goal.returns-in-Err-clause-session
returns-in-Err-clause-session g c =
    let left = g.R.Source.left in
    session_then g.T.Teller.moves g.W.Replies (left c.answer_one.new.source) c.args.reader.now.taken c.talking.reader.taken (left c.args.source.now) (left c.talking.source) c.talking.invariant.given
    (sides c.args.teller.now c.args.out.now) (sides c.talking.teller c.talking.out) (sides c.answer_one.new.teller c.answer_one.new.out)
    (prepend_known c.args.reader.now.bytes (left c.args.source.now)) (prepend_known c.talking.reader.bytes (left c.talking.source)) c.in-Err.end
    c.talking.invariant.talked c.in-Err.ensures.session

pub returns-in-Err-clause-given : goal.returns-in-Err-clause-given
returns-in-Err-clause-given g c =
    given_then c.args.reader.now.taken c.talking.reader.taken c.answer_one.new.reader.taken
    (g.R.Source.left c.args.source.now) (g.R.Source.left c.talking.source) (g.R.Source.left c.answer_one.new.source)
    c.talking.invariant.given c.answer_one.ensures.given

pub returns-in-Err-clause-only_says : goal.returns-in-Err-clause-only_says
returns-in-Err-clause-only_says g c =
    says_on g.W.Replies c.args.out.now c.talking.out c.answer_one.new.out c.talking.invariant.only_says c.answer_one.ensures.only_says (λ is. c.in-Err.is ∙ ap Err is)
    (same_err c.answer_one.result c.in-Err.end WriteFault c.in-Err.is)

pub returns-in-Err-clause-only_reads : goal.returns-in-Err-clause-only_reads
returns-in-Err-clause-only_reads g c =
    reads_on g.R.Source c.args.source.now c.talking.source c.answer_one.new.source c.talking.invariant.only_reads c.answer_one.ensures.only_reads (λ is. c.in-Err.is ∙ ap Err is)
    (same_err c.answer_one.result c.in-Err.end ReadFault c.in-Err.is)
