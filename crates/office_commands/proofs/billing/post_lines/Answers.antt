use Rattle.bill_posting.specs.Bills.{bills_of}
use Rattle.office_commands.proofs.Billed.{told_more, posted_book, on_posted, of_keeper}
use Rattle.office_commands.proofs.billing.post_lines.Goals as goal

pub returns-clause-posts : goal.returns-clause-posts
returns-clause-posts g c =
    let b = g.K.BillKeeper in
    let e = c.post_month-posted.ensures in
    let told = c.say_posting.ensures.tells in
    record {
      answer = c.post_month-posted.result;
      receipt = e.receipt;
      posts = e.posts;
      told = told;
      book =
          told_more (b.book c.args.keeper.now) (b.book c.post_month-posted.new.keeper)
          (posted_book g.W.Replies c.args.month (bills_of c.args.lines.now) c.args.out.now c.say_posting.new.out c.say_posting.result
          c.post_month-posted.result told) e.posts;
    }

pub returns-clause-keeper_fault : goal.returns-clause-keeper_fault
returns-clause-keeper_fault g c eleven =
    c.post_month-posted.ensures.cause.failed (of_keeper c.post_month-posted.result (c.say_posting.ensures.keeper_fault eleven))

pub returns-clause-keeper_done : goal.returns-clause-keeper_done
returns-clause-keeper_done g c zero =
    on_posted c.post_month-posted.result (c.say_posting.ensures.done zero) c.post_month-posted.ensures.cause.quiet
