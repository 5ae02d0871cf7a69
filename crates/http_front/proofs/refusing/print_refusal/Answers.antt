use Rattle.std.proofs.Common.{drop, length, ◌∙◌, arith}
use Rattle.std.proofs.lemmas.List.{take_all, take-append-le}
use Rattle.http_asks.specs.Faults.{refused_of}
use Rattle.http_front.specs.Texts.{told_body, told_status}
use Rattle.http_text.proofs.Whole.{whole_reply}
use Rattle.http_front.proofs.refusing.print_refusal.Goals as goal

pub returns : goal.returns
returns c =
    let new = c.put_reply.new.room in
    let text = c.in-Ok.text in
    let told = refused_of c.args.bad.now in
    record {
      text =
          take-append-le text.len new (drop (length new) text.items) (omega (arith, c.put_reply.auto.room, c.as_mut_slice.ensures.len))
          ∙ take_all text.len new (omega (arith, c.put_reply.auto.room, c.as_mut_slice.ensures.len))
          ∙ whole_reply (told_status told) (told_body told) c.put_body-size.ensures c.put_reply-whole.ensures c.put_reply.ensures
          (omega (arith, c.put_reply.auto.room, c.as_mut_slice.ensures.len, c.in-Ok.ensures.len)) (omega (arith, c.in-Ok.text.small, c.in-Ok.ensures.len));
    }
