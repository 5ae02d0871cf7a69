use Rattle.std.proofs.Common.{drop, length, ◌∙◌, arith}
use Rattle.std.proofs.lemmas.List.{take_all, take-append-le}
use Rattle.http_text.specs.Replies.{body_text, status_of}
use Rattle.http_text.proofs.Whole.{whole_reply, answer_is}
use Rattle.http_text.proofs.printing.print_parts.Goals as goal

pub returns : goal.returns
returns c =
    let new = c.put_sized.new.room in
    let text = c.in-Ok.text in
    let answer = c.args.answer.now in
    record {
      text =
          take-append-le text.len new (drop (length new) text.items) (omega (arith, c.put_sized.auto.room, c.as_mut_slice.ensures.len))
          ∙ take_all text.len new (omega (arith, c.put_sized.auto.room, c.as_mut_slice.ensures.len))
          ∙ whole_reply (status_of answer) (body_text answer) c.put_body-size.ensures.puts c.put_sized-whole.ensures c.put_sized.ensures
          (omega (arith, c.put_sized.auto.room, c.as_mut_slice.ensures.len, c.in-Ok.ensures.len)) (omega (arith, c.in-Ok.text.small, c.in-Ok.ensures.len))
          ∙ answer_is answer c.requires.in_parts;
    }
