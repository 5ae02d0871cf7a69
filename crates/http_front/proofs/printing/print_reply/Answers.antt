use Rattle.http_text.specs.Replies.{answer_text}
use Rattle.http_front.proofs.PrintLemmas.{print_text, print_fits, print_no_room, print_enough}
use Rattle.http_front.proofs.printing.print_reply.Goals as goal

pub returns-clause-text : goal.returns-clause-text
returns-clause-text c =
    print_text c.args.room.now c.put_answer-end.new.room (answer_text c.args.acked.now.reply) c.put_answer-end.result
    (rw c.reply.ensures.value at c.put_answer-end.ensures.puts) c.ended.ensures.short c.ended.result
    c.ended.ensures.ok

pub returns-clause-fits : goal.returns-clause-fits
returns-clause-fits c =
    print_fits c.args.room.now c.put_answer-end.new.room (answer_text c.args.acked.now.reply) c.put_answer-end.result
    (rw c.reply.ensures.value at c.put_answer-end.ensures.puts) c.ended.ensures.short c.ended.result
    c.put_answer-end.auto.room c.ended.ensures.ok

pub returns-clause-no_room : goal.returns-clause-no_room
returns-clause-no_room c =
    print_no_room c.args.room.now c.put_answer-end.new.room (answer_text c.args.acked.now.reply) c.put_answer-end.result
    (rw c.reply.ensures.value at c.put_answer-end.ensures.puts) c.ended.ensures.short c.ended.result
    c.put_answer-end.auto.room c.ended.ensures.err

pub returns-clause-enough : goal.returns-clause-enough
returns-clause-enough c =
    print_enough c.args.room.now c.put_answer-end.new.room (answer_text c.args.acked.now.reply) c.put_answer-end.result
    (rw c.reply.ensures.value at c.put_answer-end.ensures.puts) c.ended.ensures.short c.ended.result
    c.put_answer-end.auto.room (rw c.reply.ensures.value at c.put_answer-end.ensures.small) c.ended.ensures.err
