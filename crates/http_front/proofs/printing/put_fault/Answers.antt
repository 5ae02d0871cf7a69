use Rattle.http_text.proofs.Whole.{whole, reply_small}
use Rattle.http_front.specs.Texts.{fault_body, fault_status}
use Rattle.http_front.proofs.PrintLemmas.{fault_low}
use Rattle.http_front.proofs.printing.put_fault.Goals as goal

pub returns-clause-puts : goal.returns-clause-puts
returns-clause-puts c =
    let fault = c.args.fault.now in
    whole (fault_status fault) c.body_size.result (fault_body fault) c.body_size.ensures.same (rw c.fault_status.ensures at c.put_head-at.ensures) c.put_fault_body.ensures.puts

pub returns-clause-small : goal.returns-clause-small
returns-clause-small c =
    let fault = c.args.fault.now in
    let low = fault_low fault in
    reply_small (fault_status fault) (fault_body fault) low.0 low.1 c.body_size.ensures.small
