use Rattle.std.proofs.Common.{[], codes, decimal, unwrap_or}
use Rattle.http.specs.StatusCode.{reason_phrase}
use Rattle.http_text.specs.Replies.{head_with}
use Rattle.http_text.proofs.RoomLemmas.{puts_then, puts_same}
use Rattle.http_text.proofs.Whole.{head_with_parts}
use Rattle.http_text.proofs.printing.put_head_with.Goals as goal

pub returns : goal.returns
returns c =
    let status = c.args.status in
    let size = c.args.size in
    let media = c.args.media.now in
    puts_same _ (head_with media status size) (head_with_parts media status size)
    (puts_then (codes "HTTP/1.1 ") _ c.put-at.ensures
    (puts_then (decimal status) _ (rw (c.from.ensures, c.as_u16.ensures.value) at c.put_number-at.ensures)
    (puts_then (codes " ") _ c.put-at-2.ensures
    (puts_then (unwrap_or (reason_phrase status) []) _ (rw (c.as_bytes.ensures.value, c.phrase.ensures) at c.put-at-3.ensures)
    (puts_then (codes "\r\ncontent-type: ") _ c.put-at-4.ensures
    (puts_then media _ (rw c.as_bytes-2.ensures.value at c.put-at-5.ensures)
    (puts_then (codes "\r\ncontent-length: ") _ c.put-at-6.ensures
    (puts_then (decimal size) (codes "\r\n\r\n") c.put_number-at-2.ensures c.put.ensures))))))))
