use Rattle.std.proofs.Common.{sym, subst}
use Rattle.http_wire.specs.declared.framing.FramingRefusal.{FramingRefusal}
use Rattle.http_text.specs.Room.{Puts}
use Rattle.http_front.specs.Texts.{framing_body}
use Rattle.http_front.proofs.refusing.put_framing.Goals as goal

pub returns-in-BodyTooLarge : goal.returns-in-BodyTooLarge
returns-in-BodyTooLarge c =
    let put = c.put_error-in-BodyTooLarge in
    subst (λ (bad : FramingRefusal). Puts c.args.room.now c.args.at put.new.room put.result (framing_body bad)) (sym c.in-BodyTooLarge.is) put.ensures.puts

pub returns-in-ChunkedBody : goal.returns-in-ChunkedBody
returns-in-ChunkedBody c =
    let put = c.put_error-in-ChunkedBody in
    subst (λ (bad : FramingRefusal). Puts c.args.room.now c.args.at put.new.room put.result (framing_body bad)) (sym c.in-ChunkedBody.is) put.ensures.puts

pub returns-in-HeadTooLarge : goal.returns-in-HeadTooLarge
returns-in-HeadTooLarge c =
    let put = c.put_error-in-HeadTooLarge in
    subst (λ (bad : FramingRefusal). Puts c.args.room.now c.args.at put.new.room put.result (framing_body bad)) (sym c.in-HeadTooLarge.is) put.ensures.puts
