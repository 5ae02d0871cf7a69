use Rattle.std.proofs.Common.{◌≡◌, ◌∙◌, ℕ, List, drop, sym, ap, subst, refl, true, inl, inr, Ok}
use Rattle.std.specs.Io.KnownBytes.{prepend_known}
use Rattle.http_wire.specs.Answers.{Gave, HasRequest, Refuses}
use Rattle.http_wire.specs.Held.{Held}
use Rattle.http_wire.specs.Parts.{MessageParts}
use Rattle.http_wire.specs.declared.framing.FramingRefusal.{FramingRefusal}
use Rattle.http_wire.specs.declared.message.Next.TheVariants as next
use Rattle.http_asks.specs.Counts.{AreEnough}
use Rattle.http_asks.specs.Streams.{StandsItem, WantsMemory}
use Rattle.http_asks.specs.Meaning.{refuses, in_framing}
use Rattle.http_asks.specs.Tells.{TellsHeard}
use Rattle.http_asks.proofs.HeardLemmas.{means_one, one_item, items_are_messages, heard_told, request_enough, refused_enough, end_enough, framing_told, unsettled_same, on_request, on_refused, body_wants, request_wants, stop_wants}
use Rattle.http_asks.proofs.reader.Reader.next.Goals as goal
use Rattle.http_asks.proofs.reader.Reader.next.Goals.{in-Some-2, in-None-2}

pub returns-in_default-clause-no_memory : goal.returns-in_default-clause-no_memory
returns-in_default-clause-no_memory g c wants =
    let left = g.R.Source.left in
    let before = c.read_message.new.buffer in
    let m = c.in-Ok-Request.message in
    subst (λ (h : Held). Gave h before (left c.args.source.now) (left c.read_message.new.source) WantsMemory) c.self.view_is
    (request_wants c.self.inside.buffer before (left c.args.source.now) (left c.read_message.new.source) m
    (on_request c.in-Ok-Request.field-0 m (λ (x : MessageParts).
    Gave c.self.inside.buffer before (left c.args.source.now) (left c.read_message.new.source)
    (λ (bytes : List ℕ). HasRequest bytes before x)) c.in-Ok-Request.field-0-is
    c.in-Ok-Request.ensures.request))

pub returns-in_default-clause-settled : goal.returns-in_default-clause-settled
returns-in_default-clause-settled g c settled = c.read_message.ensures.settled (unsettled_same c.args.self.now c.self.inside.buffer (sym c.self.view_is) settled)

pub returns-in-Ok-clause-tells : goal.returns-in-Ok-clause-tells
returns-in-Ok-clause-tells g c =
    let left = g.R.Source.left in
    let before = c.read_message.new.buffer in
    let m = c.in-Ok-Request.message in
    let told = λ (after : Held) (same : after ≡ c.drop_front.new.self).
    heard_told c.self.inside.buffer before after (left c.args.source.now) (left c.read_message.new.source) m c.in-Ok.heard
    (on_request c.in-Ok-Request.field-0 m (λ (x : MessageParts).
    Gave c.self.inside.buffer before (left c.args.source.now) (left c.read_message.new.source)
    (λ (bytes : List ℕ). HasRequest bytes before x)) c.in-Ok-Request.field-0-is
    c.in-Ok-Request.ensures.request)
    (ap (λ (h : Held). h.bytes) same ∙ c.drop_front.ensures.bytes ∙ ap (λ (n : ℕ). drop n before.bytes) c.used.ensures) c.in-Ok.ensures.heard in
    let after = c.match-message-2.self in
    subst (λ (h : Held). TellsHeard (prepend_known h.bytes (left c.args.source.now)) c.in-Ok.heard (prepend_known after.bytes (left c.read_message.new.source))) c.self.view_is
    (elim c.match-message-2.branch [ in-Some-2 w ↦ told after w.self-is | in-None-2 w ↦ told after w.self-is ])

pub returns-in-Ok-clause-settled : goal.returns-in-Ok-clause-settled
returns-in-Ok-clause-settled g c settled = c.read_message.ensures.settled (unsettled_same c.args.self.now c.self.inside.buffer (sym c.self.view_is) settled)

pub returns-in-Ok-Refused-clause-tells : goal.returns-in-Ok-Refused-clause-tells
returns-in-Ok-Refused-clause-tells g c =
    let left = g.R.Source.left in
    let bad = c.in-Ok-Refused.bad in (
      subst (λ (h : Held). StandsItem (prepend_known h.bytes (left c.args.source.now)) (refuses (in_framing bad)) true (prepend_known h.bytes (left c.args.source.now))) c.self.view_is
          (framing_told c.self.inside.buffer c.read_message.new.buffer (left c.args.source.now) (left c.read_message.new.source) bad
          (on_refused c.in-Ok-Refused.field-0 bad (λ (b : FramingRefusal).
          Gave c.self.inside.buffer c.read_message.new.buffer (left c.args.source.now)
          (left c.read_message.new.source) (Refuses (left c.read_message.new.source) b))
          c.in-Ok-Refused.field-0-is c.in-Ok-Refused.ensures.refused)),
      refl,
    )

pub returns-in-Ok-Refused-clause-settled : goal.returns-in-Ok-Refused-clause-settled
returns-in-Ok-Refused-clause-settled g c settled = c.read_message.ensures.settled (unsettled_same c.args.self.now c.self.inside.buffer (sym c.self.view_is) settled)

pub returns-in-Ok-End-clause-settled : goal.returns-in-Ok-End-clause-settled
returns-in-Ok-End-clause-settled g c settled = c.read_message.ensures.settled (unsettled_same c.args.self.now c.self.inside.buffer (sym c.self.view_is) settled)

pub returns-in-Err-clause-no_memory : goal.returns-in-Err-clause-no_memory
returns-in-Err-clause-no_memory g c wants =
    let left = g.R.Source.left in
    subst (λ (h : Held). Gave h c.read_message.new.buffer (left c.args.source.now) (left c.read_message.new.source) WantsMemory) c.self.view_is
    (body_wants c.self.inside.buffer c.read_message.new.buffer (left c.args.source.now) (left c.read_message.new.source)
    (c.in-Err.ensures.no_memory (stop_wants c.in-Err.stop wants)))

pub returns-in-Err-clause-settled : goal.returns-in-Err-clause-settled
returns-in-Err-clause-settled g c settled = c.read_message.ensures.settled (unsettled_same c.args.self.now c.self.inside.buffer (sym c.self.view_is) settled)

pub returns-in-Ok-clause-enough : goal.returns-in-Ok-clause-enough
returns-in-Ok-clause-enough g c =
    let left = g.R.Source.left in
    let before = c.read_message.new.buffer in
    let m = c.in-Ok-Request.message in
    let enough = λ (after : Held) (same : after ≡ c.drop_front.new.self).
    request_enough c.self.inside.buffer before after (left c.args.source.now) (left c.read_message.new.source) m
    (on_request c.in-Ok-Request.field-0 m (λ (x : MessageParts).
    Gave c.self.inside.buffer before (left c.args.source.now) (left c.read_message.new.source)
    (λ (bytes : List ℕ). HasRequest bytes before x)) c.in-Ok-Request.field-0-is
    c.in-Ok-Request.ensures.request)
    (ap (λ (h : Held). h.taken) same ∙ c.drop_front.ensures.taken) in
    let after = c.match-message-2.self in
    subst (λ (h : Held). Gave h after (left c.args.source.now) (left c.read_message.new.source) (AreEnough after.taken (left c.read_message.new.source))) c.self.view_is
    (elim c.match-message-2.branch [ in-Some-2 w ↦ enough after w.self-is | in-None-2 w ↦ enough after w.self-is ])

pub returns-in-Ok-Refused-clause-enough : goal.returns-in-Ok-Refused-clause-enough
returns-in-Ok-Refused-clause-enough g c =
    let left = g.R.Source.left in
    let now = c.read_message.new.buffer in
    subst (λ (h : Held). Gave h now (left c.args.source.now) (left c.read_message.new.source) (AreEnough now.taken (left c.read_message.new.source))) c.self.view_is
    (refused_enough c.self.inside.buffer now (left c.args.source.now) (left c.read_message.new.source) c.in-Ok-Refused.bad
    (λ cut. c.in-Ok-Refused.ensures.at_end (inl (ap Ok (c.in-Ok-Refused.field-0-is ∙ ap next.Refused cut))))
    (on_refused c.in-Ok-Refused.field-0 c.in-Ok-Refused.bad (λ (bad : FramingRefusal).
    Gave c.self.inside.buffer now (left c.args.source.now) (left c.read_message.new.source)
    (Refuses (left c.read_message.new.source) bad))
    c.in-Ok-Refused.field-0-is c.in-Ok-Refused.ensures.refused))

pub returns-in-Ok-End-clause-enough : goal.returns-in-Ok-End-clause-enough
returns-in-Ok-End-clause-enough g c =
    let left = g.R.Source.left in
    let now = c.read_message.new.buffer in
    let end = c.in-Ok-End.ensures.end (ap Ok c.in-Ok-End.field-0-is) in
    subst (λ (h : Held). Gave h now (left c.args.source.now) (left c.read_message.new.source) (AreEnough now.taken (left c.read_message.new.source))) c.self.view_is
    (end_enough c.self.inside.buffer now (left c.args.source.now) (left c.read_message.new.source) (c.in-Ok-End.ensures.at_end (inr (ap Ok c.in-Ok-End.field-0-is))) end.0 end.1)

pub returns-in_default-clause-one_meaning : goal.returns-in_default-clause-one_meaning
returns-in_default-clause-one_meaning g c = means_one

pub returns-in_default-clause-one_item : goal.returns-in_default-clause-one_item
returns-in_default-clause-one_item g c = one_item

pub returns-in_default-clause-of_whole : goal.returns-in_default-clause-of_whole
returns-in_default-clause-of_whole g c = items_are_messages

pub returns-in-Ok-clause-one_meaning : goal.returns-in-Ok-clause-one_meaning
returns-in-Ok-clause-one_meaning g c = means_one

pub returns-in-Ok-clause-one_item : goal.returns-in-Ok-clause-one_item
returns-in-Ok-clause-one_item g c = one_item

pub returns-in-Ok-clause-of_whole : goal.returns-in-Ok-clause-of_whole
returns-in-Ok-clause-of_whole g c = items_are_messages

pub returns-in-Ok-Refused-clause-one_meaning : goal.returns-in-Ok-Refused-clause-one_meaning
returns-in-Ok-Refused-clause-one_meaning g c = means_one

pub returns-in-Ok-Refused-clause-one_item : goal.returns-in-Ok-Refused-clause-one_item
returns-in-Ok-Refused-clause-one_item g c = one_item

pub returns-in-Ok-Refused-clause-of_whole : goal.returns-in-Ok-Refused-clause-of_whole
returns-in-Ok-Refused-clause-of_whole g c = items_are_messages

pub returns-in-Ok-End-clause-one_meaning : goal.returns-in-Ok-End-clause-one_meaning
returns-in-Ok-End-clause-one_meaning g c = means_one

pub returns-in-Ok-End-clause-one_item : goal.returns-in-Ok-End-clause-one_item
returns-in-Ok-End-clause-one_item g c = one_item

pub returns-in-Ok-End-clause-of_whole : goal.returns-in-Ok-End-clause-of_whole
returns-in-Ok-End-clause-of_whole g c = items_are_messages

pub returns-in-Err-clause-one_meaning : goal.returns-in-Err-clause-one_meaning
returns-in-Err-clause-one_meaning g c = means_one

pub returns-in-Err-clause-one_item : goal.returns-in-Err-clause-one_item
returns-in-Err-clause-one_item g c = one_item

pub returns-in-Err-clause-of_whole : goal.returns-in-Err-clause-of_whole
returns-in-Err-clause-of_whole g c = items_are_messages
