-- What is heard at the front of a stream.
use Rattle.std.proofs.Common.{◌≡◌, ℕ, Bool, true, false, List, [], ◌∷◌, ◌++◌, length, drop, refl, sym, ap, ◌∙◌, subst, arith, append_assoc, append-nil, inl, inr, codes}
use Rattle.std.proofs.Common.{Option, Some, None, Result, Ok, Err}
use Rattle.std.specs.Prelude.{◌<◌, ◌⊎◌, IsErrOf, IsSomeAnd}
use Rattle.std.specs.Io.KnownBytes.{prepend_known, IsAtEnd}
use Rattle.httparse.specs.Grammar.{RequestHead, Field}
use Rattle.httparse.specs.Spans.{span_bytes}
use Rattle.http_routes.specs.Targets.{Resource}
use Rattle.http_routes.proofs.Leads.{one_route}
use Rattle.http_wire.specs.Answers.{Gave, HasRequest, Refuses, AwaitsLongBody, OnRequest, OnRefused}
use Rattle.http_wire.specs.Held.{Held, take_limit}
use Rattle.http_wire.specs.Messages.{Framed, Request, request, refused, Stands, IsCutShort, IsUnsettled, Messages, ends_session, after_length, after_coding, fields_named, token_fields, body_length}
use Rattle.http_wire.specs.Parts.{MessageParts, IsFound, body_of}
use Rattle.http_wire.specs.declared.framing.FramingRefusal.{FramingRefusal}
use Rattle.http_wire.specs.declared.framing.FramingRefusal.TheVariants.{BadHead, BodyTooLarge, ChunkedBody, HeadTooLarge, CutShort}
use Rattle.http_wire.specs.declared.message.Next.{Next}
use Rattle.http_wire.specs.declared.message.Next.TheVariants as next
use Rattle.http_wire.specs.declared.message.MessageStop.{MessageStop}
use Rattle.http_wire.specs.declared.message.MessageStop.TheVariants as stops
use Rattle.http_wire.proofs.Unique.{stands_unique, stands_rest, stands_more, nothing_stands}
use Rattle.http_asks.specs.Counts.{AreEnough}
use Rattle.http_asks.specs.Faults.{refused_of}
use Rattle.http_asks.specs.Hearing.{IsHeard}
use Rattle.http_asks.specs.Meaning.{Refused, in_framing, Meant, asks, refuses, method_of, meant_of, Means, MeansWith, with_fields, IsMeant}
use Rattle.http_asks.specs.Streams.{IsMeantBy, IsFirst, IsItem, StandsItem, BeginWith, WantsMemory}
use Rattle.http_asks.specs.Tells.{TellsHeard, TellsRefused}
use Rattle.http_asks.proofs.FramingLemmas.{never_framing}
use Rattle.http_asks.specs.declared.reader.Heard.{Heard}
use Rattle.http_asks.specs.declared.reader.Heard.TheVariants as heards

-- ---- one thing is meant

means_same : (target method body : List ℕ) (x y : Meant) → Means target method body x → Means target method body y → x ≡ y
means_same target method body x y (inl (one, has, is)) (inl (other, also, same)) =
    is ∙ ap (λ (r : Resource). meant_of r (method_of method) body) (one_route target one other has also) ∙ sym same
means_same target method body x y (inl (one, has, is)) (inr (none, same)) = absurd (none one has)
means_same target method body x y (inr (none, is)) (inl (other, also, same)) = absurd (none other also)
means_same target method body x y (inr (none, is)) (inr (other, same)) = is ∙ sym same

pub means_one : (r : Request) (x y : Meant) → IsMeant r x → IsMeant r y → x ≡ y
means_one r x y (bare, means, is) (other, also, same) =
    is ∙ ap (with_fields (token_fields r.head)) (means_same r.head.target r.head.method r.body bare other means also) ∙ sym same

meant_by_one : (f : Framed) (x y : Meant) → IsMeantBy f x → IsMeantBy f y → x ≡ y
meant_by_one (request r) x y is same = means_one r x y is same
meant_by_one (refused bad) x y is same = is ∙ sym same

-- ---- one thing stands first

refusal_unique : (stream : List ℕ) (a b : FramingRefusal) → (Stands stream (refused a) []) ⊎ (IsCutShort stream × (a ≡ CutShort))
    → (Stands stream (refused b) []) ⊎ (IsCutShort stream × (b ≡ CutShort)) → refused a ≡ refused b
refusal_unique stream a b (inl x) (inl y) = stands_unique stream (refused a) (refused b) [] [] x y
refusal_unique stream a b (inl x) (inr (cut, is)) = absurd (cut.unsettled (refused a) [] x)
refusal_unique stream a b (inr (cut, is)) (inl y) = absurd (cut.unsettled (refused b) [] y)
refusal_unique stream a b (inr (cut, is)) (inr (other, same)) = ap refused (is ∙ sym same)

first_unique : (stream : List ℕ) (a b : Framed) (rest other : List ℕ) → IsFirst stream a rest → IsFirst stream b other → (a ≡ b) × (rest ≡ other)
first_unique stream (request a) (request b) rest other x y = (stands_unique stream (request a) (request b) rest other x y, stands_rest stream a b rest other x y)
first_unique stream (request a) (refused b) rest other x (inl y, stays) = absurd (let e = stands_unique stream (request a) (refused b) rest [] x y in cc)
first_unique stream (request a) (refused b) rest other x (inr (cut, is), stays) = absurd (cut.unsettled (request a) rest x)
first_unique stream (refused a) (request b) rest other (inl x, stays) y = absurd (let e = stands_unique stream (refused a) (request b) [] other x y in cc)
first_unique stream (refused a) (request b) rest other (inr (cut, is), stays) y = absurd (cut.unsettled (request b) other y)
first_unique stream (refused a) (refused b) rest other (x, stays) (y, same) = (refusal_unique stream a b x y, stays ∙ sym same)

pub one_item : (stream : List ℕ) (first second : Meant) (last other : Bool) (rest after : List ℕ)
    → IsItem stream first last rest → IsItem stream second other after → (first ≡ second) × (last ≡ other) × (rest ≡ after)
one_item stream first second last other rest after x y =
    let same = first_unique stream x.found y.found rest after x.first y.first in (
      meant_by_one y.found first second (subst (λ (f : Framed). IsMeantBy f first) same.0 x.means) y.means,
      x.ends ∙ ap ends_session same.0 ∙ sym y.ends,
      same.1,
    )

-- ---- it is the first of the whole stream

request_begins : (stream : List ℕ) (meant : Meant) (last : Bool) (rest q : List ℕ) (r : Request) (g : Framed) (later : List Framed) → request r ≡ g
    → Stands stream (request r) rest → IsMeant r meant → last ≡ r.last → Stands stream g q
    → ((ends_session g ≡ true) × (later ≡ [])) ⊎ ((ends_session g ≡ false) × Messages q later) → BeginWith (g ∷ later) meant last rest
request_begins stream meant last rest q r g later same first means ends stands (inl (e, none)) =
    (subst (λ (f : Framed). IsMeantBy f meant) same means, inl (ends ∙ ap ends_session same ∙ e, none))
request_begins stream meant last rest q r g later same first means ends stands (inr (e, more)) = (
  subst (λ (f : Framed). IsMeantBy f meant) same means,
  inr (
    ends ∙ ap ends_session same ∙ e,
    subst (λ (t : List ℕ). Messages t later) (stands_rest stream r r q rest (subst (λ (f : Framed). Stands stream f q) (sym same) stands) first) more,
  ),
)

refused_begins : (stream : List ℕ) (meant : Meant) (last : Bool) (rest q : List ℕ) (bad : FramingRefusal) (g : Framed) (later : List Framed) → refused bad ≡ g
    → meant ≡ refuses (in_framing bad) → last ≡ true
    → ((ends_session g ≡ true) × (later ≡ [])) ⊎ ((ends_session g ≡ false) × Messages q later) → BeginWith (g ∷ later) meant last rest
refused_begins stream meant last rest q bad g later same means ends (inl (e, none)) =
    (subst (λ (f : Framed). IsMeantBy f meant) same means, inl (ends, none))
refused_begins stream meant last rest q bad g later same means ends (inr (e, more)) = absurd (let z = ap ends_session same ∙ e in cc)

begins : (stream : List ℕ) (meant : Meant) (last : Bool) (rest : List ℕ) (messages : List Framed) (f : Framed) → IsFirst stream f rest → IsMeantBy f meant
    → last ≡ ends_session f → Messages stream messages → BeginWith messages meant last rest
begins stream meant last rest [] (request r) first means ends are = absurd (nothing_stands (request r) rest (subst (λ (t : List ℕ). Stands t (request r) rest) are first))
begins stream meant last rest [] (refused bad) (inl s, stays) means ends are = absurd (nothing_stands (refused bad) [] (subst (λ (t : List ℕ). Stands t (refused bad) []) are s))
begins stream meant last rest [] (refused bad) (inr (cut, is), stays) means ends are = absurd (omega (arith, cut.some, ap length are))
begins stream meant last rest (g ∷ later) (request r) first means ends (inr (cut, is, none)) = absurd (cut.unsettled (request r) rest first)
begins stream meant last rest (g ∷ later) (request r) first means ends (inl (q, stands, how)) =
    request_begins stream meant last rest q r g later (stands_unique stream (request r) g rest q first stands) first means ends stands how
begins stream meant last rest (g ∷ later) (refused bad) (inl s, stays) means ends (inr (cut, is, none)) = absurd (cut.unsettled (refused bad) [] s)
begins stream meant last rest (g ∷ later) (refused bad) (inl s, stays) means ends (inl (q, stands, how)) =
    refused_begins stream meant last rest q bad g later (stands_unique stream (refused bad) g [] q s stands) means ends how
begins stream meant last rest (g ∷ later) (refused bad) (inr (cut, is), stays) means ends (inl (q, stands, how)) = absurd (cut.unsettled g q stands)
begins stream meant last rest (g ∷ later) (refused bad) (inr (cut, is), stays) means ends (inr (other, same, none)) =
    (subst (λ (f : Framed). IsMeantBy f meant) (ap refused is ∙ sym same) means, inl (ends, none))

pub items_are_messages : (stream : List ℕ) (meant : Meant) (last : Bool) (rest : List ℕ) (messages : List Framed)
    → IsItem stream meant last rest → Messages stream messages → BeginWith messages meant last rest
items_are_messages stream meant last rest messages x are = begins stream meant last rest messages x.found x.first x.means x.ends are

-- ---- a refusal is heard

some_and : {P Q : Refused → Type 0} (o : Option Refused) → ((broken : Refused) → P broken → Q broken) → IsSomeAnd o P → IsSomeAnd o Q
some_and None f is = is
some_and (Some broken) f is = f broken is

-- ---- a request stands

-- its parts are the message's
meant_parts : (bytes : List ℕ) (held : Held) (m : MessageParts) (answers : HasRequest bytes held m) (meant : Meant)
    → MeansWith (token_fields answers.found.head) (span_bytes held.bytes m.head.path) (span_bytes held.bytes m.head.method) (body_of m held.bytes) meant → IsMeant answers.found meant
meant_parts bytes held m a meant (bare, means, is) = (
  bare,
  subst (λ (t : List ℕ). Means a.found.head.target a.found.head.method t bare) a.body
      (subst (λ (t : List ℕ). Means a.found.head.target t (body_of m held.bytes) bare) a.head.method
      (subst (λ (t : List ℕ). Means t (span_bytes held.bytes m.head.method) (body_of m held.bytes) bare) a.head.path means)),
  is,
)

item_stands : (bytes more after : List ℕ) (held : Held) (m : MessageParts) (meant : Meant) (last : Bool) → (a : HasRequest bytes held m) → after ≡ drop m.used held.bytes
    → MeansWith (token_fields a.found.head) (span_bytes held.bytes m.head.path) (span_bytes held.bytes m.head.method) (body_of m held.bytes) meant
    → last ≡ m.last → IsItem (bytes ++ more) meant last (after ++ more)
item_stands bytes more after held m meant last a rest means ends = record {
  found = request a.found;
  first = subst (λ (t : List ℕ). Stands (bytes ++ more) (request a.found) (t ++ more)) (sym rest)
      (stands_more bytes more (request a.found) (drop m.used held.bytes) a.stands);
  means = meant_parts bytes held m a meant means;
  ends = ends ∙ a.last;
}

refused_told : (bytes more after : List ℕ) (held : Held) (m : MessageParts) (broken : Refused) (last : Bool) → (a : HasRequest bytes held m) → after ≡ drop m.used held.bytes
    → MeansWith (token_fields a.found.head) (span_bytes held.bytes m.head.path) (span_bytes held.bytes m.head.method) (body_of m held.bytes) (refuses broken)
    → last ≡ m.last → TellsRefused (Some (bytes ++ more)) broken last (Some (after ++ more))
refused_told bytes more after held m (in_framing bad) last a rest means ends =
    absurd (never_framing (token_fields a.found.head) (span_bytes held.bytes m.head.path) (span_bytes held.bytes m.head.method) (body_of m held.bytes) bad means)
refused_told bytes more after held m broken last a rest means ends = item_stands bytes more after held m (refuses broken) last a rest means ends

request_told : (bytes more after : List ℕ) (held : Held) (m : MessageParts) (heard : Heard) → (a : HasRequest bytes held m) → after ≡ drop m.used held.bytes
    → IsHeard (MeansWith (token_fields a.found.head) (span_bytes held.bytes m.head.path) (span_bytes held.bytes m.head.method) (body_of m held.bytes)) m.last heard
    → TellsHeard (Some (bytes ++ more)) heard (Some (after ++ more))
request_told bytes more after held m (heards.Asked ask last) a rest is = item_stands bytes more after held m (asks ask) last a rest is.0 is.1
request_told bytes more after held m (heards.Bad bad last) a rest is =
    some_and (refused_of bad) (λ (broken : Refused) x. refused_told bytes more after held m broken last a rest x is.1) is.0
request_told bytes more after held m heards.End a rest is = absurd is

-- the whole stream, where it is told
whole_stream : (held xs ys given : List ℕ) → xs ≡ given ++ ys → held ++ xs ≡ (held ++ given) ++ ys
whole_stream held xs ys given is = ap (λ (t : List ℕ). held ++ t) is ∙ sym (append_assoc held given ys)

tells_refused_none : (broken : Refused) (last : Bool) (after : Option (List ℕ)) (Means : Meant → Type 0) → ((bad : FramingRefusal) → Means (refuses (in_framing bad)) → ⊥)
    → Means (refuses broken) → TellsRefused None broken last after
tells_refused_none (in_framing bad) last after Means never means = absurd (never bad means)
tells_refused_none broken last after Means never means = tt

tells_none : (heard : Heard) (Means : Meant → Type 0) (last : Bool) (after : Option (List ℕ)) → ((bad : FramingRefusal) → Means (refuses (in_framing bad)) → ⊥) → IsHeard Means last heard
    → TellsHeard None heard after
tells_none (heards.Asked ask ends) Means last after never is = tt
tells_none (heards.Bad bad ends) Means last after never is = some_and (refused_of bad) (λ (broken : Refused) x. tells_refused_none broken ends after Means never x) is.0
tells_none heards.End Means last after never is = tt

pub heard_told : (a b c : Held) (la lb : Option (List ℕ)) (m : MessageParts) (heard : Heard) → Gave a b la lb (λ (bytes : List ℕ). HasRequest bytes b m) → c.bytes ≡ drop m.used b.bytes
    → ((fields : List Field) → IsFound b.bytes m.token fields
    → IsHeard (MeansWith fields (span_bytes b.bytes m.head.path) (span_bytes b.bytes m.head.method) (body_of m b.bytes)) m.last heard)
    → TellsHeard (prepend_known a.bytes la) heard (prepend_known c.bytes lb)
heard_told a b c None lb m heard gave rest is =
    let fields = token_fields gave.so.found.head in
    tells_none heard (MeansWith fields (span_bytes b.bytes m.head.path) (span_bytes b.bytes m.head.method) (body_of m b.bytes)) m.last (prepend_known c.bytes lb)
    (never_framing fields (span_bytes b.bytes m.head.path) (span_bytes b.bytes m.head.method) (body_of m b.bytes)) (is fields gave.so.token)
heard_told a b c (Some xs) None m heard gave rest is = absurd gave.left
heard_told a b c (Some xs) (Some ys) m heard gave rest is =
    subst (λ (t : List ℕ). TellsHeard (Some t) heard (Some (c.bytes ++ ys))) (sym (whole_stream a.bytes xs ys gave.given gave.left))
    (request_told (a.bytes ++ gave.given) ys c.bytes b m heard gave.so rest (is (token_fields gave.so.found.head) gave.so.token))

-- ---- what the framing refuses

length_any : (h : RequestHead) (bytes : List ℕ) (n : Option ℕ) (bad : FramingRefusal) (r q : List ℕ) → after_length h bytes n (refused bad) r → after_length h bytes n (refused bad) q
length_any h bytes None bad r q x = x
length_any h bytes (Some n) bad r q (inl x) = inl x
length_any h bytes (Some n) bad r q (inr x) = absurd (let e = x.3 in cc)

coding_any : (h : RequestHead) (bytes : List ℕ) (codings : List Field) (bad : FramingRefusal) (r q : List ℕ) → after_coding h bytes codings (refused bad) r
    → after_coding h bytes codings (refused bad) q
coding_any h bytes [] bad r q x = length_any h bytes (body_length (fields_named (codes "Content-Length") h.fields)) bad r q x
coding_any h bytes (c ∷ codings) bad r q x = x

-- a refusal has no end
refusal_any : (bytes : List ℕ) (bad : FramingRefusal) (r q : List ℕ) → Stands bytes (refused bad) r → Stands bytes (refused bad) q
refusal_any bytes bad r q (inl x) = inl x
refusal_any bytes bad r q (inr (inl x)) = inr (inl x)
refusal_any bytes bad r q (inr (inr (h, after, head, what))) = inr (inr (h, after, head, coding_any h after (fields_named (codes "Transfer-Encoding") h.fields) bad r q what))

refusal_first : (bytes ys : List ℕ) (bad : FramingRefusal) → Stands bytes (refused bad) [] → IsFirst (bytes ++ ys) (refused bad) (bytes ++ ys)
refusal_first bytes ys bad is = (inl (refusal_any (bytes ++ ys) bad ([] ++ ys) [] (stands_more bytes ys (refused bad) [] is)), refl)

framing_first : (bytes ys : List ℕ) (bad : FramingRefusal) → Refuses (Some ys) bad bytes → IsFirst (bytes ++ ys) (refused bad) (bytes ++ ys)
framing_first bytes ys BadHead is = refusal_first bytes ys BadHead is
framing_first bytes ys BodyTooLarge is = refusal_first bytes ys BodyTooLarge is
framing_first bytes ys ChunkedBody is = refusal_first bytes ys ChunkedBody is
framing_first bytes ys HeadTooLarge is = refusal_first bytes ys HeadTooLarge is
framing_first bytes ys CutShort is = (inr (subst IsCutShort (sym (ap (λ (t : List ℕ). bytes ++ t) is.1 ∙ append-nil bytes)) is.0, refl), refl)

framing_item : (bytes ys : List ℕ) (bad : FramingRefusal) → Refuses (Some ys) bad bytes → IsItem (bytes ++ ys) (refuses (in_framing bad)) true (bytes ++ ys)
framing_item bytes ys bad is = record { found = refused bad; first = framing_first bytes ys bad is; means = refl; ends = refl }

pub framing_told : (a b : Held) (la lb : Option (List ℕ)) (bad : FramingRefusal) → Gave a b la lb (Refuses lb bad)
    → StandsItem (prepend_known a.bytes la) (refuses (in_framing bad)) true (prepend_known a.bytes la)
framing_told a b None lb bad gave = tt
framing_told a b (Some xs) None bad gave = absurd gave.left
framing_told a b (Some xs) (Some ys) bad gave =
    subst (λ (t : List ℕ). IsItem t (refuses (in_framing bad)) true t) (sym (whole_stream a.bytes xs ys gave.given gave.left)) (framing_item (a.bytes ++ gave.given) ys bad gave.so)

-- ---- counts and the end

pub unsettled_same : (a b : Held) → a ≡ b → (IsUnsettled a.bytes → ⊥) → IsUnsettled b.bytes → ⊥
unsettled_same a b same settled none = settled (subst (λ (h : Held). IsUnsettled h.bytes) (sym same) none)

-- ---- the bytes are enough

pub request_enough : (a b c : Held) (la lb : Option (List ℕ)) (m : MessageParts) → Gave a b la lb (λ (bytes : List ℕ). HasRequest bytes b m) → c.taken ≡ b.taken → Gave a c la lb (AreEnough c.taken lb)
request_enough a b c la lb m gave same = record {
  given = gave.given;
  counted = same ∙ gave.counted;
  left = gave.left;
  so = inl (λ none. none (request gave.so.found) (drop m.used b.bytes) gave.so.stands);
}

stands_enough : (bytes : List ℕ) (lb : Option (List ℕ)) (taken : ℕ) (bad : FramingRefusal) → (bad ≡ CutShort → taken < take_limit) → Refuses lb bad bytes → AreEnough taken lb bytes
stands_enough bytes lb taken BadHead few is = inl (λ none. none (refused BadHead) [] is)
stands_enough bytes lb taken BodyTooLarge few is = inl (λ none. none (refused BodyTooLarge) [] is)
stands_enough bytes lb taken ChunkedBody few is = inl (λ none. none (refused ChunkedBody) [] is)
stands_enough bytes lb taken HeadTooLarge few is = inl (λ none. none (refused HeadTooLarge) [] is)
stands_enough bytes lb taken CutShort few is = inr (few refl, is.1)

pub refused_enough : (a b : Held) (la lb : Option (List ℕ)) (bad : FramingRefusal) → (bad ≡ CutShort → b.taken < take_limit) → Gave a b la lb (Refuses lb bad) → Gave a b la lb (AreEnough b.taken lb)
refused_enough a b la lb bad few gave = record {
  given = gave.given;
  counted = gave.counted;
  left = gave.left;
  so = stands_enough (a.bytes ++ gave.given) lb b.taken bad few gave.so;
}

pub end_enough : (a b : Held) (la lb : Option (List ℕ)) → b.taken < take_limit → Gave a b la lb (λ (bytes : List ℕ). bytes ≡ []) → IsAtEnd lb → Gave a b la lb (AreEnough b.taken lb)
end_enough a b la lb few gave end = record { given = gave.given; counted = gave.counted; left = gave.left; so = inr (few, end) }

-- ---- memory is wanting

pub body_wants : (a b : Held) (la lb : Option (List ℕ)) → Gave a b la lb AwaitsLongBody → Gave a b la lb WantsMemory
body_wants a b la lb gave = record { given = gave.given; counted = gave.counted; left = gave.left; so = inl gave.so }

pub request_wants : (a b : Held) (la lb : Option (List ℕ)) (m : MessageParts) → Gave a b la lb (λ (bytes : List ℕ). HasRequest bytes b m) → Gave a b la lb WantsMemory
request_wants a b la lb m gave = record {
  given = gave.given;
  counted = gave.counted;
  left = gave.left;
  so = inr (gave.so.found, drop m.used b.bytes, gave.so.stands);
}

abbrev error_or : MessageStop → Result Heard MessageStop → MessageStop
error_or other (Ok heard) = other
error_or other (Err e) = e

err_same : (x y : MessageStop) → IsErrOf {T = Heard} (Err x) y → x ≡ y
err_same x y is = ap (error_or x) is

pub stop_wants : (stop : MessageStop) → IsErrOf {T = Heard} (Err stop) stops.NoMemory → IsErrOf {T = Next} (Err stop) stops.NoMemory
stop_wants stop is = ap Err (err_same stop stops.NoMemory is)

-- ---- what was read

pub on_request : (read : Next) (m : MessageParts) (P : MessageParts → Type 0) → read ≡ next.Request m → OnRequest {E = MessageStop} (Ok read) P → P m
on_request read m P is on = subst (λ (x : Next). OnRequest {E = MessageStop} (Ok x) P) is on

pub on_refused : (read : Next) (bad : FramingRefusal) (P : FramingRefusal → Type 0) → read ≡ next.Refused bad → OnRefused {E = MessageStop} (Ok read) P → P bad
on_refused read bad P is on = subst (λ (x : Next). OnRefused {E = MessageStop} (Ok x) P) is on
