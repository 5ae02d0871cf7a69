-- What is read of a message.
use Rattle.std.proofs.Common.{◌≡◌, ℕ, ◌+◌, ◌-◌, ◌<◌, ◌≤◌, Bool, List, [], ◌∷◌, ◌++◌, length, take, drop, map, codes, refl, sym, ap, ◌∙◌, subst, arith, length-append}
use Rattle.std.proofs.Common.{length-drop, append_assoc, append-nil, inl, inr, Option, Some, None, Result, Ok, Err}
use Rattle.std.specs.Prelude.{◌⊎◌, All, ⊤, IsErrOf}
use Rattle.std.specs.Io.KnownBytes.{IsAtEnd}
use Rattle.std.proofs.lemmas.Bool.{cases_lt}
use Rattle.std.proofs.lemmas.List.{take_all, drop_all, drop-drop, take-append-le, drop-append-le}
use Rattle.std.proofs.lemmas.List.Elements.{All-head, All-tail}
use Rattle.std.proofs.KnownBytes.{Consumes-nil, Consumes-trans}
use Rattle.httparse.specs.Grammar.{RequestHead, Field, print_request, print_blank, print_version, print_end, print_section, ReadsRequest}
use Rattle.httparse.specs.Spans.{IsHeaderWithin, IsRequestAt, IsRequestWithin, span_bytes, header_bytes, name_and_value}
use Rattle.httparse.specs.declared.spans.HeaderSpan.{HeaderSpan}
use Rattle.httparse.specs.declared.spans.RequestSpans.{RequestSpans}
use Rattle.httparse.specs.declared.spans.Span.{Span}
use Rattle.httparse.proofs.GrammarLemmas.{ReadsRequest-append, print_request-append}
use Rattle.http_wire.specs.Heads.{IsOpen}
use Rattle.http_wire.specs.Headings.{HasHeading}
use Rattle.http_wire.specs.Held.{Held, Took, TookPast, head_room, take_limit}
use Rattle.http_wire.specs.Messages.{Request, request, refused, Stands, HasHead, IsUnsettled, IsCutShort, after_length, after_coding, fields_named, token_fields, is_last}
use Rattle.http_wire.specs.Framing.{Frames, HasFrame}
use Rattle.http_wire.specs.Parts.{MessageParts, IsFound, LiesIn}
use Rattle.http_wire.specs.Answers.{Gave, HasRequest, Refuses, AwaitsLongBody, OnRequest, OnRefused, Tells}
use Rattle.http_wire.specs.declared.body.Gap.{Gap}
use Rattle.http_wire.specs.declared.body.Gap.TheVariants as gaps
use Rattle.http_wire.specs.declared.fields.Found.{Found}
use Rattle.http_wire.specs.declared.fields.Found.TheVariants.{Absent, Once, Repeated}
use Rattle.http_wire.specs.declared.framing.FramingRefusal.{FramingRefusal}
use Rattle.http_wire.specs.declared.framing.FramingRefusal.TheVariants.{BadHead, BodyTooLarge, ChunkedBody, HeadTooLarge, CutShort}
use Rattle.http_wire.specs.declared.message.Next.{Next}
use Rattle.http_wire.specs.declared.message.Next.TheVariants as next
use Rattle.http_wire.specs.declared.message.MessageStop.{MessageStop}
use Rattle.http_wire.specs.declared.message.MessageStop.TheVariants.{ReadFault, Spent, NoMemory}
use Rattle.http_wire.specs.declared.reading.Heading.{Heading}
use Rattle.http_wire.specs.declared.reading.Heading.TheVariants as heading
use Rattle.http_wire.proofs.Unique.{stands_more, short_body, open_unsettled, open_too_large, hopeless_bad}

-- ---- a head that stands at the front stands there whatever follows

span_more : (buf more : List ℕ) (s : Span) → s.start ≤ s.end → s.end ≤ length buf → span_bytes (buf ++ more) s ≡ span_bytes buf s
span_more buf more s ordered inside =
    ap (take (s.end - s.start)) (drop-append-le s.start buf more (omega (arith, ordered, inside)))
    ∙ take-append-le (s.end - s.start) (drop s.start buf) more (omega (arith, inside, length-drop s.start buf))

fields_more : (buf more : List ℕ) (headers : List HeaderSpan) (len : ℕ) → len ≤ length buf → All (IsHeaderWithin len) headers
    → map (header_bytes (buf ++ more)) headers ≡ map (header_bytes buf) headers
fields_more buf more [] len fits all = refl
fields_more buf more (h ∷ headers) len fits all =
    let first = All-head (IsHeaderWithin len) h headers all in
    let name = span_more buf more h.name first.0.0 (omega (arith, first.0.1, fits)) in
    let value = span_more buf more h.value first.1.0 (omega (arith, first.1.1, fits)) in
    let rest = fields_more buf more headers len fits (All-tail (IsHeaderWithin len) h headers all) in
    cc

at_more : (buf more : List ℕ) (headers : List HeaderSpan) (r : RequestSpans) (h : RequestHead) → IsRequestAt buf headers r h → IsRequestWithin buf headers r
    → IsRequestAt (buf ++ more) headers r h
at_more buf more headers r h at within =
    let fits = within.section.len_fits in
    record {
      reads = subst (λ (t : List ℕ). ReadsRequest (buf ++ more) h t) (sym (drop-append-le r.len buf more fits)) (ReadsRequest-append buf h (drop r.len buf) more at.reads);
      len = at.len;
      method = span_more buf more r.method within.method.0 (omega (arith, within.method.1, fits)) ∙ at.method;
      path = span_more buf more r.path within.path.0 (omega (arith, within.path.1, fits)) ∙ at.path;
      version = at.version;
      fields = fields_more buf more (take r.headers headers) r.len fits within.section.headers_fit ∙ at.fields;
    }

within_more : (buf more : List ℕ) (headers : List HeaderSpan) (r : RequestSpans) → IsRequestWithin buf headers r → IsRequestWithin (buf ++ more) headers r
within_more buf more headers r within = record {
  method = within.method;
  path = within.path;
  version = within.version;
  section = record {
    len_fits = omega (arith, within.section.len_fits, length-append buf more);
    count_fits = within.section.count_fits;
    headers_fit = within.section.headers_fit;
  };
}

found_more : (buf more : List ℕ) (n : ℕ) (token : Found) (fields : List Field) → n ≤ length buf → LiesIn n token → IsFound buf token fields → IsFound (buf ++ more) token fields
found_more buf more n Absent fields fits lies is = is
found_more buf more n (Once value) fields fits lies (field, same, is) = (field, same, span_more buf more value lies.0 (omega (arith, lies.1, fits)) ∙ is)
found_more buf more n Repeated fields fits lies is = is

abbrev frame_more : (buf more : List ℕ) (headers : List HeaderSpan) (r : RequestSpans) (size : ℕ) (last : Bool) (token : Found) → HasFrame buf headers r size last token → HasFrame (buf ++ more) headers r size last token
frame_more buf more headers r size last token f = record {
  head = f.head;
  at = at_more buf more headers r f.head f.at f.within;
  within = within_more buf more headers r f.within;
  short = f.short;
  frames = f.frames;
  ends = f.ends;
  token = found_more buf more r.len token (token_fields f.head) f.within.section.len_fits f.lies f.token;
  lies = f.lies;
}

has_head : (buf : List ℕ) (headers : List HeaderSpan) (r : RequestSpans) (h : RequestHead) → IsRequestAt buf headers r h → r.len ≤ head_room → HasHead buf h (drop r.len buf)
has_head buf headers r h at short = record { reads = at.reads; fits = omega (arith, at.len, short) }

-- ---- a message stands, or is not whole

abbrev found_of : RequestHead → List ℕ → Request
found_of h body = record { head = h; body = body; last = is_last h }

stands_framed : (bytes : List ℕ) (h : RequestHead) (after : List ℕ) (n : ℕ) → HasHead bytes h after → Frames h (Ok n) → n ≤ length after
    → Stands bytes (request (found_of h (take n after))) (drop n after)
stands_framed bytes h after n head frames inside =
    let f = request (found_of h (take n after)) in
    inr (inr (
      h,
      after,
      head,
      subst (λ (t : List Field). after_coding h after t f (drop n after)) (sym frames.0)
          (subst (λ (m : Option ℕ). after_length h after m f (drop n after)) (sym frames.1) (inr (frames.2, inside, refl, refl))),
    ))

-- the bytes of a body that has not come whole settle nothing
short_frame : (bytes : List ℕ) (headers : List HeaderSpan) (r : RequestSpans) (size : ℕ) (last : Bool) (token : Found) → HasFrame bytes headers r size last token → length bytes < r.len + size → IsUnsettled bytes
short_frame bytes headers r size last token f short =
    short_body bytes f.head (drop r.len bytes) size (has_head bytes headers r f.head f.at f.short) f.frames.0 f.frames.1 f.frames.2
    (omega (arith, short, length-drop r.len bytes, f.within.section.len_fits))

-- a body that the buffer holds
whole_held : (held : Held) (r : RequestSpans) (size : ℕ) (last : Bool) (token : Found) → HasFrame held.bytes held.spans r size last token → r.len + size ≤ length held.bytes
    → HasRequest held.bytes held (record { head = r; used = r.len + size; last = last; token = token; apart = None })
whole_held held r size last token f fits =
    let after = drop r.len held.bytes in
    record {
      found = found_of f.head (take size after);
      stands = subst (λ (t : List ℕ). Stands held.bytes (request (found_of f.head (take size after))) t) (drop-drop size r.len held.bytes)
          (stands_framed held.bytes f.head after size (has_head held.bytes held.spans r f.head f.at f.short) f.frames (omega (arith, fits, length-drop r.len held.bytes)));
      head = f.at;
      within = f.within;
      ends = omega arith;
      fits = fits;
      body = ap (λ (n : ℕ). take n after) (omega arith);
      last = f.ends;
      token = f.token;
    }

-- a body whose rest was taken past the buffer
whole_apart : (held : Held) (given body : List ℕ) (r : RequestSpans) (size : ℕ) (last : Bool) (token : Found) → HasFrame held.bytes held.spans r size last token → length body ≡ size
    → body ≡ drop r.len held.bytes ++ given → HasRequest (held.bytes ++ given) held (record { head = r; used = length held.bytes; last = last; token = token; apart = Some body })
whole_apart held given body r size last token f all is =
    let bytes = held.bytes ++ given in
    let g = frame_more held.bytes given held.spans r size last token f in
    let after : drop r.len bytes ≡ body = drop-append-le r.len held.bytes given f.within.section.len_fits ∙ sym is in
    let taken : take size (drop r.len bytes) ≡ body = ap (take size) after ∙ take_all size body (omega (arith, all)) in
    let none : drop size (drop r.len bytes) ≡ drop (length held.bytes) held.bytes =
    ap (drop size) after ∙ drop_all size body (omega (arith, all)) ∙ sym (drop_all (length held.bytes) held.bytes (omega arith)) in
    record {
      found = found_of f.head body;
      stands = subst (λ (t : List ℕ). Stands bytes (request (found_of f.head body)) t) none
          (subst (λ (t : List ℕ). Stands bytes (request (found_of f.head t)) (drop size (drop r.len bytes))) taken
          (stands_framed bytes f.head (drop r.len bytes) size (has_head bytes held.spans r f.head g.at f.short) f.frames (omega (arith, ap length after, all))));
      head = f.at;
      within = f.within;
      ends = f.within.section.len_fits;
      fits = omega arith;
      body = refl;
      last = f.ends;
      token = f.token;
    }

cut_length : (h : RequestHead) (n : Option ℕ) → ¬ (after_length h [] n (refused CutShort) [])
cut_length h None x = absurd cc
cut_length h (Some n) (inl x) = absurd (let e = x.1 in cc)
cut_length h (Some n) (inr x) = absurd (let e = x.3 in cc)

cut_coding : (h : RequestHead) (codings : List Field) → ¬ (after_coding h [] codings (refused CutShort) [])
cut_coding h [] x = cut_length h _ x
cut_coding h (c ∷ codings) x = absurd cc

-- ---- bytes given

pub gave_more : (a b c : Held) (la lb lc : Option (List ℕ)) (P : List ℕ → Type 0) → Took a b la lb → Gave b c lb lc P → Gave a c la lc P
gave_more a b c la lb lc P first second = record {
  given = first.given ++ second.given;
  counted = omega (arith, first.counted, second.counted, length-append first.given second.given);
  left = Consumes-trans la lb lc first.given second.given first.left second.left;
  so = subst P (ap (λ (t : List ℕ). t ++ second.given) first.held ∙ append_assoc a.bytes first.given second.given) second.so;
}

took_gave : (a b : Held) (la lb : Option (List ℕ)) (P : List ℕ → Type 0) → Took a b la lb → P b.bytes → Gave a b la lb P
took_gave a b la lb P took so = record { given = took.given; counted = took.counted; left = took.left; so = subst P took.held so }

gave_none : (a : Held) (la : Option (List ℕ)) (P : List ℕ → Type 0) → P a.bytes → Gave a a la la P
gave_none a la P so = record { given = []; counted = omega arith; left = Consumes-nil la; so = subst P (sym (append-nil a.bytes)) so }

weaker : (a b : Held) (la lb : Option (List ℕ)) (P Q : List ℕ → Type 0) → ((bytes : List ℕ) → P bytes → Q bytes) → Gave a b la lb P → Gave a b la lb Q
weaker a b la lb P Q less gave = record { given = gave.given; counted = gave.counted; left = gave.left; so = less (a.bytes ++ gave.given) gave.so }

-- ---- what was read of a body

-- a head has some bytes
some_in : (x y z : List ℕ) → 0 < length (x ++ (y ++ 32 ∷ z))
some_in x y z = omega (arith, length-append x (y ++ 32 ∷ z), length-append y (32 ∷ z))

head_some : (h : RequestHead) → 0 < length (print_request h)
head_some h =
    let is = print_request-append h [] in
    let some = some_in (print_blank h.blank) h.method (h.target ++ 32 ∷ (print_version h.minor ++ (print_end h.line_end ++ (print_section h.fields h.last ++ [])))) in
    subst (λ (t : List ℕ). 0 < length t) (append-nil (print_request h)) (subst (λ (t : List ℕ). 0 < length t) (sym is) some)

frame_some : (bytes : List ℕ) (headers : List HeaderSpan) (r : RequestSpans) (size : ℕ) (last : Bool) (token : Found) → HasFrame bytes headers r size last token → 0 < length bytes
frame_some bytes headers r size last token f = omega (arith, f.at.len, head_some f.head, f.within.section.len_fits)

short_cut : (bytes : List ℕ) (headers : List HeaderSpan) (r : RequestSpans) (size : ℕ) (last : Bool) (token : Found) → HasFrame bytes headers r size last token → length bytes < r.len + size → IsCutShort bytes
short_cut bytes headers r size last token f short = record { some = frame_some bytes headers r size last token f; unsettled = short_frame bytes headers r size last token f short }

frame_taken : (a b : Held) (la lb : Option (List ℕ)) (r : RequestSpans) (size : ℕ) (last : Bool) (token : Found) → HasFrame a.bytes a.spans r size last token → Took a b la lb → b.spans ≡ a.spans
    → HasFrame b.bytes b.spans r size last token
frame_taken a b la lb r size last token f took spans =
    subst (λ (s : List HeaderSpan). HasFrame b.bytes s r size last token) (sym spans)
    (subst (λ (t : List ℕ). HasFrame t a.spans r size last token) (sym took.held) (frame_more a.bytes took.given a.spans r size last token f))

pub held_told : (a b : Held) (la lb : Option (List ℕ)) (r : RequestSpans) (size : ℕ) (last : Bool) (token : Found) → HasFrame a.bytes a.spans r size last token → Took a b la lb → b.spans ≡ a.spans
    → r.len + size ≤ length b.bytes → Gave a b la lb (Tells b lb (Ok (next.Request (record { head = r; used = r.len + size; last = last; token = token; apart = None }))))
held_told a b la lb r size last token f took spans fits =
    took_gave a b la lb (λ (bytes : List ℕ). HasRequest bytes b (record { head = r; used = r.len + size; last = last; token = token; apart = None })) took
    (whole_held b r size last token (frame_taken a b la lb r size last token f took spans) fits)

pub held_short : (a b : Held) (la lb : Option (List ℕ)) (r : RequestSpans) (size : ℕ) (last : Bool) (token : Found) → HasFrame a.bytes a.spans r size last token → Took a b la lb → b.spans ≡ a.spans
    → length b.bytes < r.len + size → Gave a b la lb IsCutShort
held_short a b la lb r size last token f took spans short =
    took_gave a b la lb IsCutShort took (short_cut b.bytes b.spans r size last token (frame_taken a b la lb r size last token f took spans) short)

pub apart_told : (a b : Held) (la lb : Option (List ℕ)) (r : RequestSpans) (size : ℕ) (last : Bool) (token : Found) (body : List ℕ) → HasFrame a.bytes a.spans r size last token
    → TookPast a b la lb (λ given. (body ≡ drop r.len a.bytes ++ given) × ⊤) → length body ≡ size
    → Gave a b la lb (Tells b lb (Ok (next.Request (record { head = r; used = length a.bytes; last = last; token = token; apart = Some body }))))
apart_told a b la lb r size last token body f took all = record {
  given = took.given;
  counted = took.counted;
  left = took.left;
  so = subst (λ (t : List ℕ). HasRequest (t ++ took.given) b (record { head = r; used = length t; last = last; token = token; apart = Some body })) took.held
      (whole_apart b took.given body r size last token
      (subst (λ (s : List HeaderSpan). HasFrame b.bytes s r size last token) (sym took.spans) (subst (λ (t : List ℕ). HasFrame t a.spans r size last token) (sym took.held) f)) all
      (took.so.0 ∙ ap (λ (t : List ℕ). drop r.len t ++ took.given) (sym took.held)));
}

pub apart_short : (a b : Held) (la lb : Option (List ℕ)) (r : RequestSpans) (size : ℕ) (last : Bool) (token : Found) (room : ℕ) → HasFrame a.bytes a.spans r size last token
    → TookPast a b la lb (λ given. ⊤ × (length a.bytes + length given < r.len + room)) → room ≡ size → Gave a b la lb IsCutShort
apart_short a b la lb r size last token room f took all = record {
  given = took.given;
  counted = took.counted;
  left = took.left;
  so = short_cut (a.bytes ++ took.given) a.spans r size last token (frame_more a.bytes took.given a.spans r size last token f) (omega (arith, took.so.1, all, length-append a.bytes took.given));
}

pub apart_lacks : (a : Held) (la : Option (List ℕ)) (r : RequestSpans) (size : ℕ) (last : Bool) (token : Found) → HasFrame a.bytes a.spans r size last token → head_room < r.len + size
    → Gave a a la la AwaitsLongBody
apart_lacks a la r size last token f long = gave_none a la AwaitsLongBody (record {
  head = f.head;
  after = drop r.len a.bytes;
  size = size;
  stands = has_head a.bytes a.spans r f.head f.at f.short;
  plain = f.frames.0;
  sized = f.frames.1;
  small = f.frames.2;
  long = omega (arith, long, f.at.len);
})

-- a gap is a stop, or cuts the message short at the end
pub gap_told : (gap : Gap) (result : Result Next MessageStop) (a b : Held) (la lb : Option (List ℕ)) → (gap ≡ gaps.Ended → result ≡ Ok (next.Refused CutShort))
    → ((stop : MessageStop) → gap ≡ gaps.Stopped stop → result ≡ Err stop) → (gap ≡ gaps.Ended → IsAtEnd lb × (b.taken < take_limit))
    → (gap ≡ gaps.Stopped Spent → b.taken ≡ take_limit) → (gap ≡ gaps.Stopped NoMemory → ⊥) → Gave a b la lb IsCutShort → Gave a b la lb (Tells b lb result)
gap_told gaps.Ended result a b la lb ended stopped end limit enough gave =
    subst (λ (x : Result Next MessageStop). Gave a b la lb (Tells b lb x)) (sym (ended refl))
    (weaker a b la lb IsCutShort (Tells b lb (Ok (next.Refused CutShort))) (λ bytes cut. ((cut, (end refl).0), λ _. (end refl).1)) gave)
gap_told (gaps.Stopped Spent) result a b la lb ended stopped end limit enough gave =
    subst (λ (x : Result Next MessageStop). Gave a b la lb (Tells b lb x)) (sym (stopped Spent refl))
    (weaker a b la lb IsCutShort (Tells b lb (Err Spent)) (λ bytes cut. (cut.unsettled, limit refl)) gave)
gap_told (gaps.Stopped ReadFault) result a b la lb ended stopped end limit enough gave =
    subst (λ (x : Result Next MessageStop). Gave a b la lb (Tells b lb x)) (sym (stopped ReadFault refl))
    (weaker a b la lb IsCutShort (Tells b lb (Err ReadFault)) (λ bytes cut. cut.unsettled) gave)
gap_told (gaps.Stopped NoMemory) result a b la lb ended stopped end limit enough gave = absurd (enough refl)

-- the head is refused for its fields
pub refused_told : (a : Held) (la : Option (List ℕ)) (r : RequestSpans) (h : RequestHead) (bad : FramingRefusal) → IsRequestAt a.bytes a.spans r h → r.len ≤ head_room → Frames h (Err bad)
    → Gave a a la la (Tells a la (Ok (next.Refused bad)))
refused_told a la r h bad at short frames = gave_none a la (Tells a la (Ok (next.Refused bad))) (by_kind bad frames)
  where
    stands : (bad : FramingRefusal) → Frames h (Err bad) → Stands a.bytes (refused bad) []
    stands bad frames = inr (inr (h, drop r.len a.bytes, has_head a.bytes a.spans r h at short, frames (drop r.len a.bytes) []))

    by_kind : (bad : FramingRefusal) → Frames h (Err bad) → Refuses la bad a.bytes × (bad ≡ CutShort → a.taken < take_limit)
    by_kind BadHead frames = (stands BadHead frames, λ is. absurd cc)
    by_kind BodyTooLarge frames = (stands BodyTooLarge frames, λ is. absurd cc)
    by_kind ChunkedBody frames = (stands ChunkedBody frames, λ is. absurd cc)
    by_kind HeadTooLarge frames = (stands HeadTooLarge frames, λ is. absurd cc)
    by_kind CutShort frames = absurd (cut_coding h _ (frames [] []))

-- the fields by the spans that were read
pub covers_held : (a : Held) (bytes : List ℕ) (headers : List HeaderSpan) (r : RequestSpans) (h : RequestHead) → IsRequestAt a.bytes a.spans r h → bytes ≡ a.bytes → headers ≡ a.spans
    → map (header_bytes bytes) (take r.headers headers) ≡ map name_and_value h.fields
covers_held a bytes headers r h at same fields =
    ap (λ (t : List ℕ). map (header_bytes t) (take r.headers headers)) same ∙ ap (λ (s : List HeaderSpan). map (header_bytes a.bytes) (take r.headers s)) fields ∙ at.fields

-- the head that was read, with what its fields say
pub frame_of : (a : Held) (headers : List HeaderSpan) (r : RequestSpans) (size : ℕ) (last : Bool) (found : Found) (h : RequestHead)
    → IsRequestAt a.bytes a.spans r h → IsRequestWithin a.bytes a.spans r → r.len ≤ head_room → headers ≡ a.spans → Frames h (Ok size) → last ≡ is_last h
    → IsFound a.bytes found (token_fields h) → ((n : ℕ) → All (IsHeaderWithin n) (take r.headers headers) → LiesIn n found)
    → HasFrame a.bytes a.spans r size last found
frame_of a headers r size last found h at within short same frames ends token lies = record {
  head = h;
  at = at;
  within = within;
  short = short;
  frames = frames;
  ends = ends;
  token = token;
  lies = lies r.len (subst (λ (s : List HeaderSpan). All (IsHeaderWithin r.len) (take r.headers s)) (sym same) within.section.headers_fit);
}

-- a body that does not fit in the buffer has not come whole
pub long_unsettled : (a : Held) (r : RequestSpans) (size : ℕ) (last : Bool) (token : Found) → HasFrame a.bytes a.spans r size last token → length a.bytes < r.len + size → IsUnsettled a.bytes
long_unsettled a r size last token f short = short_frame a.bytes a.spans r size last token f short

-- the source is not read for a body that is held
pub by_frame : (a : Held) (r : RequestSpans) (size : ℕ) (last : Bool) (token : Found) (Same : Type 0) → HasFrame a.bytes a.spans r size last token → (r.len + size ≤ length a.bytes → Same)
    → (IsUnsettled a.bytes → ⊥) → Same
by_frame a r size last token Same f held settled = go (cases_lt (length a.bytes) (r.len + size))
  where
    go : (length a.bytes < r.len + size) ⊎ (r.len + size ≤ length a.bytes) → Same
    go (inl short) = absurd (settled (long_unsettled a r size last token f short))
    go (inr fits) = held fits

-- ---- no whole head

pub hopeless_told : (a : Held) (la : Option (List ℕ)) (x : Heading) → HasHeading a la x → x ≡ heading.Hopeless → Gave a a la la (Tells a la (Ok (next.Refused BadHead)))
hopeless_told a la x has is =
    let told = subst (HasHeading a la) is has in
    gave_none a la (Tells a la (Ok (next.Refused BadHead))) (hopeless_bad a.bytes told.0 told.1, λ is. absurd cc)

pub large_told : (a : Held) (la : Option (List ℕ)) (x : Heading) → HasHeading a la x → x ≡ heading.TooLarge → Gave a a la la (Tells a la (Ok (next.Refused HeadTooLarge)))
large_told a la x has is =
    let told = subst (HasHeading a la) is has in
    gave_none a la (Tells a la (Ok (next.Refused HeadTooLarge))) (open_too_large a.bytes told.0 told.1, λ is. absurd cc)

pub cut_told : (a : Held) (la : Option (List ℕ)) (x : Heading) → HasHeading a la x → x ≡ heading.CutShort → Gave a a la la (Tells a la (Ok (next.Refused CutShort)))
cut_told a la x has is =
    let told = subst (HasHeading a la) is has in
    gave_none a la (Tells a la (Ok (next.Refused CutShort)))
    ((record { some = told.1; unsettled = open_unsettled a.bytes told.0 told.2 }, told.3), λ _. told.4)

-- ---- what a message uses

length_uses : (h : RequestHead) (bytes : List ℕ) (n : Option ℕ) (r : Request) (rest : List ℕ) → after_length h bytes n (request r) rest → length rest ≤ length bytes
length_uses h bytes None r rest x = absurd cc
length_uses h bytes (Some n) r rest (inl x) = absurd (let e = x.1 in cc)
length_uses h bytes (Some n) r rest (inr x) = omega (arith, ap length x.2, length-drop n bytes)

coding_uses : (h : RequestHead) (bytes : List ℕ) (codings : List Field) (r : Request) (rest : List ℕ) → after_coding h bytes codings (request r) rest → length rest ≤ length bytes
coding_uses h bytes [] r rest x = length_uses h bytes _ r rest x
coding_uses h bytes (c ∷ codings) r rest x = absurd cc

-- a request has some bytes
pub request_uses : (bytes : List ℕ) (r : Request) (rest : List ℕ) → Stands bytes (request r) rest → length rest < length bytes
request_uses bytes r rest (inl x) = absurd (let e = x.1 in cc)
request_uses bytes r rest (inr (inl x)) = absurd (let e = x.2 in cc)
request_uses bytes r rest (inr (inr (h, after, head, what))) =
    omega (arith, coding_uses h after (fields_named (codes "Transfer-Encoding") h.fields) r rest what, head_some h, ap length head.reads.1, length-append (print_request h) after)

-- bytes that settle nothing have no front that does
pub unsettled_front : (bytes more : List ℕ) → IsUnsettled (bytes ++ more) → IsUnsettled bytes
unsettled_front bytes more none found rest stands = none found (rest ++ more) (stands_more bytes more found rest stands)

-- ---- the clauses of the public call

module _ (a b : Held) (la lb : Option (List ℕ)) where
  abbrev Told : Result Next MessageStop → Type 0
  Told result = Gave a b la lb (Tells b lb result)

  pub request_part : (result : Result Next MessageStop) → Told result → OnRequest result (λ (m : MessageParts). Gave a b la lb (λ bytes. HasRequest bytes b m))
  request_part (Ok (next.Request m)) gave = gave
  request_part (Ok (next.Refused bad)) gave = tt
  request_part (Ok next.End) gave = tt
  request_part (Err e) gave = tt

  pub refused_part : (result : Result Next MessageStop) → Told result → OnRefused result (λ (bad : FramingRefusal). Gave a b la lb (Refuses lb bad))
  refused_part (Ok (next.Request m)) gave = tt
  refused_part (Ok (next.Refused bad)) gave = weaker a b la lb _ (Refuses lb bad) (λ bytes x. x.0) gave
  refused_part (Ok next.End) gave = tt
  refused_part (Err e) gave = tt

  pub end_part : (result : Result Next MessageStop) → Told result → result ≡ Ok next.End → Gave a b la lb (λ (bytes : List ℕ). bytes ≡ []) × IsAtEnd lb
  end_part result gave is =
      let told = subst Told is gave in (weaker a b la lb _ (λ (bytes : List ℕ). bytes ≡ []) (λ bytes x. x.0) told, told.so.1)

  pub spent_part : (result : Result Next MessageStop) → Told result → IsErrOf result Spent → (b.taken ≡ take_limit) × Gave a b la lb IsUnsettled
  spent_part (Ok x) gave is = absurd (cc (is))
  spent_part (Err e) gave is = let told = subst Told is gave in (told.so.1, weaker a b la lb _ IsUnsettled (λ bytes x. x.0) told)

  pub failed_part : (result : Result Next MessageStop) → Told result → IsErrOf result ReadFault → Gave a b la lb IsUnsettled
  failed_part (Ok x) gave is = absurd (cc (is))
  failed_part (Err e) gave is = subst Told is gave

  pub given_part : (result : Result Next MessageStop) → Told result → Gave a b la lb (λ bytes. ⊤)
  given_part result gave = weaker a b la lb _ (λ bytes. ⊤) (λ bytes x. tt) gave

  pub fits_part : (result : Result Next MessageStop) → Told result → OnRequest result (λ (m : MessageParts). m.used ≤ length b.bytes)
  fits_part (Ok (next.Request m)) gave = gave.so.fits
  fits_part (Ok (next.Refused bad)) gave = tt
  fits_part (Ok next.End) gave = tt
  fits_part (Err e) gave = tt

  pub uses_part : (result : Result Next MessageStop) → Told result → OnRequest result (λ (m : MessageParts). a.taken + length (drop m.used b.bytes) < b.taken + length a.bytes)
  uses_part (Ok (next.Request m)) gave =
      omega (arith, gave.counted, request_uses (a.bytes ++ gave.given) gave.so.found (drop m.used b.bytes) gave.so.stands, length-append a.bytes gave.given)
  uses_part (Ok (next.Refused bad)) gave = tt
  uses_part (Ok next.End) gave = tt
  uses_part (Err e) gave = tt

pub told_more : (a b c : Held) (la lb lc : Option (List ℕ)) (result : Result Next MessageStop) → Took a b la lb → Gave b c lb lc (Tells c lc result) → Gave a c la lc (Tells c lc result)
told_more a b c la lb lc result took gave = gave_more a b c la lb lc (Tells c lc result) took gave

pub open_head : (a b : Held) (la lb : Option (List ℕ)) → Took a b la lb → IsOpen b.bytes → length b.bytes < head_room → Gave a b la lb IsUnsettled
open_head a b la lb took begun short = took_gave a b la lb IsUnsettled took (open_unsettled b.bytes begun short)

-- a head is not sought further where the bytes held settle what stands there
pub head_settled : (a : Held) (Same : Type 0) → ((IsOpen a.bytes → ⊥) → Same) → (head_room ≤ length a.bytes → Same) → (IsUnsettled a.bytes → ⊥) → Same
head_settled a Same by_bytes by_room settled = go (cases_lt (length a.bytes) head_room)
  where
    go : (length a.bytes < head_room) ⊎ (head_room ≤ length a.bytes) → Same
    go (inl short) = by_bytes (λ begun. settled (open_unsettled a.bytes begun short))
    go (inr long) = by_room long
