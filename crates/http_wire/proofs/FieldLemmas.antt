-- The fields of a head, by the spans of their names and values.
use Rattle.std.proofs.Common.{inl, ◌≡◌, ℕ, ◌-◌, ◌^◌, ◌<◌, ◌≤◌, Bool, true, false, ◌&&◌, List, [], ◌∷◌, map, min, codes, refl, sym, ap, ◌∙◌, subst, arith, Option, Some, None, Ok, Err}
use Rattle.std.specs.Prelude.{All, option_map}
use Rattle.std.specs.List.{filter, list_any}
use Rattle.std.proofs.lemmas.Simd.{map-map}
use Rattle.std.proofs.lemmas.List.Elements.{All-head, All-filter}
use Rattle.httparse.specs.Grammar.{RequestHead, Field, field_value}
use Rattle.httparse.specs.Spans.{IsHeaderWithin, IsWithin, header_bytes, name_and_value, span_bytes}
use Rattle.httparse.specs.declared.spans.HeaderSpan.{HeaderSpan}
use Rattle.httparse.specs.declared.spans.Span.{Span}
use Rattle.http_wire.specs.Messages.{refused, same_word, fields_named, token_fields, body_length, number_of, after_coding, after_length, body_room}
use Rattle.http_wire.specs.Framing.{Frames, values_named, found_of}
use Rattle.http_wire.specs.Parts.{IsFound, LiesIn}
use Rattle.http_wire.specs.declared.fields.Found.TheVariants.{Absent, Once, Repeated}
use Rattle.http_wire.specs.declared.framing.FramingRefusal.{FramingRefusal}
use Rattle.http_wire.specs.declared.framing.FramingRefusal.TheVariants.{BadHead, BodyTooLarge, ChunkedBody}

-- ---- two lists that a test and a value see alike

module _ (p : HeaderSpan → Bool) (q : Field → Bool) (v : HeaderSpan → List ℕ) (w : Field → List ℕ) where
  abbrev Alike : List HeaderSpan → List Field → Type 0
  Alike hs fs = map {B = Bool × List ℕ} (λ (h : HeaderSpan). (p h, v h)) hs ≡ map {B = Bool × List ℕ} (λ (f : Field). (q f, w f)) fs

  kept_alike : (hs : List HeaderSpan) (fs : List Field) → Alike hs fs → map v (filter p hs) ≡ map w (filter q fs)
  kept_alike [] [] e = refl
  kept_alike [] (f ∷ fs) e = absurd cc
  kept_alike (h ∷ hs) [] e = absurd cc
  kept_alike (h ∷ hs) (f ∷ fs) e =
      let first : ◌≡◌ {A = Bool × List ℕ} (p h, v h) (q f, w f) = cc in
      go (q f) (ap (λ (x : Bool × List ℕ). x.0) first) refl (ap (λ (x : Bool × List ℕ). x.1) first) (kept_alike hs fs (cc))
    where
      go : (b : Bool) → p h ≡ b → q f ≡ b → v h ≡ w f → map v (filter p hs) ≡ map w (filter q fs) → map v (filter p (h ∷ hs)) ≡ map w (filter q (f ∷ fs))
      go true x y same rest = rw x (rw y (cc))
      go false x y same rest = rw x (rw y rest)

  any_alike : (test : List ℕ → Bool) (hs : List HeaderSpan) (fs : List Field) → Alike hs fs
      → list_any (λ (h : HeaderSpan). p h && test (v h)) hs ≡ list_any (λ (f : Field). test (w f)) (filter q fs)
  any_alike test [] [] e = refl
  any_alike test [] (f ∷ fs) e = absurd cc
  any_alike test (h ∷ hs) [] e = absurd cc
  any_alike test (h ∷ hs) (f ∷ fs) e =
      let first : ◌≡◌ {A = Bool × List ℕ} (p h, v h) (q f, w f) = cc in
      go (q f) (ap (λ (x : Bool × List ℕ). x.0) first) refl (ap (λ (x : Bool × List ℕ). x.1) first) (any_alike test hs fs (cc))
    where
      go : (b : Bool) → p h ≡ b → q f ≡ b → v h ≡ w f → list_any (λ (h : HeaderSpan). p h && test (v h)) hs ≡ list_any (λ (f : Field). test (w f)) (filter q fs)
          → list_any (λ (h : HeaderSpan). p h && test (v h)) (h ∷ hs) ≡ list_any (λ (f : Field). test (w f)) (filter q (f ∷ fs))
      go true x y same rest = rw x (rw y (rw same (cc)))
      go false x y same rest = rw x (rw y rest)

named_alike : (bytes name : List ℕ) (hs : List HeaderSpan) (fs : List Field) → map (header_bytes bytes) hs ≡ map name_and_value fs
    → map {B = Bool × List ℕ} (λ (h : HeaderSpan). (same_word (span_bytes bytes h.name) name, span_bytes bytes h.value)) hs
    ≡ map {B = Bool × List ℕ} (λ (f : Field). (same_word f.name name, field_value f)) fs
named_alike bytes name hs fs e =
    let seen : List ℕ × List ℕ → Bool × List ℕ = λ x. (same_word x.0 name, x.1) in
    sym (map-map seen (header_bytes bytes) hs) ∙ ap (map seen) e ∙ map-map seen name_and_value fs

-- the values of the fields of a name
named_values : (bytes name : List ℕ) (hs : List HeaderSpan) (fs : List Field) → map (header_bytes bytes) hs ≡ map name_and_value fs
    → map (span_bytes bytes) (values_named bytes name hs) ≡ map field_value (fields_named name fs)
named_values bytes name hs fs e =
    map-map (span_bytes bytes) (λ (h : HeaderSpan). h.value) (filter (λ (h : HeaderSpan). same_word (span_bytes bytes h.name) name) hs)
    ∙ kept_alike (λ (h : HeaderSpan). same_word (span_bytes bytes h.name) name) (λ (f : Field). same_word f.name name) (λ (h : HeaderSpan). span_bytes bytes h.value) field_value hs fs
    (named_alike bytes name hs fs e)

-- ---- none, one or several

none_found : (f : Span → List ℕ) (vs : List Span) (fs : List Field) → map f vs ≡ map field_value fs → found_of vs ≡ Absent → fs ≡ []
none_found f [] [] e is = refl
none_found f [] (x ∷ fs) e is = absurd cc
none_found f (v ∷ []) fs e is = absurd cc
none_found f (v ∷ u ∷ vs) fs e is = absurd cc

one_found : (f : Span → List ℕ) (vs : List Span) (fs : List Field) (s : Span) → map f vs ≡ map field_value fs → found_of vs ≡ Once s → body_length fs ≡ number_of (f s)
one_found f [] fs s e is = absurd cc
one_found f (v ∷ []) [] s e is = absurd cc
one_found f (v ∷ []) (x ∷ []) s e is =
    let same : v ≡ s = cc in
    let value : f v ≡ field_value x = cc in
    ap number_of (sym value ∙ ap f same)
one_found f (v ∷ []) (x ∷ y ∷ fs) s e is = absurd cc
one_found f (v ∷ u ∷ vs) fs s e is = absurd cc

several_found : (f : Span → List ℕ) (vs : List Span) (fs : List Field) → map f vs ≡ map field_value fs → found_of vs ≡ Repeated → body_length fs ≡ None
several_found f [] fs e is = absurd cc
several_found f (v ∷ []) fs e is = absurd cc
several_found f (v ∷ u ∷ vs) [] e is = absurd cc
several_found f (v ∷ u ∷ vs) (x ∷ []) e is = absurd cc
several_found f (v ∷ u ∷ vs) (x ∷ y ∷ fs) e is = refl

some_found : (f : Span → List ℕ) (vs : List Span) (fs : List Field) → map f vs ≡ map field_value fs → (found_of vs ≡ Absent → ⊥) → (x : Field) × (more : List Field) × (fs ≡ x ∷ more)
some_found f [] fs e is = absurd (is refl)
some_found f (v ∷ vs) [] e is = absurd cc
some_found f (v ∷ vs) (x ∷ fs) e is = (x, fs, refl)

-- the value that was found is within the head
pub value_within : (p : HeaderSpan → Bool) (n : ℕ) (hs : List HeaderSpan) (s : Span) → All (IsHeaderWithin n) hs
    → found_of (map (λ (h : HeaderSpan). h.value) (filter p hs)) ≡ Once s → IsWithin n s
value_within p n hs s all is =
    only (filter p hs) (All-filter p (IsHeaderWithin n) hs all) is
  where
    only : (xs : List HeaderSpan) → All (IsHeaderWithin n) xs → found_of (map (λ (h : HeaderSpan). h.value) xs) ≡ Once s → IsWithin n s
    only [] x e = absurd cc
    only (h ∷ []) x e = let same : h.value ≡ s = cc in subst (IsWithin n) same (All-head (IsHeaderWithin n) h [] x).1
    only (h ∷ g ∷ xs) x e = absurd cc

-- ---- the token

found_is : (bytes : List ℕ) (vs : List Span) (fs : List Field) → map (span_bytes bytes) vs ≡ map field_value fs → IsFound bytes (found_of vs) fs
found_is bytes [] [] e = refl
found_is bytes [] (x ∷ fs) e = absurd cc
found_is bytes (v ∷ []) [] e = absurd cc
found_is bytes (v ∷ []) (x ∷ []) e = (x, refl, cc)
found_is bytes (v ∷ []) (x ∷ y ∷ fs) e = absurd cc
found_is bytes (v ∷ u ∷ vs) [] e = absurd cc
found_is bytes (v ∷ u ∷ vs) (x ∷ []) e = absurd cc
found_is bytes (v ∷ u ∷ vs) (x ∷ y ∷ fs) e = (x, y, fs, refl)

pub token_is : (bytes : List ℕ) (hs : List HeaderSpan) (h : RequestHead) → map (header_bytes bytes) hs ≡ map name_and_value h.fields
    → IsFound bytes (found_of (values_named bytes (codes "Office-Token") hs)) (token_fields h)
token_is bytes hs h e =
    found_is bytes (values_named bytes (codes "Office-Token") hs) (token_fields h) (named_values bytes (codes "Office-Token") hs h.fields e)

values_lie : (n : ℕ) (hs : List HeaderSpan) → All (IsHeaderWithin n) hs → LiesIn n (found_of (map (λ (h : HeaderSpan). h.value) hs))
values_lie n [] all = tt
values_lie n (h ∷ []) all = (All-head (IsHeaderWithin n) h [] all).1
values_lie n (h ∷ g ∷ hs) all = tt

pub token_lies : (bytes : List ℕ) (n : ℕ) (hs : List HeaderSpan) → All (IsHeaderWithin n) hs → LiesIn n (found_of (values_named bytes (codes "Office-Token") hs))
token_lies bytes n hs all =
    let test = λ (h : HeaderSpan). same_word (span_bytes bytes h.name) (codes "Office-Token") in values_lie n (filter test hs) (All-filter test (IsHeaderWithin n) hs all)

-- ---- how long the body is

abbrev pub coding_name : List ℕ
coding_name = codes "Transfer-Encoding"

abbrev pub length_name : List ℕ
length_name = codes "Content-Length"

abbrev pub Covers : List ℕ → List HeaderSpan → RequestHead → Type 0
Covers bytes hs h = map (header_bytes bytes) hs ≡ map name_and_value h.fields

pub is_coded : (bytes : List ℕ) (hs : List HeaderSpan) (h : RequestHead) → (found_of (values_named bytes coding_name hs) ≡ Absent → ⊥) → Covers bytes hs h → Frames h (Err ChunkedBody)
is_coded bytes hs h is e after rest =
    let some = some_found (span_bytes bytes) (values_named bytes coding_name hs) (fields_named coding_name h.fields) (named_values bytes coding_name hs h.fields e) is in
    subst (λ (t : List Field). after_coding h after t (refused ChunkedBody) rest) (sym some.2) refl

plain : (bytes : List ℕ) (hs : List HeaderSpan) (h : RequestHead) → found_of (values_named bytes coding_name hs) ≡ Absent → Covers bytes hs h → fields_named coding_name h.fields ≡ []
plain bytes hs h is e = none_found (span_bytes bytes) (values_named bytes coding_name hs) (fields_named coding_name h.fields) (named_values bytes coding_name hs h.fields e) is

-- the head is refused for its length
by_length : (h : RequestHead) (n : Option ℕ) (bad : FramingRefusal) → fields_named coding_name h.fields ≡ [] → body_length (fields_named length_name h.fields) ≡ n
    → ((after rest : List ℕ) → after_length h after n (refused bad) rest) → Frames h (Err bad)
by_length h n bad none is what after rest =
    subst (λ (t : List Field). after_coding h after t (refused bad) rest) (sym none)
    (subst (λ (m : Option ℕ). after_length h after m (refused bad) rest) (sym is) (what after rest))

pub no_length : (bytes : List ℕ) (hs : List HeaderSpan) (h : RequestHead) → found_of (values_named bytes coding_name hs) ≡ Absent → found_of (values_named bytes length_name hs) ≡ Absent
    → Covers bytes hs h → Frames h (Ok 0)
no_length bytes hs h uncoded is e = (
  plain bytes hs h uncoded e,
  ap body_length (none_found (span_bytes bytes) (values_named bytes length_name hs) (fields_named length_name h.fields) (named_values bytes length_name hs h.fields e) is),
  omega arith,
)

pub two_lengths : (bytes : List ℕ) (hs : List HeaderSpan) (h : RequestHead) → found_of (values_named bytes coding_name hs) ≡ Absent → found_of (values_named bytes length_name hs) ≡ Repeated
    → Covers bytes hs h → Frames h (Err BadHead)
two_lengths bytes hs h uncoded is e =
    by_length h None BadHead (plain bytes hs h uncoded e)
    (several_found (span_bytes bytes) (values_named bytes length_name hs) (fields_named length_name h.fields) (named_values bytes length_name hs h.fields e) is) (λ after rest. refl)

-- the length that the value writes
written : (bytes : List ℕ) (hs : List HeaderSpan) (h : RequestHead) (s : Span) → found_of (values_named bytes length_name hs) ≡ Once s → Covers bytes hs h
    → body_length (fields_named length_name h.fields) ≡ number_of (span_bytes bytes s)
written bytes hs h s is e = one_found (span_bytes bytes) (values_named bytes length_name hs) (fields_named length_name h.fields) s (named_values bytes length_name hs h.fields e) is

capped : (o : Option ℕ) (n : ℕ) → Some n ≡ option_map (λ (m : ℕ). min m (2 ^ 64 - 1)) o → (m : ℕ) × (o ≡ Some m) × (n ≡ min m (2 ^ 64 - 1))
capped None n is = absurd cc
capped (Some m) n is = (m, refl, cc)

uncapped : (o : Option ℕ) → None ≡ option_map (λ (m : ℕ). min m (2 ^ 64 - 1)) o → o ≡ None
uncapped None is = refl
uncapped (Some m) is = absurd cc

pub fit_length : (bytes : List ℕ) (hs : List HeaderSpan) (h : RequestHead) (s : Span) (n : ℕ)
    → found_of (values_named bytes coding_name hs) ≡ Absent → found_of (values_named bytes length_name hs) ≡ Once s
    → Some n ≡ option_map (λ (m : ℕ). min m (2 ^ 64 - 1)) (number_of (span_bytes bytes s)) → n ≤ body_room → Covers bytes hs h → Frames h (Ok n)
fit_length bytes hs h s n uncoded is read small e =
    let m = capped (number_of (span_bytes bytes s)) n read in
    let same : m.0 ≡ n = omega (arith, m.2, small) in
    (plain bytes hs h uncoded e, written bytes hs h s is e ∙ m.1 ∙ ap Some same, small)

pub great_length : (bytes : List ℕ) (hs : List HeaderSpan) (h : RequestHead) (s : Span) (n : ℕ)
    → found_of (values_named bytes coding_name hs) ≡ Absent → found_of (values_named bytes length_name hs) ≡ Once s
    → Some n ≡ option_map (λ (m : ℕ). min m (2 ^ 64 - 1)) (number_of (span_bytes bytes s)) → body_room < n → Covers bytes hs h → Frames h (Err BodyTooLarge)
great_length bytes hs h s n uncoded is read great e =
    let m = capped (number_of (span_bytes bytes s)) n read in
    by_length h (Some m.0) BodyTooLarge (plain bytes hs h uncoded e) (written bytes hs h s is e ∙ m.1) (λ after rest. inl (omega (arith, m.2, great), refl))

pub bad_length : (bytes : List ℕ) (hs : List HeaderSpan) (h : RequestHead) (s : Span) → found_of (values_named bytes coding_name hs) ≡ Absent → found_of (values_named bytes length_name hs) ≡ Once s
    → None ≡ option_map (λ (m : ℕ). min m (2 ^ 64 - 1)) (number_of (span_bytes bytes s)) → Covers bytes hs h → Frames h (Err BadHead)
bad_length bytes hs h s uncoded is read e =
    by_length h None BadHead (plain bytes hs h uncoded e) (written bytes hs h s is e ∙ uncapped (number_of (span_bytes bytes s)) read) (λ after rest. refl)

-- ---- whether the message is the last

pub closing : (bytes : List ℕ) (hs : List HeaderSpan) (h : RequestHead) → Covers bytes hs h
    → list_any (λ (x : HeaderSpan). same_word (span_bytes bytes x.name) (codes "Connection") && same_word (span_bytes bytes x.value) (codes "close")) hs
    ≡ list_any (λ (f : Field). same_word (field_value f) (codes "close")) (fields_named (codes "Connection") h.fields)
closing bytes hs h e =
    any_alike (λ (x : HeaderSpan). same_word (span_bytes bytes x.name) (codes "Connection")) (λ (f : Field). same_word f.name (codes "Connection"))
    (λ (x : HeaderSpan). span_bytes bytes x.value) field_value (λ (t : List ℕ). same_word t (codes "close")) hs h.fields (named_alike bytes (codes "Connection") hs h.fields e)
