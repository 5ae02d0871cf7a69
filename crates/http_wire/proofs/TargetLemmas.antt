-- Where the target of a request begins: after the first space.
use Rattle.std.proofs.Common.{◌≡◌, ◌≢◌, ℕ, ◌+◌, ◌-◌, ◌*◌, ◌<◌, ◌≤◌, List, [], ◌∷◌, ◌++◌, length, take, drop, refl, sym, ap, ◌∙◌, subst, arith, append_assoc, append-nil}
use Rattle.std.proofs.Common.{length-append, codes, inl, inr, take-append-drop, flat_map, Result, Err}
use Rattle.std.specs.Prelude.{IsTrue, slice_index}
use Rattle.std.proofs.lemmas.Bool.{false≢true, ne_eqb}
use Rattle.std.proofs.lemmas.Grind.{common_steps}
use Rattle.std.proofs.lemmas.List.{drop_more, take_more}
use Rattle.std.proofs.lemmas.List.Elements.{All-nil, All-cons, All-weaker, All-append}
use Rattle.std.proofs.lemmas.Str.{IsUtf8-from_ascii}
use Rattle.std.proofs.lemmas.Str.Ascii.{IsAscii-cons, IsAscii-nil}
use Rattle.httparse.specs.declared.Error.{Error}
use Rattle.httparse.specs.declared.Status.{Status as Found}
use Rattle.httparse.specs.declared.spans.RequestSpans.{RequestSpans}
use Rattle.httparse.specs.declared.Error.TheVariants.{HeaderName, HeaderValue, NewLine, Status, Token, TooManyHeaders, Version}
use Rattle.httparse.specs.Grammar.{is_token_byte, is_uri_byte, AllPass, IsToken, LineEnd, crlf, lf, print_end, print_blank, print_version, print_section, print_field}
use Rattle.httparse.specs.Grammar.{Field, RequestHead, ReadsRequest, HasNoRequest, NeverHasRequest, EndsInTarget, MayBecomeRequest}
use Rattle.httparse.specs.Spans.{RequestExceeds}
use Rattle.httparse.proofs.GrammarLemmas.{print_request-append}
use Rattle.httparse.proofs.PieceLemmas.{space_ends_token}
use Rattle.httparse.proofs.RunLemmas.{run_unique, run_unstopped}
use Rattle.http_wire.specs.Heads.{no_space, IsOpen, IsHopeless}

-- ---- the room

field_two : (f : Field) → 2 ≤ length (print_field f)
field_two f = omega (arith, length-append (f.name ++ 58 ∷ f.raw) (print_end f.end), length-append f.name (58 ∷ f.raw), end_one f.end)
  where
    end_one : (e : LineEnd) → 1 ≤ length (print_end e)
    end_one crlf = omega arith
    end_one lf = omega arith

fields_two : (fs : List Field) → 2 * length fs ≤ length (flat_map print_field fs)
fields_two [] = omega arith
fields_two (f ∷ fs) = omega (arith, length-append (print_field f) (flat_map print_field fs), fields_two fs, field_two f)

pub head_length : (buf : List ℕ) (h : RequestHead) (rest : List ℕ) → ReadsRequest buf h rest → 2 * length h.fields ≤ length buf
head_length buf h rest x =
    let fields = flat_map print_field h.fields in
    let section = print_section h.fields h.last in
    let e4 = print_end h.line_end ++ (section ++ rest) in
    let e3 = print_version h.minor ++ e4 in
    let e2 = h.target ++ 32 ∷ e3 in
    let e1 = h.method ++ 32 ∷ e2 in
    omega (
      arith,
      ap length (x.1 ∙ print_request-append h rest),
      length-append (print_blank h.blank) e1,
      length-append h.method (32 ∷ e2),
      length-append h.target (32 ∷ e3),
      length-append (print_version h.minor) e4,
      length-append (print_end h.line_end) (section ++ rest),
      length-append section rest,
      length-append fields (print_end h.last),
      fields_two h.fields,
    )

-- 8,192 bytes never fill the room
pub never_too_many : (room : ℕ) (buf : List ℕ) → 4096 ≤ room → length buf ≤ 8192 → ¬ (RequestExceeds room buf)
never_too_many room buf enough short (front, rest, is, h, reads, many) =
    omega (arith, head_length _ h [] reads, ap length is, length-append front rest, length-append front (10 ∷ []))

pub other_error : {P Q : Type 0} (e : Error) → (e ≢ TooManyHeaders → P)
    → (◌≡◌ {A = Result (Found RequestSpans) Error} (Err e) (Err TooManyHeaders) → Q) → ¬ Q → P
other_error HeaderName invalid many none = invalid (λ x. absurd (cc))
other_error HeaderValue invalid many none = invalid (λ x. absurd (cc))
other_error NewLine invalid many none = invalid (λ x. absurd (cc))
other_error Status invalid many none = invalid (λ x. absurd (cc))
other_error Token invalid many none = invalid (λ x. absurd (cc))
other_error TooManyHeaders invalid many none = absurd (none (many refl))
other_error Version invalid many none = invalid (λ x. absurd (cc))

-- ---- the first space

abbrev IsNoSpace : ℕ → Type 0
IsNoSpace b = IsTrue (no_space b)

token_no_space : (b : ℕ) → IsTrue (is_token_byte b) → IsNoSpace b
token_no_space b token =
    let other : b ≢ 32 = λ e. false≢true (sym space_ends_token ∙ sym (ap is_token_byte e) ∙ token) in
    rw (ne_eqb b 32 other) refl

blank_no_space : (ends : List LineEnd) → AllPass no_space (print_blank ends)
blank_no_space [] = All-nil IsNoSpace
blank_no_space (crlf ∷ ends) =
    All-cons IsNoSpace 13 (10 ∷ print_blank ends) refl (All-cons IsNoSpace 10 (print_blank ends) refl (blank_no_space ends))
blank_no_space (lf ∷ ends) = All-cons IsNoSpace 10 (print_blank ends) refl (blank_no_space ends)

pub line_no_space : (ends : List LineEnd) (method : List ℕ) → IsToken method → AllPass no_space (print_blank ends ++ method)
line_no_space ends method token =
    All-append IsNoSpace (print_blank ends) method (blank_no_space ends)
    (All-weaker (λ b. IsTrue (is_token_byte b)) IsNoSpace token_no_space method token.1)

-- a text has one first space
pub first_space_unique : (a b r q : List ℕ) → AllPass no_space a → AllPass no_space b → a ++ 32 ∷ r ≡ b ++ 32 ∷ q → (a ≡ b) × (r ≡ q)
first_space_unique a b r q pa pb e =
    let same = run_unique no_space a b (32 ∷ r) (32 ∷ q) pa pb refl refl e in (same.0, cc)

pub split_at : (buf : List ℕ) (at : ℕ) → at < length buf → slice_index buf at ≡ 32 → buf ≡ take at buf ++ 32 ∷ drop (at + 1) buf
split_at buf at inside is =
    sym (take-append-drop at buf) ∙ ap (λ (t : List ℕ). take at buf ++ t) (drop_more buf at 0 inside ∙ ap (λ (b : ℕ). b ∷ drop (at + 1) buf) is)

-- ---- a head that is cut after its method

abbrev pub some_rest : List ℕ
some_rest = codes "/ HTTP/1.1" ++ 10 ∷ 10 ∷ []

abbrev pub some_head : List LineEnd → List ℕ → RequestHead
some_head blank method = record {
  blank = blank;
  method = method;
  target = 47 ∷ [];
  minor = 1;
  line_end = lf;
  fields = [];
  last = lf;
}

pub cut_goes_on : (line : List ℕ) (blank : List LineEnd) (method : List ℕ) → IsToken method → line ≡ print_blank blank ++ method
    → ReadsRequest ((line ++ 32 ∷ []) ++ some_rest) (some_head blank method) []
cut_goes_on line blank method token is = (
  record {
    method = token;
    target = (omega arith, All-cons (λ b. IsTrue (is_uri_byte b)) 47 [] refl (All-nil (λ b. IsTrue (is_uri_byte b))));
    target_text = IsUtf8-from_ascii (47 ∷ []) (IsAscii-cons 47 [] (omega arith) IsAscii-nil);
    minor = omega arith;
    fields = All-nil _;
  },
  append_assoc line (32 ∷ []) some_rest ∙ ap (λ (t : List ℕ). t ++ 32 ∷ some_rest) is
      ∙ append_assoc (print_blank blank) method (32 ∷ some_rest)
      ∙ sym (print_request-append (some_head blank method) []),
)

-- what is read up to the first space, of a text that may still become a head
cut_line : (line : List ℕ) → AllPass no_space line → MayBecomeRequest (line ++ 32 ∷ [])
    → (blank : List LineEnd) × (method : List ℕ) × IsToken method × (line ≡ print_blank blank ++ method)
cut_line line pass (inl (more, h, reads)) =
    let same = first_space_unique line (print_blank h.blank ++ h.method) more _ pass
    (line_no_space h.blank h.method reads.0.method)
    (sym (append_assoc line (32 ∷ []) more) ∙ reads.1 ∙ print_request-append h []
    ∙ sym (append_assoc (print_blank h.blank) h.method _)) in
    (h.blank, h.method, reads.0.method, same.0)
cut_line line pass (inr (blank, method, target, token, uri, is)) =
    let same = first_space_unique line (print_blank blank ++ method) [] target pass (line_no_space blank method token) is in
    (blank, method, token, same.0)

pub ends_by_cut : (buf : List ℕ) (at : ℕ) → at < length buf → slice_index buf at ≡ 32 → AllPass no_space (take at buf)
    → MayBecomeRequest (take at buf ++ 32 ∷ []) → AllPass is_uri_byte (drop (at + 1) buf) → EndsInTarget buf
ends_by_cut buf at inside is pass may uri =
    let line = cut_line (take at buf) pass may in
    (line.0, line.1, drop (at + 1) buf, line.2, uri, split_at buf at inside is ∙ ap (λ (t : List ℕ). t ++ 32 ∷ drop (at + 1) buf) line.3)

-- the parts of a text that ends in a target, at its first space
target_parts : (buf : List ℕ) (at : ℕ) → at < length buf → slice_index buf at ≡ 32 → AllPass no_space (take at buf)
    → (x : EndsInTarget buf) → (take at buf ≡ print_blank x.0 ++ x.1) × (drop (at + 1) buf ≡ x.2)
target_parts buf at inside is pass (blank, method, target, token, uri, e) =
    first_space_unique (take at buf) (print_blank blank ++ method) (drop (at + 1) buf) target pass (line_no_space blank method token)
    (sym (split_at buf at inside is) ∙ e)

pub target_uri : (buf : List ℕ) (at : ℕ) → at < length buf → slice_index buf at ≡ 32 → AllPass no_space (take at buf)
    → EndsInTarget buf → AllPass is_uri_byte (drop (at + 1) buf)
target_uri buf at inside is pass x =
    let parts = target_parts buf at inside is pass x in
    subst (AllPass is_uri_byte) (sym parts.1) x.4

cut_is_no_head : (line : List ℕ) → AllPass no_space line → HasNoRequest (line ++ 32 ∷ [])
cut_is_no_head line pass h rest reads =
    let after = h.target ++ 32 ∷ (print_version h.minor ++ (print_end h.line_end ++ (print_section h.fields h.last ++ rest))) in
    let same = first_space_unique line (print_blank h.blank ++ h.method) [] after pass
    (line_no_space h.blank h.method reads.0.method)
    (reads.1 ∙ print_request-append h rest ∙ sym (append_assoc (print_blank h.blank) h.method _)) in
    omega (arith, ap length same.1, length-append h.target (32 ∷ (print_version h.minor ++ (print_end h.line_end ++ (print_section h.fields h.last ++ rest)))))

-- the front of a text that ends in a target may become a head
pub not_never : (buf : List ℕ) (at : ℕ) → at < length buf → slice_index buf at ≡ 32 → AllPass no_space (take at buf)
    → (HasNoRequest (take at buf ++ 32 ∷ []) → NeverHasRequest (take at buf ++ 32 ∷ [])) → ¬ (EndsInTarget buf)
not_never buf at inside is pass never x =
    let parts = target_parts buf at inside is pass x in
    never (cut_is_no_head (take at buf) pass) some_rest (some_head x.0 x.1) [] (cut_goes_on (take at buf) x.0 x.1 x.3 parts.0)

pub no_space_no_target : (buf : List ℕ) → AllPass no_space buf → ¬ (EndsInTarget buf)
no_space_no_target buf pass (blank, method, target, token, uri, e) =
    run_unstopped no_space (print_blank blank ++ method) (32 ∷ target) (subst (AllPass no_space) e pass) refl

-- ---- the front as the code takes it

pub take_at : (buf : List ℕ) (at : ℕ) → at < length buf → slice_index buf at ≡ 32 → take (at + 1) buf ≡ take at buf ++ 32 ∷ []
take_at buf at inside is = take_more buf at 0 inside ∙ ap (λ (b : ℕ). take at buf ++ b ∷ []) is

-- ---- what the parser's errors say

pub never_none : (buf : List ℕ) → NeverHasRequest buf → HasNoRequest buf
never_none buf never h rest reads = never [] h rest (subst (λ (t : List ℕ). ReadsRequest t h rest) (sym (append-nil buf)) reads)

pub hopeless : (buf : List ℕ) → NeverHasRequest buf → ¬ (EndsInTarget buf) → IsHopeless buf
hopeless buf never ends = record { none = never_none buf never; closed = closed }
  where
    closed : ¬ (MayBecomeRequest buf)
    closed (inl (more, h, reads)) = never more h [] reads
    closed (inr x) = ends x

pub still_open : (buf : List ℕ) → NeverHasRequest buf → EndsInTarget buf → IsOpen buf
still_open buf never ends = record { none = never_none buf never; may = inr ends }

pub whole_rest : (buf : List ℕ) (at : ℕ) → take (length buf - (at + 1)) (drop (at + 1) buf) ≡ drop (at + 1) buf
whole_rest buf at = grind (arith, common_steps)
