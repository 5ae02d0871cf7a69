-- What stands in a stream, an example for each rule.
use Rattle.std.proofs.Common.{◌≡◌, ℕ, zero, suc, ◌<◌, ◌≤◌, All, Bool, true, false, List, [], ◌∷◌, ◌++◌, length, refl, ap, ◌∙◌, sym, subst, arith, codes, inl, inr, length-append, append_assoc}
use Rattle.std.specs.Prelude.{not, ◌==◌, ◌&&◌, IsTrue, replicate}
use Rattle.std.specs.List.{list_all}
use Rattle.std.proofs.lemmas.Bool.{and_parts}
use Rattle.std.proofs.lemmas.List.Elements.{All-nil, All-cons, All-head}
use Rattle.std.proofs.lemmas.List.{length-replicate}
use Rattle.std.proofs.lemmas.Str.{IsUtf8-from_ascii}
use Rattle.std.proofs.lemmas.Str.Ascii.{IsAscii-cons, IsAscii-nil}
use Rattle.httparse.specs.Grammar.{is_token_byte, is_uri_byte, is_value_byte, trim_ows, AllPass, IsToken, LineEnd, crlf, lf, print_end, print_blank, print_version, print_section, Field, IsField, RequestHead, IsRequestHead, print_request, HasNoRequest, MayBecomeRequest}
use Rattle.httparse.proofs.GrammarLemmas.{print_request-append}
use Rattle.http_routes.specs.Table.{rows}
use Rattle.http_routes.specs.Targets as targets
use Rattle.http_routes.proofs.Computed.{there, nowhere}
use Rattle.http_wire.specs.Heads.{IsHopeless, IsOpen}
use Rattle.http_wire.specs.Held.{head_room}
use Rattle.http_wire.specs.Messages.{Framed, request, refused, fields_named, after_coding, Stands, Messages}
use Rattle.http_wire.specs.declared.framing.FramingRefusal.TheVariants.{BadHead, BodyTooLarge, ChunkedBody, HeadTooLarge, CutShort}
use Rattle.http_wire.proofs.Unique.{open_unsettled, open_too_large, short_body}
use Rattle.http_asks.specs.Meaning.{Means, refuses, no_route, bad_method, method_of, bucket_meant, tariff_meant}

-- ---- 1. nothing is left

nothing : Messages [] []
nothing = refl

-- ---- 2. some first bytes are no head and cannot become one

-- the first byte of a head begins an empty line or a method
not_one : (blank : List LineEnd) (method rest ys : List ℕ) → IsToken method → 1 ∷ ys ≡ print_blank blank ++ (method ++ rest) → ⊥
unfolding is_token_byte
not_one [] [] rest ys token is = omega (arith, token.0)
not_one [] (b ∷ method) rest ys token is =
    let first : 1 ≡ b = cc in
    let passes = All-head (λ (c : ℕ). IsTrue (is_token_byte c)) b method token.1 in
    absurd (let e = subst (λ (c : ℕ). IsTrue (is_token_byte c)) (sym first) passes in cc)
not_one (crlf ∷ blank) method rest ys token is = absurd cc
not_one (lf ∷ blank) method rest ys token is = absurd cc

control_hopeless : IsHopeless (1 ∷ [])
control_hopeless = record {
  none = λ h rest reads. not_one h.blank h.method _ [] reads.0.method (reads.1 ∙ print_request-append h rest);
  closed = never;
}
  where
    never : MayBecomeRequest (1 ∷ []) → ⊥
    never (inl (more, h, reads)) = not_one h.blank h.method _ more reads.0.method (reads.1 ∙ print_request-append h [])
    never (inr (blank, method, target, token, uri, is)) = not_one blank method (32 ∷ target) [] token (is ∙ append_assoc (print_blank blank) method (32 ∷ target))

-- a control byte, whatever follows
bad_head : (more : List ℕ) → Messages (1 ∷ more) (refused BadHead ∷ [])
bad_head more = inl ([], inl ((1, omega arith, control_hopeless), refl), inl (refl, refl))

-- ---- 3. and 4. bytes that are no head and may become one: a text without a line feed

abbrev no_line_feed : ℕ → Bool
no_line_feed b = not (b == 10)

all_rest : (xs ys : List ℕ) → list_all no_line_feed (xs ++ ys) ≡ true → list_all no_line_feed ys ≡ true
all_rest [] ys is = is
all_rest (x ∷ xs) ys is = all_rest xs ys (and_parts (no_line_feed x) (list_all no_line_feed (xs ++ ys)) is).1

line_ends : (e : LineEnd) (ys : List ℕ) → list_all no_line_feed (print_end e ++ ys) ≡ true → ⊥
line_ends crlf ys is = absurd cc
line_ends lf ys is = absurd cc

-- a head ends its first line
no_head : (bytes : List ℕ) → list_all no_line_feed bytes ≡ true → HasNoRequest bytes
no_head bytes none h rest reads =
    let all = subst (λ (t : List ℕ). list_all no_line_feed t ≡ true) (reads.1 ∙ print_request-append h rest) none in
    let section = print_section h.fields h.last ++ rest in
    let line = print_end h.line_end ++ section in
    let version = print_version h.minor ++ line in
    let target = h.target ++ 32 ∷ version in
    line_ends h.line_end section
    (all_rest (print_version h.minor) line
    (all_rest (32 ∷ []) version
    (all_rest h.target (32 ∷ version)
    (all_rest (32 ∷ []) target
    (all_rest h.method (32 ∷ target)
    (all_rest (print_blank h.blank) (h.method ++ 32 ∷ target) all))))))

-- each byte passes, by the test
passes : (test : ℕ → Bool) (xs : List ℕ) → list_all test xs ≡ true → AllPass test xs
passes test [] is = All-nil (λ (b : ℕ). IsTrue (test b))
passes test (x ∷ xs) is = let both = and_parts (test x) (list_all test xs) is in All-cons (λ (b : ℕ). IsTrue (test b)) x xs both.0 (passes test xs both.1)

get : IsToken (codes "GET")
unfolding is_token_byte
get = (omega arith, passes is_token_byte (codes "GET") refl)

-- a method, a space and a part of a target
open_target : (target : List ℕ) → list_all is_uri_byte target ≡ true → list_all no_line_feed target ≡ true → IsOpen (codes "GET " ++ target)
open_target target uri line = record {
  none = no_head (codes "GET " ++ target) line;
  may = inr ([], codes "GET", target, get, passes is_uri_byte target uri, refl);
}

cut_in_target : Messages (codes "GET /tar") (refused CutShort ∷ [])
cut_in_target = inr (record { some = omega arith; unsettled = open_unsettled (codes "GET /tar") (open_target (codes "/tar") refl refl) (omega arith) }, refl, refl)

-- this many letters
letters_pass : (test : ℕ → Bool) (n : ℕ) → test 97 ≡ true → list_all test (replicate n 97) ≡ true
letters_pass test zero is = refl
letters_pass test (suc n) is = ap (λ (b : Bool). b && list_all test (replicate n 97)) is ∙ letters_pass test n is

large_head : (n : ℕ) → n ≡ 8187 → Messages (codes "GET /" ++ replicate n 97) (refused HeadTooLarge ∷ [])
large_head n is =
    inl (
      [],
      open_too_large (codes "GET /" ++ replicate n 97)
          (open_target (47 ∷ replicate n 97) (letters_pass is_uri_byte n refl) (letters_pass no_line_feed n refl))
          (omega (arith, is, length-append (codes "GET /") (replicate n 97), length-replicate {A = ℕ} n 97)),
      inl (refl, refl),
    )

-- ---- 5. a head

-- GET / with these fields
abbrev head_with : List Field → RequestHead
head_with fields = record { blank = []; method = codes "GET"; target = 47 ∷ []; minor = 1; line_end = crlf; fields = fields; last = crlf }

abbrev field_of : List ℕ → List ℕ → Field
field_of name value = record { name = name; raw = 32 ∷ value; end = crlf }

field_is : (name value : List ℕ) → 0 < length name → list_all is_token_byte name ≡ true → list_all is_value_byte value ≡ true → IsField (field_of name value)
field_is name value some token is = record { name = (some, passes is_token_byte name token); raw = passes is_value_byte (32 ∷ value) is }

head_is : (fields : List Field) → All IsField fields → IsRequestHead (head_with fields)
head_is fields each = record {
  method = get;
  target = (omega arith, passes is_uri_byte (47 ∷ []) refl);
  target_text = IsUtf8-from_ascii (47 ∷ []) (IsAscii-cons 47 [] (omega arith) IsAscii-nil);
  minor = omega arith;
  fields = each;
}

-- what stands behind such a head
behind : (fields : List Field) (after : List ℕ) (found : Framed) (rest : List ℕ) → All IsField fields → length (print_request (head_with fields)) ≤ head_room
    → after_coding (head_with fields) after (fields_named (codes "Transfer-Encoding") fields) found rest → Stands (print_request (head_with fields) ++ after) found rest
behind fields after found rest each fits what = inr (inr (head_with fields, after, record { reads = (head_is fields each, refl); fits = fits }, what))

abbrev coded : Field
coded = field_of (codes "transfer-encoding") (codes "chunked")

abbrev sized : List ℕ → Field
sized value = field_of (codes "Content-Length") value

sized_is : (value : List ℕ) → list_all is_value_byte value ≡ true → IsField (sized value)
unfolding is_token_byte
sized_is value is = field_is (codes "Content-Length") value (omega arith) refl is

coded_is : IsField coded
unfolding is_token_byte
coded_is = field_is (codes "transfer-encoding") (codes "chunked") (omega arith) refl refl

one : (f : Field) → IsField f → All IsField (f ∷ [])
one f is = All-cons IsField f [] is (All-nil IsField)

one_more : (f : Field) (others : List Field) → IsField f → All IsField others → All IsField (f ∷ others)
one_more f others is each = All-cons IsField f others is each

-- a coding comes before two lengths
chunked_body : (after : List ℕ) → Messages (print_request (head_with (sized (codes "0") ∷ sized (codes "0") ∷ coded ∷ [])) ++ after) (refused ChunkedBody ∷ [])
unfolding print_request
chunked_body after =
    inl (
      [],
      behind (sized (codes "0") ∷ sized (codes "0") ∷ coded ∷ []) after (refused ChunkedBody) []
          (one_more (sized (codes "0")) (sized (codes "0") ∷ coded ∷ []) (sized_is (codes "0") refl) (one_more (sized (codes "0")) (coded ∷ []) (sized_is (codes "0") refl) (one coded coded_is)))
          (omega arith) refl,
      inl (refl, refl),
    )

-- two lengths come before one that is too large
two_lengths : (after : List ℕ) → Messages (print_request (head_with (sized (codes "1048577") ∷ sized (codes "1048577") ∷ [])) ++ after) (refused BadHead ∷ [])
unfolding print_request
two_lengths after =
    inl (
      [],
      behind (sized (codes "1048577") ∷ sized (codes "1048577") ∷ []) after (refused BadHead) []
          (one_more (sized (codes "1048577")) (sized (codes "1048577") ∷ []) (sized_is (codes "1048577") refl) (one (sized (codes "1048577")) (sized_is (codes "1048577") refl)))
          (omega arith) refl,
      inl (refl, refl),
    )

-- a body that is too large is not awaited
large_body : (after : List ℕ) → Messages (print_request (head_with (sized (codes "1048577") ∷ [])) ++ after) (refused BodyTooLarge ∷ [])
unfolding print_request trim_ows
large_body after =
    inl (
      [],
      behind (sized (codes "1048577") ∷ []) after (refused BodyTooLarge) []
          (one (sized (codes "1048577")) (sized_is (codes "1048577") refl))
          (omega arith) (inl (omega arith, refl)),
      inl (refl, refl),
    )

-- a body that the stream cuts short
cut_body : Messages (print_request (head_with (sized (codes "3") ∷ [])) ++ codes "ab") (refused CutShort ∷ [])
unfolding print_request trim_ows
cut_body =
    let fields = sized (codes "3") ∷ [] in
    let each : All IsField fields = one (sized (codes "3")) (sized_is (codes "3") refl) in
    inr (
      record {
        some = omega arith;
        unsettled = short_body (print_request (head_with fields) ++ codes "ab") (head_with fields) (codes "ab") 3 (record { reads = (head_is fields each, refl); fits = omega arith }) refl refl (omega arith) (omega arith);
      },
      refl,
      refl,
    )

-- a request with its body, and nothing behind it
whole_body : Messages (print_request (head_with (sized (codes "3") ∷ [])) ++ codes "abc") (request (record { head = head_with (sized (codes "3") ∷ []); body = codes "abc"; last = false }) ∷ [])
unfolding print_request trim_ows
whole_body =
    inl (
      [],
      behind (sized (codes "3") ∷ []) (codes "abc") (request (record { head = head_with (sized (codes "3") ∷ []); body = codes "abc"; last = false })) []
          (one (sized (codes "3")) (sized_is (codes "3") refl))
          (omega arith) (inr (omega arith, omega arith, refl, refl)),
      inr (refl, refl),
    )

-- ---- 6. where it leads, and then the method

no_slash : (method body : List ℕ) → Means (codes "tariff") method body (refuses no_route)
unfolding rows
no_slash method body = inr (nowhere (codes "tariff") refl, refl)

a_query : (method body : List ℕ) → Means (codes "/tariff?a") method body (refuses no_route)
a_query method body = inr (λ resource has. absurd (let e = has.no_query in cc), refl)

another_place : (method body : List ℕ) → Means (codes "/months/2024-01") method body (refuses no_route)
unfolding rows
another_place method body = inr (nowhere (codes "/months/2024-01") refl, refl)

-- the method comes before the parts of the path
method_first : (body : List ℕ) → Means (codes "/buckets/lo") (codes "DELETE") body (refuses bad_method)
unfolding method_of bucket_meant
method_first body = inl (targets.bucket (codes "lo"), there (codes "/buckets/lo") (targets.bucket (codes "lo")) refl, refl)

tariff_stays : (body : List ℕ) → Means (codes "/tariff") (codes "DELETE") body (refuses bad_method)
unfolding method_of tariff_meant
tariff_stays body = inl (targets.tariff, there (codes "/tariff") targets.tariff refl, refl)
