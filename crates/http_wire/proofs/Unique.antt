-- A stream is one list of messages, and what stands at its front does not depend on what follows.
use Rattle.std.proofs.Common.{◌≡◌, ℕ, ◌<◌, ◌≤◌, true, false, List, [], ◌∷◌, ◌++◌, length, take, drop, refl, sym, ap, ◌∙◌, subst, arith, length-append, inl, inr, Option}
use Rattle.std.proofs.Common.{Some, None, take-append-drop, codes}
use Rattle.std.specs.Prelude.{◌⊎◌}
use Rattle.std.proofs.lemmas.Bool.{cases_lt}
use Rattle.std.proofs.lemmas.List.{take_all, length-take-le, take-append-le, drop-append-le}
use Rattle.httparse.specs.Grammar.{RequestHead, Field, print_request, print_blank, print_version, print_end, print_section, ReadsRequest, HasNoRequest, MayBecomeRequest}
use Rattle.httparse.proofs.GrammarLemmas.{request_unique, ReadsRequest-append, print_request-append}
use Rattle.http_wire.specs.Heads.{IsHopeless, IsOpen, HasHopelessFront}
use Rattle.http_wire.proofs.FrontLemmas.{head_front, open_front, front_of_front, empty_may}
use Rattle.http_wire.specs.Held.{head_room}
use Rattle.http_wire.specs.Messages.{Framed, Request, request, refused, fields_named, after_length, after_coding, HasHead, Stands, IsUnsettled, Messages, ends_session, is_last, body_length, body_room}
use Rattle.http_wire.specs.declared.framing.FramingRefusal.TheVariants.{BadHead, HeadTooLarge}

-- a head that is not longer than the room stands in the first bytes too
head_in_front : (bytes after : List ℕ) (h : RequestHead) → HasHead bytes h after → (rest : List ℕ) × ReadsRequest (take head_room bytes) h rest
head_in_front bytes after h head =
    go (cases_lt (length bytes) head_room)
  where
    go : (length bytes < head_room) ⊎ (head_room ≤ length bytes) → (rest : List ℕ) × ReadsRequest (take head_room bytes) h rest
    go (inl short) = (after, subst (λ (t : List ℕ). ReadsRequest t h after) (sym (take_all head_room bytes (omega arith))) head.reads)
    go (inr long) =
        let z = front_of_front (print_request h) after (take head_room bytes) (drop head_room bytes)
        (sym head.reads.1 ∙ sym (take-append-drop head_room bytes)) (omega (arith, head.fits, length-take-le head_room bytes long)) in
        (z.0, (head.reads.0, z.1))

length_unique : (h : RequestHead) (bytes : List ℕ) (n : Option ℕ) (f g : Framed) (r q : List ℕ)
    → after_length h bytes n f r → after_length h bytes n g q → f ≡ g
length_unique h bytes None f g r q x y = x ∙ sym y
length_unique h bytes (Some n) f g r q (inl x) (inl y) = x.1 ∙ sym y.1
length_unique h bytes (Some n) f g r q (inl x) (inr y) = absurd (omega (arith, x.0, y.0))
length_unique h bytes (Some n) f g r q (inr x) (inl y) = absurd (omega (arith, x.0, y.0))
length_unique h bytes (Some n) f g r q (inr x) (inr y) = x.3 ∙ sym y.3

coding_unique : (h : RequestHead) (bytes : List ℕ) (codings : List Field) (f g : Framed) (r q : List ℕ)
    → after_coding h bytes codings f r → after_coding h bytes codings g q → f ≡ g
coding_unique h bytes [] f g r q x y = length_unique h bytes _ f g r q x y
coding_unique h bytes (c ∷ codings) f g r q x y = x ∙ sym y

-- one thing stands at the front
pub stands_unique : (bytes : List ℕ) (f g : Framed) (r q : List ℕ) → Stands bytes f r → Stands bytes g q → f ≡ g
stands_unique bytes f g r q (inl x) (inl y) = x.1 ∙ sym y.1
stands_unique bytes f g r q (inl x) (inr (inl y)) = absurd (y.0.hopeful x.0)
stands_unique bytes f g r q (inl x) (inr (inr (h, after, head, what))) = absurd (head_front bytes h after x.0.0 head.reads x.0.2)
stands_unique bytes f g r q (inr (inl x)) (inl y) = absurd (x.0.hopeful y.0)
stands_unique bytes f g r q (inr (inl x)) (inr (inl y)) = x.2 ∙ sym y.2
stands_unique bytes f g r q (inr (inl x)) (inr (inr (h, after, head, what))) =
    let front = head_in_front bytes after h head in absurd (x.0.none h front.0 front.1)
stands_unique bytes f g r q (inr (inr (h, after, head, what))) (inl y) = absurd (head_front bytes h after y.0.0 head.reads y.0.2)
stands_unique bytes f g r q (inr (inr (h, after, head, what))) (inr (inl y)) =
    let front = head_in_front bytes after h head in absurd (y.0.none h front.0 front.1)
stands_unique bytes f g r q (inr (inr (h, after, head, what))) (inr (inr (k, later, other, how))) =
    let same = request_unique bytes h k after later head.reads other.reads in
    coding_unique k later _ f g r q
    (subst (λ (t : List ℕ). after_coding k t (fields_named (codes "Transfer-Encoding") k.fields) f r) same.1
    (subst (λ (t : RequestHead). after_coding t after (fields_named (codes "Transfer-Encoding") t.fields) f r) same.0 what)) how

-- ---- more bytes change nothing

hopeless_more : (limit : ℕ) (bytes more : List ℕ) → HasHopelessFront limit bytes → HasHopelessFront limit (bytes ++ more)
hopeless_more limit bytes more (n, fits, none) = go (cases_lt (length bytes) n)
  where
    go : (length bytes < n) ⊎ (n ≤ length bytes) → HasHopelessFront limit (bytes ++ more)
    go (inl past) = (
      length bytes,
      omega (arith, fits),
      subst IsHopeless (take_all n bytes (omega arith) ∙ sym (take_all (length bytes) bytes (omega arith)) ∙ sym (take-append-le (length bytes) bytes more (omega arith))) none,
    )
    go (inr inside) = (n, fits, subst IsHopeless (sym (take-append-le n bytes more inside)) none)

length_more : (h : RequestHead) (bytes more : List ℕ) (n : Option ℕ) (f : Framed) (r : List ℕ)
    → after_length h bytes n f r → after_length h (bytes ++ more) n f (r ++ more)
length_more h bytes more None f r x = x
length_more h bytes more (Some n) f r (inl x) = inl x
length_more h bytes more (Some n) f r (inr (small, inside, rest, found)) =
    inr (
      small,
      omega (arith, inside, length-append bytes more),
      ap (λ (t : List ℕ). t ++ more) rest ∙ sym (drop-append-le n bytes more inside),
      found ∙ ap (λ (t : List ℕ). request (record { head = h; body = t; last = is_last h })) (sym (take-append-le n bytes more inside)),
    )

coding_more : (h : RequestHead) (bytes more : List ℕ) (codings : List Field) (f : Framed) (r : List ℕ)
    → after_coding h bytes codings f r → after_coding h (bytes ++ more) codings f (r ++ more)
coding_more h bytes more [] f r x = length_more h bytes more _ f r x
coding_more h bytes more (c ∷ codings) f r x = x

-- what stands at the front of some bytes stands there whatever follows
pub stands_more : (bytes more : List ℕ) (f : Framed) (r : List ℕ) → Stands bytes f r → Stands (bytes ++ more) f (r ++ more)
stands_more bytes more f r (inl x) = inl (hopeless_more head_room bytes more x.0, x.1)
stands_more bytes more f r (inr (inl (none, long, is))) =
    let front : take head_room (bytes ++ more) ≡ take head_room bytes = take-append-le head_room bytes more long in
    inr (inl (
      record {
        none = subst HasNoRequest (sym front) none.none;
        hopeful = λ x. none.hopeful (x.0, x.1, subst IsHopeless (take-append-le x.0 bytes more (omega (arith, long, x.1))) x.2);
      },
      omega (arith, long, length-append bytes more),
      is,
    ))
stands_more bytes more f r (inr (inr (h, after, head, what))) =
    inr (inr (
      h,
      after ++ more,
      record { reads = ReadsRequest-append bytes h after more head.reads; fits = head.fits },
      coding_more h after more (fields_named (codes "Transfer-Encoding") h.fields) f r what,
    ))

-- ---- what follows a request

length_rest : (h : RequestHead) (bytes : List ℕ) (n : Option ℕ) (a b : Request) (r q : List ℕ)
    → after_length h bytes n (request a) r → after_length h bytes n (request b) q → r ≡ q
length_rest h bytes None a b r q x y = absurd (cc)
length_rest h bytes (Some n) a b r q (inl x) y = absurd (let e = x.1 in cc)
length_rest h bytes (Some n) a b r q (inr x) (inl y) = absurd (let e = y.1 in cc)
length_rest h bytes (Some n) a b r q (inr x) (inr y) = x.2 ∙ sym y.2

coding_rest : (h : RequestHead) (bytes : List ℕ) (codings : List Field) (a b : Request) (r q : List ℕ)
    → after_coding h bytes codings (request a) r → after_coding h bytes codings (request b) q → r ≡ q
coding_rest h bytes [] a b r q x y = length_rest h bytes _ a b r q x y
coding_rest h bytes (c ∷ codings) a b r q x y = absurd (cc)

pub stands_rest : (bytes : List ℕ) (a b : Request) (r q : List ℕ) → Stands bytes (request a) r → Stands bytes (request b) q → r ≡ q
stands_rest bytes a b r q (inl x) y = absurd (let e = x.1 in cc)
stands_rest bytes a b r q (inr (inl x)) y = absurd (let e = x.2 in cc)
stands_rest bytes a b r q (inr (inr x)) (inl y) = absurd (let e = y.1 in cc)
stands_rest bytes a b r q (inr (inr x)) (inr (inl y)) = absurd (let e = y.2 in cc)
stands_rest bytes a b r q (inr (inr (h, after, head, what))) (inr (inr (k, later, other, how))) =
    let same = request_unique bytes h k after later head.reads other.reads in
    coding_rest k later (fields_named (codes "Transfer-Encoding") k.fields) a b r q
    (subst (λ (t : List ℕ). after_coding k t (fields_named (codes "Transfer-Encoding") k.fields) (request a) r) same.1
    (subst (λ (t : RequestHead). after_coding t after (fields_named (codes "Transfer-Encoding") t.fields) (request a) r) same.0 what)) how

-- nothing stands at the front of no bytes
pub nothing_stands : (f : Framed) (r : List ℕ) → ¬ (Stands [] f r)
nothing_stands f r (inl (x, is)) = x.2.closed (subst MayBecomeRequest (sym (take_all x.0 [] (omega arith))) empty_may)
nothing_stands f r (inr (inl (none, long, is))) = omega arith
nothing_stands f r (inr (inr (h, after, head, what))) =
    let e = ap length (head.reads.1 ∙ print_request-append h after) in
    omega (
      arith,
      e,
      length-append (print_blank h.blank) (h.method ++ 32
          ∷ (h.target ++ 32
          ∷ (print_version h.minor ++ (print_end h.line_end ++ (print_section h.fields h.last ++ after))))),
      length-append h.method (32
          ∷ (h.target ++ 32
          ∷ (print_version h.minor ++ (print_end h.line_end ++ (print_section h.fields h.last ++ after))))),
    )

-- ---- what the reading of a head finds

pub open_unsettled : (bytes : List ℕ) → IsOpen bytes → length bytes < head_room → IsUnsettled bytes
open_unsettled bytes open_bytes short f r (inl (x, is)) = open_front bytes x.0 open_bytes.may x.2
open_unsettled bytes open_bytes short f r (inr (inl (none, long, is))) = omega arith
open_unsettled bytes open_bytes short f r (inr (inr (h, after, head, what))) = open_bytes.none h after head.reads

pub open_too_large : (bytes : List ℕ) → IsOpen bytes → length bytes ≡ head_room → Stands bytes (refused HeadTooLarge) []
open_too_large bytes open_bytes full =
    inr (inl (
      record {
        none = subst HasNoRequest (sym (take_all head_room bytes (omega (arith, full)))) open_bytes.none;
        hopeful = λ x. open_front bytes x.0 open_bytes.may x.2;
      },
      omega (arith, full),
      refl,
    ))

pub hopeless_bad : (bytes : List ℕ) → IsHopeless bytes → length bytes ≤ head_room → Stands bytes (refused BadHead) []
hopeless_bad bytes none short =
    inl ((length bytes, short, subst IsHopeless (sym (take_all (length bytes) bytes (omega arith))) none), refl)

-- ---- one list of messages

pub messages_unique : (bytes : List ℕ) (xs ys : List Framed) → Messages bytes xs → Messages bytes ys → xs ≡ ys
messages_unique bytes [] [] x y = refl
messages_unique bytes [] (f ∷ ys) x (inl (rest, stands, goes)) = absurd (nothing_stands f rest (subst (λ (t : List ℕ). Stands t f rest) x stands))
messages_unique bytes [] (f ∷ ys) x (inr (cut, is, later)) = absurd (omega (arith, cut.some, ap length x))
messages_unique bytes (f ∷ xs) [] (inl (rest, stands, goes)) y = absurd (nothing_stands f rest (subst (λ (t : List ℕ). Stands t f rest) y stands))
messages_unique bytes (f ∷ xs) [] (inr (cut, is, later)) y = absurd (omega (arith, cut.some, ap length y))
messages_unique bytes (f ∷ xs) (g ∷ ys) (inr (cut, is, later)) (inr (other, same, after)) =
    let e = is ∙ sym same in let tails = later ∙ sym after in cc
messages_unique bytes (f ∷ xs) (g ∷ ys) (inr (cut, is, later)) (inl (rest, stands, goes)) = absurd (cut.unsettled g rest stands)
messages_unique bytes (f ∷ xs) (g ∷ ys) (inl (rest, stands, goes)) (inr (cut, is, later)) = absurd (cut.unsettled f rest stands)
messages_unique bytes (f ∷ xs) (g ∷ ys) (inl (rest, stands, goes)) (inl (left, other, on)) =
    both f g (stands_unique bytes f g rest left stands other) stands other goes on (λ t x y. messages_unique t xs ys x y)
  where
    both : (f g : Framed) → f ≡ g → Stands bytes f rest → Stands bytes g left
        → ((ends_session f ≡ true) × (xs ≡ [])) ⊎ ((ends_session f ≡ false) × Messages rest xs)
        → ((ends_session g ≡ true) × (ys ≡ [])) ⊎ ((ends_session g ≡ false) × Messages left ys)
        → ((t : List ℕ) → Messages t xs → Messages t ys → xs ≡ ys)
        → f ∷ xs ≡ g ∷ ys
    both f g e x y (inl a) (inl b) later = let tails = a.1 ∙ sym b.1 in cc
    both f g e x y (inl a) (inr b) later = absurd (let z = sym a.0 ∙ ap ends_session e ∙ b.0 in cc)
    both f g e x y (inr a) (inl b) later = absurd (let z = sym a.0 ∙ ap ends_session e ∙ b.0 in cc)
    both (request a) (request b) e x y (inr c) (inr d) later =
        let tails = later left (subst (λ (t : List ℕ). Messages t xs) (stands_rest bytes a b rest left x y) c.1) d.1 in cc
    both (request a) (refused b) e x y (inr c) (inr d) later = absurd (cc)
    both (refused a) g e x y (inr c) (inr d) later = absurd (let z = c.0 in cc)

-- a head whose body has not come whole settles nothing
pub short_body : (bytes : List ℕ) (h : RequestHead) (after : List ℕ) (n : ℕ) → HasHead bytes h after
    → fields_named (codes "Transfer-Encoding") h.fields ≡ [] → body_length (fields_named (codes "Content-Length") h.fields) ≡ Some n
    → n ≤ body_room → length after < n → IsUnsettled bytes
short_body bytes h after n head plain counted small short f r (inl x) = head_front bytes h after x.0.0 head.reads x.0.2
short_body bytes h after n head plain counted small short f r (inr (inl x)) =
    let front = head_in_front bytes after h head in x.0.none h front.0 front.1
short_body bytes h after n head plain counted small short f r (inr (inr (k, later, other, what))) =
    let same = request_unique bytes k h later after other.reads head.reads in
    let here = subst (λ (t : List ℕ). after_coding h t (fields_named (codes "Transfer-Encoding") h.fields) f r) same.1
    (subst (λ (t : RequestHead). after_coding t later (fields_named (codes "Transfer-Encoding") t.fields) f r) same.0 what) in
    let uncoded = subst (λ (t : List Field). after_coding h after t f r) plain here in
    by_length (subst (λ (t : Option ℕ). after_length h after t f r) counted uncoded)
  where
    by_length : after_length h after (Some n) f r → ⊥
    by_length (inl x) = omega (arith, x.0, small)
    by_length (inr x) = omega (arith, x.1, short)
