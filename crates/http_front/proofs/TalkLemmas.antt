-- A session goes on.
use Rattle.std.proofs.Common.{◌≡◌, ℕ, ◌+◌, ◌-◌, ◌<◌, ◌≤◌, Bool, true, false, List, [], ◌∷◌, ◌++◌, take, length, refl, sym, ap, ◌∙◌, subst, arith, append_assoc}
use Rattle.std.proofs.Common.{append-nil, length-append, Option, Some, None, Result, Ok, Err, inl, inr, ⊎_elim, OnOk, IfErr}
use Rattle.std.proofs.lemmas.Option.{IfSome_then}
use Rattle.std.specs.Prelude.{◌⊎◌, option_map, IsOk}
use Rattle.std.specs.Io.KnownBytes.{Appends, IsAtEnd, prepend_known}
use Rattle.std.proofs.Math.Seq.{take-append-add, take-append_seam}
use Rattle.std.proofs.lemmas.Grind.{flat_map-append}
use Rattle.std.proofs.lemmas.List.Elements.{All-nil, All-cons, All-append}
use Rattle.std.proofs.KnownBytes.{Appends-nil, Appends-trans, Consumes-nil, Consumes-trans}
use Rattle.office_types.specs.declared.command.Ask.{Ask}
use Rattle.desk_core.specs.Answers.{Answer, Call}
use Rattle.desk_core.specs.declared.fault.DeskFault.{DeskFault}
use Rattle.desk_core.specs.declared.fault.DeskFault.TheVariants as faults
use Rattle.desk_core.proofs.Serving.{rose_later}
use Rattle.http_wire.specs.declared.source.Source as sources
use Rattle.http_wire.specs.Answers.{Gave as GaveTo, TakesFew}
use Rattle.http_wire.specs.Held.{Held, head_room, take_limit}
use Rattle.http_wire.specs.Messages.{IsUnsettled}
use Rattle.http_wire.specs.declared.framing.FramingRefusal.{FramingRefusal}
use Rattle.http_wire.proofs.MessageLemmas.{unsettled_front}
use Rattle.http_asks.specs.Counts.{Given, AreEnough}
use Rattle.http_asks.specs.Meaning.{Refused, in_framing, asks, refuses}
use Rattle.http_asks.specs.Streams.{StandsItem}
use Rattle.http_asks.specs.Faults.{refused_of}
use Rattle.http_asks.specs.Tells.{TellsRefused, IfFramed, OnFramed}
use Rattle.http_asks.specs.declared.reader.Heard.{Heard}
use Rattle.http_asks.specs.declared.reader.Heard.TheVariants as heards
use Rattle.http_wire.specs.declared.message.MessageStop.{MessageStop}
use Rattle.http_wire.specs.declared.message.MessageStop.TheVariants as stops
use Rattle.http_front.specs.declared.answering.SessionEnd.{SessionEnd}
use Rattle.http_front.specs.declared.answering.SessionEnd.TheVariants as ends
use Rattle.http_front.specs.Counts.{GaveBytes, total_of, IsUnder, IsSpent, IsUnspent, stream_ends, IsHeldBack, IsTakenAhead, SettlesNothing}
use Rattle.http_front.specs.Exchanges.{Exchange, answered, refused, calls_of, exchange_moment, moments_of, is_unframed, ends_unframed}
use Rattle.desk_core.specs.Turns.{Moves}
use Rattle.http_front.specs.Session.{Spoken, IsSaidWhole, AddsText, CutsLast, IsUnsaid, IsLong, IsWritten, EndsWithRequest, NoneLacks, LastLacks, LacksBy, Sides, sides, Session}
use Rattle.http_front.specs.declared.replies.Replies as sinks
use Rattle.http_wire.specs.Sources.{OnlyReads}
use Rattle.http_front.specs.Saying.{OnlySays, Says, SaysFront}
use Rattle.http_front.specs.Talk.{SaysNoMemory, IsRefusedBy, AnswersOne, Talked, Went}
use Rattle.http_front.specs.Texts.{exchange_text, text_of, bad_text, texts, no_memory_text}
use Rattle.http_front.proofs.StreamLemmas.{hears_then, hears_none, hears_one, whole_of}

pub calls_of-append : (first second : List Exchange) → calls_of (first ++ second) ≡ calls_of first ++ calls_of second
calls_of-append [] second = refl
calls_of-append (answered call ∷ more) second = ap (λ (t : List Call). call ∷ t) (calls_of-append more second)
calls_of-append (refused broken ∷ more) second = calls_of-append more second

-- a buffer that holds nothing
pub from_start : (held : List ℕ) (left : Option (List ℕ)) → held ≡ [] → prepend_known held left ≡ left
from_start held None empty = refl
from_start held (Some xs) empty = ap (λ (t : List ℕ). Some (t ++ xs)) empty

-- ---- whose framing was refused

framed-append : (first second : List Exchange) → ends_unframed first ≡ false → ends_unframed (first ++ second) ≡ ends_unframed second
framed-append [] second none = refl
framed-append (exchange ∷ []) [] none = none
framed-append (exchange ∷ []) (next ∷ more) none = refl
framed-append (exchange ∷ other ∷ first) second none = framed-append (other ∷ first) second none

-- a session that is Ended is closed, or at the end of its stream
pub ended_at : (total : Option ℕ) (end : SessionEnd) (spoken : Spoken) → IsWritten total end spoken → end ≡ ends.Ended → (spoken.closed ≡ true) ⊎ IsAtEnd spoken.rest
ended_at total ends.Ended spoken (inl x) is = inl x.0
ended_at total ends.Ended spoken (inr x) is = inr x.1
ended_at total ends.ReadFault spoken x is = absurd cc
ended_at total ends.Spent spoken x is = absurd cc
ended_at total ends.WriteFault spoken x is = absurd cc
ended_at total ends.NoMemory spoken x is = absurd cc

-- ---- what was said

texts-append : (first second : List Exchange) → texts (first ++ second) ≡ texts first ++ texts second
texts-append first second = flat_map-append exchange_text first second

-- what comes behind the texts of the second part comes behind all
behind : (first second : List Exchange) (more w : List ℕ) → w ≡ texts second ++ more → texts first ++ w ≡ texts (first ++ second) ++ more
behind first second more w is = ap (λ (t : List ℕ). texts first ++ t) is ∙ sym (append_assoc (texts first) (texts second) more) ∙ ap (λ (t : List ℕ). t ++ more) (sym (texts-append first second))

all_behind : (first second : List Exchange) (w : List ℕ) → w ≡ texts second → texts first ++ w ≡ texts (first ++ second)
all_behind first second w is = ap (λ (t : List ℕ). texts first ++ t) is ∙ sym (texts-append first second)

-- what was spoken, with these exchanges before it that were said whole
abbrev spoken_after : List Exchange → Spoken → Spoken
spoken_after first spoken = record {
  exchanges = first ++ spoken.exchanges;
  rest = spoken.rest;
  closed = spoken.closed;
  whole = first ++ spoken.whole;
  written = texts first ++ spoken.written;
}

-- one exchange
abbrev spoken_one : Exchange → Option (List ℕ) → Bool → List Exchange → List ℕ → Spoken
spoken_one exchange rest last whole written = record { exchanges = exchange ∷ []; rest = rest; closed = last; whole = whole; written = written }

-- no exchange
abbrev pub spoken_none : Option (List ℕ) → List ℕ → Spoken
spoken_none rest written = record { exchanges = []; rest = rest; closed = false; whole = []; written = written }

-- a text is said behind no exchange
adds_none : (rest : Option (List ℕ)) (text : List ℕ) → AddsText (spoken_none rest text) text
adds_none rest text = record { whole = refl; unclosed = refl; written = refl }

-- all were said whole
all_then : (first second whole : List Exchange) → whole ≡ second → first ++ whole ≡ first ++ second
all_then first second whole all = ap (λ (t : List Exchange). first ++ t) all

whole_then : (first : List Exchange) (spoken : Spoken) → IsSaidWhole spoken → IsSaidWhole (spoken_after first spoken)
whole_then first spoken x = record {
  whole = all_then first spoken.exchanges spoken.whole x.whole;
  written = all_behind first spoken.exchanges spoken.written x.written;
}

adds_then : (first : List Exchange) (spoken : Spoken) (text : List ℕ) → AddsText spoken text → AddsText (spoken_after first spoken) text
adds_then first spoken text x = record {
  whole = all_then first spoken.exchanges spoken.whole x.whole;
  unclosed = x.unclosed;
  written = behind first spoken.exchanges text spoken.written x.written;
}

cut_then : (first : List Exchange) (spoken : Spoken) → CutsLast spoken → CutsLast (spoken_after first spoken)
cut_then first spoken cut = record {
  last = cut.last;
  n = cut.n;
  are = ap (λ (t : List Exchange). first ++ t) cut.are ∙ sym (append_assoc first spoken.whole (cut.last ∷ []));
  is = behind first spoken.whole (take cut.n (exchange_text cut.last)) spoken.written cut.is;
}

unsaid_then : (first : List Exchange) (spoken : Spoken) (instead : List ℕ) → IsUnsaid spoken instead → IsUnsaid (spoken_after first spoken) instead
unsaid_then first spoken instead x = record {
  last = x.last;
  are = ap (λ (t : List Exchange). first ++ t) x.are ∙ sym (append_assoc first spoken.whole (answered x.last ∷ []));
  long = x.long;
  is = behind first spoken.whole instead spoken.written x.is;
}

moments-append : (first second : List Exchange) → moments_of (first ++ second) ≡ moments_of first ++ moments_of second
moments-append first second = flat_map-append exchange_moment first second

said_then : (sa sb sc : Option (List ℕ)) (first second : List Exchange) → Appends sa sb (texts first) → Appends sb sc (texts second) → Appends sa sc (texts (first ++ second))
said_then sa sb sc first second x y = subst (Appends sa sc) (sym (texts-append first second)) (Appends-trans sa sb sc (texts first) (texts second) x y)

stamped_then : (ma mb mc : Option (List ℕ)) (first second : List Exchange) → Appends ma mb (moments_of first) → Appends mb mc (moments_of second) → Appends ma mc (moments_of (first ++ second))
stamped_then ma mb mc first second x y =
    subst (Appends ma mc) (sym (moments-append first second)) (Appends-trans ma mb mc (moments_of first) (moments_of second) x y)

-- ---- what the calls were told

-- a test that holds of the calls of both parts
calls_all : (first second : List Exchange) (P : List Call → Type 0) → P (calls_of first ++ calls_of second) → P (calls_of (first ++ second))
calls_all first second P all = subst P (sym (calls_of-append first second)) all

-- the call was not told that memory ran out
abbrev pub IsNoLack : Call → Type 0
IsNoLack c = c.said ≡ Err faults.NoMemory → ⊥

enough_then : (first second : List Exchange) → NoneLacks (calls_of first) → NoneLacks (calls_of second) → NoneLacks (calls_of (first ++ second))
enough_then first second x y = calls_all first second NoneLacks (All-append IsNoLack (calls_of first) (calls_of second) x y)

lacks_then : (first second : List Exchange) → NoneLacks (calls_of first) → LastLacks second → LastLacks (first ++ second)
lacks_then first second x y = record {
  most = first ++ y.most;
  last = y.last;
  are = ap (λ (t : List Exchange). first ++ t) y.are ∙ sym (append_assoc first y.most (answered y.last ∷ []));
  before = enough_then first y.most x y.before;
  is = y.is;
}

abbrev SomeLacks : List Exchange → Type 0
SomeLacks exchanges = NoneLacks (calls_of exchanges) ⊎ LastLacks exchanges

some_then : (first second : List Exchange) → NoneLacks (calls_of first) → SomeLacks second → SomeLacks (first ++ second)
some_then first second x (inl y) = inl (enough_then first second x y)
some_then first second x (inr y) = inr (lacks_then first second x y)

lacked_then : (end : SessionEnd) (first second : List Exchange) → NoneLacks (calls_of first) → LacksBy end second → LacksBy end (first ++ second)
lacked_then ends.NoMemory first second x y = some_then first second x y
lacked_then ends.WriteFault first second x y = some_then first second x y
lacked_then ends.Ended first second x y = enough_then first second x y
lacked_then ends.ReadFault first second x y = enough_then first second x y
lacked_then ends.Spent first second x y = enough_then first second x y

-- ---- the whole of what was said

-- how the total of a later part bounds that of the whole
record Totals (whole later : Option ℕ) : Type 0 where
  under : IsUnder later → IsUnder whole
  spent : (rest : Option (List ℕ)) → IsSpent later rest → IsSpent whole rest
  unspent : (rest : Option (List ℕ)) → IsUnspent later rest → IsUnspent whole rest

written_then : (total later : Option ℕ) → Totals total later → (end : SessionEnd) (first : List Exchange) (spoken : Spoken)
    → NoneLacks (calls_of first) → IsWritten later end spoken → IsWritten total end (spoken_after first spoken)
written_then total later totals ends.Ended first spoken enough (inl x) = inl (x.0, whole_then first spoken x.1)
written_then total later totals ends.Ended first spoken enough (inr x) = inr (x.0, x.1, totals.under x.2, whole_then first spoken x.3)
written_then total later totals ends.ReadFault first spoken enough x = (x.0, whole_then first spoken x.1)
written_then total later totals ends.Spent first spoken enough x = (x.0, totals.spent spoken.rest x.1, whole_then first spoken x.2)
written_then total later totals ends.WriteFault first spoken enough (inl x) = inl (cut_then first spoken x)
written_then total later totals ends.WriteFault first spoken enough (inr (inl x)) = inr (inl (x.0, unsaid_then first spoken (take x.0 no_memory_text) x.1))
written_then total later totals ends.WriteFault first spoken enough (inr (inr x)) = inr (inr (x.0, adds_then first spoken (take x.0 no_memory_text) x.1))
written_then total later totals ends.NoMemory first spoken enough (inl x) = inl (unsaid_then first spoken no_memory_text x)
written_then total later totals ends.NoMemory first spoken enough (inr (inl x)) = inr (inl (lacks_then first spoken.exchanges enough x.0, whole_then first spoken x.1))
written_then total later totals ends.NoMemory first spoken enough (inr (inr x)) =
    inr (inr (enough_then first spoken.exchanges enough x.0, adds_then first spoken no_memory_text x.1))

-- ---- counts

pub given_none : (taken : ℕ) (left : Option (List ℕ)) → Given taken taken left left
given_none taken left = record { given = []; counted = omega arith; left = Consumes-nil left }

pub given_then : (a b c : ℕ) (la lb lc : Option (List ℕ)) → Given a b la lb → Given b c lb lc → Given a c la lc
given_then a b c la lb lc first second = record {
  given = first.given ++ second.given;
  counted = omega (arith, first.counted, second.counted, length-append first.given second.given);
  left = Consumes-trans la lb lc first.given second.given first.left second.left;
}

pub gave_none : (left : Option (List ℕ)) → (n : ℕ) × (n ≤ take_limit) × GaveBytes left left n
gave_none left = (0, omega arith, ([], refl, Consumes-nil left))

pub gave_some : (a b : ℕ) (la lb : Option (List ℕ)) → Given a b la lb → a ≡ 0 → b ≤ take_limit → (n : ℕ) × (n ≤ take_limit) × GaveBytes la lb n
gave_some a b la lb given none few = (b, few, (given.given, omega (arith, given.counted, none), given.left))

pub gave_all : (a b : ℕ) (la lb : Option (List ℕ)) → Given a b la lb → a ≡ 0 → b ≡ take_limit → GaveBytes la lb take_limit
gave_all a b la lb given none all = (given.given, omega (arith, given.counted, none, all), given.left)

-- ---- the exchange with which a session ends

-- it is the last of the second part
ends_how : (first : List Exchange) (spoken : Spoken) → NoneLacks (calls_of first)
    → ((spoken.closed ≡ true) ⊎ ((first ++ spoken.whole ≡ first ++ spoken.exchanges → ⊥) ⊎ (NoneLacks (calls_of (first ++ spoken.exchanges)) → ⊥)))
    → ((spoken.closed ≡ true) ⊎ ((spoken.whole ≡ spoken.exchanges → ⊥) ⊎ (NoneLacks (calls_of spoken.exchanges) → ⊥)))
ends_how first spoken enough (inl is) = inl is
ends_how first spoken enough (inr (inl not)) = inr (inl (λ all. not (all_then first spoken.exchanges spoken.whole all)))
ends_how first spoken enough (inr (inr lacks)) = inr (inr (λ none. lacks (enough_then first spoken.exchanges enough none)))

ends_later : (first : List Exchange) (spoken : Spoken) → NoneLacks (calls_of first) → ends_unframed first ≡ false → EndsWithRequest (spoken_after first spoken) → EndsWithRequest spoken
ends_later first spoken enough framed is = (sym (framed-append first spoken.exchanges framed) ∙ is.0, ends_how first spoken enough is.1)

-- there is none
none_ends : (rest : Option (List ℕ)) (written : List ℕ) → EndsWithRequest (spoken_none rest written) → ⊥
none_ends rest written (framed, inl is) = absurd cc
none_ends rest written (framed, inr (inl not)) = not refl
none_ends rest written (framed, inr (inr lacks)) = lacks (All-nil IsNoLack)

no_totals : (later : Option ℕ) → Totals None later
no_totals later = record { under = λ x. tt; spent = λ rest x. tt; unspent = λ rest x. tt }

same_totals : (whole later : ℕ) → whole ≡ later → Totals (Some whole) (Some later)
same_totals whole later same = record {
  under = λ x. omega (arith, x, same);
  spent = λ rest x. subst (λ (n : ℕ). IsSpent (Some n) rest) (sym same) x;
  unspent = λ rest x. subst (λ (n : ℕ). IsUnspent (Some n) rest) (sym same) x;
}

-- the total of what was taken and what is left stays the same
totals : (a b : ℕ) (la lb : Option (List ℕ)) → Given a b la lb → Totals (total_of a la) (total_of b lb)
totals a b None lb given = no_totals (total_of b lb)
totals a b (Some xs) None given = absurd given.left
totals a b (Some xs) (Some ys) given =
    same_totals (a + length xs) (b + length ys) (omega (arith, given.counted, ap length given.left, length-append given.given ys))

total_from : (taken : ℕ) (left : Option (List ℕ)) → taken ≡ 0 → Totals (option_map length left) (total_of taken left)
total_from taken None none = no_totals None
total_from taken (Some xs) none = same_totals (length xs) (taken + length xs) (omega (arith, none))

-- as many bytes were taken as may be, and those that are held settle nothing
pub spent_here : (old new : Held) (la lb : Option (List ℕ)) → GaveTo old new la lb IsUnsettled → new.taken ≡ take_limit → IsSpent (total_of old.taken la) (prepend_known old.bytes la)
spent_here old new None lb gave all = tt
spent_here old new (Some xs) None gave all = absurd gave.left
spent_here old new (Some xs) (Some ys) gave all = record {
  front = old.bytes ++ gave.given;
  more = ys;
  are = ap (λ (t : List ℕ). old.bytes ++ t) gave.left ∙ sym (append_assoc old.bytes gave.given ys);
  limit = omega (arith, all, gave.counted, ap length gave.left, length-append gave.given ys);
  unsettled = gave.so;
}

-- the bytes that are held settle nothing
pub begun_here : (old new : Held) (la lb : Option (List ℕ)) → GaveTo old new la lb IsUnsettled → SettlesNothing (prepend_known old.bytes la) lb
begun_here old new None lb gave = tt
begun_here old new (Some xs) None gave = absurd gave.left
begun_here old new (Some xs) (Some ys) gave =
    (old.bytes ++ gave.given, gave.so, ap (λ (t : List ℕ). old.bytes ++ t) gave.left ∙ sym (append_assoc old.bytes gave.given ys))

-- what is held and what was taken for a message
pub ahead_here : (old new : Held) (la lb : Option (List ℕ)) → Given old.taken new.taken la lb → TakesFew old new → IsTakenAhead (prepend_known old.bytes la) lb
ahead_here old new None lb given few = tt
ahead_here old new (Some xs) None given few = absurd given.left
ahead_here old new (Some xs) (Some ys) given few = (
  old.bytes ++ given.given,
  omega (arith, few, given.counted, length-append old.bytes given.given),
  ap (λ (t : List ℕ). old.bytes ++ t) given.left ∙ sym (append_assoc old.bytes given.given ys),
)

-- what is held is no more
held_ahead : (rest left : Option (List ℕ)) → IsHeldBack rest left → IsTakenAhead rest left
held_ahead None left held = tt
held_ahead (Some rest) None held = absurd (let e = held.2 in cc)
held_ahead (Some rest) (Some left) held = (held.0, omega (arith, held.1), let e = held.2 in cc)

-- what is read after a refusal: after a request only what is held with it, after a refused framing at most one message
abbrev Reaches : Refused → Option ℕ → Option (List ℕ) → Option (List ℕ) → Type 0
Reaches broken total rest left =
    IsTakenAhead rest left × (is_unframed (refused broken) ≡ false → IsHeldBack rest left) × (is_unframed (refused broken) ≡ true → IsUnspent total rest)

pub ahead_none : (left : Option (List ℕ)) → IsTakenAhead left left
ahead_none None = tt
ahead_none (Some xs) = ([], omega arith, refl)

-- the first of two equal texts of two parts goes on where its first part is the longer one
longer : (a b c d : List ℕ) → a ++ b ≡ c ++ d → length d ≤ length b → (n : ℕ) × (c ≡ a ++ take n b)
longer a b c d same le =
    let all : length a + length b ≡ length c + length d = omega (arith, ap length same, length-append a b, length-append c d) in
    let n = length c - length a in
    (n, sym (take-append_seam c d) ∙ ap (take (length c)) (sym same) ∙ ap (λ (k : ℕ). take k (a ++ b)) (omega (arith, all, le)) ∙ take-append-add a b n)

-- the bytes that were taken are enough, so the limit did not stop before
pub unspent_here : (old new : Held) (la lb : Option (List ℕ)) → GaveTo old new la lb (AreEnough new.taken lb) → new.taken ≤ take_limit → IsUnspent (total_of old.taken la) (prepend_known old.bytes la)
unspent_here old new None lb gave few = tt
unspent_here old new (Some xs) None gave few = absurd gave.left
unspent_here old new (Some xs) (Some ys) gave few = λ spends.
    let whole : (old.bytes ++ gave.given) ++ ys ≡ spends.front ++ spends.more = append_assoc old.bytes gave.given ys ∙ ap (λ (t : List ℕ). old.bytes ++ t) (sym gave.left) ∙ spends.are in
    let size : length xs ≡ length gave.given + length ys = omega (arith, ap length gave.left, length-append gave.given ys) in
    ⊎_elim
    (λ settled.
    let more = longer (old.bytes ++ gave.given) ys spends.front spends.more whole (omega (arith, size, spends.limit, gave.counted, few)) in
    settled (unsettled_front (old.bytes ++ gave.given) (take more.0 ys) (subst IsUnsettled more.1 spends.unsettled)))
    (λ end. absurd (omega (arith, size, spends.limit, gave.counted, end.0, ap length end.1)))
    gave.so

-- the source ended before
pub under_limit : (a b : ℕ) (la lb : Option (List ℕ)) → Given a b la lb → b < take_limit → IsAtEnd lb → IsUnder (total_of a la)
under_limit a b None lb given few end = tt
under_limit a b (Some xs) None given few end = absurd given.left
under_limit a b (Some xs) (Some ys) given few end = omega (arith, few, given.counted, ap length given.left, length-append given.given ys, ap length end)

-- ---- what stays

-- the end that was told
pub same_err : {X E : Type 0} (result : Result X E) (a b : E) → result ≡ Err a → result ≡ Err b → a ≡ b
same_err result a b is other = cc

module _ {W : Type 0} (w : sinks.Ghosts W) where
  pub says_nothing : (at : W) → OnlySays w at at ⊥
  says_nothing at = record { texts = refl; noted = refl; later = omega arith; fault = λ no. absurd no; quiet = λ _. refl }

  -- behind calls of which none failed
  pub says_on : {Failed_so Fails : Type 0} (a b c : W) → OnlySays w a b ⊥ → OnlySays w b c Failed_so → (Fails → Failed_so) → (Failed_so → Fails) → OnlySays w a c Fails
  says_on a b c x y why so = record {
    texts = y.texts ∙ x.texts;
    noted = y.noted ∙ x.noted;
    later = omega (arith, x.later, y.later);
    fault = λ is. rose_later (w.faults a) (w.faults b) (w.faults c) x.later (y.fault (why is));
    quiet = λ not. y.quiet (λ is. not (so is)) ∙ x.quiet (λ no. no);
  }

module _ {R : Type 0} (r : sources.Ghosts R) where
  pub reads_nothing : (at : R) → OnlyReads r at at ⊥
  reads_nothing at = record { stream = refl; later = omega arith; fault = λ no. absurd no; quiet = λ _. refl }

  pub reads_on : {Failed_so Fails : Type 0} (a b c : R) → OnlyReads r a b ⊥ → OnlyReads r b c Failed_so → (Fails → Failed_so) → (Failed_so → Fails) → OnlyReads r a c Fails
  reads_on a b c x y why so = record {
    stream = y.stream ∙ x.stream;
    later = omega (arith, x.later, y.later);
    fault = λ is. rose_later (r.faults a) (r.faults b) (r.faults c) x.later (y.fault (why is));
    quiet = λ not. y.quiet (λ is. not (so is)) ∙ x.quiet (λ no. no);
  }

-- ---- tellers

module _ {T : Type 0} (moves : T → Ask → Result Answer DeskFault → T → Type 0) where
  moves_then : (first second : List Call) (a b c : T) → Moves moves a first b → Moves moves b second c → Moves moves a (first ++ second) c
  moves_then [] second a b c same later = subst (λ (t : T). Moves moves t second c) same later
  moves_then (call ∷ first) second a b c (mid, here, rest) later = (mid, here, moves_then first second mid b c rest later)

  moved_then : (first second : List Exchange) (a b c : T) → Moves moves a (calls_of first) b → Moves moves b (calls_of second) c → Moves moves a (calls_of (first ++ second)) c
  moved_then first second a b c x y = calls_all first second (λ (calls : List Call). Moves moves a calls c) (moves_then (calls_of first) (calls_of second) a b c x y)

module _ {T W : Type 0} (moves : T → Ask → Result Answer DeskFault → T → Type 0) (w : sinks.Ghosts W) where
  pub talked_none : (at : Sides T W) (stream : Option (List ℕ)) → Talked moves w at at stream stream
  talked_none at stream = record {
    exchanges = [];
    moved = refl;
    heard = hears_none stream;
    said = Appends-nil (w.said at.out);
    stamped = Appends-nil (w.moments at.out);
    enough = All-nil IsNoLack;
    framed = refl;
  }

  pub talked_then : (old mid new : Sides T W) (a b c : Option (List ℕ)) → Talked moves w old mid a b → Talked moves w mid new b c → Talked moves w old new a c
  talked_then old mid new a b c first second =
      let x = first.exchanges in
      let y = second.exchanges in
      record {
        exchanges = x ++ y;
        moved = moved_then moves x y old.teller mid.teller new.teller first.moved second.moved;
        heard = hears_then x y a b c false first.heard second.heard;
        said = said_then (w.said old.out) (w.said mid.out) (w.said new.out) x y first.said second.said;
        stamped = stamped_then (w.moments old.out) (w.moments mid.out) (w.moments new.out) x y first.stamped second.stamped;
        enough = enough_then x y first.enough second.enough;
        framed = framed-append x y first.framed ∙ second.framed;
      }

  -- nothing was said
  pub says_none : (at : W) → Says w at at []
  says_none at = record { said = Appends-nil (w.said at); moments = refl }

  module _ (remains : Option (List ℕ)) where
    session_on : (total later : Option ℕ) → Totals total later → (old mid new : Sides T W) (a b : Option (List ℕ)) (end : SessionEnd)
        → Talked moves w old mid a b → Session moves w mid new (stream_ends b remains) later end → Session moves w old new (stream_ends a remains) total end
    session_on total later totals old mid new a b end first second =
        let x = first.exchanges in
        let y = second.talk in
        let z = second.talk.spoken in
        let heard = hears_then x z.exchanges a b z.rest z.closed first.heard y.heard in
        let written = written_then total later totals end x z first.enough y.is_written in
        record {
          talk = record {
            spoken = spoken_after x z;
            heard = heard;
            is_written = written;
            lacked = lacked_then end x z.exchanges first.enough y.lacked;
            ahead = y.ahead;
            behind = λ is. y.behind (ends_later x z first.enough first.framed is);
            unframed = λ is. totals.unspent z.rest (y.unframed (sym (framed-append x z.exchanges first.framed) ∙ is));
            of_whole = whole_of a z.rest (x ++ z.exchanges) z.closed end heard (ended_at total end (spoken_after x z) written);
            begun = y.begun;
          };
          moved = moved_then moves x z.exchanges old.teller mid.teller new.teller first.moved second.moved;
          said = Appends-trans (w.said old.out) (w.said mid.out) (w.said new.out) (texts x) z.written first.said second.said;
          stamped = stamped_then (w.moments old.out) (w.moments mid.out) (w.moments new.out) x z.whole first.stamped second.stamped;
        }

    pub session_then : (ta tb : ℕ) (la lb : Option (List ℕ)) → Given ta tb la lb → (old mid new : Sides T W) (a b : Option (List ℕ)) (end : SessionEnd)
        → Talked moves w old mid a b → Session moves w mid new (stream_ends b remains) (total_of tb lb) end → Session moves w old new (stream_ends a remains) (total_of ta la) end
    session_then ta tb la lb given old mid new a b end first second =
        session_on (total_of ta la) (total_of tb lb) (totals ta tb la lb given) old mid new a b end first second

    -- a session that began with nothing taken
    pub session_of : (taken : ℕ) (held : List ℕ) (old new : Sides T W) (left : Option (List ℕ)) (end : SessionEnd) → taken ≡ 0 → held ≡ []
        → Session moves w old new (stream_ends (prepend_known held left) remains) (total_of taken left) end
        → Session moves w old new (stream_ends left remains) (option_map length left) end
    session_of taken held old new left end none empty later =
        session_on (option_map length left) (total_of taken left) (total_from taken left none) old old new left left end (talked_none old left)
        (subst (λ (s : Option (List ℕ)). Session moves w old new (stream_ends s remains) (total_of taken left) end) (from_start held left empty) later)

    -- ---- one message that was asked

    abbrev one_call : Ask → Result Answer DeskFault → List Exchange
    one_call ask said = answered (record { ask = ask; said = said }) ∷ []

    one_enough : (ask : Ask) (said : Result Answer DeskFault) → (said ≡ Err faults.NoMemory → ⊥) → NoneLacks (calls_of (one_call ask said))
    one_enough ask said no_lack = All-cons IsNoLack (record { ask = ask; said = said }) [] no_lack (All-nil IsNoLack)

    one_lacks : (ask : Ask) (said : Result Answer DeskFault) → said ≡ Err faults.NoMemory → LastLacks (one_call ask said)
    one_lacks ask said is = record { most = []; last = record { ask = ask; said = said }; are = refl; before = All-nil IsNoLack; is = is }

    one_either : (ask : Ask) (said : Result Answer DeskFault) → SomeLacks (one_call ask said)
    one_either ask (Ok answer) = inl (one_enough ask (Ok answer) (λ is. absurd cc))
    one_either ask (Err (faults.StoreFault told count)) = inl (one_enough ask (Err (faults.StoreFault told count)) (λ is. absurd cc))
    one_either ask (Err faults.JournalFull) = inl (one_enough ask (Err faults.JournalFull) (λ is. absurd cc))
    one_either ask (Err (faults.Broken fault)) = inl (one_enough ask (Err (faults.Broken fault)) (λ is. absurd cc))
    one_either ask (Err faults.NoMemory) = inr (one_lacks ask (Err faults.NoMemory) refl)

    one_text : (a b : W) (exchange : Exchange) → Appends (w.said a) (w.said b) (exchange_text exchange) → Appends (w.said a) (w.said b) (texts (exchange ∷ []))
    one_text a b exchange wrote = subst (Appends (w.said a) (w.said b)) (sym (append-nil (exchange_text exchange))) wrote

    one_moment : (a b : W) (exchange : Exchange) → Appends (w.moments a) (w.moments b) (exchange_moment exchange) → Appends (w.moments a) (w.moments b) (moments_of (exchange ∷ []))
    one_moment a b exchange wrote = subst (Appends (w.moments a) (w.moments b)) (sym (append-nil (exchange_moment exchange))) wrote

    -- where no answer is said there is no moment
    no_moment : (a b : W) → w.moments b ≡ w.moments a → Appends (w.moments a) (w.moments b) []
    no_moment a b same = subst (λ (m : Option (List ℕ)). Appends (w.moments a) m []) (sym same) (Appends-nil (w.moments a))

    -- an answer that memory ran out has no moment
    lack_moment : (a b : W) (ask : Ask) (told : Result Answer DeskFault) → w.moments b ≡ w.moments a → told ≡ Err faults.NoMemory
        → Appends (w.moments a) (w.moments b) (moments_of (one_call ask told))
    lack_moment a b ask told same is =
        subst (λ (t : Result Answer DeskFault). Appends (w.moments a) (w.moments b) (moments_of (one_call ask t))) (sym is) (no_moment a b same)

    session_asked : (old new : Sides T W) (a b : Option (List ℕ)) (total : Option ℕ) (ask : Ask) (last : Bool) (said : Result Answer DeskFault) (end : SessionEnd)
        (whole : List Exchange) (written : List ℕ)
        → moves old.teller ask said new.teller → StandsItem a (asks ask) last b → IsHeldBack b remains → Appends (w.said old.out) (w.said new.out) written
        → Appends (w.moments old.out) (w.moments new.out) (moments_of whole) → IsWritten total end (spoken_one (answered (record { ask = ask; said = said })) b last whole written)
        → LacksBy end (one_call ask said) → (end ≡ ends.ReadFault → ⊥) → Session moves w old new (stream_ends a remains) total end
    session_asked old new a b total ask last said end whole written moved heard held wrote stamped is lacked other = record {
      talk = record {
        spoken = spoken_one (answered (record { ask = ask; said = said })) b last whole written;
        heard = hears_one a b (answered (record { ask = ask; said = said })) last heard;
        is_written = is;
        lacked = lacked;
        ahead = held_ahead b remains held;
        behind = λ _. held;
        unframed = λ framed. absurd cc;
        of_whole = whole_of a b (one_call ask said) last end (hears_one a b (answered (record { ask = ask; said = said })) last heard)
            (ended_at total end (spoken_one (answered (record { ask = ask; said = said })) b last whole written) is);
        begun = λ is. absurd (other is);
      };
      moved = (new.teller, moved, refl);
      said = wrote;
      stamped = stamped;
    }

    -- it was answered, and the session goes on unless it was the last
    pub asked_on : (old new : Sides T W) (a b : Option (List ℕ)) (total : Option ℕ) (ask : Ask) (last : Bool) (done result : Result Unit SessionEnd) → IsOk done
        → AnswersOne moves w old new ask done → StandsItem a (asks ask) last b → IsHeldBack b remains → (last ≡ false → IsOk result) → (last ≡ true → result ≡ Err ends.Ended)
        → Went moves w old new (stream_ends a remains) b total result
    asked_on old new a b total ask last (Err e) result ok told heard held goes stops = absurd cc
    asked_on old new a b total ask true (Ok x) result ok told heard held goes stops =
        let exchange = answered (record { ask = ask; said = told.told }) in
        subst (Went moves w old new (stream_ends a remains) b total) (sym (stops refl))
        (session_asked old new a b total ask true told.told ends.Ended (one_call ask told.told) (texts (one_call ask told.told)) told.moved heard held
        (one_text old.out new.out exchange told.said.0)
        (one_moment old.out new.out exchange told.said.1) (inl (refl, record { whole = refl; written = refl })) (one_enough ask told.told told.said.2) (λ is. absurd cc))
    asked_on old new a b total ask false (Ok x) (Err e) ok told heard held goes stops = absurd (let e = goes refl in cc)
    asked_on old new a b total ask false (Ok x) (Ok y) ok told heard held goes stops =
        let exchange = answered (record { ask = ask; said = told.told }) in
        record {
          exchanges = one_call ask told.told;
          moved = (new.teller, told.moved, refl);
          heard = hears_one a b exchange false heard;
          said = one_text old.out new.out exchange told.said.0;
          stamped = one_moment old.out new.out exchange told.said.1;
          enough = one_enough ask told.told told.said.2;
          framed = refl;
        }

    -- its text was cut, or the text that memory ran out, in its place, was cut
    asked_cut : (old new : Sides T W) (a b : Option (List ℕ)) (total : Option ℕ) (ask : Ask) (last : Bool) (told : Result Answer DeskFault) → moves old.teller ask told new.teller
        → StandsItem a (asks ask) last b → IsHeldBack b remains → SaysFront w old.out new.out (text_of told) ⊎ (IsLong told × SaysFront w old.out new.out no_memory_text)
        → Session moves w old new (stream_ends a remains) total ends.WriteFault
    asked_cut old new a b total ask last told moved heard held (inl x) =
        session_asked old new a b total ask last told ends.WriteFault [] (take x.0 (text_of told)) moved heard held x.1.said (no_moment old.out new.out x.1.moments)
        (inl (record { last = answered (record { ask = ask; said = told }); n = x.0; are = refl; is = refl })) (one_either ask told) (λ is. absurd cc)
    asked_cut old new a b total ask last told moved heard held (inr (long, x)) =
        session_asked old new a b total ask last told ends.WriteFault [] (take x.0 no_memory_text) moved heard held x.1.said (no_moment old.out new.out x.1.moments)
        (inr (inl (x.0, record { last = record { ask = ask; said = told }; are = refl; long = long; is = refl }))) (one_either ask told) (λ is. absurd cc)

    -- memory ran out, in the call or for its text
    asked_lack : (old new : Sides T W) (a b : Option (List ℕ)) (total : Option ℕ) (ask : Ask) (last : Bool) (told : Result Answer DeskFault) → moves old.teller ask told new.teller
        → StandsItem a (asks ask) last b → IsHeldBack b remains
        → ((told ≡ Err faults.NoMemory) × Says w old.out new.out (text_of told)) ⊎ (IsLong told × Says w old.out new.out no_memory_text)
        → Session moves w old new (stream_ends a remains) total ends.NoMemory
    asked_lack old new a b total ask last told moved heard held (inl (is, x)) =
        session_asked old new a b total ask last told ends.NoMemory (one_call ask told) (texts (one_call ask told)) moved heard held
        (one_text old.out new.out (answered (record { ask = ask; said = told })) x.said) (lack_moment old.out new.out ask told x.moments is)
        (inr (inl (one_lacks ask told is, record { whole = refl; written = refl }))) (inr (one_lacks ask told is)) (λ is. absurd cc)
    asked_lack old new a b total ask last told moved heard held (inr (long, x)) =
        session_asked old new a b total ask last told ends.NoMemory [] no_memory_text moved heard held x.said (no_moment old.out new.out x.moments)
        (inl (record { last = record { ask = ask; said = told }; are = refl; long = long; is = refl })) (one_either ask told) (λ is. absurd cc)

    -- it was answered, or not in full, and this ended the session
    pub asked_end : (old new : Sides T W) (a b : Option (List ℕ)) (total : Option ℕ) (ask : Ask) (last : Bool) (end : SessionEnd) → AnswersOne moves w old new ask (Err end)
        → StandsItem a (asks ask) last b → IsHeldBack b remains → Session moves w old new (stream_ends a remains) total end
    asked_end old new a b total ask last ends.WriteFault done heard held = asked_cut old new a b total ask last done.told done.moved heard held done.said
    asked_end old new a b total ask last ends.NoMemory done heard held = asked_lack old new a b total ask last done.told done.moved heard held done.said
    asked_end old new a b total ask last ends.Ended done heard held = absurd done.said
    asked_end old new a b total ask last ends.ReadFault done heard held = absurd done.said
    asked_end old new a b total ask last ends.Spent done heard held = absurd done.said

    -- ---- one message that was refused

    abbrev one_refusal : Refused → List Exchange
    one_refusal broken = refused broken ∷ []

    session_refused : (at : T) (oa ob : W) (a b : Option (List ℕ)) (total : Option ℕ) (broken : Refused) (last : Bool) (end : SessionEnd) (whole : List Exchange) (written : List ℕ)
        → StandsItem a (refuses broken) last b → Reaches broken total b remains → Says w oa ob written → moments_of whole ≡ []
        → IsWritten total end (spoken_one (refused broken) b last whole written) → LacksBy end (one_refusal broken)
        → (end ≡ ends.ReadFault → ⊥) → Session moves w (sides at oa) (sides at ob) (stream_ends a remains) total end
    session_refused at oa ob a b total broken last end whole written heard held says none is lacked other = record {
      talk = record {
        spoken = spoken_one (refused broken) b last whole written;
        heard = hears_one a b (refused broken) last heard;
        is_written = is;
        lacked = lacked;
        ahead = held.0;
        behind = λ framed. held.1 framed.0;
        unframed = held.2;
        of_whole = whole_of a b (one_refusal broken) last end (hears_one a b (refused broken) last heard) (ended_at total end (spoken_one (refused broken) b last whole written) is);
        begun = λ is. absurd (other is);
      };
      moved = refl;
      said = says.said;
      stamped = subst (Appends (w.moments oa) (w.moments ob)) (sym none) (no_moment oa ob says.moments);
    }

    -- the text of a refusal is that of its exchange
    refusal_says : (oa ob : W) (broken : Refused) → Says w oa ob (bad_text broken) → Says w oa ob (texts (one_refusal broken))
    refusal_says oa ob broken says = record { said = one_text oa ob (refused broken) says.said; moments = says.moments }

    -- it was answered, and the session goes on unless it was the last
    refused_on : (at : T) (oa ob : W) (a b : Option (List ℕ)) (total : Option ℕ) (broken : Refused) (last : Bool) (done result : Result Unit SessionEnd) → IsOk done → IsRefusedBy w oa ob broken done
        → StandsItem a (refuses broken) last b → Reaches broken total b remains → is_unframed (refused broken) ≡ false → (last ≡ false → IsOk result)
        → (last ≡ true → result ≡ Err ends.Ended) → Went moves w (sides at oa) (sides at ob) (stream_ends a remains) b total result
    refused_on at oa ob a b total broken last (Err e) result ok told heard held framed goes stops = absurd cc
    refused_on at oa ob a b total broken true (Ok x) result ok told heard held framed goes stops =
        subst (Went moves w (sides at oa) (sides at ob) (stream_ends a remains) b total) (sym (stops refl))
        (session_refused at oa ob a b total broken true ends.Ended (one_refusal broken) (texts (one_refusal broken)) heard held (refusal_says oa ob broken told) refl
        (inl (refl, record { whole = refl; written = refl })) (All-nil IsNoLack) (λ is. absurd cc))
    refused_on at oa ob a b total broken false (Ok x) (Err e) ok told heard held framed goes stops = absurd (let e = goes refl in cc)
    refused_on at oa ob a b total broken false (Ok x) (Ok y) ok told heard held framed goes stops = record {
      exchanges = one_refusal broken;
      moved = refl;
      heard = hears_one a b (refused broken) false heard;
      said = one_text oa ob (refused broken) told.said;
      stamped = no_moment oa ob told.moments;
      enough = All-nil IsNoLack;
      framed = framed;
    }

    -- nothing was answered
    pub session_here : (at : T) (oa ob : W) (a : Option (List ℕ)) (total : Option ℕ) (end : SessionEnd) (written : List ℕ) → Says w oa ob written → IsWritten total end (spoken_none a written)
        → LacksBy end [] → IsTakenAhead a remains → (end ≡ ends.ReadFault → SettlesNothing a remains) → Session moves w (sides at oa) (sides at ob) (stream_ends a remains) total end
    session_here at oa ob a total end written says is lacked ahead begun = record {
      talk = record {
        spoken = spoken_none a written;
        heard = hears_none a;
        is_written = is;
        lacked = lacked;
        ahead = ahead;
        behind = λ ends. absurd (none_ends a written ends);
        unframed = λ framed. absurd cc;
        of_whole = whole_of a a [] false end (hears_none a) (ended_at total end (spoken_none a written) is);
        begun = begun;
      };
      moved = refl;
      said = says.said;
      stamped = no_moment oa ob says.moments;
    }

    -- it was said that memory ran out, and no message was answered
    pub last_words : (at : T) (oa ob : W) (a : Option (List ℕ)) (total : Option ℕ) (end : SessionEnd) → SaysNoMemory w oa ob end → IsTakenAhead a remains
        → Session moves w (sides at oa) (sides at ob) (stream_ends a remains) total end
    last_words at oa ob a total ends.NoMemory says ahead =
        session_here at oa ob a total ends.NoMemory no_memory_text says (inr (inr (All-nil IsNoLack, adds_none a no_memory_text))) (inl (All-nil IsNoLack)) ahead (λ is. absurd cc)
    last_words at oa ob a total ends.WriteFault (n, says) ahead =
        session_here at oa ob a total ends.WriteFault (take n no_memory_text) says (inr (inr (n, adds_none a (take n no_memory_text)))) (inl (All-nil IsNoLack)) ahead (λ is. absurd cc)
    last_words at oa ob a total ends.Ended says ahead = absurd says
    last_words at oa ob a total ends.ReadFault says ahead = absurd says
    last_words at oa ob a total ends.Spent says ahead = absurd says

    -- its text was cut, or there was no memory for it
    refused_end : (at : T) (oa ob : W) (a b : Option (List ℕ)) (total : Option ℕ) (broken : Refused) (last : Bool) (end : SessionEnd) → IsRefusedBy w oa ob broken (Err end)
        → StandsItem a (refuses broken) last b → IsTakenAhead a remains → Reaches broken total b remains → Session moves w (sides at oa) (sides at ob) (stream_ends a remains) total end
    refused_end at oa ob a b total broken last ends.WriteFault (inl x) heard ahead held =
        session_refused at oa ob a b total broken last ends.WriteFault [] (take x.0 (bad_text broken)) heard held x.1 refl
        (inl (record { last = refused broken; n = x.0; are = refl; is = refl })) (inl (All-nil IsNoLack)) (λ is. absurd cc)
    refused_end at oa ob a b total broken last ends.WriteFault (inr x) heard ahead held = last_words at oa ob a total ends.WriteFault x ahead
    refused_end at oa ob a b total broken last ends.NoMemory says heard ahead held = last_words at oa ob a total ends.NoMemory says ahead
    refused_end at oa ob a b total broken last ends.Ended says heard ahead held = absurd says
    refused_end at oa ob a b total broken last ends.ReadFault says heard ahead held = absurd says
    refused_end at oa ob a b total broken last ends.Spent says heard ahead held = absurd says

    -- ---- the end of a session

    -- its framing is refused, and it was answered
    unframed_on : (at : T) (oa ob : W) (a b : Option (List ℕ)) (total : Option ℕ) (bad : FramingRefusal) (last : Bool) (done result : Result Unit SessionEnd) → IsOk done
        → IsRefusedBy w oa ob (in_framing bad) done → StandsItem a (refuses (in_framing bad)) last a × (last ≡ true) → IsUnspent total a → IsTakenAhead a remains
        → (last ≡ true → result ≡ Err ends.Ended) → Went moves w (sides at oa) (sides at ob) (stream_ends a remains) b total result
    unframed_on at oa ob a b total bad last (Err e) result ok told stands within ahead stops = absurd cc
    unframed_on at oa ob a b total bad last (Ok x) result ok told stands within ahead stops =
        subst (Went moves w (sides at oa) (sides at ob) (stream_ends a remains) b total) (sym (stops stands.1))
        (session_refused at oa ob a a total (in_framing bad) last ends.Ended (one_refusal (in_framing bad)) (texts (one_refusal (in_framing bad))) stands.0
        (ahead, λ framed. absurd cc, λ _. within) (refusal_says oa ob (in_framing bad) told) refl
        (inl (stands.1, record { whole = refl; written = refl })) (All-nil IsNoLack) (λ is. absurd cc))

    -- a message that asks nothing was answered
    pub bad_on : (at : T) (oa ob : W) (a b : Option (List ℕ)) (total : Option ℕ) (broken : Refused) (last : Bool) (done result : Result Unit SessionEnd) → IsOk done → IsRefusedBy w oa ob broken done
        → TellsRefused a broken last b → IsUnspent total a → IsTakenAhead a remains → IfFramed broken (IsHeldBack b remains)
        → (last ≡ false → IsOk result) → (last ≡ true → result ≡ Err ends.Ended)
        → Went moves w (sides at oa) (sides at ob) (stream_ends a remains) b total result
    bad_on at oa ob a b total (in_framing bad) last done result ok says tells within ahead held goes stops =
        unframed_on at oa ob a b total bad last done result ok says tells within ahead stops
    bad_on at oa ob a b total broken last done result ok says tells within ahead held goes stops =
        refused_on at oa ob a b total broken last done result ok says tells (held_ahead b remains held, λ _. held, λ framed. absurd cc) refl goes stops

    pub bad_end : (at : T) (oa ob : W) (a b : Option (List ℕ)) (total : Option ℕ) (broken : Refused) (last : Bool) (end : SessionEnd) → IsRefusedBy w oa ob broken (Err end)
        → TellsRefused a broken last b → IsUnspent total a → IsTakenAhead a remains → IfFramed broken (IsHeldBack b remains)
        → Session moves w (sides at oa) (sides at ob) (stream_ends a remains) total end
    bad_end at oa ob a b total (in_framing bad) last end says tells within ahead held =
        refused_end at oa ob a a total (in_framing bad) last end says tells.0 ahead (ahead, λ framed. absurd cc, λ _. within)
    bad_end at oa ob a b total broken last end says tells within ahead held =
        refused_end at oa ob a b total broken last end says tells ahead (held_ahead b remains held, λ _. held, λ framed. absurd cc)

    -- nothing was said
    silent : (at : T) (oa ob : W) (a : Option (List ℕ)) (total : Option ℕ) (end kind : SessionEnd) → (end ≡ kind) × (ob ≡ oa) → IsWritten total kind (spoken_none a []) → LacksBy kind []
        → IsTakenAhead a remains → (kind ≡ ends.ReadFault → SettlesNothing a remains) → Session moves w (sides at oa) (sides at ob) (stream_ends a remains) total end
    silent at oa ob a total end kind x is lacked ahead begun =
        subst (λ (e : SessionEnd). Session moves w (sides at oa) (sides at ob) (stream_ends a remains) total e) (sym x.0)
        (subst (λ (o : W). Session moves w (sides at oa) (sides at o) (stream_ends a remains) total kind) (sym x.1)
        (session_here at oa oa a total kind [] (says_none oa) is lacked ahead begun))

    pub last_stop : (at : T) (oa ob : W) (a : Option (List ℕ)) (total : Option ℕ) (stop : MessageStop) (end : SessionEnd) → IsTakenAhead a remains
        → (stop ≡ stops.NoMemory → SaysNoMemory w oa ob end)
        → (stop ≡ stops.ReadFault → (end ≡ ends.ReadFault) × (ob ≡ oa)) → (stop ≡ stops.Spent → (end ≡ ends.Spent) × (ob ≡ oa)) → (stop ≡ stops.Spent → IsSpent total a)
        → (stop ≡ stops.ReadFault → SettlesNothing a remains) → Session moves w (sides at oa) (sides at ob) (stream_ends a remains) total end
    last_stop at oa ob a total stops.NoMemory end ahead says read spent unsettled begun = last_words at oa ob a total end (says refl) ahead
    last_stop at oa ob a total stops.ReadFault end ahead says read spent unsettled begun =
        silent at oa ob a total end ends.ReadFault (read refl) (refl, record { whole = refl; written = refl }) (All-nil IsNoLack) ahead (λ is. begun refl)
    last_stop at oa ob a total stops.Spent end ahead says read spent unsettled begun =
        silent at oa ob a total end ends.Spent (spent refl) (refl, unsettled refl, record { whole = refl; written = refl }) (All-nil IsNoLack) ahead (λ is. absurd cc)

    -- ---- how a message went

    pub went_on : (old new : Sides T W) (a b : Option (List ℕ)) (total : Option ℕ) (result : Result Unit SessionEnd) → Went moves w old new (stream_ends a remains) b total result
        → OnOk result (Talked moves w old new a b)
    went_on old new a b total (Ok x) went = went
    went_on old new a b total (Err end) went = tt

    pub went_end : (old new : Sides T W) (a b : Option (List ℕ)) (total : Option ℕ) (result : Result Unit SessionEnd) → Went moves w old new (stream_ends a remains) b total result
        → IfErr result (λ end. Session moves w old new (stream_ends a remains) total end)
    went_end old new a b total (Ok x) went = tt
    went_end old new a b total (Err end) went = went

held_if : (broken : Refused) (P Q : Type 0) → (P → Q) → IfFramed broken P → IfFramed broken Q
held_if (in_framing bad) P Q f p = tt
held_if broken P Q f p = f p

-- what is held behind an item
pub held_back : (heard : Heard) (now : Held) (left : Option (List ℕ)) → OnFramed {E = MessageStop} (Ok heard) (length now.bytes ≤ head_room)
    → OnFramed {E = MessageStop} (Ok heard) (IsHeldBack (prepend_known now.bytes left) left)
held_back (heards.Asked ask last) now left short = (now.bytes, short, refl)
held_back (heards.Bad bad last) now left short =
    IfSome_then (refused_of bad) short (λ (broken : Refused). held_if broken (length now.bytes ≤ head_room) (IsHeldBack (prepend_known now.bytes left) left) (λ few. (now.bytes, few, refl)))
held_back heards.End now left short = tt

-- a refusal after which the session goes on was an item
pub item_refused : (a b : Option (List ℕ)) (broken : Refused) (last : Bool) (result : Result Unit SessionEnd) (P : Type 0) → TellsRefused a broken last b → IfFramed broken P
    → (last ≡ true → result ≡ Err ends.Ended) → OnOk result P
item_refused a b broken last (Err e) P tells item stops = tt
item_refused a b (in_framing bad) last (Ok x) P tells item stops = absurd (let e = stops tells.1 in cc)
item_refused a b broken last (Ok x) P tells item stops = item
