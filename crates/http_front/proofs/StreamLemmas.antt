-- What was heard of a stream, and that the exchanges are its messages.
use Rattle.std.proofs.Common.{◌≡◌, ℕ, Bool, true, false, List, [], ◌∷◌, ◌++◌, refl, sym, ap, ◌∙◌, subst}
use Rattle.std.proofs.Common.{Option, Some, None, inl, inr}
use Rattle.std.specs.Prelude.{◌⊎◌}
use Rattle.std.specs.Io.KnownBytes.{IsAtEnd}
use Rattle.http_wire.specs.Messages as wire
use Rattle.http_wire.specs.Messages.{Framed, ends_session, Messages}
use Rattle.http_wire.proofs.Unique.{messages_unique}
use Rattle.http_asks.specs.Streams.{IsItem, StandsItem, IsFirst, BeginWith}
use Rattle.http_asks.proofs.HeardLemmas.{items_are_messages}
use Rattle.http_front.specs.declared.answering.SessionEnd.{SessionEnd}
use Rattle.http_front.specs.declared.answering.SessionEnd.TheVariants as ends
use Rattle.http_front.specs.Exchanges.{Exchange, exchange_meant, Goes, Hears, AreThen}
use Rattle.http_front.specs.Session.{AreOfWhole}

-- ---- what was heard

-- an item behind another one
goes_on : (exchange : Exchange) (second : List Exchange) (a b c : List ℕ) (closed : Bool) → IsItem a (exchange_meant exchange) false b → Goes b second c closed → Goes a (exchange ∷ second) c closed
goes_on exchange [] a b c closed here (same, going) =
    subst (λ (t : List ℕ). IsItem a (exchange_meant exchange) closed t) (sym same) (subst (λ (x : Bool). IsItem a (exchange_meant exchange) x b) (sym going) here)
goes_on exchange (next ∷ more) a b c closed here later = (b, here, later)

goes_then : (first second : List Exchange) (a b c : List ℕ) (closed : Bool) → Goes a first b false → Goes b second c closed → Goes a (first ++ second) c closed
goes_then [] second a b c closed (same, going) later = subst (λ (t : List ℕ). Goes t second c closed) same later
goes_then (exchange ∷ []) second a b c closed here later = goes_on exchange second a b c closed here later
goes_then (exchange ∷ next ∷ more) second a b c closed (mid, here, rest) later = (mid, here, goes_then (next ∷ more) second mid b c closed rest later)

pub hears_then : (first second : List Exchange) (a b c : Option (List ℕ)) (closed : Bool) → Hears a first b false → Hears b second c closed → Hears a (first ++ second) c closed
hears_then first second None b c closed x y = tt
hears_then first second (Some a) None c closed x y = absurd x
hears_then first second (Some a) (Some b) None closed x y = absurd y
hears_then first second (Some a) (Some b) (Some c) closed x y = goes_then first second a b c closed x y

pub hears_none : (a : Option (List ℕ)) → Hears a [] a false
hears_none None = tt
hears_none (Some a) = (refl, refl)

pub hears_one : (a b : Option (List ℕ)) (exchange : Exchange) (last : Bool) → StandsItem a (exchange_meant exchange) last b → Hears a (exchange ∷ []) b last
hears_one None b exchange last item = tt
hears_one (Some a) None exchange last item = absurd item
hears_one (Some a) (Some b) exchange last item = item

-- ---- the messages of the whole stream

-- the first messages are the exchanges, and the others are those of the rest
abbrev BeginAs : List Framed → List Exchange → Bool → List ℕ → Type 0
BeginAs messages exchanges closed rest =
    (others : List Framed) × AreThen messages exchanges others × (((closed ≡ true) × (others ≡ [])) ⊎ ((closed ≡ false) × Messages rest others))

begin_one : (messages : List Framed) (exchange : Exchange) (closed : Bool) (rest : List ℕ) → BeginWith messages (exchange_meant exchange) closed rest → BeginAs messages (exchange ∷ []) closed rest
begin_one [] exchange closed rest begin = absurd begin
begin_one (found ∷ later) exchange closed rest (means, how) = (later, (means, refl), how)

goes_whole : (stream : List ℕ) (exchanges : List Exchange) (rest : List ℕ) (closed : Bool) (messages : List Framed) → Goes stream exchanges rest closed → Messages stream messages
    → BeginAs messages exchanges closed rest
goes_whole stream [] rest closed messages (same, going) are = (messages, refl, inr (going, subst (λ (t : List ℕ). Messages t messages) (sym same) are))
goes_whole stream (exchange ∷ []) rest closed messages item are =
    begin_one messages exchange closed rest (items_are_messages stream (exchange_meant exchange) closed rest messages item are)
goes_whole stream (exchange ∷ next ∷ more) rest closed messages (mid, item, later) are =
    on messages (items_are_messages stream (exchange_meant exchange) false mid messages item are)
    (λ (others : List Framed) x. goes_whole mid (next ∷ more) rest closed others later x)
  where
    on : (messages : List Framed) → BeginWith messages (exchange_meant exchange) false mid → ((others : List Framed) → Messages mid others → BeginAs others (next ∷ more) closed rest)
        → BeginAs messages (exchange ∷ next ∷ more) closed rest
    on [] begin go = absurd begin
    on (found ∷ others) (means, inl how) go = absurd (let e = how.0 in cc)
    on (found ∷ others) (means, inr how) go = let x = go others how.1 in (x.0, (means, x.1), x.2)

none_left : (rest : List ℕ) (others : List Framed) → rest ≡ [] → Messages rest others → others ≡ []
none_left rest others end are = messages_unique [] others [] (subst (λ (t : List ℕ). Messages t others) end are) refl

others_none : (closed : Bool) (rest : List ℕ) (others : List Framed) → ((closed ≡ true) × (others ≡ [])) ⊎ ((closed ≡ false) × Messages rest others)
    → (closed ≡ true) ⊎ IsAtEnd (Some rest) → others ≡ []
others_none closed rest others (inl how) ended = how.1
others_none closed rest others (inr how) (inl ended) = absurd (let e = sym ended ∙ how.0 in cc)
others_none closed rest others (inr how) (inr ended) = none_left rest others ended how.1

-- the message that stands first, and those behind it
item_then : (stream : List ℕ) (found : Framed) (rest : List ℕ) (later : List Framed) → IsFirst stream found rest
    → ((ends_session found ≡ true) × (later ≡ [])) ⊎ ((ends_session found ≡ false) × Messages rest later) → Messages stream (found ∷ later)
item_then stream (wire.request r) rest later first how = inl (rest, first, how)
item_then stream (wire.refused bad) rest later first (inr how) = absurd (let e = how.0 in cc)
item_then stream (wire.refused bad) rest later (inl stands, same) (inl how) = inl ([], stands, inl how)
item_then stream (wire.refused bad) rest later (inr cut, same) (inl how) = inr (cut.0, ap wire.refused cut.1, how.1)

-- exchanges that close the session, or have nothing behind them, are all messages of the stream
goes_all : (stream : List ℕ) (exchanges : List Exchange) (rest : List ℕ) (closed : Bool) → Goes stream exchanges rest closed → (closed ≡ true) ⊎ IsAtEnd (Some rest)
    → (messages : List Framed) × Messages stream messages × AreThen messages exchanges []
goes_all stream [] rest closed (same, going) (inl ended) = absurd (let e = sym ended ∙ going in cc)
goes_all stream [] rest closed (same, going) (inr ended) = ([], sym same ∙ ended, refl)
goes_all stream (exchange ∷ []) rest closed item (inl ended) =
    (item.found ∷ [], item_then stream item.found rest [] item.first (inl (sym item.ends ∙ ended, refl)), (item.means, refl))
goes_all stream (exchange ∷ []) rest true item (inr ended) =
    (item.found ∷ [], item_then stream item.found rest [] item.first (inl (sym item.ends, refl)), (item.means, refl))
goes_all stream (exchange ∷ []) rest false item (inr ended) =
    (item.found ∷ [], item_then stream item.found rest [] item.first (inr (sym item.ends, ended)), (item.means, refl))
goes_all stream (exchange ∷ next ∷ more) rest closed (mid, item, later) ended =
    let x = goes_all mid (next ∷ more) rest closed later ended in
    (item.found ∷ x.0, item_then stream item.found mid x.0 item.first (inr (sym item.ends, x.1)), (item.means, x.2))

pub whole_of : (stream rest : Option (List ℕ)) (exchanges : List Exchange) (closed : Bool) (end : SessionEnd) → Hears stream exchanges rest closed
    → (end ≡ ends.Ended → (closed ≡ true) ⊎ IsAtEnd rest) → AreOfWhole stream exchanges end
whole_of None rest exchanges closed end hears ended = tt
whole_of (Some stream) None exchanges closed end hears ended = absurd hears
whole_of (Some stream) (Some rest) exchanges closed end hears ended = record {
  first = λ messages are.
      let x = goes_whole stream exchanges rest closed messages hears are in (x.0, x.1, λ is. others_none closed rest x.0 x.2 (ended is));
  has = λ is. goes_all stream exchanges rest closed hears (ended is);
}
