-- The answers of reads are the messages of the stream.
use Rattle.std.proofs.Common.{◌≡◌, ℕ, true, false, List, [], ◌∷◌, ◌++◌, length, drop, refl, sym, ap, ◌∙◌, subst, arith, append_assoc, append-nil, inl, inr, Some}
use Rattle.std.specs.Prelude.{◌⊎◌}
use Rattle.http_wire.specs.Held.{Held}
use Rattle.http_wire.specs.Messages.{Framed, request, refused, Stands, IsCutShort, Messages, ends_session}
use Rattle.http_wire.specs.Parts.{MessageParts}
use Rattle.http_wire.specs.Answers.{Gave, HasRequest, Refuses}
use Rattle.http_wire.specs.declared.framing.FramingRefusal.{FramingRefusal}
use Rattle.http_wire.specs.declared.framing.FramingRefusal.TheVariants.{BadHead, BodyTooLarge, ChunkedBody, HeadTooLarge, CutShort}
use Rattle.http_wire.proofs.Unique.{stands_unique, stands_rest, stands_more, nothing_stands}

-- the stream is the bytes held and given, and what the source has left
pub stream_is : (old new : Held) (xs ys : List ℕ) (P : List ℕ → Type 0) → (told : Gave old new (Some xs) (Some ys) P) → old.bytes ++ xs ≡ (old.bytes ++ told.given) ++ ys
stream_is old new xs ys P told = ap (λ (t : List ℕ). old.bytes ++ t) told.left ∙ sym (append_assoc old.bytes told.given ys)

-- a request that was answered stands in the stream
pub request_in_stream : (old new : Held) (xs ys : List ℕ) (m : MessageParts) → (told : Gave old new (Some xs) (Some ys) (λ bytes. HasRequest bytes new m))
    → Stands (old.bytes ++ xs) (request told.so.found) (drop m.used new.bytes ++ ys)
request_in_stream old new xs ys m told =
    subst (λ (t : List ℕ). Stands t (request told.so.found) (drop m.used new.bytes ++ ys)) (sym (stream_is old new xs ys (λ bytes. HasRequest bytes new m) told))
    (stands_more (old.bytes ++ told.given) ys (request told.so.found) (drop m.used new.bytes) told.so.stands)

-- a refusal stands in the stream, except that of a message cut short
pub refusal_in_stream : (old new : Held) (xs ys : List ℕ) (bad : FramingRefusal) → (told : Gave old new (Some xs) (Some ys) (λ bytes. Stands bytes (refused bad) []))
    → Stands (old.bytes ++ xs) (refused bad) ys
refusal_in_stream old new xs ys bad told =
    subst (λ (t : List ℕ). Stands t (refused bad) ys) (sym (stream_is old new xs ys (λ bytes. Stands bytes (refused bad) []) told))
    (stands_more (old.bytes ++ told.given) ys (refused bad) [] told.so)

-- what stands at the front is the first message
first_of : (stream : List ℕ) (f : Framed) (rest : List ℕ) (messages : List Framed) → Stands stream f rest → Messages stream messages
    → (later : List Framed) × (messages ≡ f ∷ later)
    × (((ends_session f ≡ true) × (later ≡ [])) ⊎ ((ends_session f ≡ false) × (q : List ℕ) × Stands stream f q × Messages q later))
first_of stream f rest [] stands none = absurd (nothing_stands f rest (subst (λ (t : List ℕ). Stands t f rest) none stands))
first_of stream f rest (g ∷ later) stands (inr (cut, is, none)) = absurd (cut.unsettled f rest stands)
first_of stream f rest (g ∷ later) stands (inl (q, other, how)) =
    let same = stands_unique stream f g rest q stands other in
    (later, ap (λ (t : Framed). t ∷ later) (sym same), go how)
  where
    same : f ≡ g
    same = stands_unique stream f g rest q stands other

    go : ((ends_session g ≡ true) × (later ≡ [])) ⊎ ((ends_session g ≡ false) × Messages q later)
        → ((ends_session f ≡ true) × (later ≡ [])) ⊎ ((ends_session f ≡ false) × (q : List ℕ) × Stands stream f q × Messages q later)
    go (inl x) = inl (ap ends_session same ∙ x.0, x.1)
    go (inr x) = inr (ap ends_session same ∙ x.0, q, subst (λ (t : Framed). Stands stream t q) (sym same) other, x.1)

pub answers_first : (old new : Held) (xs ys : List ℕ) (m : MessageParts) (messages : List Framed) → (told : Gave old new (Some xs) (Some ys) (λ bytes. HasRequest bytes new m))
    → Messages (old.bytes ++ xs) messages → (later : List Framed) × (messages ≡ request told.so.found ∷ later)
    × (((m.last ≡ true) × (later ≡ [])) ⊎ ((m.last ≡ false) × Messages (drop m.used new.bytes ++ ys) later))
answers_first old new xs ys m messages told are =
    let first = first_of stream f rest messages stands are in (first.0, first.1, go first.0 first.2)
  where
    stream : List ℕ
    stream = old.bytes ++ xs

    f : Framed
    f = request told.so.found

    rest : List ℕ
    rest = drop m.used new.bytes ++ ys

    stands : Stands stream f rest
    stands = request_in_stream old new xs ys m told

    go : (later : List Framed) → ((ends_session f ≡ true) × (later ≡ [])) ⊎ ((ends_session f ≡ false) × (q : List ℕ) × Stands stream f q × Messages q later)
        → ((m.last ≡ true) × (later ≡ [])) ⊎ ((m.last ≡ false) × Messages rest later)
    go later (inl x) = inl (told.so.last ∙ x.0, x.1)
    go later (inr x) =
        inr (told.so.last ∙ x.0, subst (λ (t : List ℕ). Messages t later) (stands_rest stream told.so.found told.so.found x.1 rest x.2 stands) x.3)

only_of : (stream : List ℕ) (bad : FramingRefusal) (rest : List ℕ) (messages : List Framed) → Stands stream (refused bad) rest → Messages stream messages → messages ≡ refused bad ∷ []
only_of stream bad rest messages stands are =
    let first = first_of stream (refused bad) rest messages stands are in first.1 ∙ ap (λ (t : List Framed). refused bad ∷ t) (none first.0 first.2)
  where
    none : (later : List Framed) → ((true ≡ true) × (later ≡ [])) ⊎ ((true ≡ false) × (q : List ℕ) × Stands stream (refused bad) q × Messages q later) → later ≡ []
    none later (inl x) = x.1
    none later (inr x) = absurd (let e = x.0 in cc)

cut_of : (stream : List ℕ) (messages : List Framed) → IsCutShort stream → Messages stream messages → messages ≡ refused CutShort ∷ []
cut_of stream [] cut are = absurd (omega (arith, cut.some, ap length are))
cut_of stream (f ∷ later) cut (inl (rest, stands, how)) = absurd (cut.unsettled f rest stands)
cut_of stream (f ∷ later) cut (inr (other, is, none)) = cc

pub refuses_first : (old new : Held) (xs ys : List ℕ) (bad : FramingRefusal) (messages : List Framed) → Gave old new (Some xs) (Some ys) (Refuses (Some ys) bad)
    → Messages (old.bytes ++ xs) messages → messages ≡ refused bad ∷ []
refuses_first old new xs ys BadHead messages told are = only_of (old.bytes ++ xs) BadHead ys messages (refusal_in_stream old new xs ys BadHead told) are
refuses_first old new xs ys BodyTooLarge messages told are = only_of (old.bytes ++ xs) BodyTooLarge ys messages (refusal_in_stream old new xs ys BodyTooLarge told) are
refuses_first old new xs ys ChunkedBody messages told are = only_of (old.bytes ++ xs) ChunkedBody ys messages (refusal_in_stream old new xs ys ChunkedBody told) are
refuses_first old new xs ys HeadTooLarge messages told are = only_of (old.bytes ++ xs) HeadTooLarge ys messages (refusal_in_stream old new xs ys HeadTooLarge told) are
refuses_first old new xs ys CutShort messages told are =
    let whole : old.bytes ++ told.given ≡ old.bytes ++ xs =
    sym (stream_is old new xs ys (Refuses (Some ys) CutShort) told ∙ ap (λ (t : List ℕ). (old.bytes ++ told.given) ++ t) told.so.1 ∙ append-nil (old.bytes ++ told.given)) in
    cut_of (old.bytes ++ xs) messages (subst IsCutShort whole told.so.0) are

none_of : (messages : List Framed) → Messages [] messages → messages ≡ []
none_of [] are = refl
none_of (f ∷ later) (inl (rest, stands, how)) = absurd (nothing_stands f rest stands)
none_of (f ∷ later) (inr (cut, is, none)) = absurd (omega (arith, cut.some))

pub ends_with_none : (old new : Held) (xs ys : List ℕ) (messages : List Framed) → Gave old new (Some xs) (Some ys) (λ (bytes : List ℕ). bytes ≡ []) → ys ≡ []
    → Messages (old.bytes ++ xs) messages → messages ≡ []
ends_with_none old new xs ys messages told end are =
    let none : old.bytes ++ xs ≡ [] =
    stream_is old new xs ys (λ (bytes : List ℕ). bytes ≡ []) told ∙ ap (λ (t : List ℕ). t ++ ys) told.so ∙ end in
    none_of messages (subst (λ (t : List ℕ). Messages t messages) none are)
