-- What an open slot holds, and which bytes are such a slot.
use Rattle.std.proofs.Common.{◌≡◌, ℕ, ◌+◌, ◌^◌, ◌<◌, ◌≤◌, ◌-◌, List, ◌∷◌, ◌++◌, length, get_or, take, drop, refl, sym, ◌∙◌, ap, arith, append_assoc, length-append, take-append-drop}
use Rattle.std.specs.Int.{w64, to_be_bytes, from_be_bytes}
use Rattle.std.proofs.lemmas.Nat.{from_be_bytes-to_be_bytes_8}
use Rattle.std.proofs.lemmas.List.{take_at, drop_at, drop-drop, drop_more, length-take, length-drop, get_or-take, drop-take, take-take}
use Rattle.slots.specs.Slots.{text_of, HoldsBody}
use Rattle.slots.specs.Heads.{body_at}

-- the parts of the text before what follows it
text_parts : (position : ℕ) (body rest : List ℕ)
    → text_of position body ++ rest ≡ to_be_bytes w64 position ++ (to_be_bytes w64 (length body) ++ (body ++ rest))
unfolding text_of
text_parts position body rest =
    let p = to_be_bytes w64 position in
    let n = to_be_bytes w64 (length body) in
    append_assoc (p ++ n) body rest ∙ append_assoc p n (body ++ rest)

pub length-text : (position : ℕ) (body : List ℕ) → length (text_of position body) ≡ 16 + length body
unfolding text_of
length-text position body = omega (
  arith,
  length-append (to_be_bytes w64 position ++ to_be_bytes w64 (length body)) body,
  length-append (to_be_bytes w64 position) (to_be_bytes w64 (length body)),
)

module _ {position : ℕ} {body : List ℕ} {file : List ℕ} (holds : HoldsBody position body file) where
  pub behind : drop 1 file ≡ text_of position body ++ holds.rest
  behind = ap (λ (l : List ℕ). drop 1 l) holds.parts

  pub is_open : get_or file 0 0 ≡ 0xA7
  is_open = ap (λ (l : List ℕ). get_or l 0 0) holds.parts

  pub long : 17 + length body ≤ length file
  long = omega (arith, ap length holds.parts, length-append (text_of position body) holds.rest, length-text position body)

  numbers : drop 1 file ≡ to_be_bytes w64 position ++ (to_be_bytes w64 (length body) ++ (body ++ holds.rest))
  numbers = behind ∙ text_parts position body holds.rest

  after_position : drop 9 file ≡ to_be_bytes w64 (length body) ++ (body ++ holds.rest)
  after_position =
      sym (drop-drop 8 1 file) ∙ ap (λ (l : List ℕ). drop 8 l) numbers
      ∙ drop_at (to_be_bytes w64 position) (to_be_bytes w64 (length body) ++ (body ++ holds.rest)) 8 refl

  after_size : drop 17 file ≡ body ++ holds.rest
  after_size =
      sym (drop-drop 8 9 file) ∙ ap (λ (l : List ℕ). drop 8 l) after_position
      ∙ drop_at (to_be_bytes w64 (length body)) (body ++ holds.rest) 8 refl

  pub position_is : from_be_bytes w64 (take 8 (drop 1 file)) ≡ position
  position_is =
      ap (λ (l : List ℕ). from_be_bytes w64 (take 8 l)) numbers
      ∙ ap (λ (l : List ℕ). from_be_bytes w64 l)
      (take_at (to_be_bytes w64 position) (to_be_bytes w64 (length body) ++ (body ++ holds.rest)) 8 refl)
      ∙ from_be_bytes-to_be_bytes_8 position holds.position_fits

  pub size_is : from_be_bytes w64 (take 8 (drop 9 file)) ≡ length body
  size_is =
      ap (λ (l : List ℕ). from_be_bytes w64 (take 8 l)) after_position
      ∙ ap (λ (l : List ℕ). from_be_bytes w64 l) (take_at (to_be_bytes w64 (length body)) (body ++ holds.rest) 8 refl)
      ∙ from_be_bytes-to_be_bytes_8 (length body) holds.body_fits

  pub body_is : body_at (length body) file ≡ body
  body_is = ap (λ (l : List ℕ). take (length body) l) after_size ∙ take_at body holds.rest (length body) refl

-- an open slot has one position and one body
pub one_position : (p q : ℕ) (a b file : List ℕ) → HoldsBody p a file → HoldsBody q b file → p ≡ q
one_position p q a b file first second = sym (position_is first) ∙ position_is second

pub one_body : (p q : ℕ) (a b file : List ℕ) → HoldsBody p a file → HoldsBody q b file → a ≡ b
one_body p q a b file first second =
    sym (body_is first)
    ∙ ap (λ (n : ℕ). body_at n file) (sym (size_is first) ∙ size_is second)
    ∙ body_is second

-- an open gate, with both numbers and the body after it
pub holds_from : (position size : ℕ) (file : List ℕ) → get_or file 0 0 ≡ 0xA7 → to_be_bytes w64 position ≡ take 8 (drop 1 file)
    → to_be_bytes w64 size ≡ take 8 (drop 9 file) → 17 + size ≤ length file → position < 2 ^ 64 → size < 2 ^ 64
    → HoldsBody position (body_at size file) file
holds_from position size file gate number count fits small_position small_size =
    let body = body_at size file in
    let rest = drop size (drop 17 file) in
    let size_of : length body ≡ size = omega (arith, length-take size (drop 17 file), length-drop 17 file, fits) in
    let end : body ++ rest ≡ drop 17 file = take-append-drop size (drop 17 file) in
    let counted : to_be_bytes w64 (length body) ++ (body ++ rest) ≡ drop 9 file =
    ap (λ (n : ℕ). to_be_bytes w64 n ++ (body ++ rest)) size_of
    ∙ ap (λ (l : List ℕ). l ++ (body ++ rest)) count
    ∙ ap (λ (l : List ℕ). take 8 (drop 9 file) ++ l) (end ∙ sym (drop-drop 8 9 file))
    ∙ take-append-drop 8 (drop 9 file) in
    let text : text_of position body ++ rest ≡ drop 1 file =
    text_parts position body rest
    ∙ ap (λ (l : List ℕ). l ++ (to_be_bytes w64 (length body) ++ (body ++ rest))) number
    ∙ ap (λ (l : List ℕ). take 8 (drop 1 file) ++ l) (counted ∙ sym (drop-drop 8 1 file))
    ∙ take-append-drop 8 (drop 1 file) in
    record {
      rest = rest;
      parts = drop_more file 0 0 (omega (arith, fits)) ∙ ap (λ (g : ℕ). g ∷ drop 1 file) gate ∙ ap (λ (l : List ℕ). 0xA7 ∷ l) (sym text);
      position_fits = small_position;
      body_fits = omega (arith, size_of, small_size);
    }

-- the same bytes after an open gate
pub holds_behind : (position : ℕ) (body file rest : List ℕ) → position < 2 ^ 64 → length body < 2 ^ 64
    → file ≡ 0xA7 ∷ (text_of position body ++ rest) → HoldsBody position body file
holds_behind position body file rest small_position small_body parts = record {
  rest = rest;
  parts = parts;
  position_fits = small_position;
  body_fits = small_body;
}

-- the first bytes of a file have its numbers and its gate
pub front_number : (at n : ℕ) (file : List ℕ) → at + n ≤ 17 → take n (drop at (take 17 file)) ≡ take n (drop at file)
front_number at n file le =
    let parts : 17 ≡ at + (17 - at) = omega (arith, le) in
    ap (λ (k : ℕ). take n (drop at (take k file))) parts
    ∙ ap (λ (l : List ℕ). take n l) (drop-take at (17 - at) file)
    ∙ take-take n (17 - at) (drop at file) (omega (arith, le))

pub front_gate : (file : List ℕ) → get_or (take 17 file) 0 0 ≡ get_or file 0 0
front_gate file = get_or-take 17 file 0 0 (omega arith)
