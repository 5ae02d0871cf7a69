-- Texts that are written one after another.
use Rattle.std.proofs.Common.{◌≡◌, ℕ, ◌+◌, ◌<◌, List, [], ◌∷◌, ◌++◌, length, take, get_or, sym, ap, ◌∙◌, subst, append_assoc, append-nil}
use Rattle.std.specs.List.{flat_map}
use Rattle.std.proofs.lemmas.List.{take_more}
use Rattle.std.proofs.lemmas.Grind.{flat_map-append}
use Rattle.json.specs.Print.{escape_byte}
use Rattle.http_text.specs.Room.{HoldsText, Puts}

pub puts_then : {a b c : List ℕ} {at mid end : ℕ} (x y : List ℕ) → Puts a at b mid x → Puts b mid c end y → Puts a at c end (x ++ y)
puts_then {a} {b} {c} {at} {mid} {end} x y first second text held =
    subst (λ (t : List ℕ). HoldsText c end t) (append_assoc text x y) (second (text ++ x) (first text held))

pub puts_nothing : (a : List ℕ) (at : ℕ) → Puts a at a at []
puts_nothing a at text held = subst (λ (t : List ℕ). HoldsText a at t) (sym (append-nil text)) held

pub puts_same : {a b : List ℕ} {at end : ℕ} (x y : List ℕ) → x ≡ y → Puts a at b end x → Puts a at b end y
puts_same {a} {b} {at} {end} x y is puts = subst (λ (t : List ℕ). Puts a at b end t) is puts

pub escape_more : (text : List ℕ) (i : ℕ) → i < length text
    → flat_map escape_byte (take i text) ++ escape_byte (get_or text i 0) ≡ flat_map escape_byte (take (i + 1) text)
escape_more text i inside =
    sym (ap (flat_map escape_byte) (take_more text i 0 inside) ∙ flat_map-append escape_byte (take i text) (get_or text i 0 ∷ [])
    ∙ ap (λ (t : List ℕ). flat_map escape_byte (take i text) ++ t) (append-nil (escape_byte (get_or text i 0))))
