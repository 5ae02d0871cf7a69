-- The object that a body is.
use Rattle.std.proofs.Common.{◌≡◌, ◌==◌, length, ℕ, true, false, List, [], ◌∷◌, option_and_then, refl, arith}
use Rattle.std.specs.Str.{is_utf8, chars}
use Rattle.serde_json.proofs.OnLiterals.{serde_json_on_literals}
use Rattle.json_fields.specs.Fields.{json_of}
use Rattle.http_bodies.specs.Bodies.{if_object, body_object}

-- a body that is not empty is the object that its text is
pub of_some : (bytes : List ℕ) → (length bytes == 0) ≡ false → option_and_then if_object (json_of bytes) ≡ body_object bytes
unfolding body_object
of_some [] some = absurd cc
of_some (b ∷ bytes) some = refl

-- an empty one is that of `{}`
pub of_none : (bytes : List ℕ) → (length bytes == 0) ≡ true
    → option_and_then if_object (json_of (123 ∷ 125 ∷ [])) ≡ body_object bytes
unfolding body_object json_of is_utf8 chars serde_json_on_literals
of_none [] none = refl
of_none (b ∷ bytes) none = absurd (grind (arith, none))
