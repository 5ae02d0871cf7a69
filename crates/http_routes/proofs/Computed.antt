-- Where a target leads, as tests that compute on literals.
use Rattle.std.proofs.Common.{◌≡◌, ℕ, Bool, true, not, ◌&&◌, List, [], ◌∷◌, ltb, nat_eq, refl, sym}
use Rattle.std.specs.List.{list_all}
use Rattle.std.specs.Str.{IsAscii}
use Rattle.std.proofs.lemmas.Bool.{not-true, and_parts, ltb-true}
use Rattle.std.proofs.lemmas.Str.{IsUtf8-from_ascii, is_utf8-from_IsUtf8}
use Rattle.std.proofs.lemmas.Str.Ascii.{IsAscii-nil, IsAscii-cons}
use Rattle.std.specs.Cmp.Lexicographic.{pointwise, same_text}
use Rattle.route_table.specs.Paths.{path_of, has_byte}
use Rattle.route_table.proofs.Computed as table
use Rattle.http_routes.specs.Targets.{Resource, pieces_of, HasRoute}
use Rattle.http_routes.specs.Table.{rows}
use Rattle.http_routes.proofs.Leads.{disjoint, not_found}

-- all bytes are ASCII
abbrev pub is_ascii : List ℕ → Bool
is_ascii text = list_all (λ b. ltb b 128) text

ascii : (text : List ℕ) → is_ascii text ≡ true → IsAscii text
ascii [] e = IsAscii-nil
ascii (b ∷ text) e = let both = and_parts (ltb b 128) (is_ascii text) e in IsAscii-cons b text (ltb-true b 128 both.0) (ascii text both.1)

-- the target is ASCII, without a query, and spelled so
abbrev pub is_there : List ℕ → Resource → Bool
is_there target resource =
    is_ascii target
    && (not (has_byte 63 target) && (pointwise nat_eq target (path_of (pieces_of resource)) && table.are_in_range (pieces_of resource)))

pub there : (target : List ℕ) (resource : Resource) → is_there target resource ≡ true → HasRoute target resource
there target resource e =
    let spells = pointwise nat_eq target (path_of (pieces_of resource)) in
    let in_range = table.are_in_range (pieces_of resource) in
    let one = and_parts (is_ascii target) (not (has_byte 63 target) && (spells && in_range)) e in
    let two = and_parts (not (has_byte 63 target)) (spells && in_range) one.1 in
    let three = and_parts spells in_range two.1 in
    record {
      text = is_utf8-from_IsUtf8 target (IsUtf8-from_ascii target (ascii target one.0));
      no_query = not-true (has_byte 63 target) two.0;
      spelled = (same_text target (path_of (pieces_of resource)) (sym three.0), table.in_range (pieces_of resource) three.1);
    }

-- no route's pattern may have the target
abbrev pub is_nowhere : List ℕ → Bool
is_nowhere target = table.is_nowhere rows target

pub nowhere : (target : List ℕ) → is_nowhere target ≡ true → (resource : Resource) → HasRoute target resource → ⊥
nowhere target e = not_found target target refl (table.nowhere rows target disjoint e)
