-- Reads one after another.
use Rattle.std.proofs.Common.{◌≡◌, ℕ, List, [], ◌++◌, sym, ap, ◌∙◌, append_assoc, append-nil, length-append, arith, Option}
use Rattle.std.proofs.KnownBytes.{Consumes-nil, Consumes-trans}
use Rattle.http_wire.specs.Held.{Held, Took}

pub took_then : (a b c : Held) (la lb lc : Option (List ℕ)) → Took a b la lb → Took b c lb lc → Took a c la lc
took_then a b c la lb lc first second = record {
  given = first.given ++ second.given;
  held = second.held ∙ ap (λ (t : List ℕ). t ++ second.given) first.held ∙ append_assoc a.bytes first.given second.given;
  counted = omega (arith, first.counted, second.counted, length-append first.given second.given);
  left = Consumes-trans la lb lc first.given second.given first.left second.left;
}

-- a look at the bytes takes none
pub took_seen : (a b : Held) (la : Option (List ℕ)) → b.bytes ≡ a.bytes → b.taken ≡ a.taken → Took a b la la
took_seen a b la same count = record {
  given = [];
  held = same ∙ sym (append-nil a.bytes);
  counted = omega (arith, count);
  left = Consumes-nil la;
}
