-- That each bucket keeps room for what later commands book and number.
use Rattle.std.proofs.Common.{◌≡◌, ℕ, ◌+◌, List, [], ◌∷◌, Bool, true, false, cond, arith}
use Rattle.std.specs.Prelude.{Some}
use Rattle.std.specs.List.{AllByRecursion}
use Rattle.std.specs.declared.cmp.Ordering.{Ordering}
use Rattle.std.specs.declared.cmp.Ordering.TheVariants.{Less, Equal, Greater}
use Rattle.std.specs.Ordering.{match_ordering}
use Rattle.std.specs.Map.{set_value}
use Rattle.std.specs.BTreeMap.{is_at}
use Rattle.office_base.specs.Maps.{bytes_cmp, at_name, with_name}
use Rattle.office_laws.proofs.Lists.{every_weaker}
use Rattle.office_laws.proofs.Maps.{by_name, found_every}
use Rattle.bucket_account.specs.Counting.{AccountRecord, IsWithinBy, HasGrownBy}

abbrev pub Entry : Type 0
Entry = List ℕ × AccountRecord

abbrev pub IsRoomy : ℕ → Entry → Type 0
IsRoomy accepted entry = IsWithinBy accepted entry.1

pub room_at : (accepted : ℕ) (name : List ℕ) (account : AccountRecord) (accounts : List Entry)
    → AllByRecursion (IsRoomy accepted) accounts → at_name name accounts ≡ Some account → IsWithinBy accepted account
room_at accepted name account accounts h is = found_every by_name (IsRoomy accepted) name account accounts h is

one_more : (accepted : ℕ) (account : AccountRecord) → IsWithinBy accepted account → IsWithinBy (accepted + 1) account
one_more accepted account h =
    let booked = h.booked in
    let version = h.next_version in
    let upload = h.next_upload in
    record { booked = omega (arith, booked); next_version = omega (arith, version); next_upload = omega (arith, upload) }

pub room_more : (accepted : ℕ) (accounts : List Entry) → AllByRecursion (IsRoomy accepted) accounts → AllByRecursion (IsRoomy (accepted + 1)) accounts
room_more accepted accounts h = every_weaker (IsRoomy accepted) (IsRoomy (accepted + 1)) (λ entry is. one_more accepted entry.1 is) accounts h

-- after an accepted command on it, and after one that was not accepted
pub room_grown : (accepted : ℕ) (old new : AccountRecord) → IsWithinBy accepted old → HasGrownBy 3 1 old new → IsWithinBy (accepted + 1) new
room_grown accepted old new h g =
    let booked = h.booked in
    let version = h.next_version in
    let upload = h.next_upload in
    let more = g.booked in
    let versions = g.next_version in
    let uploads = g.next_upload in
    record { booked = omega (arith, booked, more); next_version = omega (arith, version, versions); next_upload = omega (arith, upload, uploads) }

pub room_kept : (accepted : ℕ) (old new : AccountRecord) → IsWithinBy accepted old → HasGrownBy 0 0 old new → IsWithinBy accepted new
room_kept accepted old new h g =
    let booked = h.booked in
    let version = h.next_version in
    let upload = h.next_upload in
    let more = g.booked in
    let versions = g.next_version in
    let uploads = g.next_upload in
    record { booked = omega (arith, booked, more); next_version = omega (arith, version, versions); next_upload = omega (arith, upload, uploads) }

module _ (accepted : ℕ) (name : List ℕ) (account : AccountRecord) (room : IsWithinBy accepted account) where
  set_pick : (here : Bool) (first : Entry) (accounts rest : List Entry) → AllByRecursion (IsRoomy accepted) (first ∷ accounts) → AllByRecursion (IsRoomy accepted) rest
      → AllByRecursion (IsRoomy accepted) (cond here ((first.0, account) ∷ accounts) (first ∷ rest))
  set_pick true first accounts rest h more = (room, h.1)
  set_pick false first accounts rest h more = (h.0, more)

  pub room_set : (accounts : List Entry) → AllByRecursion (IsRoomy accepted) accounts → AllByRecursion (IsRoomy accepted) (set_value (is_at (bytes_cmp name)) accounts account)
  room_set [] h = tt
  room_set (first ∷ accounts) h = set_pick (is_at (bytes_cmp name) first.0) first accounts _ h (room_set accounts h.1)

  with_pick : (o : Ordering) (first : Entry) (accounts rest : List Entry) → AllByRecursion (IsRoomy accepted) (first ∷ accounts) → AllByRecursion (IsRoomy accepted) rest
      → AllByRecursion (IsRoomy accepted) (match_ordering o ((name, account) ∷ first ∷ accounts) ((first.0, account) ∷ accounts) (first ∷ rest))
  with_pick Less first accounts rest h more = (room, h)
  with_pick Equal first accounts rest h more = (room, h.1)
  with_pick Greater first accounts rest h more = (h.0, more)

  pub room_with : (accounts : List Entry) → AllByRecursion (IsRoomy accepted) accounts → AllByRecursion (IsRoomy accepted) (with_name name account accounts)
  room_with [] h = (room, tt)
  room_with (first ∷ accounts) h = with_pick (bytes_cmp name first.0) first accounts _ h (room_with accounts h.1)
