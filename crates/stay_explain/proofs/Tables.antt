-- The tables of the stays of accounts, and what begins has no open stay.
use Rattle.std.proofs.Common.{◌≡◌, ℕ, ◌+◌, ◌≤◌, List, [], ◌∷◌, ◌++◌, length, map, filter, refl, ap, sym, ◌∙◌, Bool, true, false, cond, arith, length-append}
use Rattle.std.specs.Prelude.{Option, Some, None, option_map}
use Rattle.std.specs.Str.{bytes_eq}
use Rattle.std.specs.declared.cmp.Ordering.{Ordering}
use Rattle.std.specs.declared.cmp.Ordering.TheVariants.{Less, Equal, Greater}
use Rattle.std.specs.Ordering.{match_ordering}
use Rattle.std.specs.Map.{set_value}
use Rattle.std.specs.BTreeMap.{is_at}
use Rattle.std.proofs.lemmas.Bool.{and_from}
use Rattle.std.proofs.lemmas.List.Elements.{filter-append}
use Rattle.class_rules.specs.declared.class.Class.{Class}
use Rattle.office_base.specs.Maps.{bytes_cmp, at_name, with_name}
use Rattle.accrual.specs.Books.{open_stay}
use Rattle.plain_office.specs.Office.{Account, Item, Booked}
use Rattle.plain_office.specs.Books.{is_open_stay, same_item}
use Rattle.plain_office.specs.Orderly.{HasOpenStays, stays_expected}
use Rattle.office_laws.proofs.Maps.{bytes_itself}
use Rattle.office_laws.proofs.Stays.{item_itself}
use Rattle.office_laws.proofs.OneStay.{few_expected}
use Rattle.stay_explain.specs.Plans.{Plan, stays_by, after_begin, after_ends, BeginsFree, HasNoOpenStay}
use Rattle.stay_explain.specs.Table.{stays_of}
use Rattle.stay_explain.specs.Ledgers.{Tables}

-- ---- the tables of accounts

map_pick : (name : List ℕ) (account : Account) (o : Ordering) (e : List ℕ × Account) (es rest : List (List ℕ × Account)) (others : Tables) → map stays_of rest ≡ others
    → map stays_of (match_ordering o ((name, account) ∷ e ∷ es) ((e.0, account) ∷ es) (e ∷ rest))
    ≡ match_ordering o ((name, account.books.stays) ∷ stays_of e ∷ map stays_of es) ((e.0, account.books.stays) ∷ map stays_of es) (stays_of e ∷ others)
map_pick name account Less e es rest others h = refl
map_pick name account Equal e es rest others h = refl
map_pick name account Greater e es rest others h = ap (λ (l : Tables). stays_of e ∷ l) h

pub map_with : (name : List ℕ) (account : Account) (es : List (List ℕ × Account)) → map stays_of (with_name name account es) ≡ with_name name account.books.stays (map stays_of es)
map_with name account [] = refl
map_with name account (e ∷ es) = map_pick name account (bytes_cmp name e.0) e es (with_name name account es) (with_name name account.books.stays (map stays_of es)) (map_with name account es)

set_pick : (b : Bool) (e : List ℕ × Account) (account : Account) (es rest : List (List ℕ × Account)) (others : Tables) → others ≡ map stays_of rest
    → cond b ((e.0, account.books.stays) ∷ map stays_of es) (stays_of e ∷ others) ≡ map stays_of (cond b ((e.0, account) ∷ es) (e ∷ rest))
set_pick true e account es rest others h = refl
set_pick false e account es rest others h = ap (λ (l : Tables). stays_of e ∷ l) h

pub set_map : (test : List ℕ → Bool) (account : Account) (es : List (List ℕ × Account)) → set_value test (map stays_of es) account.books.stays ≡ map stays_of (set_value test es account)
set_map test account [] = refl
set_map test account (e ∷ es) = set_pick (test e.0) e account es (set_value test es account) (set_value test (map stays_of es) account.books.stays) (set_map test account es)

at_pick : (b : Bool) (e : Account) (o : Option (List Booked)) (q : Option Account) → o ≡ option_map (λ (a : Account). a.books.stays) q
    → cond b (Some e.books.stays) o ≡ option_map (λ (a : Account). a.books.stays) (cond b (Some e) q)
at_pick true e o q h = refl
at_pick false e o q h = h

pub at_map : (name : List ℕ) (es : List (List ℕ × Account)) → at_name name (map stays_of es) ≡ option_map (λ (a : Account). a.books.stays) (at_name name es)
at_map name [] = refl
at_map name (e ∷ es) = at_pick (is_at (bytes_cmp name) e.0) e.1 (at_name name (map stays_of es)) (at_name name es) (at_map name es)

-- ---- what begins has no open stay, if it alone is open afterwards

none_left : (xs : List Booked) → length xs + 1 ≤ 1 → xs ≡ []
none_left [] h = refl
none_left (x ∷ xs) h = absurd (omega (arith, h))

free_at : (key : List ℕ) (o : Option (Item × List (Class × ℕ))) (at : ℕ) (ended : List Booked) (after : Account)
    → HasOpenStays after → after.books.stays ≡ after_begin key o at ended → HasNoOpenStay key o ended
free_at key None at ended after has is = tt
free_at key (Some begun) at ended after has is =
    let test = is_open_stay key begun.0 in
    let begins : Booked = (record { key = key; item = begun.0 }, open_stay begun.1 at) in
    let passes : test begins ≡ true = and_from (bytes_eq key key) (same_item begun.0 begun.0) (bytes_itself key) (item_itself begun.0) in
    let one : filter test (begins ∷ []) ≡ begins ∷ [] = rw passes refl in
    let all : filter test ended ++ begins ∷ [] ≡ stays_expected after.bucket key begun.0 =
    ap (λ (l : List Booked). filter test ended ++ l) (sym one) ∙ sym (filter-append test ended (begins ∷ [])) ∙ ap (filter test) (sym is) ∙ has key begun.0 in
    let few = few_expected after.bucket key begun.0 in
    let long = ap (λ (l : List Booked). length l) all in
    let parts = length-append (filter test ended) (begins ∷ []) in
    none_left (filter test ended) (omega (arith, few, long, parts))

pub free_by : (plan : Plan) (stays : List Booked) (after : Account) → HasOpenStays after → after.books.stays ≡ stays_by plan stays → BeginsFree plan stays
free_by plan stays after has is = free_at plan.key plan.begins plan.at (after_ends plan.key plan.ends plan.at stays) after has is
