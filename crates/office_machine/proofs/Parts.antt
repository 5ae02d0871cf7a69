-- Parts of a snapshot are made of the buckets one after another, and buckets are made of parts.
use Rattle.std.proofs.Common.{◌≡◌, ℕ, ◌+◌, ◌-◌, ◌*◌, ◌≤◌, List, [], ◌∷◌, ◌++◌, map, length, refl, ap, sym, ◌∙◌, subst, arith, append_assoc, Option, Some, None}
use Rattle.std.specs.Prelude.{sum_by, All, option_map, IfSome, MatchOption}
use Rattle.std.specs.Bool.{IsTrue}
use Rattle.std.specs.List.{AllByRecursion}
use Rattle.std.specs.Ordering.{is_lt}
use Rattle.std.specs.BTreeMap.{insert_entry}
use Rattle.std.proofs.lemmas.List.{append-nil, map-append}
use Rattle.std.proofs.lemmas.List.Sums.{sum_by-cons, sum_by-append}
use Rattle.office_base.specs.Maps.{bytes_cmp, Rises}
use Rattle.tariff.specs.Prices.{Prices}
use Rattle.plain_office.specs.Office.{Account, Office, empty_books, book_of}
use Rattle.plain_office.specs.Orderly.{HasOpenStays}
use Rattle.office_types.specs.declared.kept.Kept.{Kept}
use Rattle.office_types.specs.declared.refusal.What.{What}
use Rattle.office_laws.proofs.Lists.{every_append, every_parts}
use Rattle.office_laws.proofs.Maps.{by_name}
use Rattle.bucket_account.specs.Counting.{AccountRecord, in_bucket, IsWithinBy}
use Rattle.bucket_account.specs.Restoring.{IsAccountOf}
use Rattle.bucket_account.proofs.Copied.{all_below, last_inserted}
use Rattle.office_snapshot.specs.Restorable.{HaveForm}
use Rattle.office_snapshot.specs.Snapshots.{BucketPartRecord, ShowsBucket, ShowBuckets, Shows, first_open_of, replies_of}
use Rattle.office_machine.specs.Parts.{IsPartOf, ArePartsOf, IsMakable, IsMadeOf, AreMadeOf, NamesRise, in_all}
use Rattle.office_machine.specs.Standing.{Records, StandsForEntry, StandForAccounts, StandsForOffice}

abbrev pub Entry : Type 0
Entry = List ℕ × AccountRecord

-- ---- parts are told

-- of all these buckets some are left
pub record IsTelling (parts : List BucketPartRecord) (left all : List Entry) : Type 0 where
  pub done : List Entry
  pub whole : done ++ left ≡ all
  pub told : ArePartsOf parts done

pub telling_begins : (parts : List BucketPartRecord) (left all : List Entry) → parts ≡ [] → left ≡ all → IsTelling parts left all
telling_begins parts left all none is = record { done = []; whole = is; told = subst (λ (l : List BucketPartRecord). ArePartsOf l []) (sym none) tt }

told_more : (parts : List BucketPartRecord) (done : List Entry) (part : BucketPartRecord) (entry : Entry) → ArePartsOf parts done → IsPartOf part entry → ArePartsOf (parts ++ part ∷ []) (done ++ entry ∷ [])
told_more [] [] part entry h is = (is, tt)
told_more [] (e ∷ done) part entry h is = absurd h
told_more (p ∷ parts) [] part entry h is = absurd h
told_more (p ∷ parts) (e ∷ done) part entry h is = (h.0, told_more parts done part entry h.1 is)

pub telling_more : (parts new : List BucketPartRecord) (left all : List Entry) (part : BucketPartRecord) (entry : Entry) (rest : List Entry)
    → IsTelling parts left all → left ≡ entry ∷ rest → IsPartOf part entry → new ≡ parts ++ part ∷ [] → IsTelling new rest all
telling_more parts new left all part entry rest so_far is told pushed = record {
  done = so_far.done ++ entry ∷ [];
  whole = append_assoc so_far.done (entry ∷ []) rest ∙ ap (λ (l : List Entry). so_far.done ++ l) (sym is) ∙ so_far.whole;
  told = subst (λ (l : List BucketPartRecord). ArePartsOf l (so_far.done ++ entry ∷ [])) (sym pushed) (told_more parts so_far.done part entry so_far.told told);
}

pub telling_ends : (parts : List BucketPartRecord) (left all : List Entry) → IsTelling parts left all → left ≡ [] → ArePartsOf parts all
telling_ends parts left all so_far is =
    subst (λ (l : List Entry). ArePartsOf parts l) (sym (append-nil so_far.done) ∙ ap (λ (l : List Entry). so_far.done ++ l) (sym is) ∙ so_far.whole) so_far.told

-- the parts show the buckets of a plain office
pub parts_show : (parts : List BucketPartRecord) (entries : List Entry) (accounts : List (List ℕ × Account)) → ArePartsOf parts entries → StandForAccounts entries accounts → ShowBuckets parts accounts
parts_show [] [] [] h s = tt
parts_show [] [] (a ∷ accounts) h s = absurd s
parts_show [] (e ∷ entries) accounts h s = absurd h
parts_show (p ∷ parts) [] accounts h s = absurd h
parts_show (p ∷ parts) (e ∷ entries) [] h s = absurd s
parts_show (p ∷ parts) (e ∷ entries) (a ∷ accounts) h s =
    (record { name = h.0.name ∙ s.0.name; bucket = h.0.bucket ∙ s.0.account.bucket; sums = h.0.sums a.1 s.0.account }, parts_show parts entries accounts h.1 s.1)

pub parts_form : (parts : List BucketPartRecord) (entries : List Entry) → ArePartsOf parts entries → AllByRecursion (λ (part : BucketPartRecord). HaveForm part.sums) parts
parts_form [] entries h = tt
parts_form (p ∷ parts) [] h = absurd h
parts_form (p ∷ parts) (e ∷ entries) h = (h.0.form, parts_form parts entries h.1)

-- ---- buckets are made

pub record IsMaking (entries : List Entry) (left all : List BucketPartRecord) : Type 0 where
  pub done : List BucketPartRecord
  pub whole : done ++ left ≡ all
  pub made : AreMadeOf entries done

pub making_begins : (entries : List Entry) (left all : List BucketPartRecord) → entries ≡ [] → left ≡ all → IsMaking entries left all
making_begins entries left all none is = record { done = []; whole = is; made = subst (λ (l : List Entry). AreMadeOf l []) (sym none) tt }

made_more : (entries : List Entry) (done : List BucketPartRecord) (entry : Entry) (part : BucketPartRecord) → AreMadeOf entries done → IsMadeOf entry part → AreMadeOf (entries ++ entry ∷ []) (done ++ part ∷ [])
made_more [] [] entry part h is = (is, tt)
made_more [] (p ∷ done) entry part h is = absurd h
made_more (e ∷ entries) [] entry part h is = absurd h
made_more (e ∷ entries) (p ∷ done) entry part h is = (h.0, made_more entries done entry part h.1 is)

abbrev pub named : BucketPartRecord → List ℕ × Account
named part = (part.name, record { bucket = part.bucket; books = empty_books })

made_below : (key : List ℕ) (entries : List Entry) (done : List BucketPartRecord) → AreMadeOf entries done
    → AllByRecursion (λ (e : List ℕ × Account). IsTrue (is_lt (bytes_cmp e.0 key))) (map named done) → AllByRecursion (λ (e : Entry). IsTrue (is_lt (bytes_cmp e.0 key))) entries
made_below key [] done h below = tt
made_below key (e ∷ entries) [] h below = absurd h
made_below key (e ∷ entries) (p ∷ done) h below =
    (subst (λ (n : List ℕ). IsTrue (is_lt (bytes_cmp n key))) (sym h.0.name) below.0, made_below key entries done h.1 below.1)

module _ (entries : List Entry) (left all : List BucketPartRecord) (part : BucketPartRecord) (rest : List BucketPartRecord) (so_far : IsMaking entries left all) (is : left ≡ part ∷ rest) where
  next_whole : so_far.done ++ part ∷ rest ≡ all
  next_whole = ap (λ (l : List BucketPartRecord). so_far.done ++ l) (sym is) ∙ so_far.whole

  pub next_makable : AllByRecursion IsMakable all → IsMakable part
  next_makable makable = (every_parts IsMakable so_far.done (part ∷ rest) (subst (AllByRecursion IsMakable) (sym next_whole) makable)).1.0

  pub making_more : NamesRise all → (new : List Entry) (name : List ℕ) (account : AccountRecord) → new ≡ insert_entry bytes_cmp entries name account → IsMadeOf (name, account) part
      → IsMaking new rest all
  making_more rises new name account inserted made =
      let names = subst (λ (l : List BucketPartRecord). Rises {X = Account} bytes_cmp (map named l)) (sym next_whole) rises in
      let split = subst (λ (l : List (List ℕ × Account)). Rises {X = Account} bytes_cmp l) (map-append named so_far.done (part ∷ rest)) names in
      let below = all_below by_name (map named so_far.done) (named part) (map named rest) split in
      let under = subst (λ (n : List ℕ). AllByRecursion (λ (e : Entry). IsTrue (is_lt (bytes_cmp e.0 n))) entries) (sym made.name) (made_below part.name entries so_far.done so_far.made below) in
      record {
        done = so_far.done ++ part ∷ [];
        whole = append_assoc so_far.done (part ∷ []) rest ∙ next_whole;
        made = subst (λ (l : List Entry). AreMadeOf l (so_far.done ++ part ∷ [])) (sym (inserted ∙ last_inserted by_name entries name account under))
            (made_more entries so_far.done (name, account) part so_far.made made);
      }

pub making_ends : (entries : List Entry) (left all : List BucketPartRecord) → IsMaking entries left all → left ≡ [] → AreMadeOf entries all
making_ends entries left all so_far is =
    subst (λ (l : List BucketPartRecord). AreMadeOf entries l) (sym (append-nil so_far.done) ∙ ap (λ (l : List BucketPartRecord). so_far.done ++ l) (sym is) ∙ so_far.whole) so_far.made

-- they stand for the buckets of each office that is shown
pub made_stand : (entries : List Entry) (parts : List BucketPartRecord) (accounts : List (List ℕ × Account)) → AreMadeOf entries parts → ShowBuckets parts accounts
    → AllByRecursion (λ (account : List ℕ × Account). HasOpenStays account.1) accounts → StandForAccounts entries accounts
made_stand [] [] [] h s stays = tt
made_stand [] [] (a ∷ accounts) h s stays = absurd s
made_stand [] (p ∷ parts) accounts h s stays = absurd h
made_stand (e ∷ entries) [] accounts h s stays = absurd h
made_stand (e ∷ entries) (p ∷ parts) [] h s stays = absurd s
made_stand (e ∷ entries) (p ∷ parts) (a ∷ accounts) h s stays = (
  record {
    name = h.0.name ∙ s.0.name;
    account = h.0.stands a.1 (record { bucket = sym s.0.bucket; stays = stays.0; sums = s.0.sums });
  },
  made_stand entries parts accounts h.1 s.1 stays.1,
)

pub made_room : (entries : List Entry) (parts : List BucketPartRecord) → AreMadeOf entries parts → AllByRecursion (λ (entry : Entry). IsWithinBy 0 entry.1) entries
made_room [] parts h = tt
made_room (e ∷ entries) [] h = absurd h
made_room (e ∷ entries) (p ∷ parts) h = (h.0.room, made_room entries parts h.1)

-- ---- counts

abbrev pub in_plain : What → List ℕ × Account → ℕ
in_plain what entry = in_bucket what entry.1.bucket

-- buckets that stand side by side have the same
pub same_amounts : (what : What) (entries : List Entry) (accounts : List (List ℕ × Account)) → StandForAccounts entries accounts → in_all what entries ≡ sum_by (in_plain what) accounts
same_amounts what [] [] s = refl
same_amounts what [] (a ∷ accounts) s = absurd s
same_amounts what (e ∷ entries) [] s = absurd s
same_amounts what (e ∷ entries) (a ∷ accounts) s =
    let more = same_amounts what entries accounts s.1 in
    let here = ap (in_bucket what) s.0.account.bucket in
    let one = sum_by-cons (λ (entry : Entry). in_bucket what entry.1.bucket) e entries in
    let other = sum_by-cons (in_plain what) a accounts in
    omega (arith, more, here, one, other)

-- and so have the records of the parts
pub made_amounts : (what : What) (entries : List Entry) (parts : List BucketPartRecord) → AreMadeOf entries parts → in_all what entries ≡ sum_by (in_plain what) (map named parts)
made_amounts what [] [] h = refl
made_amounts what [] (p ∷ parts) h = absurd h
made_amounts what (e ∷ entries) [] h = absurd h
made_amounts what (e ∷ entries) (p ∷ parts) h =
    let more = made_amounts what entries parts h.1 in
    let here = ap (in_bucket what) h.0.bucket in
    let one = sum_by-cons (λ (entry : Entry). in_bucket what entry.1.bucket) e entries in
    let other = sum_by-cons (in_plain what) (named p) (map named parts) in
    omega (arith, more, here, one, other)

-- ---- buckets are counted one after another

module _ (counts : ℕ) (what : What) (left : List Entry) (total most : ℕ) (entry : Entry) (rest : List Entry) (so_far : counts + in_all what left ≡ total) (is : left ≡ entry ∷ rest) where
  pub amount_more : (own new : ℕ) → own ≡ in_bucket what entry.1.bucket → new ≡ counts + own → new + in_all what rest ≡ total
  amount_more own new of_it added =
      let here = ap (in_all what) is in
      let cons = sum_by-cons (λ (e : Entry). in_bucket what e.1.bucket) entry rest in
      omega (arith, so_far, of_it, added, here, cons)

  pub amount_fits : (own : ℕ) → own ≡ in_bucket what entry.1.bucket → total ≤ most → counts + own ≤ most
  amount_fits own of_it few =
      let here = ap (in_all what) is in
      let cons = sum_by-cons (λ (e : Entry). in_bucket what e.1.bucket) entry rest in
      omega (arith, so_far, of_it, few, here, cons)

pub amount_all : (counts : ℕ) (what : What) (left : List Entry) (total : ℕ) → counts + in_all what left ≡ total → left ≡ [] → counts ≡ total
amount_all counts what left total so_far is = let here : in_all what left ≡ 0 = ap (in_all what) is in omega (arith, so_far, here)

-- ---- the whole office is told

pub shows_told : (records : Records) (p : Office) → StandsForOffice records p → (parts : List BucketPartRecord) → ArePartsOf parts records.accounts → (tariffs : List Prices) (closed : List (ℕ × Prices)) (first : Option ℕ)
    (kept : List Kept) → tariffs ≡ records.tariffs → closed ≡ records.closed → first ≡ first_open_of p → replies_of kept ≡ p.kept
    → Shows (record { last = records.last; first_open = first; tariffs = tariffs; closed = closed; buckets = parts; kept = kept }) p
shows_told records p stands parts told tariffs closed first kept set shut open_is replies = record {
  orderly = stands.orderly;
  last = stands.last;
  first_open = open_is;
  tariffs = set ∙ stands.tariffs;
  closed = shut ∙ stands.closed;
  buckets = parts_show parts records.accounts p.accounts told stands.accounts;
  kept = replies;
}
