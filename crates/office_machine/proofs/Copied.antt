-- Buckets are copied one after another, and the copies stand for what the buckets stand for.
use Rattle.std.proofs.Common.{◌≡◌, ℕ, ◌+◌, ◌^◌, ◌≤◌, List, [], ◌∷◌, ◌++◌, length, refl, ap, sym, ◌∙◌, subst, arith, append_assoc, None}
use Rattle.std.specs.Bool.{IsTrue}
use Rattle.std.specs.List.{AllByRecursion}
use Rattle.std.specs.Ordering.{is_lt}
use Rattle.std.proofs.lemmas.List.{append-nil, length-map}
use Rattle.office_base.specs.Maps.{bytes_cmp, Rises}
use Rattle.tariff.specs.Prices.{Prices}
use Rattle.due_core.specs.Buckets.{BucketRecord}
use Rattle.office_types.specs.declared.kept.Kept.{Kept}
use Rattle.plain_office.specs.Office.{Office, Account, book_of}
use Rattle.plain_office.specs.Orderly.{AreKept}
use Rattle.office_laws.proofs.Maps.{by_name}
use Rattle.kept_replies.specs.Queue.{ReplyQueue, plain_reply, plain_replies}
use Rattle.bucket_account.specs.Counting.{AccountRecord, IsWithinBy}
use Rattle.bucket_account.specs.Standing.{StandsForAccount, IsCopyOf}
use Rattle.bucket_account.proofs.Copied.{all_below, last_inserted}
use Rattle.office_machine.specs.Copies.{IsCopiedFrom, AreCopiesOf, HasCopyOf}
use Rattle.office_machine.specs.Once.{OfficeView, StandsFor, IsAnOffice}
use Rattle.office_machine.specs.Standing.{Records, StandForAccounts, StandsForOffice, IsOfAnOffice}
use Rattle.office_machine.proofs.Room.{Entry, IsRoomy}

-- ---- one after another

-- of all these buckets some are left
pub record IsCopying (copies left all : List Entry) : Type 0 where
  pub done : List Entry
  pub whole : done ++ left ≡ all
  pub copied : AreCopiesOf copies done

pub copying_begins : (copies left all : List Entry) → copies ≡ [] → left ≡ all → IsCopying copies left all
copying_begins copies left all none is = record { done = []; whole = is; copied = subst (λ (l : List Entry). AreCopiesOf l []) (sym none) tt }

copied_more : (copies done : List Entry) (copy entry : Entry) → AreCopiesOf copies done → IsCopiedFrom copy entry → AreCopiesOf (copies ++ copy ∷ []) (done ++ entry ∷ [])
copied_more [] [] copy entry h is = (is, tt)
copied_more [] (e ∷ done) copy entry h is = absurd h
copied_more (c ∷ copies) [] copy entry h is = absurd h
copied_more (c ∷ copies) (e ∷ done) copy entry h is = (h.0, copied_more copies done copy entry h.1 is)

copied_below : (key : List ℕ) (copies done : List Entry) → AreCopiesOf copies done
    → AllByRecursion (λ (e : Entry). IsTrue (is_lt (bytes_cmp e.0 key))) done → AllByRecursion (λ (e : Entry). IsTrue (is_lt (bytes_cmp e.0 key))) copies
copied_below key [] [] h below = tt
copied_below key [] (e ∷ done) h below = absurd h
copied_below key (c ∷ copies) [] h below = absurd h
copied_below key (c ∷ copies) (e ∷ done) h below =
    (subst (λ (n : List ℕ). IsTrue (is_lt (bytes_cmp n key))) (sym h.0.name) below.0, copied_below key copies done h.1 below.1)

pub copying_more : (copies new left all : List Entry) (entry : Entry) (rest : List Entry) → Rises bytes_cmp all → IsCopying copies left all → left ≡ entry ∷ rest
    → HasCopyOf entry.0 entry.1 copies new → IsCopying new rest all
copying_more copies new left all entry rest rises so_far is has =
    let whole : so_far.done ++ entry ∷ rest ≡ all = ap (λ (l : List Entry). so_far.done ++ l) (sym is) ∙ so_far.whole in
    let below = all_below by_name so_far.done entry rest (subst (λ (l : List Entry). Rises bytes_cmp l) (sym whole) rises) in
    let under = copied_below entry.0 copies so_far.done so_far.copied below in
    record {
      done = so_far.done ++ entry ∷ [];
      whole = append_assoc so_far.done (entry ∷ []) rest ∙ whole;
      copied = subst (λ (l : List Entry). AreCopiesOf l (so_far.done ++ entry ∷ [])) (sym (has.written ∙ last_inserted by_name copies entry.0 has.copy under))
          (copied_more copies so_far.done (entry.0, has.copy) entry so_far.copied (record { name = refl; account = has.is }));
    }

pub copying_ends : (copies left all : List Entry) → IsCopying copies left all → left ≡ [] → AreCopiesOf copies all
copying_ends copies left all so_far is =
    subst (λ (l : List Entry). AreCopiesOf copies l) (sym (append-nil so_far.done) ∙ ap (λ (l : List Entry). so_far.done ++ l) (sym is) ∙ so_far.whole) so_far.copied

-- ---- what the copies stand for

one_stands : (copy entry : AccountRecord) (account : Account) → IsCopyOf copy entry → StandsForAccount entry account → StandsForAccount copy account
one_stands copy entry account is stands = record { bucket = is.bucket ∙ stands.bucket; meters = is.meters (book_of account.books) stands.meters }

copies_stand : (copies entries : List Entry) (accounts : List (List ℕ × Account)) → AreCopiesOf copies entries → StandForAccounts entries accounts → StandForAccounts copies accounts
copies_stand [] [] accounts h stands = stands
copies_stand [] (e ∷ entries) accounts h stands = absurd h
copies_stand (c ∷ copies) [] accounts h stands = absurd h
copies_stand (c ∷ copies) (e ∷ entries) [] h stands = absurd stands
copies_stand (c ∷ copies) (e ∷ entries) (a ∷ accounts) h stands = (
  record { name = h.0.name ∙ stands.0.name; account = one_stands c.1 e.1 a.1 h.0.account stands.0.account },
  copies_stand copies entries accounts h.1 stands.1,
)

one_roomy : (accepted : ℕ) (copy entry : AccountRecord) → IsCopyOf copy entry → IsWithinBy accepted entry → IsWithinBy accepted copy
one_roomy accepted copy entry is room =
    let booked = room.booked in
    let same = is.booked in
    record {
      booked = omega (arith, booked, same);
      next_version = subst (λ (b : BucketRecord). b.next_version ≤ 2 ^ 62 + accepted) (sym is.bucket) room.next_version;
      next_upload = subst (λ (b : BucketRecord). b.next_upload ≤ 2 ^ 62 + accepted) (sym is.bucket) room.next_upload;
    }

copies_roomy : (accepted : ℕ) (copies entries : List Entry) → AreCopiesOf copies entries → AllByRecursion (IsRoomy accepted) entries → AllByRecursion (IsRoomy accepted) copies
copies_roomy accepted [] [] h room = tt
copies_roomy accepted [] (e ∷ entries) h room = absurd h
copies_roomy accepted (c ∷ copies) [] h room = absurd h
copies_roomy accepted (c ∷ copies) (e ∷ entries) h room = (one_roomy accepted c.1 e.1 h.0.account room.0, copies_roomy accepted copies entries h.1 room.1)

abbrev pub copied_records : Records → List Prices → List (ℕ × Prices) → List Entry → Records
copied_records records tariffs closed copies = record records { tariffs = tariffs; closed = closed; accounts = copies }

module _ (records : Records) (tariffs : List Prices) (closed : List (ℕ × Prices)) (copies : List Entry) (tariffs_are : tariffs ≡ records.tariffs) (closed_are : closed ≡ records.closed)
    (copied : AreCopiesOf copies records.accounts) where
  pub copy_stands : (p : Office) → StandsForOffice records p → StandsForOffice (copied_records records tariffs closed copies) p
  copy_stands p stands = record {
    orderly = stands.orderly;
    last = stands.last;
    tariffs = tariffs_are ∙ stands.tariffs;
    first_month = stands.first_month;
    closed = closed_are ∙ stands.closed;
    accounts = copies_stand copies records.accounts p.accounts copied stands.accounts;
    counts = stands.counts;
  }

  pub copy_is_office : IsOfAnOffice records → IsOfAnOffice (copied_records records tariffs closed copies)
  copy_is_office is = record {
    office = is.office;
    stands = copy_stands is.office is.stands;
    room = copies_roomy records.accepted copies records.accounts copied is.room;
  }

-- ---- with the kept replies

pub kept_are : (view : OfficeView) (kept : List Kept) → IsAnOffice view → plain_replies kept ≡ plain_replies view.kept.queue → AreKept (plain_replies kept)
kept_are view kept is same = subst AreKept (sym (same ∙ is.stands.kept)) is.stands.records.orderly.kept

module _ (view : OfficeView) (copy : Records) (kept : List Kept) (queue : ReplyQueue) (same : plain_replies kept ≡ plain_replies view.kept.queue)
    (queue_is : queue ≡ record { queue = kept; dropped = 0; held = None }) where
  pub whole_stands : (p : Office) → StandsFor view p → StandsForOffice copy p → StandsFor (record { records = copy; kept = queue }) p
  whole_stands p stands records =
      record { records = records; kept = ap (λ (q : ReplyQueue). plain_replies q.queue) queue_is ∙ same ∙ stands.kept }

  pub whole_is_office : IsAnOffice view → AreKept (plain_replies kept) → ((p : Office) → StandsForOffice view.records p → StandsForOffice copy p)
      → IsAnOffice (record { records = copy; kept = queue })
  whole_is_office is are stands =
      let few = are.few in
      let long = length-map kept plain_reply in
      let number = ap (λ (q : ReplyQueue). q.dropped + length q.queue) queue_is in
      record {
        office = is.office;
        stands = whole_stands is.office is.stands (stands is.office is.stands.records);
        free = ap (λ (q : ReplyQueue). q.held) queue_is;
        few = omega (arith, few, long, number);
      }
