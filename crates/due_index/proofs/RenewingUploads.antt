-- The next actions of an index after the slot of one upload was written, emptied or added.
use Rattle.std.proofs.Common.{◌≡◌, ℕ, ◌⊎◌, inl, inr, List, refl, sym, ap, ◌∙◌, subst, false}
use Rattle.std.specs.Prelude.{Option, Some, None, IsSome}
use Rattle.std.specs.Cmp.{ranked}
use Rattle.std.specs.declared.cmp.Ordering.{Ordering}
use Rattle.std.specs.declared.cmp.Ordering.TheVariants.{Less, Equal, Greater}
use Rattle.std.specs.Ordering.{nat_cmp, is_eq}
use Rattle.office_base.specs.Maps.{at_name, at_number}
use Rattle.due_core.specs.Buckets.{BucketRecord}
use Rattle.due_core.specs.declared.action.Target.{Target}
use Rattle.due_core.specs.declared.action.Target.TheVariants as target
use Rattle.due_core.specs.declared.action.Candidate.{Candidate}
use Rattle.due_index.specs.Firsts.{first_on_upload}
use Rattle.due_index.specs.Queue.{slot_at, IsPut}
use Rattle.due_index.specs.Table.{IsTable, rules_of}
use Rattle.due_index.specs.Actions.{ActionsRecord, next_on_upload, slot_of, IsOwned, IsTied, IsOfKey, IsOnUpload, Stands, SetsNextOnUpload, ActionsStand, ActionsStandButUpload}
use Rattle.due_index.proofs.Tournaments.{decide}
use Rattle.due_index.proofs.Renewing.{apart_sides}

not_at_by : (number n : ℕ) (o : Ordering) → nat_cmp number n ≡ o → (n ≡ number → ⊥) → is_eq o ≡ false
not_at_by number n Less is apart = refl
not_at_by number n Equal is apart = absurd (apart (sym (ranked number n Equal (sym is))))
not_at_by number n Greater is apart = refl

pub not_at_number : (number n : ℕ) → (n ≡ number → ⊥) → is_eq (nat_cmp number n) ≡ false
not_at_number number n apart = not_at_by number n (nat_cmp number n) refl apart

-- ---- slots of other uploads are other slots

module _ (index : ActionsRecord) (tied : IsTied index) where
  one_candidate : (slot : ℕ) (c d : Candidate) → slot_at slot index.slots ≡ Some c → slot_at slot index.slots ≡ Some d → c ≡ d
  one_candidate slot c d h k = let both : Some c ≡ Some d = sym h ∙ k in cc

  pub apart_uploads : (number other slot : ℕ) → at_number number index.uploads ≡ Some slot → at_number other index.uploads ≡ Some slot → number ≡ other
  apart_uploads number other slot h k =
      let a = tied.uploads number slot h in
      let b = tied.uploads other slot k in
      let both : target.Upload number ≡ target.Upload other =
      sym a.is ∙ ap (λ (c : Candidate). c.action.target) (one_candidate slot a.candidate b.candidate a.there b.there) ∙ b.is in cc

-- ---- the slot of an upload is written

module _ (index : ActionsRecord) (tied : IsTied index) (number slot : ℕ) (at : at_number number index.uploads ≡ Some slot)
    (slots : List (Option Candidate)) (c : Candidate) (on : IsOnUpload number c) (put : IsPut index.slots slots slot (Some c)) where
  abbrev written : ActionsRecord
  written = record { keys = index.keys; uploads = index.uploads; table = index.table; slots = slots }

  other_key_by : (k : List ℕ) (o : Option ℕ) → at_name k index.keys ≡ o → slot_of o slots ≡ slot_of o index.slots
  other_key_by k None is = refl
  other_key_by k (Some s) is = put.others s (λ same. apart_sides index tied k number s is (at ∙ ap Some (sym same)))

  other_upload_by : (n : ℕ) (o : Option ℕ) → at_number n index.uploads ≡ o → (n ≡ number → ⊥) → slot_of o slots ≡ slot_of o index.slots
  other_upload_by n None is apart = refl
  other_upload_by n (Some s) is apart = put.others s (λ same. apart (apart_uploads index tied n number s is (at ∙ ap Some (sym same))))

  pub sets_written : SetsNextOnUpload index written number (Some c)
  sets_written = record {
    here = ap (λ o. slot_of o slots) at ∙ put.here;
    table = refl;
    others = λ n apart. other_upload_by n (at_number n index.uploads) refl apart;
    keys = λ k. other_key_by k (at_name k index.keys) refl;
  }

  stays_by : (s : ℕ) (P : Candidate → Type 0) → (s ≡ slot → ⊥) → Stands index s P → Stands written s P
  stays_by s P apart h = record { candidate = h.candidate; there = put.others s apart ∙ h.there; is = h.is }

  upload_tied : (n s : ℕ) → at_number n index.uploads ≡ Some s → (s ≡ slot) ⊎ (s ≡ slot → ⊥) → Stands written s (IsOnUpload n)
  upload_tied n s is (inl same) =
      let own : number ≡ n = apart_uploads index tied number n slot at (is ∙ ap Some same) in record {
        candidate = c;
        there = ap (λ m. slot_at m slots) same ∙ put.here;
        is = subst (λ m. IsOnUpload m c) own on;
      }
  upload_tied n s is (inr apart) = stays_by s (IsOnUpload n) apart (tied.uploads n s is)

  owned_same : (s : ℕ) (d : Candidate) (t : Target) → IsOwned index s d t → IsOwned written s d t
  owned_same s d (target.Version id) h = h
  owned_same s d (target.Upload n) h = h

  owned_by : (s : ℕ) (d : Candidate) → slot_at s slots ≡ Some d → (s ≡ slot) ⊎ (s ≡ slot → ⊥) → IsOwned written s d d.action.target
  owned_by s d is (inl same) =
      let both : Some c ≡ Some d = sym put.here ∙ ap (λ n. slot_at n slots) (sym same) ∙ is in
      let one : c ≡ d = cc in
      subst (λ e. IsOwned written s e e.action.target) one (subst (λ t. IsOwned written s c t) (sym on) (at ∙ ap Some (sym same)))
  owned_by s d is (inr apart) = owned_same s d d.action.target (tied.owned s d (sym (put.others s apart) ∙ is))

  pub tied_written : IsTied written
  tied_written = record {
    keys = λ k s is. stays_by s (IsOfKey k) (λ same. apart_sides index tied k number slot (is ∙ ap Some same) at) (tied.keys k s is);
    uploads = λ n s is. upload_tied n s is (decide s slot);
    owned = λ s d is. owned_by s d is (decide s slot);
  }

-- ---- the slot of an upload is emptied

module _ (index : ActionsRecord) (tied : IsTied index) (number slot : ℕ) (at : at_number number index.uploads ≡ Some slot)
    (slots : List (Option Candidate)) (put : IsPut index.slots slots slot None) (uploads : List (ℕ × ℕ))
    (gone : at_number number uploads ≡ None) (kept : (n : ℕ) → (n ≡ number → ⊥) → at_number n uploads ≡ at_number n index.uploads) where
  abbrev emptied : ActionsRecord
  emptied = record { keys = index.keys; uploads = uploads; table = index.table; slots = slots }

  left_key_by : (k : List ℕ) (o : Option ℕ) → at_name k index.keys ≡ o → slot_of o slots ≡ slot_of o index.slots
  left_key_by k None is = refl
  left_key_by k (Some s) is = put.others s (λ same. apart_sides index tied k number s is (at ∙ ap Some (sym same)))

  left_upload_by : (n : ℕ) (o : Option ℕ) → at_number n index.uploads ≡ o → (n ≡ number → ⊥) → slot_of o slots ≡ slot_of o index.slots
  left_upload_by n None is apart = refl
  left_upload_by n (Some s) is apart = put.others s (λ same. apart (apart_uploads index tied n number s is (at ∙ ap Some (sym same))))

  pub sets_emptied : SetsNextOnUpload index emptied number None
  sets_emptied = record {
    here = ap (λ o. slot_of o slots) gone;
    table = refl;
    others = λ n apart. ap (λ o. slot_of o slots) (kept n apart) ∙ left_upload_by n (at_number n index.uploads) refl apart;
    keys = λ k. left_key_by k (at_name k index.keys) refl;
  }

  left_stays : (s : ℕ) (P : Candidate → Type 0) → (s ≡ slot → ⊥) → Stands index s P → Stands emptied s P
  left_stays s P apart h = record { candidate = h.candidate; there = put.others s apart ∙ h.there; is = h.is }

  left_tied : (n s : ℕ) → at_number n uploads ≡ Some s → (n ≡ number) ⊎ (n ≡ number → ⊥) → Stands emptied s (IsOnUpload n)
  left_tied n s is (inl same) = let both : None ≡ Some s = sym gone ∙ ap (λ m. at_number m uploads) (sym same) ∙ is in absurd (cc)
  left_tied n s is (inr apart) =
      let before = sym (kept n apart) ∙ is in
      left_stays s (IsOnUpload n) (λ same. apart (apart_uploads index tied n number s before (at ∙ ap Some (sym same)))) (tied.uploads n s before)

  left_owned : (s : ℕ) (d : Candidate) (t : Target) → (s ≡ slot → ⊥) → IsOwned index s d t → IsOwned emptied s d t
  left_owned s d (target.Version id) apart h = h
  left_owned s d (target.Upload n) apart h =
      kept n (λ same. let both : Some slot ≡ Some s = sym at ∙ ap (λ k. at_number k index.uploads) (sym same) ∙ h in apart (cc)) ∙ h

  left_by : (s : ℕ) (d : Candidate) → slot_at s slots ≡ Some d → (s ≡ slot) ⊎ (s ≡ slot → ⊥) → IsOwned emptied s d d.action.target
  left_by s d is (inl same) = let both : None ≡ Some d = sym put.here ∙ ap (λ n. slot_at n slots) (sym same) ∙ is in absurd (cc)
  left_by s d is (inr apart) = left_owned s d d.action.target apart (tied.owned s d (sym (put.others s apart) ∙ is))

  pub tied_emptied : IsTied emptied
  tied_emptied = record {
    keys = λ k s is. left_stays s (IsOfKey k) (λ same. apart_sides index tied k number slot (is ∙ ap Some same) at) (tied.keys k s is);
    uploads = λ n s is. left_tied n s is (decide n number);
    owned = λ s d is. left_by s d is (decide s slot);
  }

-- ---- an empty slot is taken up for an upload

module _ (index : ActionsRecord) (tied : IsTied index) (number : ℕ) (absent : at_number number index.uploads ≡ None) (slot : ℕ)
    (empty : slot_at slot index.slots ≡ None) (slots : List (Option Candidate)) (c : Candidate) (on : IsOnUpload number c)
    (put : IsPut index.slots slots slot (Some c)) (uploads : List (ℕ × ℕ))
    (at : at_number number uploads ≡ Some slot) (kept : (n : ℕ) → (n ≡ number → ⊥) → at_number n uploads ≡ at_number n index.uploads) where
  abbrev taken : ActionsRecord
  taken = record { keys = index.keys; uploads = uploads; table = index.table; slots = slots }

  not_empty : (s : ℕ) (P : Candidate → Type 0) → Stands index s P → s ≡ slot → ⊥
  not_empty s P h same = let both : None ≡ Some h.candidate = sym empty ∙ ap (λ n. slot_at n index.slots) (sym same) ∙ h.there in absurd (cc)

  more_key_by : (k : List ℕ) (o : Option ℕ) → at_name k index.keys ≡ o → slot_of o slots ≡ slot_of o index.slots
  more_key_by k None is = refl
  more_key_by k (Some s) is = put.others s (not_empty s (IsOfKey k) (tied.keys k s is))

  more_upload_by : (n : ℕ) (o : Option ℕ) → at_number n index.uploads ≡ o → slot_of o slots ≡ slot_of o index.slots
  more_upload_by n None is = refl
  more_upload_by n (Some s) is = put.others s (not_empty s (IsOnUpload n) (tied.uploads n s is))

  pub sets_taken : SetsNextOnUpload index taken number (Some c)
  sets_taken = record {
    here = ap (λ o. slot_of o slots) at ∙ put.here;
    table = refl;
    others = λ n apart. ap (λ o. slot_of o slots) (kept n apart) ∙ more_upload_by n (at_number n index.uploads) refl;
    keys = λ k. more_key_by k (at_name k index.keys) refl;
  }

  more_stays : (s : ℕ) (P : Candidate → Type 0) → Stands index s P → Stands taken s P
  more_stays s P h = record { candidate = h.candidate; there = put.others s (not_empty s P h) ∙ h.there; is = h.is }

  more_tied : (n s : ℕ) → at_number n uploads ≡ Some s → (n ≡ number) ⊎ (n ≡ number → ⊥) → Stands taken s (IsOnUpload n)
  more_tied n s is (inl same) =
      let both : Some slot ≡ Some s = sym at ∙ ap (λ m. at_number m uploads) (sym same) ∙ is in
      let one : slot ≡ s = cc in record {
        candidate = c;
        there = ap (λ m. slot_at m slots) (sym one) ∙ put.here;
        is = subst (λ m. IsOnUpload m c) (sym same) on;
      }
  more_tied n s is (inr apart) = more_stays s (IsOnUpload n) (tied.uploads n s (sym (kept n apart) ∙ is))

  more_owned : (s : ℕ) (d : Candidate) (t : Target) → IsOwned index s d t → IsOwned taken s d t
  more_owned s d (target.Version id) h = h
  more_owned s d (target.Upload n) h =
      kept n (λ same. let both : None ≡ Some s = sym absent ∙ ap (λ k. at_number k index.uploads) (sym same) ∙ h in absurd (cc)) ∙ h

  more_by : (s : ℕ) (d : Candidate) → slot_at s slots ≡ Some d → (s ≡ slot) ⊎ (s ≡ slot → ⊥) → IsOwned taken s d d.action.target
  more_by s d is (inl same) =
      let both : Some c ≡ Some d = sym put.here ∙ ap (λ n. slot_at n slots) (sym same) ∙ is in
      let one : c ≡ d = cc in
      subst (λ e. IsOwned taken s e e.action.target) one (subst (λ t. IsOwned taken s c t) (sym on) (at ∙ ap Some (sym same)))
  more_by s d is (inr apart) = more_owned s d d.action.target (tied.owned s d (sym (put.others s apart) ∙ is))

  pub tied_taken : IsTied taken
  tied_taken = record {
    keys = λ k s is. more_stays s (IsOfKey k) (tied.keys k s is);
    uploads = λ n s is. more_tied n s is (decide n number);
    owned = λ s d is. more_by s d is (decide s slot);
  }

-- ---- so the index is right for the bucket again

pub renewed_upload : (old new : ActionsRecord) (bucket : BucketRecord) (number : ℕ) → ActionsStandButUpload old bucket number
    → SetsNextOnUpload old new number (first_on_upload bucket number) → ActionsStand new bucket
renewed_upload old new bucket number but sets = record {
  table = subst (λ t. IsTable t (rules_of bucket.rules)) (sym sets.table) but.table;
  keys = λ key. sets.keys key ∙ but.keys key;
  uploads = λ n. elim (decide n number) [
    | inl same ↦ ap (next_on_upload new) same ∙ sets.here ∙ ap (first_on_upload bucket) (sym same)
    | inr apart ↦ sets.others n apart ∙ but.uploads n apart
  ];
}

pub upload_there : (index : ActionsRecord) (tied : IsTied index) (number slot : ℕ) → at_number number index.uploads ≡ Some slot → IsSome (slot_at slot index.slots)
upload_there index tied number slot at = let h = tied.uploads number slot at in subst IsSome (sym h.there) refl

pub set_nothing : (index : ActionsRecord) (number : ℕ) → at_number number index.uploads ≡ None → SetsNextOnUpload index index number None
set_nothing index number absent = record { here = ap (λ o. slot_of o index.slots) absent; table = refl; others = λ n apart. refl; keys = λ k. refl }
