-- The next actions of an index after the slot of one key was written, emptied or added.
use Rattle.std.proofs.Common.{◌≡◌, ℕ, ◌⊎◌, inl, inr, List, refl, sym, ap, ◌∙◌, subst, false}
use Rattle.std.specs.Prelude.{Option, Some, None, IsSome}
use Rattle.due_index.specs.Places.{candidate_of, IsOnVersion}
use Rattle.due_index.specs.declared.place.Place.{Place}
use Rattle.std.specs.Cmp.{tied_itself}
use Rattle.std.specs.declared.cmp.Ordering.{Ordering}
use Rattle.std.specs.declared.cmp.Ordering.TheVariants.{Less, Equal, Greater}
use Rattle.std.specs.Ordering.{is_eq}
use Rattle.std.proofs.lemmas.Cmp.{nat_list_cmp_total}
use Rattle.office_base.specs.Maps.{bytes_cmp, at_name, at_number}
use Rattle.due_core.specs.Buckets.{BucketRecord}
use Rattle.due_core.specs.declared.action.Target.{Target}
use Rattle.due_core.specs.declared.action.Target.TheVariants as target
use Rattle.due_core.specs.declared.action.Candidate.{Candidate}
use Rattle.due_index.specs.Firsts.{first_on_key}
use Rattle.due_index.specs.Queue.{slot_at, IsPut}
use Rattle.due_index.specs.Table.{IsTable, rules_of}
use Rattle.due_index.specs.Actions.{ActionsRecord, next_on_key, slot_of, IsOwned, IsTied, IsOfKey, Stands, KeepsNext, SetsNextOnKey, ActionsStand, ActionsStandButKey}
use Rattle.due_index.proofs.Chosen.{same_name}
use Rattle.due_index.proofs.Tournaments.{decide}

-- ---- two keys are the same or not

name_by : (a b : List ℕ) (o : Ordering) → bytes_cmp a b ≡ o → (a ≡ b) ⊎ (a ≡ b → ⊥)
name_by a b Equal is = inl (same_name a b is)
name_by a b Less is = inr (λ e. let itself : bytes_cmp a b ≡ Equal = subst (λ k. bytes_cmp a k ≡ Equal) e (tied_itself nat_list_cmp_total a) in absurd (cc))
name_by a b Greater is = inr (λ e. let itself : bytes_cmp a b ≡ Equal = subst (λ k. bytes_cmp a k ≡ Equal) e (tied_itself nat_list_cmp_total a) in absurd (cc))

pub names : (a b : List ℕ) → (a ≡ b) ⊎ (a ≡ b → ⊥)
names a b = name_by a b (bytes_cmp a b) refl

not_at_by : (key k : List ℕ) (o : Ordering) → bytes_cmp key k ≡ o → (k ≡ key → ⊥) → is_eq o ≡ false
not_at_by key k Less is apart = refl
not_at_by key k Equal is apart = absurd (apart (sym (same_name key k is)))
not_at_by key k Greater is apart = refl

pub not_at : (key k : List ℕ) → (k ≡ key → ⊥) → is_eq (bytes_cmp key k) ≡ false
not_at key k apart = not_at_by key k (bytes_cmp key k) refl apart

-- ---- slots of other keys and uploads are other slots

module _ (index : ActionsRecord) (tied : IsTied index) where
  one_candidate : (slot : ℕ) (c d : Candidate) → slot_at slot index.slots ≡ Some c → slot_at slot index.slots ≡ Some d → c ≡ d
  one_candidate slot c d h k = let both : Some c ≡ Some d = sym h ∙ k in cc

  pub apart_keys : (key other : List ℕ) (slot : ℕ) → at_name key index.keys ≡ Some slot → at_name other index.keys ≡ Some slot → key ≡ other
  apart_keys key other slot h k =
      let a = tied.keys key slot h in
      let b = tied.keys other slot k in
      sym a.is.own ∙ ap (λ (c : Candidate). c.action.key) (one_candidate slot a.candidate b.candidate a.there b.there) ∙ b.is.own

  pub apart_sides : (key : List ℕ) (number slot : ℕ) → at_name key index.keys ≡ Some slot → at_number number index.uploads ≡ Some slot → ⊥
  apart_sides key number slot h k =
      let a = tied.keys key slot h in
      let b = tied.uploads number slot k in
      let both : target.Version a.is.version ≡ target.Upload number =
      sym a.is.target ∙ ap (λ (c : Candidate). c.action.target) (one_candidate slot a.candidate b.candidate a.there b.there) ∙ b.is in absurd (cc)

-- ---- the slot of a key is written

module _ (index : ActionsRecord) (tied : IsTied index) (key : List ℕ) (slot : ℕ) (at : at_name key index.keys ≡ Some slot)
    (slots : List (Option Candidate)) (c : Candidate) (of_key : IsOfKey key c) (put : IsPut index.slots slots slot (Some c)) where
  abbrev written : ActionsRecord
  written = record { keys = index.keys; uploads = index.uploads; table = index.table; slots = slots }

  other_key_by : (k : List ℕ) (o : Option ℕ) → at_name k index.keys ≡ o → (k ≡ key → ⊥) → slot_of o slots ≡ slot_of o index.slots
  other_key_by k None is apart = refl
  other_key_by k (Some s) is apart = put.others s (λ same. apart (apart_keys index tied k key s is (at ∙ ap Some (sym same))))

  other_upload_by : (number : ℕ) (o : Option ℕ) → at_number number index.uploads ≡ o → slot_of o slots ≡ slot_of o index.slots
  other_upload_by number None is = refl
  other_upload_by number (Some s) is = put.others s (λ same. apart_sides index tied key number s (at ∙ ap Some (sym same)) is)

  pub sets_written : SetsNextOnKey index written key (Some c)
  sets_written = record {
    here = ap (λ o. slot_of o slots) at ∙ put.here;
    table = refl;
    others = λ k apart. other_key_by k (at_name k index.keys) refl apart;
    uploads = λ number. other_upload_by number (at_number number index.uploads) refl;
  }

  stays_by : (s : ℕ) (P : Candidate → Type 0) → (s ≡ slot → ⊥) → Stands index s P → Stands written s P
  stays_by s P apart h = record { candidate = h.candidate; there = put.others s apart ∙ h.there; is = h.is }

  key_tied : (k : List ℕ) (s : ℕ) → at_name k index.keys ≡ Some s → (s ≡ slot) ⊎ (s ≡ slot → ⊥) → Stands written s (IsOfKey k)
  key_tied k s is (inl same) =
      let own : key ≡ k = apart_keys index tied key k slot at (is ∙ ap Some same) in record {
        candidate = c;
        there = ap (λ n. slot_at n slots) same ∙ put.here;
        is = subst (λ n. IsOfKey n c) own of_key;
      }
  key_tied k s is (inr apart) = stays_by s (IsOfKey k) apart (tied.keys k s is)

  owned_by : (s : ℕ) (d : Candidate) → slot_at s slots ≡ Some d → (s ≡ slot) ⊎ (s ≡ slot → ⊥) → IsOwned written s d d.action.target
  owned_by s d is (inl same) =
      let both : Some c ≡ Some d = sym put.here ∙ ap (λ n. slot_at n slots) (sym same) ∙ is in
      let one : c ≡ d = cc in
      subst (λ e. IsOwned written s e e.action.target) one
      (subst (λ t. IsOwned written s c t) (sym of_key.target) (ap (λ k. at_name k index.keys) of_key.own ∙ at ∙ ap Some (sym same)))
  owned_by s d is (inr apart) = owned_same s d d.action.target (tied.owned s d (sym (put.others s apart) ∙ is))
    where
      owned_same : (s : ℕ) (d : Candidate) (t : Target) → IsOwned index s d t → IsOwned written s d t
      owned_same s d (target.Version id) h = h
      owned_same s d (target.Upload number) h = h

  pub tied_written : IsTied written
  tied_written = record {
    keys = λ k s is. key_tied k s is (decide s slot);
    uploads = λ number s is. stays_by s _ (λ same. apart_sides index tied key number slot at (is ∙ ap Some same)) (tied.uploads number s is);
    owned = λ s d is. owned_by s d is (decide s slot);
  }

-- ---- the slot of a key is emptied

module _ (index : ActionsRecord) (tied : IsTied index) (key : List ℕ) (slot : ℕ) (at : at_name key index.keys ≡ Some slot)
    (slots : List (Option Candidate)) (put : IsPut index.slots slots slot None) (keys : List (List ℕ × ℕ))
    (gone : at_name key keys ≡ None) (kept : (k : List ℕ) → (k ≡ key → ⊥) → at_name k keys ≡ at_name k index.keys) where
  abbrev emptied : ActionsRecord
  emptied = record { keys = keys; uploads = index.uploads; table = index.table; slots = slots }

  left_key_by : (k : List ℕ) (o : Option ℕ) → at_name k index.keys ≡ o → (k ≡ key → ⊥) → slot_of o slots ≡ slot_of o index.slots
  left_key_by k None is apart = refl
  left_key_by k (Some s) is apart = put.others s (λ same. apart (apart_keys index tied k key s is (at ∙ ap Some (sym same))))

  left_upload_by : (number : ℕ) (o : Option ℕ) → at_number number index.uploads ≡ o → slot_of o slots ≡ slot_of o index.slots
  left_upload_by number None is = refl
  left_upload_by number (Some s) is = put.others s (λ same. apart_sides index tied key number s (at ∙ ap Some (sym same)) is)

  pub sets_emptied : SetsNextOnKey index emptied key None
  sets_emptied = record {
    here = ap (λ o. slot_of o slots) gone;
    table = refl;
    others = λ k apart. ap (λ o. slot_of o slots) (kept k apart) ∙ left_key_by k (at_name k index.keys) refl apart;
    uploads = λ number. left_upload_by number (at_number number index.uploads) refl;
  }

  left_stays : (s : ℕ) (P : Candidate → Type 0) → (s ≡ slot → ⊥) → Stands index s P → Stands emptied s P
  left_stays s P apart h = record { candidate = h.candidate; there = put.others s apart ∙ h.there; is = h.is }

  left_tied : (k : List ℕ) (s : ℕ) → at_name k keys ≡ Some s → (k ≡ key) ⊎ (k ≡ key → ⊥) → Stands emptied s (IsOfKey k)
  left_tied k s is (inl same) = let both : None ≡ Some s = sym gone ∙ ap (λ n. at_name n keys) (sym same) ∙ is in absurd (cc)
  left_tied k s is (inr apart) =
      let before = sym (kept k apart) ∙ is in
      left_stays s (IsOfKey k) (λ same. apart (apart_keys index tied k key s before (at ∙ ap Some (sym same)))) (tied.keys k s before)

  left_owned : (s : ℕ) (d : Candidate) (t : Target) → (s ≡ slot → ⊥) → IsOwned index s d t → IsOwned emptied s d t
  left_owned s d (target.Version id) apart h =
      kept d.action.key (λ same. let both : Some slot ≡ Some s = sym at ∙ ap (λ k. at_name k index.keys) (sym same) ∙ h in apart (cc)) ∙ h
  left_owned s d (target.Upload number) apart h = h

  left_by : (s : ℕ) (d : Candidate) → slot_at s slots ≡ Some d → (s ≡ slot) ⊎ (s ≡ slot → ⊥) → IsOwned emptied s d d.action.target
  left_by s d is (inl same) = let both : None ≡ Some d = sym put.here ∙ ap (λ n. slot_at n slots) (sym same) ∙ is in absurd (cc)
  left_by s d is (inr apart) = left_owned s d d.action.target apart (tied.owned s d (sym (put.others s apart) ∙ is))

  pub tied_emptied : IsTied emptied
  tied_emptied = record {
    keys = λ k s is. left_tied k s is (names k key);
    uploads = λ number s is. left_stays s _ (λ same. apart_sides index tied key number slot at (is ∙ ap Some same)) (tied.uploads number s is);
    owned = λ s d is. left_by s d is (decide s slot);
  }

-- ---- an empty slot is taken up for a key

module _ (index : ActionsRecord) (tied : IsTied index) (key : List ℕ) (absent : at_name key index.keys ≡ None) (slot : ℕ)
    (empty : slot_at slot index.slots ≡ None) (slots : List (Option Candidate)) (c : Candidate) (of_key : IsOfKey key c)
    (put : IsPut index.slots slots slot (Some c)) (keys : List (List ℕ × ℕ))
    (at : at_name key keys ≡ Some slot) (kept : (k : List ℕ) → (k ≡ key → ⊥) → at_name k keys ≡ at_name k index.keys) where
  abbrev taken : ActionsRecord
  taken = record { keys = keys; uploads = index.uploads; table = index.table; slots = slots }

  not_empty : (s : ℕ) (P : Candidate → Type 0) → Stands index s P → s ≡ slot → ⊥
  not_empty s P h same = let both : None ≡ Some h.candidate = sym empty ∙ ap (λ n. slot_at n index.slots) (sym same) ∙ h.there in absurd (cc)

  more_key_by : (k : List ℕ) (o : Option ℕ) → at_name k index.keys ≡ o → slot_of o slots ≡ slot_of o index.slots
  more_key_by k None is = refl
  more_key_by k (Some s) is = put.others s (not_empty s (IsOfKey k) (tied.keys k s is))

  more_upload_by : (number : ℕ) (o : Option ℕ) → at_number number index.uploads ≡ o → slot_of o slots ≡ slot_of o index.slots
  more_upload_by number None is = refl
  more_upload_by number (Some s) is = put.others s (not_empty s _ (tied.uploads number s is))

  pub sets_taken : SetsNextOnKey index taken key (Some c)
  sets_taken = record {
    here = ap (λ o. slot_of o slots) at ∙ put.here;
    table = refl;
    others = λ k apart. ap (λ o. slot_of o slots) (kept k apart) ∙ more_key_by k (at_name k index.keys) refl;
    uploads = λ number. more_upload_by number (at_number number index.uploads) refl;
  }

  more_stays : (s : ℕ) (P : Candidate → Type 0) → Stands index s P → Stands taken s P
  more_stays s P h = record { candidate = h.candidate; there = put.others s (not_empty s P h) ∙ h.there; is = h.is }

  more_tied : (k : List ℕ) (s : ℕ) → at_name k keys ≡ Some s → (k ≡ key) ⊎ (k ≡ key → ⊥) → Stands taken s (IsOfKey k)
  more_tied k s is (inl same) =
      let both : Some slot ≡ Some s = sym at ∙ ap (λ n. at_name n keys) (sym same) ∙ is in
      let one : slot ≡ s = cc in record {
        candidate = c;
        there = ap (λ n. slot_at n slots) (sym one) ∙ put.here;
        is = subst (λ n. IsOfKey n c) (sym same) of_key;
      }
  more_tied k s is (inr apart) = more_stays s (IsOfKey k) (tied.keys k s (sym (kept k apart) ∙ is))

  more_owned : (s : ℕ) (d : Candidate) (t : Target) → IsOwned index s d t → IsOwned taken s d t
  more_owned s d (target.Version id) h =
      kept d.action.key (λ same. let both : None ≡ Some s = sym absent ∙ ap (λ k. at_name k index.keys) (sym same) ∙ h in absurd (cc)) ∙ h
  more_owned s d (target.Upload number) h = h

  more_by : (s : ℕ) (d : Candidate) → slot_at s slots ≡ Some d → (s ≡ slot) ⊎ (s ≡ slot → ⊥) → IsOwned taken s d d.action.target
  more_by s d is (inl same) =
      let both : Some c ≡ Some d = sym put.here ∙ ap (λ n. slot_at n slots) (sym same) ∙ is in
      let one : c ≡ d = cc in
      subst (λ e. IsOwned taken s e e.action.target) one
      (subst (λ t. IsOwned taken s c t) (sym of_key.target) (ap (λ k. at_name k keys) of_key.own ∙ at ∙ ap Some (sym same)))
  more_by s d is (inr apart) = more_owned s d d.action.target (tied.owned s d (sym (put.others s apart) ∙ is))

  pub tied_taken : IsTied taken
  tied_taken = record {
    keys = λ k s is. more_tied k s is (names k key);
    uploads = λ number s is. more_stays s _ (tied.uploads number s is);
    owned = λ s d is. more_by s d is (decide s slot);
  }

-- ---- so the index is right for the bucket again

pub renewed : (old new : ActionsRecord) (bucket : BucketRecord) (key : List ℕ) → ActionsStandButKey old bucket key
    → SetsNextOnKey old new key (first_on_key bucket key) → ActionsStand new bucket
renewed old new bucket key but sets = record {
  table = subst (λ t. IsTable t (rules_of bucket.rules)) (sym sets.table) but.table;
  keys = λ k. elim (names k key) [
    | inl same ↦ ap (next_on_key new) same ∙ sets.here ∙ ap (first_on_key bucket) (sym same)
    | inr apart ↦ sets.others k apart ∙ but.keys k apart
  ];
  uploads = λ number. sets.uploads number ∙ but.uploads number;
}

-- ---- as the calls tell it

pub version_of : (key : List ℕ) (place : Place) → IsOnVersion place → IsOfKey key (candidate_of key place)
version_of key place on = record { own = refl; version = on.version; target = on.target }

-- the key's slot got the place's action
module _ (index : ActionsRecord) (tied : IsTied index) (key : List ℕ) (slot : ℕ) (at : at_name key index.keys ≡ Some slot) (place : Place) (on : IsOnVersion place)
    (slots : List (Option Candidate))
    (put : (held : Candidate) → slot_at slot index.slots ≡ Some held → IsPut index.slots slots slot (Some (candidate_of held.action.key place))) where
  put_own : IsPut index.slots slots slot (Some (candidate_of key place))
  put_own =
      let h = tied.keys key slot at in
      subst (λ k. IsPut index.slots slots slot (Some (candidate_of k place))) h.is.own (put h.candidate h.there)

  pub sets_replaced : SetsNextOnKey index (record { keys = index.keys; uploads = index.uploads; table = index.table; slots = slots }) key (Some (candidate_of key place))
  sets_replaced = sets_written index tied key slot at slots (candidate_of key place) (version_of key place on) put_own

  pub tied_replaced : IsTied (record { keys = index.keys; uploads = index.uploads; table = index.table; slots = slots })
  tied_replaced = tied_written index tied key slot at slots (candidate_of key place) (version_of key place on) put_own

pub slot_there : (index : ActionsRecord) (tied : IsTied index) (key : List ℕ) (slot : ℕ) → at_name key index.keys ≡ Some slot → IsSome (slot_at slot index.slots)
slot_there index tied key slot at = let h = tied.keys key slot at in subst IsSome (sym h.there) refl

-- ---- out of memory

-- what was put into an empty slot is taken out again
pub back_again : (index : ActionsRecord) (more less : List (Option Candidate)) (slot : ℕ) (c : Candidate) → slot_at slot index.slots ≡ None
    → IsPut index.slots more slot (Some c) → IsPut more less slot None → (k : ℕ) → slot_at k less ≡ slot_at k index.slots
back_again index more less slot c empty put out k = elim (decide k slot) [
  | inl same ↦ ap (λ n. slot_at n less) same ∙ out.here ∙ sym empty ∙ ap (λ n. slot_at n index.slots) (sym same)
  | inr apart ↦ out.others k apart ∙ put.others k apart
]

module _ (index : ActionsRecord) (tied : IsTied index) (slots : List (Option Candidate)) (same : (k : ℕ) → slot_at k slots ≡ slot_at k index.slots) where
  abbrev again : ActionsRecord
  again = record { keys = index.keys; uploads = index.uploads; table = index.table; slots = slots }

  same_slot : (o : Option ℕ) → slot_of o slots ≡ slot_of o index.slots
  same_slot None = refl
  same_slot (Some s) = same s

  pub keeps_again : KeepsNext index again
  keeps_again = record { table = refl; keys = λ key. same_slot (at_name key index.keys); uploads = λ number. same_slot (at_number number index.uploads) }

  stands_again : (s : ℕ) (P : Candidate → Type 0) → Stands index s P → Stands again s P
  stands_again s P h = record { candidate = h.candidate; there = same s ∙ h.there; is = h.is }

  owned_again : (s : ℕ) (d : Candidate) (t : Target) → IsOwned index s d t → IsOwned again s d t
  owned_again s d (target.Version id) h = h
  owned_again s d (target.Upload number) h = h

  pub tied_again : IsTied again
  tied_again = record {
    keys = λ k s is. stands_again s (IsOfKey k) (tied.keys k s is);
    uploads = λ number s is. stands_again s _ (tied.uploads number s is);
    owned = λ s d is. owned_again s d d.action.target (tied.owned s d (sym (same s) ∙ is));
  }

pub keeps_itself : (index : ActionsRecord) → KeepsNext index index
keeps_itself index = record { table = refl; keys = λ key. refl; uploads = λ number. refl }
