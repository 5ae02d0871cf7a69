-- The order is total on the candidates of a bucket: two of which neither comes before the other are equal.
use Rattle.std.proofs.Common.{◌≡◌, ℕ, ◌⊎◌, inl, inr, List, sym, ap, ◌∙◌, subst, flat_map, arith}
use Rattle.std.specs.Prelude.{Option, Some, None, Result, Ok, Err, IfOk}
use Rattle.std.specs.Ordering.{nat_cmp}
use Rattle.std.specs.declared.cmp.Ordering.TheVariants.{Equal}
use Rattle.std.specs.FinMap.{nat_cmp-IsAntisymmetric}
use Rattle.std.proofs.lemmas.Cmp.{nat_list_cmp_total, nat_cmp_total}
use Rattle.office_base.specs.Maps.{bytes_cmp, at_name, at_number}
use Rattle.rules_core.specs.Configurations.{Configuration}
use Rattle.stacks.specs.Stacks.{StackRecord}
use Rattle.uploads.specs.Uploads.{UploadRecord}
use Rattle.due_core.specs.Buckets.{BucketRecord}
use Rattle.due_core.specs.Candidates.{eligible, eligible_by, candidates, stack_candidates, upload_candidates}
use Rattle.due_core.specs.Choice.{precedence, comes_before, kind_place, least, choice}
use Rattle.due_core.specs.declared.action.Action.{Action}
use Rattle.due_core.specs.declared.action.Candidate.{Candidate}
use Rattle.due_core.proofs.Pass.{has_come}
use Rattle.due_core.proofs.Precedence.{first_candidate}
use Rattle.due_index.specs.Actions.{IsBucket, IsTotalOn, IsLeastAction}
use Rattle.due_index.specs.Search.{Among}
use Rattle.due_index.proofs.Among.{among_append, among_filter, among_flat_map, among_at}
use Rattle.due_index.proofs.Chosen.{same_name, there_found}
use Rattle.due_index.proofs.Ties.{IsOnKey, IsOnUpload, on_key, on_upload, tied_on_key, tied_on_upload, neither_before, tied_key, tied_age, tied_kind}

-- the stack, or the upload, that a candidate is on
record IsOnStack (bucket : BucketRecord) (c : Candidate) : Type 0 where
  key : List ℕ
  stack : StackRecord
  at : at_name key bucket.stacks ≡ Some stack
  on : IsOnKey key stack c

record IsOnNumber (bucket : BucketRecord) (c : Candidate) : Type 0 where
  number : ℕ
  upload : UploadRecord
  at : at_number number bucket.uploads ≡ Some upload
  on : IsOnUpload number upload c

module _ (bucket : BucketRecord) (whole : IsBucket bucket) where
  stands_on_by : (o : Option Configuration) (c : Candidate) → Among (eligible_by bucket o) c → IsOnStack bucket c ⊎ IsOnNumber bucket c
  stands_on_by None c h = absurd h
  stands_on_by (Some rules) c h =
      elim (among_append (flat_map (stack_candidates bucket rules) bucket.stacks) (flat_map (upload_candidates bucket rules) bucket.uploads) c h) [
        | inl a ↦ let found = among_flat_map (stack_candidates bucket rules) bucket.stacks c a in inl (record {
          key = found.0.0;
          stack = found.0.1;
          at = there_found bytes_cmp nat_list_cmp_total same_name found.0.0 found.0.1 bucket.stacks whole.stacks found.1;
          on = on_key bucket rules found.0.0 found.0.1 c found.2;
        })
        | inr b ↦ let found = among_flat_map (upload_candidates bucket rules) bucket.uploads c b in inr (record {
          number = found.0.0;
          upload = found.0.1;
          at = there_found nat_cmp nat_cmp_total nat_cmp-IsAntisymmetric found.0.0 found.0.1 bucket.uploads whole.uploads found.1;
          on = on_upload bucket rules found.0.0 found.0.1 c found.2;
        })
      ]

  stands_on : (c : Candidate) → Among (eligible bucket) c → IsOnStack bucket c ⊎ IsOnNumber bucket c
  unfolding eligible
  stands_on c h = stands_on_by bucket.rules c h

  one_stack : (x y : StackRecord) (o : Option StackRecord) → o ≡ Some x → o ≡ Some y → x ≡ y
  one_stack x y o h k = let both : Some x ≡ Some y = sym h ∙ k in cc

  one_upload : (x y : UploadRecord) (o : Option UploadRecord) → o ≡ Some x → o ≡ Some y → x ≡ y
  one_upload x y o h k = let both : Some x ≡ Some y = sym h ∙ k in cc

  both_same : (c d : Candidate) → IsOnStack bucket c ⊎ IsOnNumber bucket c → IsOnStack bucket d ⊎ IsOnNumber bucket d → precedence c d ≡ Equal → c ≡ d
  both_same c d (inl a) (inl b) tie =
      let same : b.key ≡ a.key = sym b.on.own ∙ sym (tied_key c d tie) ∙ a.on.own in
      let one : b.stack ≡ a.stack = one_stack b.stack a.stack (at_name b.key bucket.stacks) b.at (ap (λ k. at_name k bucket.stacks) same ∙ a.at) in
      tied_on_key a.key a.stack c d a.on (subst (λ s. IsOnKey a.key s d) one (subst (λ k. IsOnKey k b.stack d) same b.on)) tie
  both_same c d (inr a) (inr b) tie =
      let same : b.number ≡ a.number = sym b.on.older ∙ sym (tied_age c d tie) ∙ a.on.older in
      let one : b.upload ≡ a.upload = one_upload b.upload a.upload (at_number b.number bucket.uploads) b.at (ap (λ n. at_number n bucket.uploads) same ∙ a.at) in
      tied_on_upload a.number a.upload c d a.on (subst (λ u. IsOnUpload a.number u d) one (subst (λ n. IsOnUpload n b.upload d) same b.on)) tie
  both_same c d (inl a) (inr b) tie =
      let kinds = ap kind_place (tied_kind c d tie) in let less = a.on.kind in let three = b.on.kind in absurd (omega arith)
  both_same c d (inr a) (inl b) tie =
      let kinds = ap kind_place (tied_kind c d tie) in let less = b.on.kind in let three = a.on.kind in absurd (omega arith)

  pub total_on : (t : ℕ) → IsTotalOn (candidates bucket t)
  unfolding candidates
  total_on t c d in_c in_d forth back =
      let h = among_filter (has_come t) (eligible bucket) c (among_at (candidates bucket t) in_c.0 c c in_c.1 in_c.2) in
      let k = among_filter (has_come t) (eligible bucket) d (among_at (candidates bucket t) in_d.0 d d in_d.1 in_d.2) in
      both_same c d (stands_on c h.0) (stands_on d k.0) (neither_before c d forth back)

least_action : (bucket : BucketRecord) (t : ℕ) (action : Option Action) → action ≡ choice bucket t → IsLeastAction bucket t action
unfolding choice
least_action bucket t action is = (least comes_before (candidates bucket t), first_candidate (candidates bucket t), sym is)

pub if_least : {E : Type 0} (bucket : BucketRecord) (t : ℕ) (r : Result (Option Action) E) → IfOk r (λ action. action ≡ choice bucket t)
    → IfOk r (λ action. IsLeastAction bucket t action)
if_least bucket t (Ok action) is = least_action bucket t action is
if_least bucket t (Err e) is = tt
