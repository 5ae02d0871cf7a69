-- The blocks of all keys, after those of one key were put or removed.
use Rattle.std.proofs.Common.{◌≡◌, ℕ, ◌⊎◌, inl, inr, List, [], refl, sym, ap, subst}
use Rattle.std.specs.Prelude.{Option, Some, None, unwrap_or, Result, Ok, Err, OnOk, OnErr, false}
use Rattle.std.specs.Ordering.{is_eq}
use Rattle.std.proofs.lemmas.List.Elements.{All-nil}
use Rattle.office_base.specs.Maps.{at_name, bytes_cmp}
use Rattle.office_base.specs.declared.version_id.VersionId.{VersionId}
use Rattle.rules_core.specs.Configurations.{Configuration}
use Rattle.stacks.specs.Stacks.{StackRecord}
use Rattle.due_core.specs.Buckets.{BucketRecord}
use Rattle.due_index.specs.Actions.{ActionsStand}
use Rattle.due_index.specs.Blocks.{BlockRecord, AreRightBut, AreRightUnder, AreRightUnderBut, but_first}
use Rattle.due_index.specs.Index.{IndexRecord, HasBlocks, StandsFor, StandsButKey, SetsBlocks, blocks_of}
use Rattle.due_index.proofs.Renewing.{names, not_at}

-- no blocks are right for any versions
pub no_blocks : (o : Option Configuration) (key : List ℕ) (s : Option StackRecord) → AreRightUnder o key [] s
no_blocks None key s = tt
no_blocks (Some rules) key s = All-nil _

pub no_blocks_but : (touched : Option VersionId) (o : Option Configuration) (key : List ℕ) (s : Option StackRecord) → AreRightUnderBut touched o key [] s
no_blocks_but touched None key s = tt
no_blocks_but touched (Some rules) key s = All-nil _

-- the blocks of a key that has rules and a stack
pub some_rest : (touched : Option VersionId) (o : Option Configuration) (key : List ℕ) (blocks : List BlockRecord) (s : Option StackRecord)
    → AreRightUnderBut touched o key blocks s → (rules : Configuration) → o ≡ Some rules → (stack : StackRecord) → s ≡ Some stack
    → AreRightBut touched rules.mode rules.rules key blocks (but_first stack.versions)
some_rest touched o key blocks s right rules is stack at =
    subst (λ t. AreRightUnderBut touched (Some rules) key blocks t) at (subst (λ p. AreRightUnderBut touched p key blocks s) is right)

-- ---- one key's blocks are put

-- nothing is put
pub sets_nothing : (index : IndexRecord) (key : List ℕ) (blocks : List BlockRecord) → SetsBlocks index index key blocks
sets_nothing index key blocks = record { actions = refl; here = inr refl; others = λ k apart. refl }

module _ (old new : IndexRecord) (bucket : BucketRecord) (key : List ℕ) (blocks : List BlockRecord) (sets : SetsBlocks old new key blocks)
    (right : AreRightUnder bucket.rules key blocks (at_name key bucket.stacks)) (stands : (k : List ℕ) → HasBlocks old bucket k) where
  abbrev RightFor : List ℕ → List BlockRecord → Type 0
  RightFor k bs = AreRightUnder bucket.rules k bs (at_name k bucket.stacks)

  here_by : (blocks_of key new.blocks ≡ blocks) ⊎ (blocks_of key new.blocks ≡ blocks_of key old.blocks) → HasBlocks new bucket key
  here_by (inl is) = subst (RightFor key) (sym is) right
  here_by (inr is) = subst (RightFor key) (sym is) (stands key)

  has_by : (k : List ℕ) → (k ≡ key) ⊎ (k ≡ key → ⊥) → HasBlocks new bucket k
  has_by k (inl is) = subst (λ n. HasBlocks new bucket n) (sym is) (here_by sets.here)
  has_by k (inr apart) = subst (RightFor k) (sym (sets.others k apart)) (stands k)

  -- all keys' blocks are right
  pub sets_right : (k : List ℕ) → HasBlocks new bucket k
  sets_right k = has_by k (names k key)

-- ---- one key's blocks are removed

module _ (index left : IndexRecord) (bucket : BucketRecord) (key : List ℕ) (touched : Option VersionId) (stands : StandsButKey index bucket key touched)
    (gone : at_name key left.blocks ≡ None) (kept : (k : List ℕ) → (k ≡ key → ⊥) → at_name k left.blocks ≡ at_name k index.blocks) where
  left_by : (k : List ℕ) → (k ≡ key) ⊎ (k ≡ key → ⊥) → HasBlocks left bucket k
  left_by k (inl is) =
      subst (λ n. HasBlocks left bucket n) (sym is)
      (subst (λ o. AreRightUnder bucket.rules key (unwrap_or o []) (at_name key bucket.stacks)) (sym gone) (no_blocks bucket.rules key (at_name key bucket.stacks)))
  left_by k (inr apart) =
      subst (λ o. AreRightUnder bucket.rules k (unwrap_or o []) (at_name k bucket.stacks)) (sym (kept k apart)) (stands.others k apart)

  -- the blocks that are left are right
  pub left_right : (k : List ℕ) → HasBlocks left bucket k
  left_right k = left_by k (names k key)

-- ---- as far as memory allows

-- the blocks were put if there was memory for them
pub sets_tried : {A E P : Type 0} (r : Result A E) (old : IndexRecord) (key other : List ℕ) (blocks : List BlockRecord) (entries : List (List ℕ × List BlockRecord)) → other ≡ key
    → OnOk r P → (P → at_name other entries ≡ Some blocks) → (P → (k : List ℕ) → is_eq (bytes_cmp other k) ≡ false → at_name k entries ≡ at_name k old.blocks)
    → OnErr r (entries ≡ old.blocks) → SetsBlocks old (record { actions = old.actions; blocks = entries }) key blocks
sets_tried (Ok x) old key other blocks entries same done here others failed = record {
  actions = refl;
  here = inl (ap (λ o. unwrap_or o []) (subst (λ n. at_name n entries ≡ Some blocks) same (here done)));
  others = λ k apart. ap (λ o. unwrap_or o []) (others done k (subst (λ n. is_eq (bytes_cmp n k) ≡ false) (sym same) (not_at key k apart)));
}
sets_tried (Err e) old key other blocks entries same done here others failed = record {
  actions = refl;
  here = inr (ap (λ es. blocks_of key es) failed);
  others = λ k apart. ap (λ es. blocks_of k es) failed;
}

-- the index after a key's actions and blocks were renewed
pub stands_renewed : {A E : Type 0} (r : Result A E) (old new : IndexRecord) (bucket : BucketRecord) (key : List ℕ) (blocks : List BlockRecord)
    → SetsBlocks old new key blocks → OnOk r (ActionsStand old.actions bucket) → AreRightUnder bucket.rules key blocks (at_name key bucket.stacks)
    → ((k : List ℕ) → HasBlocks old bucket k) → OnOk r (StandsFor new bucket)
stands_renewed (Ok x) old new bucket key blocks sets actions right stands = record {
  actions = subst (λ a. ActionsStand a bucket) (sym sets.actions) actions;
  blocks = sets_right old new bucket key blocks sets right stands;
}
stands_renewed (Err e) old new bucket key blocks sets actions right stands = tt
