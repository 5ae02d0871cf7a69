-- Building the index, key by key and upload by upload.
use Rattle.std.proofs.Common.{◌≡◌, ℕ, inl, inr, List, [], ◌∷◌, refl, sym, ap, ◌∙◌, cond, subst}
use Rattle.std.specs.Prelude.{Option, Some, None}
use Rattle.office_base.specs.Maps.{at_name, at_number}
use Rattle.rules_core.specs.Configurations.{Configuration}
use Rattle.stacks.specs.Stacks.{StackRecord}
use Rattle.uploads.specs.Uploads.{UploadRecord}
use Rattle.due_core.specs.Buckets.{BucketRecord}
use Rattle.due_core.specs.Choice.{comes_before, least}
use Rattle.due_index.specs.Firsts.{asked_of_key, asked_of_upload, first_on_key, first_on_upload}
use Rattle.due_index.specs.Actions.{ActionsRecord, next_on_key, next_on_upload, IsTied, SetsNextOnKey, SetsNextOnUpload, ActionsStand}
use Rattle.due_index.specs.Actions.{HasNoKeys, HasNoUploads, StandsOnKeys, StandsOnUploads, KeepsKeys, KeepsUploads, HasTable}
use Rattle.due_index.specs.Table.{TableRecord, IsTable, rules_of}
use Rattle.due_index.proofs.Tournaments.{decide}
use Rattle.due_index.proofs.Renewing.{names, not_at}
use Rattle.due_index.proofs.RenewingUploads.{not_at_number}

pub empty_tied : (table : TableRecord) → IsTied (record { keys = []; uploads = []; table = table; slots = [] })
empty_tied table = record {
  keys = λ k s is. absurd cc;
  uploads = λ n s is. absurd cc;
  owned = λ s c is. absurd cc;
}

-- ---- without versions or parts nothing comes first

no_stack_by : (bucket : BucketRecord) (key : List ℕ) (o : Option Configuration) → least comes_before (asked_of_key bucket key o None) ≡ None
no_stack_by bucket key None = refl
no_stack_by bucket key (Some rules) = refl

pub no_stack : (bucket : BucketRecord) (key : List ℕ) → at_name key bucket.stacks ≡ None → first_on_key bucket key ≡ None
unfolding first_on_key
no_stack bucket key none = ap (λ s. least comes_before (asked_of_key bucket key bucket.rules s)) none ∙ no_stack_by bucket key bucket.rules

no_upload_by : (bucket : BucketRecord) (number : ℕ) (o : Option Configuration) → least comes_before (asked_of_upload bucket number o None) ≡ None
no_upload_by bucket number None = refl
no_upload_by bucket number (Some rules) = refl

pub no_upload : (bucket : BucketRecord) (number : ℕ) → at_number number bucket.uploads ≡ None → first_on_upload bucket number ≡ None
unfolding first_on_upload
no_upload bucket number none = ap (λ s. least comes_before (asked_of_upload bucket number bucket.rules s)) none ∙ no_upload_by bucket number bucket.rules

-- without rules nothing comes first on any key
pub no_rules : (index : ActionsRecord) (bucket : BucketRecord) → bucket.rules ≡ None → HasNoKeys index → StandsOnKeys index bucket
unfolding first_on_key
no_rules index bucket is none =
    λ key. none key ∙ sym (ap (λ o. least comes_before (asked_of_key bucket key o (at_name key bucket.stacks))) is)

-- ---- keys

-- on each key but those that are left comes next what comes first
pub record AreKeysLeft (start index : ActionsRecord) (bucket : BucketRecord) (left : List (List ℕ × StackRecord)) : Type 0 where
  pub keys : (key : List ℕ) → at_name key left ≡ None → next_on_key index key ≡ first_on_key bucket key
  pub uploads : KeepsUploads start index
  pub table : HasTable index bucket

pub all_keys_left : (start : ActionsRecord) (bucket : BucketRecord) → HasNoKeys start → HasTable start bucket → AreKeysLeft start start bucket bucket.stacks
all_keys_left start bucket none table = record {
  table = table;
  keys = λ key absent. none key ∙ sym (no_stack bucket key absent);
  uploads = λ number. refl;
}

pub one_key_less : (start old new : ActionsRecord) (bucket : BucketRecord) (key : List ℕ) (stack : StackRecord) (left : List (List ℕ × StackRecord))
    → AreKeysLeft start old bucket ((key, stack) ∷ left) → SetsNextOnKey old new key (first_on_key bucket key) → AreKeysLeft start new bucket left
one_key_less start old new bucket key stack left are sets = record {
  table = subst (λ t. IsTable t (rules_of bucket.rules)) (sym sets.table) are.table;
  keys = λ k absent. elim (names k key) [
    | inl same ↦ ap (next_on_key new) same ∙ sets.here ∙ ap (first_on_key bucket) (sym same)
    | inr apart ↦ sets.others k apart ∙ are.keys k (
        ap (λ b. cond b (Some stack) (at_name k left)) (not_at k key (λ same. apart (sym same))) ∙ absent)
  ];
  uploads = λ number. sets.uploads number ∙ are.uploads number;
}

pub no_keys_left : (start index : ActionsRecord) (bucket : BucketRecord) → AreKeysLeft start index bucket [] → StandsOnKeys index bucket
no_keys_left start index bucket are = λ key. are.keys key refl

-- ---- uploads

-- on each upload but those that are left comes next what comes first
pub record AreUploadsLeft (start index : ActionsRecord) (bucket : BucketRecord) (left : List (ℕ × UploadRecord)) : Type 0 where
  pub uploads : (number : ℕ) → at_number number left ≡ None → next_on_upload index number ≡ first_on_upload bucket number
  pub keys : KeepsKeys start index
  pub table : HasTable index bucket

pub all_uploads_left : (start : ActionsRecord) (bucket : BucketRecord) → HasNoUploads start → HasTable start bucket → AreUploadsLeft start start bucket bucket.uploads
all_uploads_left start bucket none table = record {
  table = table;
  uploads = λ number absent. none number ∙ sym (no_upload bucket number absent);
  keys = λ key. refl;
}

pub one_upload_less : (start old new : ActionsRecord) (bucket : BucketRecord) (number : ℕ) (upload : UploadRecord) (left : List (ℕ × UploadRecord))
    → AreUploadsLeft start old bucket ((number, upload) ∷ left) → SetsNextOnUpload old new number (first_on_upload bucket number)
    → AreUploadsLeft start new bucket left
one_upload_less start old new bucket number upload left are sets = record {
  table = subst (λ t. IsTable t (rules_of bucket.rules)) (sym sets.table) are.table;
  uploads = λ n absent. elim (decide n number) [
    | inl same ↦ ap (next_on_upload new) same ∙ sets.here ∙ ap (first_on_upload bucket) (sym same)
    | inr apart ↦ sets.others n apart ∙ are.uploads n (
        ap (λ b. cond b (Some upload) (at_number n left)) (not_at_number n number (λ same. apart (sym same))) ∙ absent)
  ];
  keys = λ key. sets.keys key ∙ are.keys key;
}

pub no_uploads_left : (start index : ActionsRecord) (bucket : BucketRecord) → AreUploadsLeft start index bucket [] → StandsOnUploads index bucket
no_uploads_left start index bucket are = λ number. are.uploads number refl

-- ---- both

pub built : (keys both : ActionsRecord) (bucket : BucketRecord) → StandsOnKeys keys bucket → StandsOnUploads both bucket → KeepsKeys keys both → HasTable both bucket → ActionsStand both bucket
built keys both bucket on_keys on_uploads kept table = record { table = table; keys = λ key. kept key ∙ on_keys key; uploads = on_uploads }

pub no_uploads_yet : (old new : ActionsRecord) → HasNoUploads old → KeepsUploads old new → HasNoUploads new
no_uploads_yet old new none kept = λ number. kept number ∙ none number
