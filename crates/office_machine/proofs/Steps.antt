-- What a command gives, by what the office has.
use Rattle.std.proofs.Common.{◌≡◌, ℕ, List, [], ◌∷◌, refl, ap, ◌∙◌, subst, Bool, true, false, not, cond}
use Rattle.std.specs.Prelude.{Option, Some, None, Ok, Err, is_some}
use Rattle.office_base.specs.Maps.{at_name, with_name}
use Rattle.tariff.specs.Prices.{Prices}
use Rattle.plain_office.specs.Office.{Office, Account}
use Rattle.plain_office.specs.Counts.{limit_of, first_full}
use Rattle.plain_office.specs.Step.{Change, Outcome, on_bucket, within_limits, unless_full, settled, accepted, outcome, step, is_accepted, new_account, adds_marker, is_unversioned, set_versioning, with_tariff}
use Rattle.plain_office.specs.Step.{set_rules, drop_rules, put_object, delete, delete_version, set_tags, start_upload, put_part, complete, abort, act}
use Rattle.office_types.specs.declared.command.Command.{Command}
use Rattle.office_types.specs.declared.command.Command.TheVariants as command
use Rattle.office_types.specs.declared.reply.Reply.{Reply}
use Rattle.office_types.specs.declared.reply.Reply.TheVariants as reply
use Rattle.office_types.specs.declared.refusal.Refusal.{Refusal}
use Rattle.office_types.specs.declared.refusal.Refusal.TheVariants.{NoSuchBucket, BucketExists, Full}
use Rattle.office_types.specs.declared.refusal.What.{What}
use Rattle.office_types.specs.declared.refusal.What.TheVariants.{Buckets, Versions, Uploads, Parts, Names, Rules, Tariffs}
use Rattle.bucket_account.specs.Changing.{change_of, limits_of, IsOnBucket}

swapped : (b : Bool) (x y : List What) → cond (not b) x y ≡ cond b y x
swapped true x y = refl
swapped false x y = refl

-- a test of no counts
unlimited : (o : Outcome) → o ≡ within_limits [] o
unlimited (Ok done) = refl
unlimited (Err refusal) = refl

module _ (t : ℕ) (p : Office) where
  settled_ok : (after : Office) (told : Reply) → is_accepted (Ok told) ≡ true → settled t p (Ok (after, told)) ≡ (accepted t after, Ok told)
  settled_ok after reply.NothingDue h = absurd cc
  settled_ok after told h = refl

  -- ---- a command on a bucket

  missing_at : (name bucket : List ℕ) (f : Account → Change) → name ≡ bucket → at_name name p.accounts ≡ None → on_bucket bucket f p ≡ Err NoSuchBucket
  missing_at name bucket f same none = let there = subst (λ (n : List ℕ). at_name n p.accounts ≡ None) same none in rw there refl

  missing_within : (whats : List What) (name bucket : List ℕ) (f : Account → Change) → name ≡ bucket → at_name name p.accounts ≡ None → within_limits whats (on_bucket bucket f p) ≡ Err NoSuchBucket
  missing_within whats name bucket f same none = ap (within_limits whats) (missing_at name bucket f same none)

  outcome_missing : (name : List ℕ) (asked : Command) → IsOnBucket name asked → at_name name p.accounts ≡ None → outcome t asked p ≡ Err NoSuchBucket
  unfolding outcome
  outcome_missing name (command.SetVersioning bucket enabled) same none = missing_at name bucket (set_versioning t enabled) same none
  outcome_missing name (command.SetRules bucket rules) same none = missing_within (Rules ∷ []) name bucket (set_rules t rules) same none
  outcome_missing name (command.DropRules bucket) same none = missing_at name bucket (drop_rules t) same none
  outcome_missing name (command.Put bucket key size class tags) same none = missing_within (Versions ∷ Names ∷ []) name bucket (put_object t key size class tags) same none
  outcome_missing name (command.Delete bucket key) same none = missing_within (cond (adds_marker bucket p) (Versions ∷ Names ∷ []) (Names ∷ [])) name bucket (delete t key) same none
  outcome_missing name (command.DeleteVersion bucket key id) same none = missing_at name bucket (delete_version t key id) same none
  outcome_missing name (command.SetTags bucket key id tags) same none = missing_within (Names ∷ []) name bucket (set_tags t key id tags) same none
  outcome_missing name (command.StartUpload bucket key class tags) same none = missing_within (Uploads ∷ Names ∷ []) name bucket (start_upload t key class tags) same none
  outcome_missing name (command.PutPart bucket upload part size) same none = missing_within (Parts ∷ []) name bucket (put_part t upload part size) same none
  outcome_missing name (command.Complete bucket upload) same none = missing_within (Versions ∷ Names ∷ []) name bucket (complete t upload) same none
  outcome_missing name (command.Abort bucket upload) same none = missing_at name bucket (abort t upload) same none
  outcome_missing name (command.Act bucket) same none = missing_at name bucket (act t) same none
  outcome_missing name other same none = absurd same

  -- the bucket is in its place with another account
  abbrev pub placed : List ℕ → Account → Office
  placed name after = record p { accounts = with_name name after p.accounts }

  abbrev told_outcome : List ℕ → Change → Outcome
  told_outcome name (Ok done) = Ok (placed name done.0, done.1)
  told_outcome name (Err refusal) = Err refusal

  module _ (account : Account) where
    told_here : (name : List ℕ) (f : Account → Change) → at_name name p.accounts ≡ Some account → (told : Change) → f account ≡ told → on_bucket name f p ≡ told_outcome name told
    told_here name f there (Ok done) is = rw (there, is) refl
    told_here name f there (Err refusal) is = rw (there, is) refl

    told_at : (name bucket : List ℕ) (f : Account → Change) → name ≡ bucket → at_name name p.accounts ≡ Some account → on_bucket bucket f p ≡ told_outcome name (f account)
    told_at name bucket f same there = subst (λ (n : List ℕ). on_bucket n f p ≡ told_outcome name (f account)) same (told_here name f there (f account) refl)

    told_free : (name bucket : List ℕ) (f : Account → Change) → name ≡ bucket → at_name name p.accounts ≡ Some account → on_bucket bucket f p ≡ within_limits [] (told_outcome name (f account))
    told_free name bucket f same there = told_at name bucket f same there ∙ unlimited (told_outcome name (f account))

    told_within : (whats : List What) (name bucket : List ℕ) (f : Account → Change) → name ≡ bucket → at_name name p.accounts ≡ Some account
        → within_limits whats (on_bucket bucket f p) ≡ within_limits whats (told_outcome name (f account))
    told_within whats name bucket f same there = ap (within_limits whats) (told_at name bucket f same there)

    adds_here : (name bucket : List ℕ) → name ≡ bucket → at_name name p.accounts ≡ Some account → adds_marker bucket p ≡ not (is_unversioned account.bucket.versioning)
    adds_here name bucket same there = let found = subst (λ (n : List ℕ). at_name n p.accounts ≡ Some account) same there in rw found refl

    limits_here : (name bucket : List ℕ) → name ≡ bucket → at_name name p.accounts ≡ Some account
        → cond (adds_marker bucket p) (Versions ∷ Names ∷ []) (Names ∷ []) ≡ cond (is_unversioned account.bucket.versioning) (Names ∷ []) (Versions ∷ Names ∷ [])
    limits_here name bucket same there =
        ap (λ (b : Bool). cond b (Versions ∷ Names ∷ []) (Names ∷ [])) (adds_here name bucket same there)
        ∙ swapped (is_unversioned account.bucket.versioning) (Versions ∷ Names ∷ []) (Names ∷ [])

    outcome_there : (name : List ℕ) (asked : Command) → IsOnBucket name asked → at_name name p.accounts ≡ Some account
        → outcome t asked p ≡ within_limits (limits_of asked account.bucket) (told_outcome name (change_of t asked account))
    unfolding outcome
    outcome_there name (command.SetVersioning bucket enabled) same there = told_free name bucket (set_versioning t enabled) same there
    outcome_there name (command.SetRules bucket rules) same there = told_within (Rules ∷ []) name bucket (set_rules t rules) same there
    outcome_there name (command.DropRules bucket) same there = told_free name bucket (drop_rules t) same there
    outcome_there name (command.Put bucket key size class tags) same there = told_within (Versions ∷ Names ∷ []) name bucket (put_object t key size class tags) same there
    outcome_there name (command.Delete bucket key) same there =
        told_within (cond (adds_marker bucket p) (Versions ∷ Names ∷ []) (Names ∷ [])) name bucket (delete t key) same there
        ∙ ap (λ (whats : List What). within_limits whats (told_outcome name (delete t key account))) (limits_here name bucket same there)
    outcome_there name (command.DeleteVersion bucket key id) same there = told_free name bucket (delete_version t key id) same there
    outcome_there name (command.SetTags bucket key id tags) same there = told_within (Names ∷ []) name bucket (set_tags t key id tags) same there
    outcome_there name (command.StartUpload bucket key class tags) same there = told_within (Uploads ∷ Names ∷ []) name bucket (start_upload t key class tags) same there
    outcome_there name (command.PutPart bucket upload part size) same there = told_within (Parts ∷ []) name bucket (put_part t upload part size) same there
    outcome_there name (command.Complete bucket upload) same there = told_within (Versions ∷ Names ∷ []) name bucket (complete t upload) same there
    outcome_there name (command.Abort bucket upload) same there = told_free name bucket (abort t upload) same there
    outcome_there name (command.Act bucket) same there = told_free name bucket (act t) same there
    outcome_there name other same there = absurd same

  module _ (name : List ℕ) (asked : Command) (on : IsOnBucket name asked) where
    pub step_missing : at_name name p.accounts ≡ None → step t asked p ≡ (p, Err NoSuchBucket)
    unfolding step
    step_missing none = ap (settled t p) (outcome_missing name asked on none)

    module _ (account : Account) (there : at_name name p.accounts ≡ Some account) where
      outcome_told : (told : Change) → change_of t asked account ≡ told → outcome t asked p ≡ within_limits (limits_of asked account.bucket) (told_outcome name told)
      outcome_told told is = outcome_there account name asked on there ∙ ap (λ (c : Change). within_limits (limits_of asked account.bucket) (told_outcome name c)) is

      -- refused as it is told
      pub step_refused : (refusal : Refusal) → change_of t asked account ≡ Err refusal → step t asked p ≡ (p, Err refusal)
      unfolding step
      step_refused refusal is = ap (settled t p) (outcome_told (Err refusal) is)

      -- refused for a count
      pub step_full : (after : Account) (told : Reply) (what : What) → change_of t asked account ≡ Ok (after, told) → first_full (limits_of asked account.bucket) (placed name after) ≡ Some what
          → step t asked p ≡ (p, Err (Full what (limit_of what)))
      unfolding step
      step_full after told what is full =
          ap (settled t p) (outcome_told (Ok (after, told)) is ∙ ap (λ (o : Option What). unless_full o (placed name after, told)) full)

      settled_free : (after : Account) (told : Reply) → change_of t asked account ≡ Ok (after, told) → first_full (limits_of asked account.bucket) (placed name after) ≡ None
          → step t asked p ≡ settled t p (Ok (placed name after, told))
      unfolding step
      settled_free after told is free =
          ap (settled t p) (outcome_told (Ok (after, told)) is ∙ ap (λ (o : Option What). unless_full o (placed name after, told)) free)

      -- done
      pub step_done : (after : Account) (told : Reply) → change_of t asked account ≡ Ok (after, told)
          → first_full (limits_of asked account.bucket) (placed name after) ≡ None → is_accepted (Ok told) ≡ true
          → step t asked p ≡ (accepted t (placed name after), Ok told)
      step_done after told is free accepts = settled_free after told is free ∙ settled_ok (placed name after) told accepts

      -- nothing is due
      pub step_nothing : (after : Account) → change_of t asked account ≡ Ok (after, reply.NothingDue) → first_full (limits_of asked account.bucket) (placed name after) ≡ None
          → step t asked p ≡ (p, Ok reply.NothingDue)
      step_nothing after is free = settled_free after reply.NothingDue is free

  -- ---- a new bucket

  module _ (name : List ℕ) where
    abbrev pub made : Office
    made = record p { accounts = with_name name (new_account t) p.accounts }

    pub create_exists : is_some (at_name name p.accounts) ≡ true → step t (command.CreateBucket name) p ≡ (p, Err BucketExists)
    unfolding step outcome
    create_exists there = rw there refl

    create_told : is_some (at_name name p.accounts) ≡ false → (o : Option What) → first_full (Buckets ∷ []) made ≡ o
        → step t (command.CreateBucket name) p ≡ settled t p (unless_full o (made, reply.BucketMade name))
    unfolding step outcome
    create_told there o is = rw there (ap (λ (o : Option What). settled t p (unless_full o (made, reply.BucketMade name))) is)

    pub create_full : is_some (at_name name p.accounts) ≡ false → (what : What) → first_full (Buckets ∷ []) made ≡ Some what
        → step t (command.CreateBucket name) p ≡ (p, Err (Full what (limit_of what)))
    create_full there what full = create_told there (Some what) full

    pub create_made : is_some (at_name name p.accounts) ≡ false → first_full (Buckets ∷ []) made ≡ None
        → step t (command.CreateBucket name) p ≡ (accepted t made, Ok (reply.BucketMade name))
    create_made there free = create_told there None free

  -- ---- the prices

  module _ (tariff : Prices) where
    abbrev pub priced : Office
    priced = record p { tariffs = with_tariff tariff p.tariffs }

    tariff_told : (o : Option What) → first_full (Tariffs ∷ []) priced ≡ o
        → step t (command.SetTariff tariff) p ≡ settled t p (unless_full o (priced, reply.TariffSet))
    unfolding step outcome
    tariff_told o is = ap (λ (o : Option What). settled t p (unless_full o (priced, reply.TariffSet))) is

    pub tariff_full : (what : What) → first_full (Tariffs ∷ []) priced ≡ Some what → step t (command.SetTariff tariff) p ≡ (p, Err (Full what (limit_of what)))
    tariff_full what full = tariff_told (Some what) full

    pub tariff_set : first_full (Tariffs ∷ []) priced ≡ None → step t (command.SetTariff tariff) p ≡ (accepted t priced, Ok reply.TariffSet)
    tariff_set free = tariff_told None free
