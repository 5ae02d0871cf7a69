-- Which replies and refusals a command on a bucket has.
use Rattle.std.proofs.Common.{◌≡◌, ◌⊎◌, inl, inr, ℕ, List, refl, ap, sym, ◌∙◌, subst, Bool, true, false, not, cond}
use Rattle.std.specs.Prelude.{Option, Some, None, Result, Ok, Err, IfOk}
use Rattle.std.specs.Option.{ok_or}
use Rattle.office_base.specs.declared.version_id.VersionId.TheVariants.{Null}
use Rattle.office_base.specs.Maps.{at_name, at_number}
use Rattle.office_base.specs.Results.{◌>>=◌}
use Rattle.rules_core.specs.Matching.{is_empty}
use Rattle.stacks.specs.Stacks.{found, tags_at}
use Rattle.stacks.specs.declared.refusal.StackRefusal.{StackRefusal}
use Rattle.stacks.specs.declared.refusal.StackRefusal.TheVariants as stack
use Rattle.stacks.specs.declared.version.Kind.TheVariants.{Marker}
use Rattle.stacks.specs.declared.version.Versioning.{Versioning}
use Rattle.stacks.specs.declared.version.Versioning.TheVariants.{Unversioned, Enabled, Suspended}
use Rattle.due_core.specs.Choice.{choice}
use Rattle.due_core.specs.declared.action.Action.{Action}
use Rattle.due_core.specs.Buckets.{BucketRecord}
use Rattle.plain_office.specs.Office.{Account}
use Rattle.plain_office.specs.Changes.{next_id, remove_version, add_version}
use Rattle.plain_office.specs.Step.{Change, refuse_if, is_accepted, has_stack, stack_in, upload_in, of_stack, delete, act}
use Rattle.office_types.specs.Fits.{RefusalFits}
use Rattle.office_types.specs.declared.command.Command.{Command}
use Rattle.office_types.specs.declared.command.Command.TheVariants as command
use Rattle.office_types.specs.declared.reply.Reply.{Reply}
use Rattle.office_types.specs.declared.reply.Reply.TheVariants.{NothingDue, Deleted}
use Rattle.office_types.specs.declared.refusal.Refusal.{Refusal}
use Rattle.office_types.specs.declared.refusal.Refusal.TheVariants.{MonthNotOver, NoSuchKey, NoSuchUpload}
use Rattle.office_types.specs.declared.refusal.What.{What}
use Rattle.bucket_account.specs.declared.change.Done.{Done}
use Rattle.bucket_account.specs.declared.counts.Counts.{Counts}
use Rattle.bucket_account.specs.Changing.{change_of, limits_of, DoesTold}
use Rattle.bucket_account.specs.Counting.{AccountRecord}

abbrev is_plain : Refusal → Bool
is_plain (MonthNotOver end) = false
is_plain other = true

-- an accepted reply, or a refusal that fits
abbrev pub told_is : Change → Bool
told_is (Ok done) = is_accepted (Ok done.1)
told_is (Err refusal) = is_plain refusal

abbrev error_is : {A : Type 0} → Result A Refusal → Bool
error_is (Ok x) = true
error_is (Err refusal) = is_plain refusal

then_is : {A : Type 0} (r : Result A Refusal) (f : A → Change) → error_is r ≡ true → ((x : A) → told_is (f x) ≡ true) → told_is (r >>= f) ≡ true
then_is (Ok x) f plain told = told x
then_is (Err refusal) f plain told = plain

unless_is : (test : Bool) (refusal : Refusal) (done : Account × Reply) → is_plain refusal ≡ true → is_accepted (Ok done.1) ≡ true → told_is (refuse_if test refusal done) ≡ true
unless_is true refusal done plain accepted = plain
unless_is false refusal done plain accepted = accepted

either_is : (test : Bool) (refusal : Refusal) (told : Change) → is_plain refusal ≡ true → told_is told ≡ true → told_is (cond test (Err refusal) told) ≡ true
either_is true refusal told plain is = plain
either_is false refusal told plain is = is

there_is : {A : Type 0} (o : Option A) (refusal : Refusal) → is_plain refusal ≡ true → error_is (ok_or o refusal) ≡ true
there_is None refusal plain = plain
there_is (Some x) refusal plain = refl

stack_is : {X : Type 0} (r : Result X StackRefusal) → error_is (of_stack r) ≡ true
stack_is (Ok x) = refl
stack_is (Err stack.NoSuchVersion) = refl
stack_is (Err stack.IsMarker) = refl

plain_fits : (refusal : Refusal) → is_plain refusal ≡ true → RefusalFits refusal
plain_fits (MonthNotOver end) is = absurd cc
plain_fits other is = tt

abbrev pub IsNoAct : Command → Type 0
IsNoAct (command.Act name) = ⊥
IsNoAct other = Unit {0}

-- an act may find nothing due, and leaves its account
abbrev pub FindsNothing : Account → Change → Type 0
FindsNothing account told = told ≡ Ok (account, NothingDue)

module _ (t : ℕ) (account : Account) where
  by_versioning : List ℕ → Versioning → Change
  by_versioning key Unversioned = refuse_if (not (has_stack key account)) NoSuchKey (remove_version key Null t account, Deleted None)
  by_versioning key Enabled = Ok (add_version key Marker t account, Deleted (Some (next_id account.bucket)))
  by_versioning key Suspended = Ok (add_version key Marker t account, Deleted (Some (next_id account.bucket)))

  deleted_by : (key : List ℕ) (versioning : Versioning) → told_is (by_versioning key versioning) ≡ true
  unfolding by_versioning
  deleted_by key Unversioned = unless_is (not (has_stack key account)) NoSuchKey (remove_version key Null t account, Deleted None) refl refl
  deleted_by key Enabled = refl
  deleted_by key Suspended = refl

  deleted_is : (key : List ℕ) → told_is (delete t key account) ≡ true
  unfolding by_versioning
  deleted_is key = deleted_by key account.bucket.versioning

  acted_is : (o : Option Action) → choice account.bucket t ≡ o → (told_is (act t account) ≡ true) ⊎ FindsNothing account (act t account)
  acted_is None is = inr (rw is refl)
  acted_is (Some action) is = inl (rw is refl)

  abbrev IsTold : Command → Type 0
  IsTold asked = told_is (change_of t asked account) ≡ true

  -- what is told of a command other than an act
  pub told_plain : (asked : Command) → IsNoAct asked → IsTold asked
  told_plain (command.SetVersioning name enabled) other_than = unless_is _ _ _ refl refl
  told_plain (command.DropRules name) other_than = unless_is _ _ _ refl refl
  told_plain (command.Delete name key) other_than = deleted_is key
  told_plain (command.DeleteVersion name key id) other_than =
      then_is (stack_in key account) _ (there_is (at_name key account.bucket.stacks) NoSuchKey refl)
      (λ stack. then_is (of_stack (found id stack.versions)) _ (stack_is (found id stack.versions)) (λ version. refl))
  told_plain (command.SetTags name key id tags) other_than =
      then_is (stack_in key account) _ (there_is (at_name key account.bucket.stacks) NoSuchKey refl)
      (λ stack. then_is (of_stack (tags_at id stack.versions)) _ (stack_is (tags_at id stack.versions)) (λ before. refl))
  told_plain (command.PutPart name number part size) other_than =
      then_is (upload_in number account) _ (there_is (at_number number account.bucket.uploads) NoSuchUpload refl)
      (λ upload. unless_is _ _ _ refl refl)
  told_plain (command.Complete name number) other_than =
      then_is (upload_in number account) _ (there_is (at_number number account.bucket.uploads) NoSuchUpload refl)
      (λ upload. either_is (is_empty upload.parts) _ _ refl refl)
  told_plain (command.Abort name number) other_than =
      then_is (upload_in number account) _ (there_is (at_number number account.bucket.uploads) NoSuchUpload refl)
      (λ upload. refl)
  told_plain (command.Act name) other_than = absurd other_than
  told_plain other other_than = refl

  -- what is told of a command
  pub told_or_nothing : (asked : Command) → (told_is (change_of t asked account) ≡ true) ⊎ FindsNothing account (change_of t asked account)
  told_or_nothing (command.Act name) = acted_is (choice account.bucket t) refl
  told_or_nothing other = inl (told_plain other tt)

-- ---- what was done as it is told

module _ (whats : List What) (before : Account) (counts : Counts) (after : AccountRecord) where
  accepted_done : (done : Done) (told : Account × Reply) → done.reply ≡ told.1 → is_accepted (Ok told.1) ≡ true → is_accepted (Ok done.reply) ≡ true
  accepted_done done told same is = ap (λ (r : Reply). is_accepted (Ok r)) same ∙ is

  -- its reply is not that nothing is due
  pub something_by : (told : Change) → told_is told ≡ true → (result : Result Done Refusal)
      → DoesTold whats told before counts after result → (P : Type 0)
      → IfOk result (λ done. done.reply ≡ NothingDue → P)
  something_by told is (Err refusal) h P = tt
  something_by (Err refused) is (Ok done) h P = absurd h
  something_by (Ok told) is (Ok done) h P = λ nothing.
      let accepted : is_accepted (Ok done.reply) ≡ true = accepted_done done told h.0 is in
      let not_it : is_accepted (Ok NothingDue) ≡ true = subst (λ (r : Reply). is_accepted (Ok r) ≡ true) nothing accepted in
      absurd cc

  -- a refusal fits
  pub refusal_fits : (told : Change) → (refusal : Refusal) → (told_is told ≡ true) ⊎ FindsNothing before told → DoesTold whats told before counts after (Err refusal) → RefusalFits refusal
  refusal_fits (Err refused) refusal (inl is) (inl wanting, same) = subst RefusalFits (sym wanting) tt
  refusal_fits (Err refused) refusal (inl is) (inr told, same) = subst RefusalFits (sym told) (plain_fits refused is)
  refusal_fits (Err refused) refusal (inr nothing) h = absurd cc
  refusal_fits (Ok told) refusal is (inl wanting, same) = subst RefusalFits (sym wanting) tt
  refusal_fits (Ok told) refusal is (inr full, same) = subst RefusalFits (sym full.full.2) tt

-- what a command is told is what the command is told that it is
pub as_asked : (t : ℕ) (bucket : BucketRecord) (before : Account) (counts : Counts) (after : AccountRecord) (result : Result Done Refusal) (asked command : Command) → asked ≡ command
    → DoesTold (limits_of command bucket) (change_of t command before) before counts after result → DoesTold (limits_of asked bucket) (change_of t asked before) before counts after result
as_asked t bucket before counts after result asked command same told =
    subst (λ (c : Command). DoesTold (limits_of c bucket) (change_of t c before) before counts after result) (sym same) told

-- a command other than an act has another reply than that nothing is due
pub something_done : (t : ℕ) (asked : Command) → IsNoAct asked → (whats : List What) (before : Account) (counts : Counts) (after : AccountRecord) (result : Result Done Refusal)
    → DoesTold whats (change_of t asked before) before counts after result → (P : Type 0) → IfOk result (λ done. done.reply ≡ NothingDue → P)
something_done t asked other_than whats before counts after result h P = something_by whats before counts after (change_of t asked before) (told_plain t before asked other_than) result h P
