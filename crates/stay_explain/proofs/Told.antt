-- What the plain office does for each command on a bucket is what is planned.
use Rattle.std.proofs.Common.{ℕ, refl}
use Rattle.std.specs.Prelude.{None}
use Rattle.office_base.specs.Maps.{at_name}
use Rattle.stacks.specs.Stacks.{tags_at}
use Rattle.office_types.specs.declared.command.Command.{Command}
use Rattle.office_types.specs.declared.command.Command.TheVariants as command
use Rattle.office_types.specs.declared.refusal.Refusal.TheVariants.{NotEnabledBefore, NoRules, NoMemory}
use Rattle.plain_office.specs.Office.{Account}
use Rattle.plain_office.specs.Orderly.{HasOpenStays}
use Rattle.plain_office.specs.Step.{of_stack}
use Rattle.bucket_account.specs.Changing.{change_of}
use Rattle.stay_explain.specs.Plans.{plan_of}
use Rattle.stay_explain.proofs.Planning.{Tells, tells_ok, tells_err, tells_unless, tells_stack, tells_bound, tells_put, tells_delete, tells_delete_version, tells_part, tells_complete, tells_abort}
use Rattle.stay_explain.proofs.Planning.{tells_act}

-- ---- what is told of a command on a bucket is what is planned

pub plan_tells : (t : ℕ) (asked : Command) (account : Account) → HasOpenStays account → Tells (change_of t asked account) (plan_of t asked account.bucket) account.books.stays
unfolding plan_of
plan_tells t (command.SetVersioning name enabled) account has = tells_unless _ NotEnabledBefore _ None account.books.stays refl
plan_tells t (command.SetRules name rules) account has = tells_ok _ None account.books.stays refl
plan_tells t (command.DropRules name) account has = tells_unless _ NoRules _ None account.books.stays refl
plan_tells t (command.Put name key size class tags) account has = tells_put t account has key size class tags
plan_tells t (command.Delete name key) account has = tells_delete t account has key
plan_tells t (command.DeleteVersion name key id) account has = tells_delete_version t account has key id
plan_tells t (command.SetTags name key id tags) account has =
    tells_stack (at_name key account.bucket.stacks) _ None account.books.stays (λ s.
    tells_bound (of_stack (tags_at id s.versions)) _ None account.books.stays
    (λ before. tells_ok _ None account.books.stays refl))
plan_tells t (command.StartUpload name key class tags) account has = tells_ok _ None account.books.stays refl
plan_tells t (command.PutPart name upload part size) account has = tells_part t account has upload part size
plan_tells t (command.Complete name upload) account has = tells_complete t account has upload
plan_tells t (command.Abort name upload) account has = tells_abort t account has upload
plan_tells t (command.Act name) account has = tells_act t account has
plan_tells t (command.CreateBucket name) account has = tells_err NoMemory None account.books.stays
plan_tells t (command.SetTariff tariff) account has = tells_err NoMemory None account.books.stays
plan_tells t (command.Close month) account has = tells_err NoMemory None account.books.stays
