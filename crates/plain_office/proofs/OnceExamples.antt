-- Worked examples of commands that carry a token, computed.
use Rattle.std.specs.Prelude.{◌≡◌, ℕ, ◌+◌, List, [], ◌∷◌, refl, true, codes, map, Some, None, Result, Ok, Err}
use Rattle.moments.specs.Time.{day}
use Rattle.class_rules.specs.declared.class.Class.TheVariants as class
use Rattle.office_base.specs.declared.version_id.VersionId.TheVariants as id
use Rattle.office_types.specs.Commands.{same_command}
use Rattle.office_types.specs.Entries.{entry_at, entry_with}
use Rattle.office_types.specs.Kept.{reply_told, tells_marker, number_told}
use Rattle.office_types.specs.declared.command.Command.{Command}
use Rattle.office_types.specs.declared.command.Command.TheVariants as command
use Rattle.office_types.specs.declared.command.Entry.{Entry}
use Rattle.office_types.specs.declared.reply.Reply.{Reply}
use Rattle.office_types.specs.declared.reply.Reply.TheVariants as reply
use Rattle.office_types.specs.declared.refusal.Refusal.{Refusal}
use Rattle.office_types.specs.declared.refusal.Refusal.TheVariants as refusal
use Rattle.plain_office.specs.Office.{Office, KeptReply, empty_office}
use Rattle.plain_office.specs.Once.{step_with}
use Rattle.plain_office.specs.Run.{run}
use Rattle.plain_office.proofs.Examples.{to_compute, new_year, logs, a, put, ids_in}

-- the office after entries, of which some may be refused, and the answers on the way
abbrev after : Office → List Entry → Office
after office [] = office
after office (e ∷ es) = after (step_with e.moment e.token e.command office).0 es

abbrev answers : Office → List Entry → List (Result Reply Refusal)
answers office [] = []
answers office (e ∷ es) =
    (step_with e.moment e.token e.command office).1 ∷ answers (step_with e.moment e.token e.command office).0 es

-- the entry of a command with a token
abbrev once : ℕ → List ℕ → Command → Entry
once t token c = entry_with t (Some token) c

abbrev t1 : List ℕ
t1 = codes "t1"

abbrev t2 : List ℕ
t2 = codes "t2"

-- ---- repeated

-- a bucket is made once, whenever it is asked again, and the answer is the first one
abbrev twice : List Entry
twice = once new_year t1 (command.CreateBucket logs) ∷ once (new_year + day) t1 (command.CreateBucket logs) ∷ []

same_answer : answers empty_office twice ≡ Ok (reply.BucketMade logs) ∷ Ok (reply.BucketMade logs) ∷ []
unfolding to_compute same_command
same_answer = refl

-- the second time changes nothing, not even the last moment
made_once : after empty_office twice ≡ after empty_office (once new_year t1 (command.CreateBucket logs) ∷ [])
unfolding to_compute same_command
made_once = refl

-- and is no entry of a history
not_entered : run twice ≡ None
unfolding to_compute same_command
not_entered = refl

-- another command with the token is refused, with the kind of the first one
reused : answers empty_office (once new_year t1 (command.CreateBucket logs) ∷ once new_year t1 (command.CreateBucket (codes "other")) ∷ [])
    ≡ Ok (reply.BucketMade logs) ∷ Err (refusal.TokenReused 1) ∷ []
unfolding to_compute same_command
reused = refl

-- without its token, or with another one, the command is done again: here it is refused
not_again : answers (after empty_office twice) (entry_at new_year (command.CreateBucket logs) ∷ once new_year t2 (command.CreateBucket logs) ∷ [])
    ≡ Err refusal.BucketExists ∷ Err refusal.BucketExists ∷ []
unfolding to_compute same_command
not_again = refl

-- what is refused is not kept: the token stays new
not_kept : answers empty_office (once new_year t1 (put 1 class.Standard) ∷ once new_year t1 (command.CreateBucket logs) ∷ [])
    ≡ Err refusal.NoSuchBucket ∷ Ok (reply.BucketMade logs) ∷ []
unfolding to_compute same_command
not_kept = refl

-- ---- what a reply tells

-- a put in an Enabled bucket, a delete there, and both again after another put without a token
abbrev put_deleted : List Entry
put_deleted =
    once new_year t1 (put 1_000 class.Standard) ∷ once (new_year + 1) t2 (command.Delete logs a)
    ∷ entry_at (new_year + 2) (put 2_000 class.Standard) ∷ once (new_year + 3) t1 (put 1_000 class.Standard)
    ∷ once (new_year + 3) t2 (command.Delete logs a) ∷ []

abbrev enabled : Office
enabled = after empty_office (entry_at new_year (command.CreateBucket logs) ∷ entry_at new_year (command.SetVersioning logs true) ∷ [])

told_again : answers enabled put_deleted
    ≡ Ok (reply.Stored new_year (id.Number 1)) ∷ Ok (reply.Deleted (Some (id.Number 2)))
    ∷ Ok (reply.Stored (new_year + 2) (id.Number 3)) ∷ Ok (reply.Stored new_year (id.Number 1))
    ∷ Ok (reply.Deleted (Some (id.Number 2))) ∷ []
unfolding to_compute same_command
told_again = refl

three_versions : ids_in (after enabled put_deleted) ≡ id.Number 3 ∷ id.Number 2 ∷ id.Number 1 ∷ []
unfolding to_compute same_command
three_versions = refl

-- the replies are kept oldest first, and follow from what is kept of them
kept_tokens : map (λ (kept : KeptReply). kept.token) (after enabled put_deleted).kept ≡ t1 ∷ t2 ∷ []
unfolding to_compute same_command
kept_tokens = refl

followed : map (λ (kept : KeptReply). reply_told new_year (tells_marker kept.reply) (number_told kept.reply) kept.command)
    (after enabled put_deleted).kept ≡ map (λ (kept : KeptReply). kept.reply) (after enabled put_deleted).kept
unfolding to_compute same_command reply_told
followed = refl

-- the same size in another class is another command
other_class : answers enabled (once new_year t1 (put 1_000 class.Standard) ∷ once new_year t1 (put 1_000 class.Glacier) ∷ [])
    ≡ Ok (reply.Stored new_year (id.Number 1)) ∷ Err (refusal.TokenReused 5) ∷ []
unfolding to_compute same_command
other_class = refl
