-- A command that carries a token is done once: sent again with its token, it gets its first reply.
use Rattle.std.specs.Prelude.{ℕ, ◌-◌, List, [], ◌∷◌, ◌++◌, length, drop, find, Option, Some, None, Result, Ok, Err, if◌then◌else◌}
use Rattle.std.specs.Str.{bytes_eq}
use Rattle.office_types.specs.Commands.{kind_of, same_command}
use Rattle.office_types.specs.declared.command.Command.{Command}
use Rattle.office_types.specs.declared.reply.Reply.{Reply}
use Rattle.office_types.specs.declared.reply.Reply.TheVariants.{NothingDue}
use Rattle.office_types.specs.declared.refusal.Refusal.{Refusal}
use Rattle.office_types.specs.declared.refusal.Refusal.TheVariants.{TokenReused}
use Rattle.plain_office.specs.Office.{Office, KeptReply}
use Rattle.plain_office.specs.Step.{step}

-- ---- the kept replies

-- how many replies are kept (own)
abbrev pub most_kept : ℕ
most_kept = 10_000

-- the newest of these replies, up to that number
abbrev pub newest : List KeptReply → List KeptReply
newest kept = drop (length kept - most_kept) kept

-- the replies with one more; if there are then too many, the oldest is dropped
abbrev pub with_reply : KeptReply → List KeptReply → List KeptReply
with_reply reply kept = newest (kept ++ reply ∷ [])

-- the reply that is kept under a token
abbrev pub kept_at : List ℕ → List KeptReply → Option KeptReply
kept_at token kept = find (λ one. bytes_eq token one.token) kept

-- the reply that is kept under the token of a command; none if it has no token
abbrev pub kept_for : Option (List ℕ) → Office → Option KeptReply
kept_for None office = None
kept_for (Some token) office = kept_at token office.kept

-- ---- a step

-- the same command gets its first reply again; another command is refused (own)
abbrev pub repeated : KeptReply → Command → Result Reply Refusal
repeated kept command =
    if same_command kept.command command then Ok kept.reply else Err (TokenReused (kind_of kept.command))

-- the reply that is recalled for a command; none if none is kept under its token
abbrev pub recalled : Option KeptReply → Command → Result (Option Reply) Refusal
recalled None command = Ok None
recalled (Some kept) command =
    if same_command kept.command command then Ok (Some kept.reply) else Err (TokenReused (kind_of kept.command))

-- the reply to an accepted command is kept under its token, if it has one
abbrev pub keeping : Option (List ℕ) → Command → Office × Result Reply Refusal → Office × Result Reply Refusal
keeping None command done = done
keeping (Some token) command (office, Err refusal) = (office, Err refusal)
keeping (Some token) command (office, Ok NothingDue) = (office, Ok NothingDue)
keeping (Some token) command (office, Ok reply) = (
  record office { kept = with_reply (record { token = token; command = command; reply = reply }) office.kept },
  Ok reply,
)

-- the office after a command at this moment, with or without a token, and the answer. The moment must not be before the
-- last one, and must be below the end of time.
unfoldable pub step_with : ℕ → Option (List ℕ) → Command → Office → Office × Result Reply Refusal
step_with t token command office = asked (kept_for token office) where
  asked : Option KeptReply → Office × Result Reply Refusal
  asked None = keeping token command (step t command office)
  asked (Some kept) = (office, repeated kept command)
