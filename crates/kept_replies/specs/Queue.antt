-- The kept replies as contracts see them.
use Rattle.std.specs.Prelude.{◌≡◌, ℕ, ◌-◌, List, [], ◌∷◌, ◌++◌, length, drop, find, map, Option}
use Rattle.std.specs.Str.{bytes_eq}
use Rattle.office_types.specs.Kept.{reply_of}
use Rattle.office_types.specs.declared.command.Command.{Command}
use Rattle.office_types.specs.declared.kept.Kept.{Kept}
use Rattle.office_types.specs.Kept.{tells_marker, number_told}
use Rattle.office_types.specs.declared.reply.Reply.{Reply}
use Rattle.plain_office.specs.Office.{KeptReply}
use Rattle.plain_office.specs.Once.{most_kept}

-- the kept replies, oldest first; how many were dropped before them; and a held token with its command, whose reply is
-- not known yet
pub record ReplyQueue : Type 0 where
  pub queue : List Kept
  pub dropped : ℕ
  pub held : Option (List ℕ × Command)

-- a kept reply in the form of the plain office
abbrev pub plain_reply : Kept → KeptReply
plain_reply kept = record { token = kept.token; command = kept.command; reply = reply_of kept }

-- the kept replies in the form of the plain office
abbrev pub plain_replies : List Kept → List KeptReply
plain_replies queue = map plain_reply queue

-- the kept reply under a token
abbrev pub kept_in : List ℕ → List Kept → Option Kept
kept_in token queue = find (λ kept. bytes_eq token kept.token) queue

-- what is kept of a held command that was accepted at the moment with this reply
abbrev pub kept_of : ℕ → Reply → List ℕ × Command → Kept
kept_of t reply held = record {
  token = held.0;
  moment = t;
  marker = tells_marker reply;
  told = number_told reply;
  command = held.1;
}

-- the queue with one more; if there are then too many, the oldest is dropped
abbrev pub with_kept : Kept → List Kept → List Kept
with_kept kept queue = drop (length (queue ++ kept ∷ []) - most_kept) (queue ++ kept ∷ [])

-- its two kept parts are those of its reply
pub record IsTold (kept : Kept) : Type 0 where
  pub marker : kept.marker ≡ tells_marker (reply_of kept)
  pub told : kept.told ≡ number_told (reply_of kept)
