-- The kept replies of a history.
use Rattle.std.specs.Prelude.{◌≡◌, ℕ, Bool, false, not, List, ◌∷◌, ◌++◌, count_by, Option, Some, None, Ok}
use Rattle.std.specs.Str.{bytes_eq}
use Rattle.office_types.specs.declared.command.Entry.{Entry}
use Rattle.plain_office.specs.Office.{Office, KeptReply}
use Rattle.plain_office.specs.Run.{run}
use Rattle.plain_office.specs.Step.{step}

-- the entry carries a token other than this one
abbrev pub carries_other : List ℕ → Entry → Bool
carries_other token entry = is_other entry.token where
  is_other : Option (List ℕ) → Bool
  is_other None = false
  is_other (Some other) = not (bytes_eq token other)

-- how many entries carry another token
abbrev pub other_tokens : List ℕ → List Entry → ℕ
other_tokens token entries = count_by (carries_other token) entries

-- the kept reply is the one that an entry of the history with its token got
pub record IsReplyIn (entries : List Entry) (kept : KeptReply) : Type 0 where
  pub front : List Entry
  pub entry : Entry
  pub back : List Entry
  pub there : entries ≡ front ++ entry ∷ back
  pub before : Office
  pub run_before : run front ≡ Some before
  pub token : entry.token ≡ Some kept.token
  pub command : entry.command ≡ kept.command
  pub reply : (step entry.moment entry.command before).1 ≡ Ok kept.reply
