-- Lists of calls that the plain office allows, from one history to another.
use Rattle.std.specs.Prelude.{◌≡◌, ◌⊎◌, ℕ, ◌+◌, ◌<◌, ◌≤◌, max, Bool, false, ◌&&◌, List, [], ◌∷◌, ◌++◌, length, Option, Some, None, Result, Ok, Err, IsTrue, IsSome, IsSomeAnd, unwrap_or}
use Rattle.office_base.specs.Faults.{Rose}
use Rattle.moments.specs.Time.{end_of_time}
use Rattle.office_types.specs.declared.command.Ask.{Ask}
use Rattle.office_types.specs.declared.command.Ask.TheVariants as ask
use Rattle.office_types.specs.declared.command.Entry.{Entry}
use Rattle.office_types.specs.declared.reply.Reply.{Reply}
use Rattle.office_types.specs.declared.refusal.Refusal.{Refusal}
use Rattle.office_types.specs.declared.refusal.Refusal.TheVariants.{ClockEnd}
use Rattle.plain_office.specs.Answers.{answer}
use Rattle.plain_office.specs.Office.{Office}
use Rattle.plain_office.specs.Once.{step_with}
use Rattle.plain_office.specs.Step.{is_accepted}
use Rattle.plain_office.specs.Run.{is_new, run}
use Rattle.entry_codec.specs.Spelling.{spelling}
use Rattle.meter_journal.specs.History.{header, end_gate}
use Rattle.desk_core.specs.Answers.{Answer, Call}
use Rattle.desk_core.specs.Asked.{Asked, asked, entry_of, IsFresh}
use Rattle.desk_core.specs.declared.fault.DeskFault.{DeskFault}
use Rattle.desk_core.specs.declared.fault.DeskFault.TheVariants as faults

-- the moment of a call: the later of the clock's number and the moment of the last accepted command (own: time does not
-- go back, whatever a clock tells)
abbrev pub moment_after : ℕ → Option ℕ → ℕ
moment_after told last = max told (unwrap_or last 0)

-- the command's frame, with the gate behind it, ends within the limit
abbrev pub FitsIn : ℕ → List Entry → Entry → Type 0
FitsIn limit history entry = end_gate header history + 6 + length (spelling entry) ≤ limit

-- the history grows by the command exactly where it is accepted
abbrev pub GrowsBy : Bool → Entry → List Entry → List Entry → Type 0
GrowsBy accepted entry before after =
    (IsTrue accepted × (after ≡ before ++ entry ∷ [])) ⊎ ((accepted ≡ false) × (after ≡ before))

-- the office's reply to a command at this moment. Where a reply is kept under its token, nothing is written; else its
-- frame fits
pub record IsDone (limit t : ℕ) (call : Asked) (office : Office) (reply : Result Reply Refusal)
    (before after : List Entry) : Type 0 where
  pub told : reply ≡ (step_with t call.token call.command office).1
  pub grows : GrowsBy (is_new call.token office && is_accepted reply) (entry_of t call) before after
  pub fits : IsFresh call office → FitsIn limit before (entry_of t call)

-- the same of an ask; a query changes nothing
abbrev pub IsReply : ℕ → ℕ → Ask → Office → Result Reply Refusal → List Entry → List Entry → Type 0
IsReply limit t (ask.Query query) office reply before after = (reply ≡ answer t query office) × (after ≡ before)
IsReply limit t question office reply before after =
    IsSomeAnd (asked question) (λ call. IsDone limit t call office reply before after)

-- An answer is the plain office's at the call's moment, and its position is the end of the journal then. From the end
-- of time on the answer to every ask is that the clock has ended, and nothing is done (own).
pub record IsAnswered (limit : ℕ) (question : Ask) (office : Office) (said : Answer) (before after : List Entry)
    : Type 0 where
  pub moment : said.moment ≡ moment_after said.told office.last
  pub reply : said.moment < end_of_time → IsReply limit said.moment question office said.reply before after
  pub ended : end_of_time ≤ said.moment → (said.reply ≡ Err (ClockEnd said.moment)) × (after ≡ before)
  pub position : said.position ≡ end_gate header after

-- the ask is a command, and no query
abbrev pub IsCommand : Ask → Type 0
IsCommand question = IsSome (asked question)

-- the office accepts the command at this moment, and it is written
pub record IsWritten (t : ℕ) (call : Asked) (office : Office) (before after : List Entry) : Type 0 where
  pub moment : t < end_of_time
  pub fresh : IsFresh call office
  pub accepted : IsTrue (is_accepted (step_with t call.token call.command office).1)
  pub written : after ≡ before ++ entry_of t call ∷ []

-- the same of an ask, which is no query
abbrev pub IsKeptAt : ℕ → Ask → Office → List Entry → List Entry → Type 0
IsKeptAt t question office before after = IsSomeAnd (asked question) (λ call. IsWritten t call office before after)

-- a command that the office accepts may have been kept though a fault was told; a call that read no clock kept
-- nothing
abbrev pub MayBeKept : Option ℕ → Ask → Office → List Entry → List Entry → Type 0
MayBeKept (Some told) question office before after =
    IsKeptAt (moment_after told office.last) question office before after
MayBeKept None question office before after = ⊥

-- no reply is kept under the command's token, and its frame does not fit; its size is the same at each moment
abbrev pub IsFull : ℕ → Ask → Office → List Entry → Type 0
IsFull limit question office before =
    IsSomeAnd (asked question) (λ call. IsFresh call office × (¬ FitsIn limit before (entry_of 0 call)))

-- A number of the clock stands in a fault of the store where a command was to be added. Without one the journal was to
-- be opened again, whatever was asked.
abbrev pub IsAsking : Option ℕ → Ask → Type 0
IsAsking (Some number) question = IsCommand question
IsAsking None question = Unit {0}

-- what a fault of the store leaves: the history as it was, or with the command; a disk that does not tell what it holds
-- may leave any
abbrev pub IsLeft : Bool → Option ℕ → Ask → Office → List Entry → List Entry → Type 0
IsLeft honest number question office before after =
    IsTrue honest → (after ≡ before) ⊎ MayBeKept number question office before after

-- This call is legal after this history. `counted` is the count of faults in the last `StoreFault`; before the first one it
-- is that at the opening. An honest disk has no broken journal.
abbrev pub IsLegal : Bool → ℕ → ℕ → Ask → Result Answer DeskFault → Office → List Entry → List Entry → Type 0
IsLegal honest limit counted question (Ok answer) office before after =
    IsAnswered limit question office answer before after
IsLegal honest limit counted question (Err (faults.StoreFault number count)) office before after =
    IsAsking number question × Rose counted count × IsLeft honest number question office before after
IsLegal honest limit counted question (Err faults.JournalFull) office before after =
    IsFull limit question office before × (after ≡ before)
IsLegal honest limit counted question (Err (faults.Broken fault)) office before after = IsTrue honest → ⊥
IsLegal honest limit counted question (Err faults.NoMemory) office before after = after ≡ before

-- the count of faults that was told last, after one more call
abbrev pub faults_after : ℕ → Result Answer DeskFault → ℕ
faults_after counted (Ok answer) = counted
faults_after counted (Err (faults.StoreFault number count)) = count
faults_after counted (Err faults.JournalFull) = counted
faults_after counted (Err (faults.Broken fault)) = counted
faults_after counted (Err faults.NoMemory) = counted

-- the calls in order, each on the history that the ones before it left
abbrev pub AreLegal : Bool → ℕ → ℕ → List Call → List Entry → List Entry → Type 0
AreLegal honest limit counted [] before after = after ≡ before
AreLegal honest limit counted (call ∷ calls) before after =
    (between : List Entry)
    × IsSomeAnd (run before) (λ office. IsLegal honest limit counted call.ask call.said office before between)
    × AreLegal honest limit (faults_after counted call.said) calls between after
