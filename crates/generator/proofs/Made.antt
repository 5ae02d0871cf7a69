-- What the desk answers to the commands of a load, and to what is asked of its buckets.
use Rattle.std.proofs.Common.{◌≡◌, ℕ, suc, ◌+◌, ◌*◌, ◌-◌, ◌^◌, ◌<◌, ◌≤◌, min, false, List, [], ◌∷◌, Option, Some, None, Result, Ok, Err, refl, ap, sym, ◌∙◌, subst, arith, inl, inr, length-append}
use Rattle.std.specs.Prelude.{IsSomeAnd, IfOk, OnOk}
use Rattle.std.specs.Option.{ok_or}
use Rattle.std.specs.Io.KnownBytes.{Appends}
use Rattle.moments.specs.Time.{end_of_time}
use Rattle.office_base.specs.Maps.{at_name}
use Rattle.office_base.specs.Results.{◌>>=◌}
use Rattle.disk_core.specs.contracts.memory.MemoryDiskDisk.TheImpl as memory
use Rattle.disk_core.specs.declared.memory.MemoryDisk.{MemoryDisk}
use Rattle.office_types.specs.declared.command.Ask.{Ask}
use Rattle.office_types.specs.declared.command.Ask.TheVariants as ask
use Rattle.office_types.specs.declared.command.Command.{Command}
use Rattle.office_types.specs.declared.command.Query.TheVariants as query
use Rattle.office_types.specs.declared.command.Entry.{Entry}
use Rattle.office_types.specs.declared.reply.Reply.{Reply}
use Rattle.office_types.specs.declared.reply.Reply.TheVariants.{NothingDue}
use Rattle.office_types.specs.declared.refusal.Refusal.{Refusal}
use Rattle.office_types.specs.declared.refusal.Refusal.TheVariants.{NoSuchBucket}
use Rattle.office_types.specs.Entries.{entry_at}
use Rattle.plain_office.specs.Office.{Office, Account}
use Rattle.plain_office.specs.Counts.{version_count}
use Rattle.plain_office.specs.Answers.{answer, bucket_shown}
use Rattle.plain_office.specs.Step.{step, is_accepted}
use Rattle.plain_office.specs.Run.{run}
use Rattle.plain_office.proofs.Runs.{step_plain}
use Rattle.meter_journal.specs.History.{header, end_gate}
use Rattle.desk_core.specs.Answers.{Answer}
use Rattle.desk_core.specs.Calls.{moment_after, GrowsBy, IsAnswered}
use Rattle.desk_core.specs.Desk.{DeskView}
use Rattle.generator.specs.Drafts.{name_of}
use Rattle.generator.specs.Places.{place_after}
use Rattle.generator.specs.Clocks.{moments_told}
use Rattle.generator.specs.Generated.{Progress, noted, after_entry, progress, tally}
use Rattle.generator.specs.Working.{HoldsSoundly, IsDeskAfter, AreAnswers, AreKept, IsCounted, counted_in, upload_count, counts_of, shown_in}
use Rattle.generator.specs.declared.clock.PlaceClock.{PlaceClock}
use Rattle.generator.specs.declared.work.AnswerCounts.{AnswerCounts}
use Rattle.generator.specs.declared.work.Kept.{Kept}
use Rattle.generator.specs.declared.tally.Tally.{Tally}
use Rattle.generator.proofs.PlaceLemmas.{within_after}
use Rattle.generator.proofs.ClockLemmas.{tells}
use Rattle.generator.proofs.Buckets.{all_versions, all_uploads}
use Rattle.generator.proofs.Progress.{last_of, runs, last_within, last_before, entry_at_place, entry_moment, progress_next}

-- ---- the clock's number

-- the desk answered, and its clock told the moment of one command more
pub next_asked : {E : Type 0} (number told : ℕ) (history : List Entry) (question : Ask) (old new : DeskView MemoryDisk PlaceClock) (r : Result Answer E)
    → told < 2 ^ 33 → IsDeskAfter number told history old
    → IfOk r (λ said. (after : List Entry) × IsSomeAnd (run history) (λ office. IsAnswered old.limit question office said history after) × HoldsSoundly memory.ghosts after new)
    → OnOk r (new.stale ≡ false)
    → OnOk r (new.clock.place.made + 1 ≡ min (old.clock.place.made + 1 + 1) (2 ^ 64 - 1))
    → (new.clock.place.made + 1 < 2 ^ 64 - 1
    → IfOk r (λ said. Appends (Some (moments_told old.clock.number old.clock.place.made))
    (Some (moments_told new.clock.number new.clock.place.made)) (said.told ∷ [])))
    → IfOk r (λ said. (after : List Entry) × IsSomeAnd (run history) (λ office. IsAnswered old.limit question office said history after)
    × (said.told ≡ (place_after number (told + 1)).moment) × IsDeskAfter number (told + 1) after new)
next_asked number told history question old new (Err e) small s answers fresh once appends = tt
next_asked number told history question old new (Ok said) small s (after, answered, holds) fresh once appends =
    let more : new.clock.place.made ≡ suc old.clock.place.made = omega (arith, once, s.told_is, small) in
    let made : new.clock.place.made ≡ told + 1 = omega (arith, more, s.told_is) in
    let told_now = tells old.clock.number old.clock.place.made new.clock.number new.clock.place.made said.told more (appends (omega (arith, made, small))) in
    let next : suc old.clock.place.made ≡ told + 1 = omega (arith, s.told_is) in (
      after,
      answered,
      told_now.1 ∙ ap (λ (n : ℕ). (place_after n (suc old.clock.place.made)).moment) s.number_is ∙ ap (λ (n : ℕ). (place_after number n).moment) next,
      record { holds = holds; fresh = fresh; number_is = told_now.0 ∙ s.number_is; told_is = made },
    )

-- ---- the moment of a call

some_and : {X : Type 0} (P : X → Type 0) (o : Option X) (x : X) → o ≡ Some x → IsSomeAnd o P → P x
some_and {X = X} P o x is holds = subst (λ (y : Option X). IsSomeAnd y P) is holds

at_told : (t : ℕ) (office : Office) → last_of office ≤ t → moment_after t office.last ≡ t
at_told t office small = omega (arith, small)

-- ---- a command more

grown_by : (p : Progress) (e : Entry) (office : Office) (reply : Result Reply Refusal) (after : List Entry) → GrowsBy (is_accepted reply) e p.accepted after → after ≡ (noted p e office reply).accepted
grown_by p e office (Err refusal) after (inl (made, is)) = absurd cc
grown_by p e office (Err refusal) after (inr (not, is)) = is
grown_by p e office (Ok NothingDue) after (inl (made, is)) = absurd cc
grown_by p e office (Ok NothingDue) after (inr (not, is)) = is
grown_by p e office (Ok reply) after (inl (made, is)) = is
grown_by p e office (Ok reply) after (inr (not, is)) = absurd cc

grown : (p : Progress) (e : Entry) (after : List Entry) → GrowsBy (is_accepted (step e.moment e.command p.office).1) e p.accepted after → after ≡ (after_entry p e).accepted
unfolding after_entry
grown p e after grows = grown_by p e (step e.moment e.command p.office).0 (step e.moment e.command p.office).1 after grows

-- the reply to the command after as many
abbrev pub reply_at : ℕ → ℕ → Result Reply Refusal
reply_at number n = let e = entry_at_place number n in (step e.moment e.command (progress number n).office).1

-- the desk's answer to it, and the entries that were accepted then
pub one_more : (number n limit : ℕ) (said : Answer) (command : Command) (after : List Entry) → said.told ≡ (place_after number (n + 1)).moment → command ≡ (entry_at_place number n).command
    → IsSomeAnd (run (progress number n).accepted) (λ office. IsAnswered limit (ask.Command command) office said (progress number n).accepted after)
    → (said.reply ≡ reply_at number n) × (after ≡ (progress number (suc n)).accepted)
one_more number n limit said command after told is some =
    let e = entry_at_place number n in
    let p = progress number n in
    let answered = some_and (λ (office : Office). IsAnswered limit (ask.Command command) office said p.accepted after) (run p.accepted) p.office (runs number n) some in
    let same : n + 1 ≡ suc n = omega arith in
    let at : said.told ≡ e.moment = told ∙ ap (λ (m : ℕ). (place_after number m).moment) same ∙ sym (entry_moment number n) in
    let small : last_of p.office ≤ said.told = omega (arith, at, entry_moment number n, last_before number n) in
    let moment : said.moment ≡ e.moment = answered.moment ∙ at_told said.told p.office small ∙ at in
    let below : said.moment < end_of_time = omega (arith, moment, entry_moment number n, within_after number (suc n)) in
    let reply = answered.reply below in
    let replied : said.reply ≡ reply_at number n = reply.told ∙ ap (λ (x : Office × Result Reply Refusal). x.1) (step_plain said.moment command p.office) ∙ ap (λ (t : ℕ). (step t command p.office).1) moment ∙ ap (λ (c : Command). (step e.moment c p.office).1) is in
    let entry : entry_at said.moment command ≡ e = ap (λ (t : ℕ). entry_at t command) moment ∙ ap (λ (c : Command). entry_at e.moment c) is in
    let grows : GrowsBy (is_accepted (reply_at number n)) e p.accepted after =
    subst (λ (r : Result Reply Refusal). GrowsBy (is_accepted r) e p.accepted after) replied (subst (λ (x : Entry). GrowsBy (is_accepted said.reply) x p.accepted after) entry reply.grows) in
    (replied, grown p e after grows ∙ ap (λ (x : Progress). x.accepted) (sym (progress_next number n)))

-- and how it is counted
noted_by : (answers new : AnswerCounts) (p : Progress) (e : Entry) (office : Office) (reply : Result Reply Refusal)
    → AreAnswers answers p → IsCounted answers reply new → AreAnswers new (noted p e office reply)
noted_by answers new p e office (Err refusal) are is = record {
  accepted = ap (λ (a : AnswerCounts). a.accepted) is ∙ are.accepted;
  refused = ap (λ (a : AnswerCounts). a.refused) is ∙ ap (λ (n : ℕ). n + 1) are.refused;
  nothing = ap (λ (a : AnswerCounts). a.nothing) is ∙ are.nothing;
}
noted_by answers new p e office (Ok NothingDue) are is = record {
  accepted = ap (λ (a : AnswerCounts). a.accepted) is ∙ are.accepted;
  refused = ap (λ (a : AnswerCounts). a.refused) is ∙ are.refused;
  nothing = ap (λ (a : AnswerCounts). a.nothing) is ∙ ap (λ (n : ℕ). n + 1) are.nothing;
}
noted_by answers new p e office (Ok reply) are is = record {
  accepted = ap (λ (a : AnswerCounts). a.accepted) is ∙ ap (λ (n : ℕ). n + 1) are.accepted ∙ sym (length-append p.accepted (e ∷ []));
  refused = ap (λ (a : AnswerCounts). a.refused) is ∙ are.refused;
  nothing = ap (λ (a : AnswerCounts). a.nothing) is ∙ are.nothing;
}

noted_next : (answers new : AnswerCounts) (p : Progress) (e : Entry) → AreAnswers answers p → IsCounted answers (step e.moment e.command p.office).1 new → AreAnswers new (after_entry p e)
unfolding after_entry
noted_next answers new p e are is = noted_by answers new p e (step e.moment e.command p.office).0 (step e.moment e.command p.office).1 are is

pub noted_more : (number n : ℕ) (answers new : AnswerCounts) (reply : Result Reply Refusal) → reply ≡ reply_at number n → AreAnswers answers (progress number n) → IsCounted answers reply new
    → AreAnswers new (progress number (suc n))
noted_more number n answers new reply replied are is =
    subst (λ (p : Progress). AreAnswers new p) (sym (progress_next number n))
    (noted_next answers new (progress number n) (entry_at_place number n) are (subst (λ (r : Result Reply Refusal). IsCounted answers r new) replied is))

-- ---- what is asked of a bucket

shown_of : (bucket : ℕ) (o : Option Account) → shown_in (ok_or o NoSuchBucket >>= λ account. Ok (bucket_shown (name_of bucket) account))
    ≡ (counts_of version_count o, counts_of upload_count o)
shown_of bucket None = refl
shown_of bucket (Some account) = refl

shown_is : (t bucket : ℕ) (office : Office) → shown_in (answer t (query.Bucket (name_of bucket)) office) ≡ (counted_in version_count bucket office, counted_in upload_count bucket office)
unfolding answer
shown_is t bucket office = shown_of bucket (at_name (name_of bucket) office.accounts)

pub bucket_asked : (number n told limit bucket : ℕ) (said : Answer) (after : List Entry) → said.told ≡ (place_after number (told + 1)).moment
    → IsSomeAnd (run (progress number n).accepted) (λ office. IsAnswered limit (ask.Query (query.Bucket (name_of bucket))) office said (progress number n).accepted after)
    → (after ≡ (progress number n).accepted) × (shown_in said.reply ≡ (counted_in version_count bucket (progress number n).office, counted_in upload_count bucket (progress number n).office))
    × (said.position ≡ end_gate header (progress number n).accepted)
bucket_asked number n told limit bucket said after is some =
    let p = progress number n in
    let answered = some_and (λ (office : Office). IsAnswered limit (ask.Query (query.Bucket (name_of bucket))) office said p.accepted after) (run p.accepted) p.office (runs number n) some in
    let last : last_of p.office ≤ (place_after number n).moment = last_within number n in
    let below : said.moment < end_of_time = omega (arith, answered.moment, is, last, within_after number n, within_after number (told + 1)) in
    let reply = answered.reply below in (
      reply.1,
      ap shown_in reply.0 ∙ shown_is said.moment bucket p.office,
      answered.position ∙ ap (end_gate header) reply.1,
    )

-- ---- the buckets, one after another

-- the desk was asked what the first buckets hold, this many
pub record Keeps (bucket : ℕ) (first desk : DeskView MemoryDisk PlaceClock) (kept : Kept) : Type 0 where
  pub small : kept.versions + kept.uploads ≤ bucket * 2 ^ 33
  pub stands : (number made : ℕ) → made < 2 ^ 32 → IsDeskAfter number made (progress number made).accepted first
      → IsDeskAfter number (made + bucket) (progress number made).accepted desk × AreKept bucket (progress number made) kept

told_at : (number n m : ℕ) (history : List Entry) (desk : DeskView MemoryDisk PlaceClock) → n ≡ m → IsDeskAfter number n history desk → IsDeskAfter number m history desk
told_at number n m history desk is s = subst (λ (k : ℕ). IsDeskAfter number k history desk) is s

-- what the desk of a load answers to a question
abbrev pub AnswersNext : DeskView MemoryDisk PlaceClock → Ask → Answer → DeskView MemoryDisk PlaceClock → Type 0
AnswersNext old question said new =
    (number told : ℕ) (history : List Entry) → told < 2 ^ 33 → IsDeskAfter number told history old
    → (after : List Entry) × IsSomeAnd (run history) (λ office. IsAnswered old.limit question office said history after)
    × (said.told ≡ (place_after number (told + 1)).moment) × IsDeskAfter number (told + 1) after new

pub keeps_next : (bucket : ℕ) (first desk new : DeskView MemoryDisk PlaceClock) (kept more : Kept) (name : List ℕ) (said : Answer) → bucket < 4 → name ≡ name_of bucket
    → Keeps bucket first desk kept → AnswersNext desk (ask.Query (query.Bucket name)) said new
    → more.versions ≡ kept.versions + (shown_in said.reply).0 → more.uploads ≡ kept.uploads + (shown_in said.reply).1 → more.position ≡ said.position
    → more.versions + more.uploads ≤ kept.versions + kept.uploads + 2 ^ 33 → Keeps (bucket + 1) first new more
keeps_next bucket first desk new kept more name said below is keeps answers versions uploads position small = record {
  small = omega (arith, keeps.small, small);
  stands = λ number made few s.
      let before = keeps.stands number made few s in
      let p = progress number made in
      let told = answers number (made + bucket) p.accepted (omega (arith, few, below)) before.0 in
      let found = bucket_asked number made (made + bucket) desk.limit bucket said told.0 told.2
      (subst (λ (n : List ℕ). IsSomeAnd (run p.accepted) (λ office. IsAnswered desk.limit (ask.Query (query.Bucket n)) office said p.accepted told.0)) is told.1) in
      let here : IsDeskAfter number (made + bucket + 1) p.accepted new = subst (λ (h : List Entry). IsDeskAfter number (made + bucket + 1) h new) found.0 told.3 in
      let v : (shown_in said.reply).0 ≡ counted_in version_count bucket p.office = ap (λ (x : ℕ × ℕ). x.0) found.1 in
      let u : (shown_in said.reply).1 ≡ counted_in upload_count bucket p.office = ap (λ (x : ℕ × ℕ). x.1) found.1 in
      let one : bucket + 1 ≡ suc bucket = omega arith in (
        told_at number (made + bucket + 1) (made + (bucket + 1)) p.accepted new (omega arith) here,
        record {
          versions = versions ∙ rw (before.1.versions, v, one) refl;
          uploads = uploads ∙ rw (before.1.uploads, u, one) refl;
          position = λ _. position ∙ found.2;
        },
      );
}

-- ---- the counts

abbrev counts_as : Tally → Tally
counts_as counts = counts

-- the counts of the commands that were made
pub counted_all : (number made : ℕ) (answers : AnswerCounts) (kept : Kept) → AreAnswers answers (progress number made) → AreKept 4 (progress number made) kept
    → counts_as (record {
      made = made;
      accepted = answers.accepted;
      refused = answers.refused;
      nothing = answers.nothing;
      versions = kept.versions;
      uploads = kept.uploads;
      journal = kept.position + 1;
    })
    ≡ tally number made
counted_all number made answers kept are holds =
    let end = holds.position (omega arith) in
    rw (are.accepted, are.refused, are.nothing, holds.versions, holds.uploads, end, all_versions number made, all_uploads number made) refl
