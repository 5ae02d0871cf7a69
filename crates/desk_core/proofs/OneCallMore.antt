-- A disk that serves a list of calls serves it with one call more.
use Rattle.std.proofs.Common.{◌≡◌, ◌⊎◌, inl, inr, ⊎_elim, ℕ, zero, suc, ◌+◌, ◌<◌, ◌≤◌, Bool, true, ◌&&◌, List, [], ◌∷◌, ◌++◌, take, length, Option, Some, None, Result, Ok, Err}
use Rattle.std.proofs.Common.{refl, sym, ◌∙◌, ap, subst, arith, append_assoc, length-append}
use Rattle.std.specs.Prelude.{IsSomeAnd}
use Rattle.std.proofs.lemmas.Bool.{cases_lt}
use Rattle.std.proofs.lemmas.List.{take-append-le, take_all, append-nil}
use Rattle.moments.specs.Time.{end_of_time}
use Rattle.disk_core.specs.declared.disk.Disk as disks
use Rattle.disk_core.specs.Files.{State, IsImage}
use Rattle.disk_core.specs.Moments.{KeepsTo}
use Rattle.disk_core.proofs.Laws.{DiskLaws}
use Rattle.disk_core.proofs.Time.{weakened}
use Rattle.plain_office.specs.Office.{Office}
use Rattle.plain_office.specs.Run.{is_new, run}
use Rattle.plain_office.specs.Step.{is_accepted}
use Rattle.office_types.specs.declared.command.Ask.{Ask}
use Rattle.office_types.specs.declared.command.Ask.TheVariants as ask
use Rattle.office_types.specs.declared.command.Entry.{Entry}
use Rattle.office_types.specs.declared.reply.Reply.{Reply}
use Rattle.office_types.specs.declared.refusal.Refusal.{Refusal}
use Rattle.meter_journal.specs.History.{header, end_gate}
use Rattle.desk_core.specs.declared.fault.DeskFault.{DeskFault}
use Rattle.desk_core.specs.declared.fault.DeskFault.TheVariants as faults
use Rattle.desk_core.specs.Answers.{Answer, Call}
use Rattle.desk_core.specs.Asked.{Asked, asked, entry_of}
use Rattle.desk_core.specs.Calls.{AreLegal, IsLegal, IsDone, IsReply, IsWritten, IsKeptAt, MayBeKept, GrowsBy, faults_after, moment_after}
use Rattle.desk_core.specs.Histories.{HasAcceptedHistory, HaveHistories, IsPrefixOf, IsPrefixButOne}
use Rattle.desk_core.specs.Serving.{IsAckedAt, IsToldBy, AreToldBy, Opened, Recoverable, Recovers, Agrees, DiskServes}

-- some image of the journal file has this history
pub record HasImageOf (s : State) (history : List Entry) : Type 0 where
  pub image : List ℕ
  pub is_image : IsImage s.journal image
  pub has : HasAcceptedHistory history image

-- the count of the last fault of the store that was told, and at first that of the opening
abbrev pub last_faults : ℕ → List Call → ℕ
last_faults told [] = told
last_faults told (call ∷ calls) = last_faults (faults_after told call.said) calls

module _ {D : Type 0} (d : disks.Ghosts D) where
  -- in a call each image has the history on which it settled, one from before, or what the call made of the settled one
  pub record InCall (old : D) (limit last : ℕ) (call : Call) (settled : List Entry) (s : State) : Type 0 where
    pub sound : HaveHistories s
    pub each : (image : List ℕ) (history : List Entry) → IsImage s.journal image → HasAcceptedHistory history image
        → HasImageOf (d.state old) history ⊎ AreLegal true limit last (call ∷ []) settled history

  -- the acknowledgement has the moment of the return, where all images have one history, which ends at its position
  abbrev pub IsKept : D → Result Answer DeskFault → Type 0
  IsKept new (Ok answer) =
      (answer.disk_moment ≡ d.moment new) × (entries : List Entry) × (end_gate header entries ≡ answer.position)
      × ((image : List ℕ) (history : List Entry) → IsImage (d.state new).journal image → HasAcceptedHistory history image → history ≡ entries)
  IsKept new (Err fault) = Unit {0}

  -- what a call does to the disk, as the plain office has it
  pub record Makes (old new : D) (limit last : ℕ) (call : Call) : Type 0 where
    pub settled : List Entry
    pub is_settled : HasImageOf (d.state old) settled
    pub run : KeepsTo d old new (InCall old limit last call settled)
    pub done : (image : List ℕ) (history : List Entry) → IsImage (d.state new).journal image → HasAcceptedHistory history image → AreLegal true limit last (call ∷ []) settled history
    pub kept : IsKept new call.said
    pub faults : (d.fault_count old ≤ d.fault_count new) × IsToldBy (d.fault_count new) call.said

-- ---- legal lists

pub legal_append : (honest : Bool) (limit faults : ℕ) (calls more : List Call) (a b c : List Entry) → AreLegal honest limit faults calls a b
    → AreLegal honest limit (last_faults faults calls) more b c → AreLegal honest limit faults (calls ++ more) a c
legal_append honest limit faults [] more a b c first second = subst (λ (h : List Entry). AreLegal honest limit faults more h c) first second
legal_append honest limit faults (call ∷ calls) more a b c first second =
    (first.0, first.1, legal_append honest limit (faults_after faults call.said) calls more first.0 b c first.2 second)

-- a call adds one entry, or none
abbrev Grows : List Entry → List Entry → Type 0
Grows before after = (after ≡ before) ⊎ ((entry : Entry) × (after ≡ before ++ entry ∷ []))

same_grows : (before after : List Entry) → after ≡ before → Grows before after
same_grows before after is = inl is

reply_grows : (accepted : Bool) (entry : Entry) (before after : List Entry) → GrowsBy accepted entry before after → Grows before after
reply_grows accepted entry before after (inl more) = inr (entry, more.1)
reply_grows accepted entry before after (inr same) = same_grows before after same.1

done_grows : (limit t : ℕ) (office : Office) (reply : Result Reply Refusal) (before after : List Entry) (call : Asked) → IsDone limit t call office reply before after → Grows before after
done_grows limit t office reply before after call is = reply_grows (is_new call.token office && is_accepted reply) (entry_of t call) before after is.grows

pub some_and : {X Q : Type 0} (o : Option X) (P : X → Type 0) → ((x : X) → P x → Q) → IsSomeAnd o P → Q
some_and None P f is = absurd is
some_and (Some x) P f is = f x is

asked_grows : (limit t : ℕ) (question : Ask) (office : Office) (reply : Result Reply Refusal) (before after : List Entry) → IsReply limit t question office reply before after → Grows before after
asked_grows limit t (ask.Command command) office reply before after is = done_grows limit t office reply before after _ is
asked_grows limit t (ask.Once token command) office reply before after is = done_grows limit t office reply before after _ is
asked_grows limit t (ask.Query query) office reply before after is = same_grows before after is.1

kept_grows_at : (t : ℕ) (question : Ask) (office : Office) (before after : List Entry) → IsKeptAt t question office before after → Grows before after
kept_grows_at t question office before after is =
    some_and (asked question) (λ call. IsWritten t call office before after) (λ call written. inr (entry_of t call, written.written)) is

kept_grows : (number : Option ℕ) (question : Ask) (office : Office) (before after : List Entry) → MayBeKept number question office before after → Grows before after
kept_grows (Some number) question office before after is = kept_grows_at (moment_after number office.last) question office before after is
kept_grows None question office before after is = absurd is

one_grows : (limit told : ℕ) (question : Ask) (said : Result Answer DeskFault) (office : Office) (before after : List Entry)
    → IsLegal true limit told question said office before after → Grows before after
one_grows limit told question (Ok answer) office before after is = elim (cases_lt answer.moment end_of_time) [
  | inl lt ↦ asked_grows limit answer.moment question office answer.reply before after (is.reply lt)
  | inr past ↦ same_grows before after (is.ended past).1
]
one_grows limit told question (Err (faults.StoreFault number count)) office before after is =
    ⊎_elim (λ same. same_grows before after same) (λ kept. kept_grows number question office before after kept) (is.2 refl)
one_grows limit told question (Err faults.JournalFull) office before after is = same_grows before after is.1
one_grows limit told question (Err (faults.Broken fault)) office before after is = absurd (is refl)
one_grows limit told question (Err faults.NoMemory) office before after is = same_grows before after is

pub call_grows : (limit faults : ℕ) (call : Call) (before after : List Entry) → AreLegal true limit faults (call ∷ []) before after → Grows before after
call_grows limit faults call before after is =
    some_and (run before) (λ office. IsLegal true limit faults call.ask call.said office before is.0)
    (λ office legal. subst (λ (h : List Entry). Grows before h) (sym is.2) (one_grows limit faults call.ask call.said office before is.0 legal)) is.1

begins_grown : (before after : List Entry) → Grows before after → IsPrefixOf before after
begins_grown before after (inl same) = ([], same ∙ sym (append-nil before))
begins_grown before after (inr more) = (more.0 ∷ [], more.1)

begins_then : (a b c : List Entry) → IsPrefixOf a b → IsPrefixOf b c → IsPrefixOf a c
begins_then a b c first second = (first.0 ++ second.0, second.1 ∙ ap (λ (l : List Entry). l ++ second.0) first.1 ∙ append_assoc a first.0 second.0)

-- calls leave the history that they began with, and what they added
pub calls_grow : (limit faults : ℕ) (calls : List Call) (before after : List Entry) → AreLegal true limit faults calls before after → IsPrefixOf before after
calls_grow limit faults [] before after is = ([], is ∙ sym (append-nil before))
calls_grow limit faults (call ∷ calls) before after is =
    begins_then before is.0 after (begins_grown before is.0 (call_grows limit faults call before is.0 (is.0, is.1, refl))) (calls_grow limit (faults_after faults call.said) calls is.0 after is.2)

but_one_then : (a b c : List Entry) → IsPrefixButOne a b → IsPrefixOf b c → IsPrefixButOne a c
but_one_then a b c (inl whole) more = inl (begins_then a b c whole more)
but_one_then a b c (inr (front, entry, is, whole)) more = inr (front, entry, is, begins_then front b c whole more)

grown_but_one : (before after : List Entry) (now : List Entry) → Grows before after → IsPrefixOf before now → IsPrefixButOne after now
grown_but_one before after now (inl same) begins = inl (subst (λ (l : List Entry). IsPrefixOf l now) (sym same) begins)
grown_but_one before after now (inr more) begins = inr (before, more.0, more.1, begins)

-- ---- places

acked_inside : (calls : List Call) (place : ℕ) (answer : Answer) → IsAckedAt calls place answer → place < length calls
acked_inside [] place answer is = absurd is
acked_inside (call ∷ calls) zero answer is = omega arith
acked_inside (call ∷ calls) (suc place) answer is = omega (arith, acked_inside calls place answer is)

pub acked_split : (calls : List Call) (call : Call) (place : ℕ) (answer : Answer) → IsAckedAt (calls ++ call ∷ []) place answer → IsAckedAt calls place answer ⊎ (call.said ≡ Ok answer)
acked_split [] call zero answer is = inr is
acked_split [] call (suc place) answer is = absurd is
acked_split (c ∷ calls) call zero answer is = inl is
acked_split (c ∷ calls) call (suc place) answer is = acked_split calls call place answer is

pub told_later : (said : Result Answer DeskFault) (before now : ℕ) → before ≤ now → IsToldBy before said → IsToldBy now said
told_later (Ok answer) before now le is = tt
told_later (Err (faults.StoreFault number count)) before now le is = omega (arith, le, is)
told_later (Err faults.JournalFull) before now le is = tt
told_later (Err (faults.Broken fault)) before now le is = tt
told_later (Err faults.NoMemory) before now le is = tt

pub told_more : (calls : List Call) (call : Call) (before now : ℕ) → before ≤ now → AreToldBy before calls → IsToldBy now call.said → AreToldBy now (calls ++ call ∷ [])
told_more [] call before now le all here = (here, tt)
told_more (c ∷ calls) call before now le all here = (told_later c.said before now le all.0, told_more calls call before now le all.1 here)

module _ {D : Type 0} {d : disks.Ghosts D} (laws : DiskLaws d) where
  abbrev Making : D → D → ℕ → ℕ → Call → Type 0
  Making = Makes d

  module _ (opened : Opened) (old new : D) (calls : List Call) (call : Call) (serves : DiskServes d opened old calls) (makes : Making old new opened.limit (last_faults opened.faults calls) call) where
    abbrev all : List Call
    all = calls ++ call ∷ []

    size : length all ≡ length calls + 1
    size = length-append calls (call ∷ [])

    first_calls : (k : ℕ) → k ≤ length calls → take k all ≡ take k calls
    first_calls k le = take-append-le k calls (call ∷ []) le

    abbrev Rule : List Call → List Entry → Type 0
    Rule list history = AreLegal true opened.limit opened.faults list opened.history history

    whole_of_old : (history : List Entry) → HasImageOf (d.state old) history → Rule calls history
    whole_of_old history has = serves.whole has.image history has.is_image has.has

    whole_of_new : (before history : List Entry) → HasImageOf (d.state old) before → AreLegal true opened.limit (last_faults opened.faults calls) (call ∷ []) before history → Rule all history
    whole_of_new before history has one = legal_append true opened.limit opened.faults calls (call ∷ []) opened.history before history (whole_of_old before has) one

    abbrev Last : ℕ
    Last = last_faults opened.faults calls

    whole_at_return : (image : List ℕ) (history : List Entry) → IsImage (d.state new).journal image → HasAcceptedHistory history image → Rule all history
    whole_at_return image history is stands = whole_of_new makes.settled history makes.is_settled (makes.done image history is stands)

    all_of_new : (history : List Entry) → Rule all history → Rule (take (length calls + 1) all) history
    all_of_new history rule = subst (λ (list : List Call). Rule list history) (sym (take_all (length calls + 1) all (omega (arith, size)))) rule

    -- nothing that was acknowledged later counts
    not_this : (answer : Answer) (t : ℕ) → t < d.moment new → call.said ≡ Ok answer → answer.disk_moment ≤ t → ⊥
    not_this answer t lt is le = let kept = subst (λ (said : Result Answer DeskFault). IsKept d new said) is makes.kept in omega (arith, kept.0, lt, le)

    in_old : (answer : Answer) (place t : ℕ) → t < d.moment new → IsAckedAt all place answer → answer.disk_moment ≤ t → IsAckedAt calls place answer
    in_old answer place t lt is le = ⊎_elim (λ old_one. old_one) (λ this. absurd (not_this answer t lt this le)) (acked_split calls call place answer is)

    recovers_old : (t : ℕ) (image : List ℕ) (history : List Entry) → t < d.moment new → HasAcceptedHistory history image → HasImageOf (d.state old) history → Recovers opened all t image
    recovers_old t image history lt stands has = record {
      history = history;
      has = stands;
      count = length calls;
      most = omega (arith, size);
      legal = subst (λ (list : List Call). Rule list history) (sym (first_calls (length calls) (omega arith) ∙ take_all (length calls) calls (omega arith))) (whole_of_old history has);
      acked = λ place answer is le. acked_inside calls place answer (in_old answer place t lt is le);
    }

    recovers_whole : (t : ℕ) (image : List ℕ) (history : List Entry) → HasAcceptedHistory history image → Rule all history → Recovers opened all t image
    recovers_whole t image history stands rule = record {
      history = history;
      has = stands;
      count = length calls + 1;
      most = omega (arith, size);
      legal = all_of_new history rule;
      acked = λ place answer is le. omega (arith, size, acked_inside all place answer is);
    }

    recovers_by : (t : ℕ) (image : List ℕ) (history : List Entry) → t < d.moment new → HasAcceptedHistory history image
        → HasImageOf (d.state old) history ⊎ AreLegal true opened.limit Last (call ∷ []) makes.settled history → Recovers opened all t image
    recovers_by t image history lt stands (inl has) = recovers_old t image history lt stands has
    recovers_by t image history lt stands (inr one) = recovers_whole t image history stands (whole_of_new makes.settled history makes.is_settled one)

    in_call : (t : ℕ) (s : State) (image : List ℕ) → t < d.moment new → IsImage s.journal image → InCall d old opened.limit Last call makes.settled s → Recovers opened all t image
    in_call t s image lt is call_has = let sound = call_has.sound image is in recovers_by t image sound.0 lt sound.1 (call_has.each image sound.0 is sound.1)

    from_old : (t : ℕ) (image : List ℕ) → t < d.moment new → Recovers opened calls t image → Recovers opened all t image
    from_old t image lt was = record {
      history = was.history;
      has = was.has;
      count = was.count;
      most = omega (arith, was.most, size);
      legal = subst (λ (list : List Call). Rule list was.history) (sym (first_calls was.count was.most)) was.legal;
      acked = λ place answer is le. was.acked place answer (in_old answer place t lt is le) le;
    }

    at_return : (t : ℕ) (image : List ℕ) → IsImage (d.state new).journal image → Recovers opened all t image
    at_return t image is = let sound = makes.run.now.sound image is in recovers_whole t image sound.0 sound.1 (whole_at_return image sound.0 is sound.1)

    left_now : (t : ℕ) (s : State) (image : List ℕ) → t ≤ d.moment new → d.moment new ≤ t → d.had_since new t s → IsImage s.journal image → Recovers opened all t image
    left_now t s image le ge had is =
        at_return t image (subst (λ (x : State). IsImage x.journal image) (laws.only_now new s (laws.since_earlier new (d.moment new) t s ge had)) is)

    left_before : (t : ℕ) (s : State) (image : List ℕ) → opened.moment ≤ t → t < d.moment new → d.had_since new t s → IsImage s.journal image → Recovers opened all t image
    left_before t s image since lt had is = elim (cases_lt (d.moment old) t) [
      | inl in_it ↦ in_call t s image lt is (makes.run.each s (laws.since_earlier new (d.moment old) t s (omega (arith, in_it)) had))
      | inr le ↦ ⊎_elim (λ was. from_old t image lt (serves.left t s image since le was is)) (λ now. in_call t s image lt is now) (makes.run.before t s le had)
    ]

    begins_in_call : (entries history : List Entry) → ((h : List Entry) → HasImageOf (d.state old) h → IsPrefixOf entries h)
        → HasImageOf (d.state old) history ⊎ AreLegal true opened.limit Last (call ∷ []) makes.settled history → IsPrefixOf entries history
    begins_in_call entries history of_old (inl has) = of_old history has
    begins_in_call entries history of_old (inr one) =
        begins_then entries makes.settled history (of_old makes.settled makes.is_settled) (begins_grown makes.settled history (call_grows opened.limit Last call makes.settled history one))

    agrees_still : (place : ℕ) (answer : Answer) → IsAckedAt calls place answer → Agrees d new answer
    agrees_still place answer is =
        let was = serves.agrees place answer is in
        let le = (serves.told place answer is).1 in
        let of_old : (history : List Entry) → HasImageOf (d.state old) history → IsPrefixOf was.entries history =
        λ history has. was.kept (d.state old) has.image history (laws.counts_now old answer.disk_moment le) has.is_image has.has in
        record {
          entries = was.entries;
          place = was.place;
          kept = λ s image history had is_image stands. ⊎_elim (λ before. was.kept s image history before is_image stands)
              (λ now. begins_in_call was.entries history of_old (now.each image history is_image stands)) (makes.run.before answer.disk_moment s le had);
        }

    -- ---- what is there stays, but for one entry

    old_but_one : (h b : List Entry) → HasImageOf (d.state old) h → HasImageOf (d.state old) b → IsPrefixButOne h b
    old_but_one h b has base =
        serves.steady (d.moment old) (d.state old) has.image h serves.later (omega arith) (laws.counts_now old (d.moment old) (omega arith))
        has.is_image has.has base.image b base.is_image base.has

    -- from what each history before the call begins with but for one, to the return
    but_one_at_return : (h now : List Entry) → ((b : List Entry) → HasImageOf (d.state old) b → IsPrefixButOne h b) → AreLegal true opened.limit Last (call ∷ []) makes.settled now → IsPrefixButOne h now
    but_one_at_return h now each done =
        but_one_then h makes.settled now (each makes.settled makes.is_settled) (begins_grown makes.settled now (call_grows opened.limit Last call makes.settled now done))

    but_one_in_call : (h now : List Entry) → HasImageOf (d.state old) h ⊎ AreLegal true opened.limit Last (call ∷ []) makes.settled h
        → AreLegal true opened.limit Last (call ∷ []) makes.settled now → IsPrefixButOne h now
    but_one_in_call h now (inl has) done = but_one_at_return h now (λ b base. old_but_one h b has base) done
    but_one_in_call h now (inr one) done =
        grown_but_one makes.settled h now (call_grows opened.limit Last call makes.settled h one) (begins_grown makes.settled now (call_grows opened.limit Last call makes.settled now done))

    steady_call : (s : State) (image : List ℕ) (h : List Entry) → InCall d old opened.limit Last call makes.settled s → IsImage s.journal image → HasAcceptedHistory h image
        → (image_now : List ℕ) (now : List Entry) → IsImage (d.state new).journal image_now → HasAcceptedHistory now image_now → IsPrefixButOne h now
    steady_call s image h has is stands image_now now is_now stands_now =
        but_one_in_call h now (has.each image h is stands) (makes.done image_now now is_now stands_now)

    steady_new : (t : ℕ) (s : State) (image : List ℕ) (h : List Entry) → opened.moment ≤ t → d.had_since new t s → IsImage s.journal image → HasAcceptedHistory h image
        → (image_now : List ℕ) (now : List Entry) → IsImage (d.state new).journal image_now → HasAcceptedHistory now image_now → IsPrefixButOne h now
    steady_new t s image h since had is stands image_now now is_now stands_now = elim (cases_lt (d.moment old) t) [
      | inl in_it ↦ steady_call s image h (makes.run.each s (laws.since_earlier new (d.moment old) t s (omega (arith, in_it)) had)) is stands image_now now is_now stands_now
      | inr le ↦ ⊎_elim
          (λ was. but_one_at_return h now
          (λ b base. serves.steady t s image h since le was is stands base.image b base.is_image base.has) (makes.done image_now now is_now stands_now))
          (λ in_it. steady_call s image h in_it is stands image_now now is_now stands_now) (makes.run.before t s le had)
    ]

    agrees_now : (answer : Answer) → call.said ≡ Ok answer → Agrees d new answer
    agrees_now answer is =
        let kept = subst (λ (said : Result Answer DeskFault). IsKept d new said) is makes.kept in
        record {
          entries = kept.1;
          place = kept.2;
          kept = λ s image history had is_image stands.
              let same = laws.only_now new s (laws.since_earlier new (d.moment new) answer.disk_moment s (omega (arith, kept.0)) had) in
              ([], kept.3 image history (subst (λ (x : State). IsImage x.journal image) same is_image) stands ∙ sym (append-nil kept.1));
        }

    recoverable_in : (s : State) → InCall d old opened.limit Last call makes.settled s → Recoverable opened all s
    recoverable_in s call_has image is =
        let sound = call_has.sound image is in
        ⊎_elim
        (λ has. (
          sound.0,
          length calls,
          sound.1,
          omega (arith, size),
          subst (λ (list : List Call). Rule list sound.0) (sym (first_calls (length calls) (omega arith) ∙ take_all (length calls) calls (omega arith))) (whole_of_old sound.0 has),
        ))
        (λ one. (sound.0, length calls + 1, sound.1, omega (arith, size), all_of_new sound.0 (whole_of_new makes.settled sound.0 makes.is_settled one)))
        (call_has.each image sound.0 is sound.1)

    pub recoverable : KeepsTo d old new (Recoverable opened all)
    recoverable = weakened (Recoverable opened all) makes.run recoverable_in

    pub one_more : DiskServes d opened new all
    one_more = record {
      later = omega (arith, serves.later, makes.run.later);
      left = λ t s image since le had is. elim (cases_lt t (d.moment new)) [
        | inl lt ↦ left_before t s image since lt had is
        | inr ge ↦ left_now t s image le ge had is
      ];
      agrees = λ place answer is. ⊎_elim (agrees_still place answer) (agrees_now answer) (acked_split calls call place answer is);
      whole = whole_at_return;
      steady = λ t s image h since le had is stands image_now now is_now stands_now. steady_new t s image h since had is stands image_now now is_now stands_now;
      told = λ place answer is. ⊎_elim
          (λ before. let was = serves.told place answer before in (was.0, omega (arith, was.1, makes.run.later)))
          (λ this. let kept = subst (λ (said : Result Answer DeskFault). IsKept d new said) this makes.kept in (omega (arith, kept.0, serves.later, makes.run.later), omega (arith, kept.0)))
          (acked_split calls call place answer is);
      faults = (omega (arith, serves.faults.0, makes.faults.0), told_more calls call (d.fault_count old) (d.fault_count new) makes.faults.0 serves.faults.1 makes.faults.1);
    }

  -- at the return of an opening whose disk has one history
  pub starts : (opened : Opened) (disk : D) → HaveHistories (d.state disk)
      → ((image : List ℕ) (history : List Entry) → IsImage (d.state disk).journal image → HasAcceptedHistory history image → history ≡ opened.history)
      → opened.moment ≡ d.moment disk → opened.faults ≡ d.fault_count disk → DiskServes d opened disk []
  starts opened disk sound one at counts = record {
    later = omega (arith, at);
    left = λ t s image since le had is.
        let here = subst (λ (x : State). IsImage x.journal image) (laws.only_now disk s (laws.since_earlier disk (d.moment disk) t s (omega (arith, since, at)) had)) is in
        let found = sound image here in
        record { history = found.0; has = found.1; count = 0; most = omega arith; legal = one image found.0 here found.1; acked = λ place answer none le. absurd none };
    agrees = λ place answer none. absurd none;
    whole = λ image history is stands. one image history is stands;
    steady = λ t s image h since le had is stands image_now now is_now stands_now.
        let here = subst (λ (x : State). IsImage x.journal image) (laws.only_now disk s (laws.since_earlier disk (d.moment disk) t s (omega (arith, since, at)) had)) is in
        inl ([], one image_now now is_now stands_now ∙ sym (one image h here stands) ∙ sym (append-nil h));
    told = λ place answer none. absurd none;
    faults = (omega (arith, counts), tt);
  }
