-- What a list of calls that is served allows besides: a disk with fewer images, a call that changes nothing, and more calls.
use Rattle.std.proofs.Common.{◌≡◌, inl, inr, ⊎_elim, ℕ, ◌≤◌, true, List, [], ◌∷◌, ◌++◌, take, length, Ok, sym, subst, arith, length-append}
use Rattle.std.proofs.lemmas.Bool.{cases_lt}
use Rattle.std.proofs.lemmas.List.{take-append-le}
use Rattle.disk_core.specs.declared.disk.Disk as disks
use Rattle.disk_core.specs.Files.{State, IsImage}
use Rattle.disk_core.specs.Moments.{KeepsTo}
use Rattle.disk_core.proofs.Laws.{DiskLaws}
use Rattle.disk_core.proofs.Time.{weakened}
use Rattle.office_types.specs.declared.command.Entry.{Entry}
use Rattle.desk_core.specs.Answers.{Answer, Call}
use Rattle.desk_core.specs.Calls.{AreLegal}
use Rattle.desk_core.specs.Histories.{HasAcceptedHistory, IsPrefixButOne}
use Rattle.desk_core.specs.Serving.{IsAckedAt, IsToldBy, AreToldBy, Opened, Recoverable, Recovers, Agrees, DiskServes}
use Rattle.desk_core.proofs.OneCallMore.{HasImageOf, last_faults, legal_append, acked_split, told_later, told_more}

pub told_all : (calls : List Call) (before now : ℕ) → before ≤ now → AreToldBy before calls → AreToldBy now calls
told_all [] before now le all = tt
told_all (call ∷ calls) before now le all = (told_later call.said before now le all.0, told_all calls before now le all.1)

-- each image of the journal file is one that it had at first
abbrev pub HasFewer : State → State → Type 0
HasFewer first s = (image : List ℕ) → IsImage s.journal image → IsImage first.journal image

-- ---- more calls

most_more : (calls more : List Call) (count : ℕ) → count ≤ length calls → count ≤ length (calls ++ more)
most_more calls more count most = omega (arith, most, length-append calls more)

legal_more : (opened : Opened) (calls more : List Call) (count : ℕ) (history : List Entry) → count ≤ length calls → AreLegal true opened.limit opened.faults (take count calls) opened.history history
    → AreLegal true opened.limit opened.faults (take count (calls ++ more)) opened.history history
legal_more opened calls more count history most legal =
    subst (λ (list : List Call). AreLegal true opened.limit opened.faults list opened.history history) (sym (take-append-le count calls more most)) legal

pub recoverable_more : (opened : Opened) (calls more : List Call) (s : State) → Recoverable opened calls s → Recoverable opened (calls ++ more) s
recoverable_more opened calls more s has image is =
    let front = has image is in
    (front.0, front.1, front.2, most_more calls more front.1 front.3, legal_more opened calls more front.1 front.0 front.3 front.4)

module _ {D : Type 0} {d : disks.Ghosts D} (laws : DiskLaws d) where
  pub run_more : (opened : Opened) (first disk : D) (calls more : List Call) → KeepsTo d first disk (Recoverable opened calls) → KeepsTo d first disk (Recoverable opened (calls ++ more))
  run_more opened first disk calls more run =
      weakened (Recoverable opened (calls ++ more)) run (recoverable_more opened calls more)

  -- ---- a disk with fewer images

  module _ (opened : Opened) (old new : D) (calls : List Call) (serves : DiskServes d opened old calls) (run : KeepsTo d old new (HasFewer (d.state old))) where
    old_now : (image : List ℕ) (t : ℕ) → opened.moment ≤ t → t ≤ d.moment old → IsImage (d.state old).journal image → Recovers opened calls t image
    old_now image t since le is = serves.left t (d.state old) image since le (laws.counts_now old t le) is

    -- by the old disk's moment each acknowledgement was given
    at_any_time : (t : ℕ) (image : List ℕ) → Recovers opened calls (d.moment old) image → Recovers opened calls t image
    at_any_time t image was = record {
      history = was.history;
      has = was.has;
      count = was.count;
      most = was.most;
      legal = was.legal;
      acked = λ place answer is le. was.acked place answer is (serves.told place answer is).1;
    }

    left_narrower : (t : ℕ) (s : State) (image : List ℕ) → opened.moment ≤ t → d.had_since new t s → IsImage s.journal image → Recovers opened calls t image
    left_narrower t s image since had is = elim (cases_lt (d.moment old) t) [
      | inl later ↦
          let narrow = run.each s (laws.since_earlier new (d.moment old) t s (omega (arith, later)) had) in
          at_any_time t image (old_now image (d.moment old) serves.later (omega arith) (narrow image is))
      | inr le ↦ ⊎_elim (λ was. serves.left t s image since le was is) (λ narrow. old_now image t since le (narrow image is)) (run.before t s le had)
    ]

    agrees_narrower : (place : ℕ) (answer : Answer) → IsAckedAt calls place answer → Agrees d new answer
    agrees_narrower place answer is =
        let was = serves.agrees place answer is in
        let le = (serves.told place answer is).1 in
        record {
          entries = was.entries;
          place = was.place;
          kept = λ s image history had is_image stands. ⊎_elim (λ before. was.kept s image history before is_image stands)
              (λ narrow. was.kept (d.state old) image history (laws.counts_now old answer.disk_moment le) (narrow image is_image) stands) (run.before answer.disk_moment s le had);
        }

    -- what a crash of the old disk would have left is in each image of the new one, but for one entry at its end
    steady_old : (t : ℕ) (s : State) (image : List ℕ) (h : List Entry) → opened.moment ≤ t → t ≤ d.moment old → d.had_since old t s → IsImage s.journal image → HasAcceptedHistory h image
        → (image_now : List ℕ) (now : List Entry) → IsImage (d.state new).journal image_now → HasAcceptedHistory now image_now → IsPrefixButOne h now
    steady_old t s image h since le had is stands image_now now is_now stands_now =
        serves.steady t s image h since le had is stands image_now now (run.now image_now is_now) stands_now

    steady_narrower : (t : ℕ) (s : State) (image : List ℕ) (h : List Entry) → opened.moment ≤ t → d.had_since new t s → IsImage s.journal image → HasAcceptedHistory h image
        → (image_now : List ℕ) (now : List Entry) → IsImage (d.state new).journal image_now → HasAcceptedHistory now image_now → IsPrefixButOne h now
    steady_narrower t s image h since had is stands image_now now is_now stands_now = elim (cases_lt (d.moment old) t) [
      | inl later ↦
          let narrow = run.each s (laws.since_earlier new (d.moment old) t s (omega (arith, later)) had) in
          steady_old (d.moment old) (d.state old) image h serves.later (omega arith) (laws.counts_now old (d.moment old) (omega arith)) (narrow image is) stands image_now now is_now stands_now
      | inr le ↦ ⊎_elim (λ was. steady_old t s image h since le was is stands image_now now is_now stands_now)
          (λ narrow. steady_old t (d.state old) image h since le (laws.counts_now old t le) (narrow image is) stands image_now now is_now stands_now) (run.before t s le had)
    ]

    pub narrowed : d.fault_count old ≤ d.fault_count new → DiskServes d opened new calls
    narrowed counts = record {
      later = omega (arith, serves.later, run.later);
      left = λ t s image since le had is. left_narrower t s image since had is;
      agrees = agrees_narrower;
      whole = λ image history is stands. serves.whole image history (run.now image is) stands;
      steady = λ t s image h since le had is stands image_now now is_now stands_now. steady_narrower t s image h since had is stands image_now now is_now stands_now;
      told = λ place answer is. let was = serves.told place answer is in (was.0, omega (arith, was.1, run.later));
      faults = (omega (arith, serves.faults.0, counts), told_all calls (d.fault_count old) (d.fault_count new) counts serves.faults.1);
    }

    narrower_front : (s : State) → HasFewer (d.state old) s → Recoverable opened calls s
    narrower_front s narrow image is =
        let was = old_now image (d.moment old) serves.later (omega arith) (narrow image is) in
        (was.history, was.count, was.has, was.most, was.legal)

    pub narrowed_run : KeepsTo d old new (Recoverable opened calls)
    narrowed_run = weakened (Recoverable opened calls) run narrower_front

  -- ---- a call that changes nothing

  module _ (opened : Opened) (disk : D) (calls : List Call) (call : Call) (serves : DiskServes d opened disk calls) (no_answer : (answer : Answer) → call.said ≡ Ok answer → ⊥) where
    before_it : (place : ℕ) (answer : Answer) → IsAckedAt (calls ++ call ∷ []) place answer → IsAckedAt calls place answer
    before_it place answer is = ⊎_elim (λ old_one. old_one) (λ this. absurd (no_answer answer this)) (acked_split calls call place answer is)

    recovers_idle : (t : ℕ) (image : List ℕ) → Recovers opened calls t image → Recovers opened (calls ++ call ∷ []) t image
    recovers_idle t image was = record {
      history = was.history;
      has = was.has;
      count = was.count;
      most = most_more calls (call ∷ []) was.count was.most;
      legal = legal_more opened calls (call ∷ []) was.count was.history was.most was.legal;
      acked = λ place answer is le. was.acked place answer (before_it place answer is) le;
    }

    pub idle : ((history : List Entry) → HasImageOf (d.state disk) history → AreLegal true opened.limit (last_faults opened.faults calls) (call ∷ []) history history)
        → IsToldBy (d.fault_count disk) call.said → DiskServes d opened disk (calls ++ call ∷ [])
    idle stays told = record {
      later = serves.later;
      left = λ t s image since le had is. recovers_idle t image (serves.left t s image since le had is);
      agrees = λ place answer is. serves.agrees place answer (before_it place answer is);
      whole = λ image history is stands.
          legal_append true opened.limit opened.faults calls (call ∷ []) opened.history history history (serves.whole image history is stands)
          (stays history (record { image = image; is_image = is; has = stands }));
      steady = serves.steady;
      told = λ place answer is. serves.told place answer (before_it place answer is);
      faults = (serves.faults.0, told_more calls call (d.fault_count disk) (d.fault_count disk) (omega arith) serves.faults.1 told);
    }
