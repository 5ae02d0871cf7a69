-- What a command did whose office was opened.
use Rattle.std.proofs.Common.{◌≡◌, ◌⊎◌, inl, inr, ⊎_elim, ℕ, ◌≤◌, Bool, true, false, List, [], Option, Result, Ok, Err, refl, ◌∙◌, sym, ap, subst, arith}
use Rattle.std.specs.Prelude.{length, option_map, IsErrOf}
use Rattle.std.specs.Io.KnownBytes.{Appends}
use Rattle.std.proofs.lemmas.Bool.{both_ways}
use Rattle.office_base.specs.Faults.{Rose}
use Rattle.disk_core.specs.declared.disk.Disk as disks
use Rattle.disk_core.proofs.Laws.{DiskLaws}
use Rattle.desk_core.specs.declared.clock.Clock as clocks
use Rattle.slots.specs.Causes.{HasSaveCause}
use Rattle.slots.specs.declared.fault.SaveFault.{SaveFault}
use Rattle.slots.specs.declared.fault.SaveFault.TheVariants as saves
use Rattle.desk_core.specs.Answers.{Call}
use Rattle.desk_core.specs.Closing.{Closes}
use Rattle.desk_core.specs.Desk.{DeskView}
use Rattle.desk_core.specs.Opening.{Opens}
use Rattle.desk_core.specs.Runs.{stale_by}
use Rattle.desk_core.proofs.Following.{Step, Path, disk_later, stale_rose}
use Rattle.desk_core.proofs.Runs.{answers_calls, ends_stale}
use Rattle.desk_core.proofs.Serving.{rose_later, then_later}
use Rattle.http_front.specs.declared.replies.Replies as sinks
use Rattle.http_wire.specs.Held.{take_limit}
use Rattle.http_front.specs.Counts.{GaveBytes, StreamEnds}
use Rattle.http_front.specs.Exchanges.{calls_of, moments_of}
use Rattle.http_front.specs.Saying.{OnlySays}
use Rattle.http_front.specs.Session.{sides, Session}
use Rattle.http_front.specs.declared.answering.SessionEnd.{SessionEnd}
use Rattle.http_front.specs.declared.answering.SessionEnd.TheVariants as ends
use Rattle.office_commands.specs.Lines.{session_exit, end_after, store_after, end_note}
use Rattle.office_commands.specs.Running.{journal_limit, around, IsNoted, IsSilent, AnswersStream}

four_lost : (end : SessionEnd) (stale : Bool) (status : ℕ) → status ≡ session_exit end stale → status ≡ 4 → end ≡ ends.WriteFault
four_lost ends.WriteFault stale status is four = refl
four_lost ends.ReadFault stale status is four = absurd (omega (arith, is, four))
four_lost ends.Spent stale status is four = absurd (omega (arith, is, four))
four_lost ends.NoMemory true status is four = absurd (omega (arith, is, four))
four_lost ends.NoMemory false status is four = absurd (omega (arith, is, four))
four_lost ends.Ended true status is four = absurd (omega (arith, is, four))
four_lost ends.Ended false status is four = absurd (omega (arith, is, four))

write_four : (end : SessionEnd) (stale : Bool) (status : ℕ) → status ≡ session_exit end stale → end ≡ ends.WriteFault → status ≡ 4
write_four end stale status is lost = is ∙ ap (λ (e : SessionEnd). session_exit e stale) lost

-- a fault of the input has exit code 3, even if the store failed too
pub read_three : (end : SessionEnd) (stale : Bool) (status : ℕ) → status ≡ session_exit end stale → end ≡ ends.ReadFault → status ≡ 3
read_three end stale status is failed = is ∙ ap (λ (e : SessionEnd). session_exit e stale) failed

-- with exit code 0 no text was lost
pub zero_lost : (end : SessionEnd) (stale : Bool) (status : ℕ) → status ≡ session_exit end stale → status ≡ 0 → end ≡ ends.WriteFault → ⊥
zero_lost end stale status is zero lost = omega (arith, zero, write_four end stale status is lost)

-- closing the office loses no text
lost_after : (end : SessionEnd) (saved : Result (Unit {0}) SaveFault) → end_after end saved ≡ ends.WriteFault → end ≡ ends.WriteFault
lost_after ends.WriteFault saved is = refl
lost_after ends.ReadFault saved is = absurd cc
lost_after ends.Spent saved is = absurd cc
lost_after ends.NoMemory saved is = absurd cc
lost_after ends.Ended (Ok x) is = absurd cc
lost_after ends.Ended (Err saves.StoreFault) is = absurd cc
lost_after ends.Ended (Err saves.NoMemory) is = absurd cc

after_lost : (end other : SessionEnd) (saved : Result (Unit {0}) SaveFault) → end_after other saved ≡ other → end ≡ other → end_after end saved ≡ other
after_lost end other saved stays is = ap (λ (e : SessionEnd). end_after e saved) is ∙ stays

module _ {D C W : Type 0} {d : disks.Ghosts D} (laws : DiskLaws d) (k : clocks.Ghosts C) (w : sinks.Ghosts W) where
  pub stream_answered : (disk : D) (clock : C) (old new : DeskView D C) (last : D) (saved : Result (Unit {0}) SaveFault) (ending : C) (out_old out_mid out_new : W)
      (read : StreamEnds) (end : SessionEnd) (stale : Bool) (status : ℕ)
      → Opens d disk clock journal_limit old
      → Session (Step d k) w (sides old out_old) (sides new out_mid) read (option_map length read.stream) end
      → (n : ℕ) × (n ≤ take_limit) × GaveBytes read.stream read.left n
      → Closes d new last saved → HasSaveCause (d.fault_count new.disk) (d.fault_count last) saved → ending ≡ new.clock
      → IsSilent w out_mid out_new → OnlySays w out_old out_mid (end ≡ ends.WriteFault)
      → IsNoted w out_mid out_new (end_note (end_after end saved) (store_after stale saved)) → stale ≡ new.stale
      → status ≡ session_exit (end_after end saved) (store_after stale saved)
      → AnswersStream d k w read (around disk clock out_old) (around last ending out_new) status
  stream_answered disk clock old new last saved ending out_old out_mid out_new read end stale status opens s taken closes cause same silent says note stale_new is =
      let calls = calls_of s.talk.spoken.exchanges in
      let stale_end : stale ≡ stale_by false calls = stale_new ∙ ends_stale laws k disk clock journal_limit old new calls opens s.moved in
      let answered = answers_calls laws k disk clock journal_limit old new calls opens s.moved last saved closes cause ending same in
      record {
        end = end;
        talk = s.talk;
        answers = record {
          calls_are = record { first = old; opens = opens; last = new; moved = s.moved; saved = saved; closes = closes; cause = cause; clock = same };
          sound = answered.sound;
          faults = answered.faults;
          numbers = answered.numbers;
        };
        said_all = subst (λ (x : Option (List ℕ)). Appends (w.said out_old) x s.talk.spoken.written) (sym silent.0) s.said;
        stamped = subst (λ (x : Option (List ℕ)). Appends (w.moments out_old) x (moments_of s.talk.spoken.whole)) (sym silent.1) s.stamped;
        taken = taken;
        no_text = silent.2 ∙ says.texts;
        status_is = subst (λ (b : Bool). status ≡ session_exit (end_after end saved) (store_after b saved)) stale_end is;
        note = record {
          behind = out_mid;
          unnoted = says.noted;
          lost = λ four. says.fault (lost_after end saved (four_lost (end_after end saved) (store_after stale saved) status is four));
          kept = λ not. says.quiet (λ lost. not (write_four (end_after end saved) (store_after stale saved) status is (after_lost end ends.WriteFault saved refl lost)));
          silent = silent;
          note = subst (λ (b : Bool). IsNoted w out_mid out_new (end_note (end_after end saved) (store_after b saved))) stale_end note;
        };
      }

-- the same, of a session whose office was closed
pub read_after : (end : SessionEnd) (saved : Result (Unit {0}) SaveFault) (outcome : SessionEnd) (failed : Bool) (status : ℕ) → outcome ≡ end_after end saved
    → status ≡ session_exit outcome failed → end ≡ ends.ReadFault → status ≡ 3
read_after end saved outcome failed status after is lost = read_three outcome failed status is (after ∙ after_lost end ends.ReadFault saved refl lost)

pub zero_after : (end : SessionEnd) (saved : Result (Unit {0}) SaveFault) (outcome : SessionEnd) (failed : Bool) (status : ℕ) → outcome ≡ end_after end saved
    → status ≡ session_exit outcome failed → status ≡ 0 → end ≡ ends.WriteFault → ⊥
zero_after end saved outcome failed status after is zero lost = zero_lost outcome failed status is zero (after ∙ after_lost end ends.WriteFault saved refl lost)

-- ---- notes

-- nothing is noted where all was done
pub zero_unnoted : (end : SessionEnd) (stale : Bool) (status : ℕ) → status ≡ session_exit end stale → status ≡ 0 → end_note end stale ≡ []
unfolding end_note
zero_unnoted ends.Ended false status is zero = refl
zero_unnoted ends.Ended true status is zero = absurd (omega (arith, is, zero))
zero_unnoted ends.ReadFault stale status is zero = absurd (omega (arith, is, zero))
zero_unnoted ends.WriteFault stale status is zero = absurd (omega (arith, is, zero))
zero_unnoted ends.Spent stale status is zero = absurd (omega (arith, is, zero))
zero_unnoted ends.NoMemory true status is zero = absurd (omega (arith, is, zero))
zero_unnoted ends.NoMemory false status is zero = absurd (omega (arith, is, zero))

-- ---- causes

two_stale : (end : SessionEnd) (stale : Bool) (status : ℕ) → status ≡ session_exit end stale → status ≡ 2 → stale ≡ true
two_stale end true status is two = refl
two_stale ends.Ended false status is two = absurd (omega (arith, is, two))
two_stale ends.ReadFault false status is two = absurd (omega (arith, is, two))
two_stale ends.WriteFault false status is two = absurd (omega (arith, is, two))
two_stale ends.Spent false status is two = absurd (omega (arith, is, two))
two_stale ends.NoMemory false status is two = absurd (omega (arith, is, two))

-- where the store failed, the desk was stale, or the disk failed while the checkpoint was saved
pub failed_by : (stale : Bool) (saved : Result (Unit {0}) SaveFault) → store_after stale saved ≡ true → (stale ≡ true) ⊎ IsErrOf saved saves.StoreFault
failed_by stale (Err saves.StoreFault) is = inr refl
failed_by stale (Err saves.NoMemory) is = inl is
failed_by stale (Ok x) is = inl is

module _ {D C : Type 0} (d : disks.Ghosts D) (k : clocks.Ghosts C) where
  pub store_rose : (old new : DeskView D C) (last : D) (saved : Result (Unit {0}) SaveFault) (end : SessionEnd) (stale : Bool) (status : ℕ) (calls : List Call) → old.stale ≡ false → stale ≡ new.stale
      → HasSaveCause (d.fault_count new.disk) (d.fault_count last) saved
      → status ≡ session_exit end (store_after stale saved) → status ≡ 2
      → Path d k old calls new → Rose (d.fault_count old.disk) (d.fault_count last)
  store_rose old new last saved end stale status calls fresh stale_new cause is two path = ⊎_elim
      (λ stays. ⊎_elim
      (λ before. absurd (both_ways old.stale fresh before))
      (λ rose. then_later (d.fault_count old.disk) (d.fault_count new.disk) (d.fault_count last) rose cause.later)
      (stale_rose d k old new calls path (sym stale_new ∙ stays)))
      (λ failed. rose_later (d.fault_count old.disk) (d.fault_count new.disk) (d.fault_count last) (disk_later d k old new calls path) (cause.failed failed))
      (failed_by stale saved (two_stale end (store_after stale saved) status is two))
