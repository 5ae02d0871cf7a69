-- Reading the entries of a journal.
use Rattle.std.proofs.Common.{◌≡◌, inl, inr, ℕ, ◌+◌, ◌<◌, ◌^◌, Bool, true, false, List, [], ◌∷◌, ◌++◌, length, get_or, refl, sym, ◌∙◌, subst, arith}
use Rattle.std.specs.List.{AllByRecursion}
use Rattle.std.specs.Prelude.{IsTrue}
use Rattle.std.proofs.lemmas.Bool.{false≢true}
use Rattle.office_types.specs.declared.command.Entry.{Entry}
use Rattle.disk_core.specs.declared.disk.Disk as disks
use Rattle.entry_codec.specs.Spelling.{EntryFits, spelling}
use Rattle.bucket_account.specs.Standing.{most_commands}
use Rattle.meter_journal.specs.History.{header, journal_bytes, end_gate, HasHistory}
use Rattle.meter_journal.specs.Reading.{IsMade, HasPrefix, FrameFails, frame_at, Whole, Ended}
use Rattle.meter_journal.proofs.Heads.{made_head}
use Rattle.meter_journal.proofs.History.{each-push, end_gate-none, end_gate-push}
use Rattle.meter_journal.proofs.Prefix.{prefix_start, prefix_more, prefix_end}
use Rattle.meter_journal.specs.declared.fault.OpenFault.{OpenFault}
use Rattle.desk_core.specs.Damage.{OpenFails, IsNotTaken}
use Rattle.desk_core.proofs.Damage.{broken_at}
use Rattle.desk_core.proofs.Offices.{few, run_is}
use Rattle.stay_explain.specs.Explaining.{ReadsLedger}
use Rattle.stay_explain.specs.Ledgers.{LedgerRecord, IsLedgerOf}

-- the file of these entries, with a closed gate after them
entries_file : (history : List Entry) (gate : ℕ) → AllByRecursion EntryFits history → gate ≡ end_gate header history → gate < 2 ^ 45
    → HasHistory history (journal_bytes header history ++ 0 ∷ [])
entries_file history gate each end small = record {
  gate = 0;
  rest = [];
  parts = refl;
  closed = λ is. absurd (omega (arith, is));
  each = each;
  small = inr (omega (arith, end, small));
}

module _ {D : Type 0} (d : disks.Ghosts D) where
  -- the entries up to this gate were read, on every disk; on one that tells they are those of its journal file
  pub record HasRead (disk : D) (gate : ℕ) (ledger : LedgerRecord) : Type 0 where
    pub history : List Entry
    pub is : IsLedgerOf history ledger
    pub each : AllByRecursion EntryFits history
    pub end : gate ≡ end_gate header history
    pub small : gate < 2 ^ 45
    pub prefix : IsTrue d.tells → HasPrefix header history gate (d.state disk).journal.seen

  pub none_read : (disk : D) (ledger : LedgerRecord) → (IsTrue d.tells → IsMade (d.state disk).journal.seen) → IsLedgerOf [] ledger → HasRead disk 10 ledger
  none_read disk ledger made is = record {
    history = [];
    is = is;
    each = tt;
    end = sym (end_gate-none header);
    small = omega arith;
    prefix = λ told. prefix_start header 10 (d.state disk).journal.seen (made_head (d.state disk).journal.seen (made told)) refl;
  }

  module _ (disk : D) (gate : ℕ) (ledger : LedgerRecord) (read : HasRead disk gate ledger) where
    pub one_read : (next : ℕ) (new : LedgerRecord) (e : Entry) → (IsTrue d.tells → (i : ℕ) → get_or (d.state disk).journal.seen i 0 < 256)
        → (IsTrue d.tells → frame_at gate (d.state disk).journal.seen ≡ Whole e next)
        → EntryFits e → next ≡ gate + 5 + length (spelling e) → next < 2 ^ 45
        → ((history : List Entry) → IsLedgerOf history ledger → IsLedgerOf (history ++ e ∷ []) new) → HasRead disk next new
    one_read next new e bytes is fits passed small taken = record {
      history = read.history ++ e ∷ [];
      is = taken read.history read.is;
      each = each-push read.history e read.each fits;
      end = omega (arith, passed, read.end, end_gate-push header read.history e);
      small = small;
      prefix = λ told. prefix_more header read.history gate (d.state disk).journal.seen e next (bytes told) (read.prefix told) (is told);
    }

    all_told : IsTrue d.tells → frame_at gate (d.state disk).journal.seen ≡ Ended → ReadsLedger d disk ledger
    all_told told is = record {
      file = (d.state disk).journal.seen;
      seen = λ _. refl;
      history = read.history;
      entries = prefix_end header read.history gate (d.state disk).journal.seen (read.prefix told) is;
      is = read.is;
    }

    all_untold : (IsTrue d.tells → ⊥) → ReadsLedger d disk ledger
    all_untold untold = record {
      file = journal_bytes header read.history ++ 0 ∷ [];
      seen = λ told. absurd (untold told);
      history = read.history;
      entries = entries_file read.history gate read.each read.end read.small;
      is = read.is;
    }

    all_by : (b : Bool) → d.tells ≡ b → (IsTrue d.tells → frame_at gate (d.state disk).journal.seen ≡ Ended) → ReadsLedger d disk ledger
    all_by true tells is = all_told tells (is tells)
    all_by false tells is = all_untold (λ told. false≢true (sym tells ∙ told))

    pub all_read : (IsTrue d.tells → frame_at gate (d.state disk).journal.seen ≡ Ended) → ReadsLedger d disk ledger
    all_read is = all_by d.tells refl is

    -- the office can count one entry more
    pub few_read : ledger.office.records.accepted < most_commands
    few_read = few header read.history ledger.office gate read.is.office read.end (omega (arith, read.small))

    -- ---- why reading fails

    module _ (told : IsTrue d.tells) (fault : OpenFault) (made : IsMade (d.state disk).journal.seen) where
      -- no whole frame stands at the gate
      pub frame_fails : FrameFails fault gate (frame_at gate (d.state disk).journal.seen) → OpenFails fault (d.state disk).journal.seen
      frame_fails fails =
          broken_at fault read.history read.is.office.plain gate gate (d.state disk).journal.seen made (read.prefix told) (run_is read.history read.is.office.is_run) (refl, fails)

      -- its entry is not taken
      pub take_fails : (next : ℕ) (e : Entry) → frame_at gate (d.state disk).journal.seen ≡ Whole e next → IsNotTaken gate ledger.office e fault
          → OpenFails fault (d.state disk).journal.seen
      take_fails next e is (inl want) = subst (λ (f : OpenFault). OpenFails f (d.state disk).journal.seen) (sym want) tt
      take_fails next e is (inr x) =
          subst (λ (f : OpenFault). OpenFails f (d.state disk).journal.seen) (sym x.0)
          (record { made = made; history = read.history; office = read.is.office.plain; before = read.prefix told; is_run = run_is read.history read.is.office.is_run; breaks = inr (e, next, is, x.1 read.is.office.plain read.is.office.stands) })
