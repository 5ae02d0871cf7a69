-- One more call of a disk in memory, by its number.
use Rattle.std.proofs.Common.{◌≡◌, inl, inr, ◌+◌, List, [], ◌∷◌, ◌++◌, length, sym, ◌∙◌, ap, subst, arith, length-append, true, Bool, Result, is_err, OnOk}
use Rattle.std.specs.Bool.{Decides}
use Rattle.std.specs.List.{Contains}
use Rattle.office_base.specs.Faults.{HasCause}
use Rattle.disk_core.specs.Kept.{Call}
use Rattle.disk_core.specs.declared.memory.MemoryDisk.{MemoryDisk}
use Rattle.disk_core.specs.Replay.{after}
use Rattle.disk_core.specs.Memory.{IsCall}
use Rattle.disk_core.proofs.Replay.{elapses_push, elapses_untold}

module _ {T E : Type 0} {old new : MemoryDisk} {result : Result T E} where
  -- a call that is kept
  pub counted_call : (call : Call) (fails : Bool) → new.calls ≡ old.calls ++ call ∷ []
      → new.failing.items ≡ old.failing.items → is_err result ≡ fails
      → Decides fails (Contains old.failing.items (length old.calls + 1))
      → HasCause old.faults new.faults result → OnOk result (new.faults ≡ old.faults) → IsCall old new result
  counted_call call fails kept failing is decides cause quiet =
      let count : length new.calls ≡ length old.calls + 1 =
      ap (λ (l : List Call). length l) kept ∙ length-append old.calls (call ∷ []) in
      let time = elapses_push old new call kept in
      record {
        failing = failing;
        counted = inl count;
        fails = λ again. (
          λ err. subst (Contains old.failing.items) (sym count) (decides.0 (sym is ∙ err)),
          λ among. is ∙ decides.1 (subst (Contains old.failing.items) count among),
        );
        time = record { later = time.later; nothing_else = time.nothing_else; keeps = time.keeps };
        cause = cause;
        quiet = quiet;
      }

  -- a call that found no memory
  pub call_not_kept : new.calls ≡ old.calls → new.failing.items ≡ old.failing.items → is_err result ≡ true
      → HasCause old.faults new.faults result → OnOk result (new.faults ≡ old.faults) → IsCall old new result
  call_not_kept same failing err cause quiet =
      let count : length new.calls ≡ length old.calls = ap (λ (l : List Call). length l) same in
      let time = elapses_untold old new (inl same) in
      record {
        failing = failing;
        counted = inr (err, count, ap after same);
        fails = λ again. absurd (omega (arith, count, again));
        time = record { later = time.later; nothing_else = time.nothing_else; keeps = time.keeps };
        cause = cause;
        quiet = quiet;
      }
