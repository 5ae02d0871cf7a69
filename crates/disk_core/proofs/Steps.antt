-- One of several ranges, and a run of calls that goes on.
use Rattle.std.proofs.Common.{◌≡◌, inl, inr, ℕ, suc, zero, ◌+◌, ◌-◌, ◌<◌, ◌≤◌, List, [], ◌∷◌, ◌++◌, length, get_or, take, drop, refl, sym, ◌∙◌, ap, arith}
use Rattle.std.proofs.lemmas.List.{take_more}
use Rattle.disk_core.specs.declared.call_list.DiskCall.{DiskCall}
use Rattle.disk_core.specs.Kept.{count_of, call_of, count_all, calls_of}
use Rattle.disk_core.specs.declared.disk.FileNo.{FileNo}
use Rattle.disk_core.specs.declared.disk.FileNo.TheVariants.{Journal, Slot0, Slot1}
use Rattle.disk_core.specs.Files.{File, Covers, file_in, synced_file}
use Rattle.disk_core.specs.Replay.{after, replay, after_call}
use Rattle.disk_core.proofs.Kept.{rest_of, calls_of-push, rest_of-push, count_all-push, count_all-take, length-rest_of}
use Rattle.disk_core.proofs.Replay.{after_push}

-- a place in the k-th range is covered
pub covers_at : (ranges : List (ℕ × ℕ)) (k i : ℕ) (d : ℕ × ℕ) → k < length ranges → (get_or ranges k d).0 ≤ i
    → i < (get_or ranges k d).0 + (get_or ranges k d).1 → Covers ranges i
covers_at [] k i d lt from to = absurd (omega (arith, lt))
covers_at (range ∷ ranges) zero i d lt from to = inl (from, to)
covers_at (range ∷ ranges) (suc k) i d lt from to = inr (covers_at ranges k i d (omega (arith, lt)) from to)

-- a place that no range has is not covered
pub none_covers : (ranges : List (ℕ × ℕ)) (i : ℕ)
    → ((k : ℕ) → k < length ranges → (get_or ranges k (0, 0)).0 ≤ i → i < (get_or ranges k (0, 0)).0 + (get_or ranges k (0, 0)).1 → ⊥)
    → Covers ranges i → ⊥
none_covers [] i none covers = covers
none_covers (range ∷ ranges) i none (inl has) = none 0 (omega arith) has.0 has.1
none_covers (range ∷ ranges) i none (inr later) = none_covers ranges i (λ k lt. none (suc k) (omega (arith, lt))) later

-- no call yet: the file is empty
pub step_none : (file : FileNo) (calls : List DiskCall) (bytes : List ℕ) → synced_file [] ≡ file_in file (after (calls_of (take 0 calls) bytes))
unfolding after replay calls_of
step_none Journal calls bytes = refl
step_none Slot0 calls bytes = refl
step_none Slot1 calls bytes = refl

module _ (calls : List DiskCall) (k : ℕ) (d : DiskCall) (lt : k < length calls) where
  abbrev call : DiskCall
  call = get_or calls k d

  one_more : take (k + 1) calls ≡ take k calls ++ call ∷ []
  one_more = take_more calls k d lt

  -- the bytes of one call more are there
  pub own_fits : (bytes rest : List ℕ) (n : ℕ) → n ≡ count_of call → rest ≡ rest_of (take k calls) bytes → count_all calls ≤ length bytes
      → n ≤ length rest
  own_fits bytes rest n count is le =
      let all : count_all (take (k + 1) calls) ≡ count_all (take k calls) + count_of call = ap count_all one_more ∙ count_all-push (take k calls) call in
      let behind : length rest ≡ length bytes - count_all (take k calls) = ap (λ (l : List ℕ). length l) is ∙ length-rest_of (take k calls) bytes in
      omega (arith, le, all, behind, count, count_all-take (k + 1) calls)

  -- the bytes behind it
  pub rest_more : (bytes rest others : List ℕ) (n : ℕ) → n ≡ count_of call → rest ≡ rest_of (take k calls) bytes → others ≡ drop n rest
      → others ≡ rest_of (take (k + 1) calls) bytes
  rest_more bytes rest others n count is behind =
      behind
      ∙ ap (λ (m : ℕ). drop m rest) count
      ∙ ap (λ (l : List ℕ). drop (count_of call) l) is
      ∙ sym (ap (λ (l : List DiskCall). rest_of l bytes) one_more ∙ rest_of-push (take k calls) call bytes)

  -- what it leaves of a file
  pub step_more : (f : File) (file : FileNo) (bytes rest own : List ℕ) (n : ℕ) → n ≡ count_of call → rest ≡ rest_of (take k calls) bytes
      → own ≡ take n rest → f ≡ file_in file (after_call (call_of call own) (after (calls_of (take k calls) bytes)))
      → f ≡ file_in file (after (calls_of (take (k + 1) calls) bytes))
  step_more f file bytes rest own n count is_rest is_own is =
      let so_far = calls_of (take k calls) bytes in
      let its = take (count_of call) (rest_of (take k calls) bytes) in
      let same : own ≡ its =
      is_own ∙ ap (λ (m : ℕ). take m rest) count ∙ ap (λ (l : List ℕ). take (count_of call) l) is_rest in
      let pushed : calls_of (take (k + 1) calls) bytes ≡ so_far ++ call_of call its ∷ [] =
      ap (λ (l : List DiskCall). calls_of l bytes) one_more ∙ calls_of-push (take k calls) call bytes in
      is
      ∙ ap (λ (l : List ℕ). file_in file (after_call (call_of call l) (after so_far))) same
      ∙ ap (file_in file) (sym (after_push so_far (calls_of (take (k + 1) calls) bytes) (call_of call its) pushed))
