-- What a source in memory gives at a call, and which of its calls fail.
use Rattle.std.specs.Prelude.{◌≡◌, ◌↔◌, ℕ, ◌+◌, ◌-◌, ◌^◌, min, List, length, drop, Result, IsErr, IfOk}
use Rattle.std.specs.List.{Contains}
use Rattle.http_wire.specs.declared.memory_source.MemorySource.{MemorySource}

-- all its bytes, both given and left
abbrev pub source_bytes : MemorySource → List ℕ
source_bytes s = s.bytes.items

-- the bytes that are left
abbrev pub source_left : MemorySource → List ℕ
source_left s = drop s.given s.bytes.items

-- how often it has failed
abbrev pub source_faults : MemorySource → ℕ
source_faults s = s.faults

-- how many bytes a call gives at most
abbrev pub source_cut : MemorySource → ℕ
source_cut s = s.cut

-- the numbers of the calls that fail, counted from 1
abbrev pub source_failing : MemorySource → List ℕ
source_failing s = s.failing.items

-- how many calls were made, up to the greatest u64
abbrev pub source_calls : MemorySource → ℕ
source_calls s = s.calls

-- one call with room for that many bytes: it fails if and only if its number is one of those that fail; otherwise it
-- gives as many bytes as the cut, the room and what is left allow
pub record IsSourceCall {E : Type 0} (old new : MemorySource) (room : ℕ) (result : Result ℕ E) : Type 0 where
  pub cut : source_cut new ≡ source_cut old
  pub failing : source_failing new ≡ source_failing old
  pub counted : source_calls new ≡ min (source_calls old + 1) (2 ^ 64 - 1)
  pub fails : IsErr result ↔ Contains (source_failing old) (source_calls new)
  pub gives : IfOk result (λ count. count ≡ min (source_cut old) (min room (length (source_left old))))
