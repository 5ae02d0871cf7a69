-- What replies in memory keep of a call, and which of their calls fail.
use Rattle.std.specs.Prelude.{◌≡◌, ℕ, ◌+◌, ◌-◌, ◌^◌, min, map, List, Result, IsErr, OnOk, OnErr}
use Rattle.std.specs.List.{Contains}
use Rattle.office_base.specs.Faults.{HasCause}
use Rattle.http_front.specs.declared.memory_replies.MemoryReplies.{MemoryReplies}

-- what was kept: the bytes of the replies, the disk's moments of the answers among them, the other texts and the notes
pub record Kept : Type 0 where
  pub said : List ℕ
  pub moments : List ℕ
  pub texts : List ℕ
  pub noted : List ℕ

abbrev pub kept_of : MemoryReplies → Kept
kept_of r = record {
  said = r.replies.items;
  moments = map (λ answer. answer.value.disk_moment) r.answers.items;
  texts = r.texts.items;
  noted = r.notes.items;
}

-- how often they failed
abbrev pub sink_faults : MemoryReplies → ℕ
sink_faults r = r.faults

-- the numbers of the calls of `say`, `say_part`, `told`, `say_bad` and `text` that are to fail, counted together from 1
abbrev pub sink_failing : MemoryReplies → List ℕ
sink_failing r = r.failing.items

-- how many of these calls were made, up to the greatest u64
abbrev pub sink_calls : MemoryReplies → ℕ
sink_calls r = r.calls

-- one of these calls, after which this is kept: it fails where its number is among those that are to fail, and else
-- only where there was no memory; nothing of a call that fails is kept
pub record IsSinkCall {E : Type 0} (old new : MemoryReplies) (after : Kept) (result : Result Unit E) : Type 0 where
  pub failing : sink_failing new ≡ sink_failing old
  pub counted : sink_calls new ≡ min (sink_calls old + 1) (2 ^ 64 - 1)
  pub fails : Contains (sink_failing old) (sink_calls new) → IsErr result
  pub done : OnOk result (kept_of new ≡ after)
  pub undone : OnErr result (kept_of new ≡ kept_of old)
  pub cause : HasCause (sink_faults old) (sink_faults new) result
  pub quiet : OnOk result (sink_faults new ≡ sink_faults old)
