-- What a call of the desk asks, and what it is told.
use Rattle.std.specs.Prelude.{ℕ, Result}
use Rattle.office_types.specs.declared.command.Ask.{Ask}
use Rattle.office_types.specs.declared.reply.Reply.{Reply}
use Rattle.office_types.specs.declared.refusal.Refusal.{Refusal}
use Rattle.desk_core.specs.declared.fault.DeskFault.{DeskFault}

-- what contracts see of an answer: the moment of its call, the number that the clock told for it, the reply, the
-- offset of the journal's end gate behind it, in bytes, and the disk's moment at its return
pub record Answer : Type 0 where
  pub moment : ℕ
  pub told : ℕ
  pub reply : Result Reply Refusal
  pub position : ℕ
  pub disk_moment : ℕ

-- a call: what was asked, and what was said to it
pub record Call : Type 0 where
  pub ask : Ask
  pub said : Result Answer DeskFault
