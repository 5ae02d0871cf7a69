-- What holds for every answer, so that it can be printed.
use Rattle.std.specs.Prelude.{◌≤◌, ◌<◌, ◌^◌, sum_by, Result, Ok, Err}
use Rattle.moments.specs.Time.{end_of_time}
use Rattle.office_base.specs.Tags.{char_count}
use Rattle.office_types.specs.declared.reply.Reply.{Reply}
use Rattle.office_types.specs.declared.reply.Reply.TheVariants.{Chosen, Report}
use Rattle.office_types.specs.declared.reply.ReportLine.{ReportLine}
use Rattle.office_types.specs.declared.refusal.Refusal.{Refusal}
use Rattle.office_types.specs.declared.refusal.Refusal.TheVariants.{MonthNotOver}

-- a reply is in range: the id of a rule has at most 255 characters (S3 User Guide, "Lifecycle configuration elements":
-- ID element), and the sum of a report's charges is below 2^128 (own)
abbrev pub ReplyFits : Reply → Type 0
ReplyFits (Chosen kind key target rule since marker) = char_count rule ≤ 255
ReplyFits (Report lines) = sum_by (λ (line : ReportLine). line.charge) lines < 2 ^ 128
ReplyFits other = Unit {0}

-- a refusal is in range: a month that is not over ends no later than the end of time
abbrev pub RefusalFits : Refusal → Type 0
RefusalFits (MonthNotOver end) = end ≤ end_of_time
RefusalFits other = Unit {0}

-- the answer, a reply or a refusal, is in range
abbrev pub AnswerFits : Result Reply Refusal → Type 0
AnswerFits (Ok reply) = ReplyFits reply
AnswerFits (Err refusal) = RefusalFits refusal
