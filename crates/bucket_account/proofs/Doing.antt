-- A command whose change is one effect, at the moment of the command.
use Rattle.std.proofs.Common.{◌≡◌, ℕ, ◌≤◌, List, refl, arith}
use Rattle.std.specs.Prelude.{Option, Some, None, unwrap_or, Ok, Err}
use Rattle.office_base.specs.Maps.{at_name}
use Rattle.stacks.specs.Stacks.{StackRecord, new_stack}
use Rattle.plain_office.specs.Office.{Account}
use Rattle.office_types.specs.declared.reply.Reply.{Reply}
use Rattle.office_types.specs.declared.refusal.Refusal.{Refusal}
use Rattle.office_types.specs.declared.refusal.What.{What}
use Rattle.office_laws.proofs.Buckets.{changed_by}
use Rattle.bucket_account.specs.declared.change.Done.{Done}
use Rattle.bucket_account.specs.declared.counts.Counts.{Counts}
use Rattle.bucket_account.specs.Changing.{IsOrderlyAccount, DoesTold}
use Rattle.bucket_account.specs.Counting.{AccountRecord}
use Rattle.bucket_account.specs.Effects.{IsReadyAt, DoesEffect}

-- the records of an orderly account have changed by the moment
pub ready_at : (key : List ℕ) (t : ℕ) (account : Account) → IsOrderlyAccount t account → IsReadyAt key t account
ready_at key t account orderly = record { last = t; bucket = orderly.bucket; stays = orderly.stays; changed = by (at_name key account.bucket.stacks) refl } where
  by : (o : Option StackRecord) → at_name key account.bucket.stacks ≡ o → (unwrap_or o (new_stack 0)).changed ≤ t
  by None is = omega arith
  by (Some stack) is = changed_by account.bucket key t orderly.bucket stack is

module _ (whats : List What) (effect : Account → Account) (account : Account) (counts : Counts) (after : AccountRecord) (reply : Reply) where
  pub told_done : (done : Done) → done.reply ≡ reply → DoesEffect whats effect account counts after (Ok done.counts) → DoesTold whats (Ok (effect account, reply)) account counts after (Ok done)
  told_done done replied h = (replied, h.0, h.1, h.2)

  pub told_refused : (refusal : Refusal) → DoesEffect whats effect account counts after (Err refusal) → DoesTold whats (Ok (effect account, reply)) account counts after (Err refusal)
  told_refused refusal h = h
