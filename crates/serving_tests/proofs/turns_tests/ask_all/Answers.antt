use denote.RattleType.{RattleType}
use denote.Exit.{no}
use denote.Ref.{NamedLft, ShrRef}
use denote.Struct.Field.{row_field}
use denote.Param.Send.{IsSend, IsSync, sendable, param_send, arg_send, shr_send, view_send}
use denote.Param.SendFields.{declared_send, as_row_send}
use Rattle.std.proofs.Crossing.{crosses}
use Rattle.std.proofs.option.Option.TheSendSync as option
use Rattle.std.proofs.result.Result.TheSendSync as result
use Rattle.std.specs.contracts.result.Result as Result
use Rattle.disk_core.specs.declared.disk.Disk as Disk
use Rattle.office_types.specs.contracts.command.Ask as Ask
use Rattle.office_types.specs.contracts.refusal.Refusal as Refusal
use Rattle.office_types.specs.contracts.reply.Reply as Reply
use Rattle.office_types.proofs.command.Ask.TheSendSync as crossing
use Rattle.office_types.proofs.reply.Reply.TheSendSync as reply
use Rattle.office_types.proofs.refusal.Refusal.TheSendSync as refusal
use Rattle.desk_core.specs.declared.clock.Clock as Clock
use Rattle.desk_core.specs.contracts.acked.Acked as Acked
use Rattle.desk_core.specs.contracts.acked.Acked.TheInside as AckedInside
use Rattle.desk_core.specs.contracts.fault.DeskFault as DeskFault
use Rattle.desk_core.proofs.fault.DeskFault.TheSendSync as fault
use Rattle.serving.specs.declared.gate.Gate as gates
use Rattle.serving.specs.contracts.seated.Seated as Seated
use Rattle.serving_tests.specs.contracts.turns_tests.Asker as Asker
use Rattle.serving_tests.specs.contracts.turns_tests.HoldingGate as Gate
use Rattle.serving.proofs.Crossing.{seated_send}
use Rattle.serving_tests.proofs.turns_tests.ask_all.Goals as goal

-- nothing is known of the calls that the gate let through
abbrev lets : gates.Ghosts (Gate.the_row).Denot
lets = record { let_through = λ gate worker call. Unit {0} }

gate_sync : IsSync Gate.the_row
gate_sync = search (crosses, sendable) depth 60 fits 20000

ask_sync : IsSync Ask.the_row
ask_sync = crossing.the_sync

reply_send : IsSend (Result.the_row Reply.the_row Refusal.the_row)
reply_send = result.the_send _ _ reply.the_send refusal.the_send

acked_send : IsSend Acked.the_row
acked_send = view_send _ _ _ _ _
    (declared_send AckedInside.the_type (search sendable, (search sendable, (reply_send, (search sendable, (search (crosses, sendable) depth 60 fits 20000, tt))))))

said_send : IsSend (Result.the_row Acked.the_row DeskFault.the_row)
said_send = result.the_send _ _ acked_send fault.the_send

module _ (a : NamedLft) (D C R : RattleType) (d : Disk.Ghosts D.Denot) (k : Clock.Ghosts C.Denot) (send_disk : IsSend D) (send_clock : IsSend C) (sync_runtime : IsSync R) where
  asker_send : IsSend (Asker.the_row a D C R d k)
  asker_send = declared_send (Asker.the_type a D C R d k) (
    as_row_send (row_field (Seated.the_row a D C Gate.the_row R d k lets))
        (seated_send a D C Gate.the_row R d k lets send_disk send_clock gate_sync sync_runtime),
    (
      as_row_send (row_field (ShrRef a.mir a.lft Gate.the_row)) (shr_send _ _ Gate.the_row gate_sync),
      (
        as_row_send (row_field (ShrRef a.mir a.lft Ask.the_row)) (shr_send _ _ Ask.the_row ask_sync),
        (option.the_send _ said_send, tt),
      ),
    ),
  )

pub for_each_mut-requires-send-T : goal.for_each_mut-requires-send-T
for_each_mut-requires-send-T g c κs within =
    let b = c.type_bounds in
    param_send _ _ (arg_send _ no _ (asker_send _ _ _ _ _ _ b.send-D b.send-C b.sync-R))
