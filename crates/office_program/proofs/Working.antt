-- How workers ended.
use Rattle.std.proofs.Common.{◌≡◌, ℕ, Bool, true, false, [], Result, Ok, Err, refl, arith}
use Rattle.serving.specs.declared.worker.WorkerEnd.{WorkerEnd}
use Rattle.serving.specs.declared.worker.WorkerEnd.TheVariants as workers
use Rattle.slots.specs.declared.fault.SaveFault.{SaveFault}
use Rattle.slots.specs.declared.fault.SaveFault.TheVariants as saves
use Rattle.office_program.specs.Workers.{workers_after, workers_exit, workers_note}

-- nothing is noted where all was done
pub zero_unnoted_workers : (end : WorkerEnd) (stale : Bool) (status : ℕ) → status ≡ workers_exit end stale → status ≡ 0 → workers_note end stale ≡ []
unfolding workers_note
zero_unnoted_workers workers.Done false status is zero = refl
zero_unnoted_workers workers.Done true status is zero = absurd (omega (arith, is, zero))
zero_unnoted_workers workers.PortFault stale status is zero = absurd (omega (arith, is, zero))
zero_unnoted_workers workers.NoMemory true status is zero = absurd (omega (arith, is, zero))
zero_unnoted_workers workers.NoMemory false status is zero = absurd (omega (arith, is, zero))

-- a port that failed has exit code 7, even if the store failed too
pub port_seven : (end : WorkerEnd) (stale : Bool) (status : ℕ) → status ≡ workers_exit end stale → end ≡ workers.PortFault → status ≡ 7
port_seven workers.PortFault stale status is port = is
port_seven workers.NoMemory stale status is port = absurd cc
port_seven workers.Done stale status is port = absurd cc

-- closing the office does not change that the port failed
port_stays : (end : WorkerEnd) (saved : Result (Unit {0}) SaveFault) → end ≡ workers.PortFault → workers_after end saved ≡ workers.PortFault
port_stays workers.PortFault saved port = refl
port_stays workers.NoMemory saved port = absurd cc
port_stays workers.Done saved port = absurd cc

pub port_after : (end : WorkerEnd) (saved : Result (Unit {0}) SaveFault) (failed : Bool) (status : ℕ) → status ≡ workers_exit (workers_after end saved) failed → end ≡ workers.PortFault → status ≡ 7
port_after end saved failed status is port = port_seven (workers_after end saved) failed status is (port_stays end saved port)

pub seven_port : (end : WorkerEnd) (saved : Result (Unit {0}) SaveFault) (failed : Bool) (status : ℕ) → status ≡ workers_exit (workers_after end saved) failed → status ≡ 7 → end ≡ workers.PortFault
seven_port workers.PortFault saved failed status is seven = refl
seven_port workers.NoMemory saved true status is seven = absurd (omega (arith, is, seven))
seven_port workers.NoMemory saved false status is seven = absurd (omega (arith, is, seven))
seven_port workers.Done (Ok x) true status is seven = absurd (omega (arith, is, seven))
seven_port workers.Done (Ok x) false status is seven = absurd (omega (arith, is, seven))
seven_port workers.Done (Err saves.StoreFault) true status is seven = absurd (omega (arith, is, seven))
seven_port workers.Done (Err saves.StoreFault) false status is seven = absurd (omega (arith, is, seven))
seven_port workers.Done (Err saves.NoMemory) true status is seven = absurd (omega (arith, is, seven))
seven_port workers.Done (Err saves.NoMemory) false status is seven = absurd (omega (arith, is, seven))

-- exit code 2 means that the store failed
pub two_failed : (end : WorkerEnd) (failed : Bool) (status : ℕ) → status ≡ workers_exit end failed → status ≡ 2 → failed ≡ true
two_failed end true status is two = refl
two_failed workers.PortFault false status is two = absurd (omega (arith, is, two))
two_failed workers.NoMemory false status is two = absurd (omega (arith, is, two))
two_failed workers.Done false status is two = absurd (omega (arith, is, two))
