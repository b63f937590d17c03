use denote.Exit.{no}
use denote.Param.Send.{IsSend, param_send, arg_send, recorded_send, struct_send, sendable}
use denote.Struct.Declared.{shape}
use Rattle.std.proofs.Crossing.{crosses}
use Rattle.oracle.proofs.foreign_run.ForeignRun.TheSendSync as run
use Rattle.hunt_board.proofs.Crossing.{seat_send}
use Rattle.hunt_board.proofs.settling.Receipt.TheSendSync as receipt
use Rattle.fence_place.specs.contracts.worker.Worker as worker
use Rattle.fence_place.proofs.worker.StopReason.TheSendSync as stop
use Rattle.fence_place.proofs.hunting.work_all.Goals as goal

-- a worker holds a seat, runs, receipts, and why it stops, and each may go to another thread
worker_send : IsSend worker.the_row
worker_send =
    recorded_send (worker.the_field).row _ _ (worker.the_type).to_one
    (struct_send (shape worker.the_type) (seat_send, (search (crosses, sendable, run.the_send), (search (crosses, sendable, receipt.the_send), (search (crosses, sendable, stop.the_send), tt)))))

pub for_each_mut-requires-send-T : goal.for_each_mut-requires-send-T
for_each_mut-requires-send-T g c κs within = param_send _ _ (arg_send _ no _ worker_send)
