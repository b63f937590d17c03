-- Workers of a hunt.
use Rattle.std.specs.Prelude.{◌≡◌, Bool, true, false, ℕ, List, Option, Some, None, IfSome, Result, IfErr, OnOk, OnErr, slice_get}
use Rattle.gap_sets.specs.declared.region.Region.{Region}
use Rattle.tso_program.specs.declared.question.Question.{Question}
use Rattle.tso_machine.specs.Outcomes.{AreGapsOf}
use Rattle.oracle.specs.Facts.{AreOf}
use Rattle.hunt_board.specs.Seats.{HuntView, IsOf}
use Rattle.fence_place.specs.declared.fault.PlaceFault.{PlaceFault}
use Rattle.fence_place.specs.declared.fault.PlaceFault.TheVariants as fault
use Rattle.fence_place.specs.declared.worker.StopReason.{StopReason, TheVariants.NoRun}
use Rattle.fence_place.specs.declared.worker.Worker.{Worker}

-- the worker's seat is of the hunt and holds this node or none, and the runs that it knows are of the hunt's question
pub record IsAt (h : HuntView) (w : Worker) (node : Option Region) : Type 0 where
  pub of : IsOf h w.seat
  pub holds : w.seat.node ≡ node
  pub known : AreOf h.question w.known.items

-- it holds nothing and has not ended
abbrev pub IsReadyWorker : HuntView → Worker → Type 0
IsReadyWorker h w = IsAt h w None × (w.stop ≡ None)

-- the oracle lacks a run only where it may
abbrev pub MayStop : Bool → StopReason → Type 0
MayStop may_lack_runs NoRun = may_lack_runs ≡ true
MayStop may_lack_runs stop = Unit {0}

-- the worker is to settle this node, with an oracle of this question
pub record IsToSettle (q : Question) (h : HuntView) (w : Worker) (n : Region) : Type 0 where
  pub of_question : q ≡ h.question
  pub at : IsAt h w (Some n)
  pub gaps : AreGapsOf q.program n.must

-- the worker is at this node, and has not ended since
pub record IsStillAt (h : HuntView) (before after : Worker) (n : Region) : Type 0 where
  pub at : IsAt h after (Some n)
  pub stop : after.stop ≡ before.stop

-- the worker has settled this node, or it still holds it and has cause to give it back; it has not ended since
pub record HasDealtWith (h : HuntView) (may_lack_runs : Bool) (before after : Worker) (n : Region) (r : Result (Unit {0}) StopReason) : Type 0 where
  pub settled : OnOk r (IsAt h after None)
  pub held : OnErr r (IsAt h after (Some n))
  pub fault : IfErr r (MayStop may_lack_runs)
  pub stop : after.stop ≡ before.stop

-- it holds nothing, and where it ended early it had cause
abbrev pub HasStopped : HuntView → Bool → Worker → Type 0
HasStopped h may_lack_runs w = IsAt h w None × IfSome w.stop (MayStop may_lack_runs)

-- whether it ended since the oracle lacked a run
abbrev pub lacks_run_for : Option StopReason → Bool
lacks_run_for (Some NoRun) = true
lacks_run_for stop = false

abbrev pub lacks_run : Worker → Bool
lacks_run w = lacks_run_for w.stop

abbrev pub NoneLacksRun : List Worker → Type 0
NoneLacksRun workers = (place : ℕ) (w : Worker) → slice_get workers place ≡ Some w → lacks_run w ≡ false

-- the fault is that of a worker: of one that ended without memory, or where the oracle lacked a run
abbrev pub FaultIsOf : List Worker → PlaceFault → Type 0
FaultIsOf workers fault.NotCertified = ¬ NoneLacksRun workers
FaultIsOf workers fault.OutOfMemory = Unit {0}
FaultIsOf workers why = ⊥

-- so it is, or the record doesn't close
abbrev pub FaultIsAfter : List Worker → PlaceFault → Type 0
FaultIsAfter workers fault.Board = Unit {0}
FaultIsAfter workers why = FaultIsOf workers why
