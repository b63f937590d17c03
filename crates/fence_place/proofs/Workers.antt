-- Workers of a hunt: what they know, and why they end.
use Rattle.fence_place.proofs.Vocabulary.{◌≡◌, ◌∙◌, Bool, true, false, ℕ, List, Option, Some, refl, sym, Worker, PlaceFault, All, IfSome, slice_get, slice_index_or, get_or_from_slice_get, HuntView, HasStopped, MayStop}
use Rattle.fence_place.proofs.Vocabulary.{NoneLacksRun, FaultIsAfter, lacks_run_for}
use Rattle.fence_place.specs.{declared.worker.StopReason.StopReason, declared.worker.StopReason.TheVariants.NoRun, Faults.MayHuntFail}
use Rattle.tree_laws.proofs.Lists.{found_has}
use Rattle.fence_place.specs.declared.fault.PlaceFault.TheVariants as fault

-- what is read at a place where an element stands is that element
pub read_at : {X : Type 0} (xs : List X) (place : ℕ) (x y d : X) → slice_get xs place ≡ Some x → y ≡ slice_index_or xs place d → x ≡ y
read_at xs place x y d at is = sym (is ∙ get_or_from_slice_get xs place x d at)

none_lacked : (stop : Option StopReason) → IfSome stop (MayStop false) → lacks_run_for stop ≡ false
none_lacked (Some NoRun) may = sym may
none_lacked stop may = refl

-- where a worker lacked a run the oracle may lack runs
pub may_lack : (h : HuntView) (may : Bool) (workers : List Worker) → All (HasStopped h may) workers → ¬ NoneLacksRun workers → may ≡ true
may_lack h true workers ended lacked = refl
may_lack h false workers ended lacked = absurd (lacked (λ place w at. none_lacked w.stop ((found_has (HasStopped h false) workers place w at ended).1)))

-- the fault of a hunt, where its workers have ended as they may
pub hunt_fails : (h : HuntView) (may : Bool) (workers : List Worker) (why : PlaceFault) → All (HasStopped h may) workers → FaultIsAfter workers why → MayHuntFail may why
hunt_fails h may workers fault.NotCertified ended is = may_lack h may workers ended is
hunt_fails h may workers fault.Board ended is = tt
hunt_fails h may workers fault.OutOfMemory ended is = tt
hunt_fails h may workers why ended is = is
