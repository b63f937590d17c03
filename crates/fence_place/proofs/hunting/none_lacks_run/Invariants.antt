use Rattle.fence_place.proofs.Vocabulary.{◌≡◌, ℕ, ◌<◌, Some, false, slice_get, Worker, lacks_run}
use Rattle.fence_place.proofs.hunting.none_lacks_run.Given as goal

-- none has lacked a run so far
abbrev pub invariant-loop-worker : goal.invariant-loop-worker
invariant-loop-worker l = (j : ℕ) (w : Worker) → j < l.worker-index → slice_get l.workers j ≡ Some w → lacks_run w ≡ false
