use Rattle.fence_place.proofs.Vocabulary.{vec_len, All, IsOf, Worker}
use Rattle.fence_place.proofs.hunting.left_by.Given as goal

-- all seats are of the hunt
abbrev pub invariant-loop-worker : goal.invariant-loop-worker
invariant-loop-worker l = All (λ (worker : Worker). IsOf l.hunt worker.seat) l.workers.items × All (IsOf l.hunt) l.seats.items

abbrev pub decreases-loop-worker : goal.decreases-loop-worker
decreases-loop-worker l = vec_len l.workers
