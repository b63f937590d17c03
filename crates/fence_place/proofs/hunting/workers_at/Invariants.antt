use Rattle.fence_place.proofs.Vocabulary.{vec_len, All, IsFresh, IsReadyWorker}
use Rattle.fence_place.proofs.hunting.workers_at.Given as goal

-- the seats that are left are as they were, and those before them have workers
abbrev pub invariant-loop-seat : goal.invariant-loop-seat
invariant-loop-seat l = All (IsFresh l.hunt) l.seats.items × All (IsReadyWorker l.hunt) l.row.items

abbrev pub decreases-loop-seat : goal.decreases-loop-seat
decreases-loop-seat l = vec_len l.seats
