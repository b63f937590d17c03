use Rattle.fence_place.proofs.Vocabulary.{IsReadyWorker}
use Rattle.fence_place.proofs.worker.work.Given as goal

-- the worker holds nothing between two nodes
abbrev pub invariant-loop : goal.invariant-loop
invariant-loop g l = (goal.iterator-loop g).can_next l.iterator' × (goal.iterator-loop g).is_finite l.iterator' × IsReadyWorker l.shared.hunt l.worker
