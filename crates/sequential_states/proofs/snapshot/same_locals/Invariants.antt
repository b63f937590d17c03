use Rattle.sequential_states.proofs.Vocabulary.{◌≡◌, take}
use Rattle.sequential_states.proofs.snapshot.same_locals.Given as goal

-- the threads so far are in the same states
abbrev pub invariant-loop-t : goal.invariant-loop-t
invariant-loop-t l = take l.t l.locals ≡ take l.t l.others
