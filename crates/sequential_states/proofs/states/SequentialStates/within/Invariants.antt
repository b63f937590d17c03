use Rattle.sequential_states.proofs.Vocabulary.{ℕ, ◌<◌, ◌-◌, start, IsListed, AreReached, IsExplored}
use Rattle.sequential_states.proofs.states.SequentialStates.within.Given as goal

-- the states so far are explored
abbrev pub invariant-loop-alloc : goal.invariant-loop-alloc
invariant-loop-alloc l = record {
  reached : AreReached l.program l.worklist;
  first : IsListed l.worklist (start l.program);
  explored : (place : ℕ) → place < l.explored → IsExplored l.program l.worklist place;
}

abbrev pub decreases-loop-alloc : goal.decreases-loop-alloc
decreases-loop-alloc l = 18446744073709551616 - l.explored
