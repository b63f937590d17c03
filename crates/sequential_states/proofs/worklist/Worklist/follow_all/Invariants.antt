use Rattle.sequential_states.proofs.Vocabulary.{ℕ, ◌<◌, AreReached, IsBeginning, IsFollowed}
use Rattle.sequential_states.proofs.worklist.Worklist.follow_all.Given as goal

-- the steps of the threads so far are followed
abbrev pub invariant-loop-t : goal.invariant-loop-t
invariant-loop-t l = record {
  reached : AreReached l.program l.self;
  longer : IsBeginning l.fn.self l.self;
  followed : (u : ℕ) → u < l.t → IsFollowed l.program l.self l.from u;
}
