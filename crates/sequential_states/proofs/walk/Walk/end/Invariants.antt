use Rattle.sequential_states.proofs.Vocabulary.{ℕ, ◌<◌, IsThreadAtEnd, IsWalkOn}
use Rattle.sequential_states.proofs.walk.Walk.end.Given as goal

-- the threads so far are at their ends
abbrev pub invariant-loop-t : goal.invariant-loop-t
invariant-loop-t l = record {
  longer : IsWalkOn l.program l.fn.self l.self;
  ended : (u : ℕ) → u < l.t → IsThreadAtEnd l.program l.self.state u;
}
