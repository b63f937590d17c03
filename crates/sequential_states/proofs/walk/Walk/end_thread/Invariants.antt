use Rattle.sequential_states.proofs.Vocabulary.{IsWalkOn}
use Rattle.sequential_states.proofs.Ending.{left}
use Rattle.sequential_states.proofs.walk.Walk.end_thread.Given as goal

abbrev pub invariant-loop : goal.invariant-loop
invariant-loop l = IsWalkOn l.program l.initial.self l.self

abbrev pub decreases-loop : goal.decreases-loop
decreases-loop l = left l.program l.self.state l.t
