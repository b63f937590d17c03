use Rattle.hunt_board.proofs.Vocabulary.{ℕ, ◌-◌, length, WalkLeads}
use Rattle.hunt_board.proofs.record.place_of.Given as goal

-- what the rest of the walk leads to the whole does
abbrev pub invariant-loop-child : goal.invariant-loop-child
invariant-loop-child l = (end : ℕ) → WalkLeads l.finished.entries l.node l.place end → WalkLeads l.finished.entries l.node 0 end

abbrev pub decreases-loop-child : goal.decreases-loop-child
decreases-loop-child l = length l.finished.entries - l.place
