use Rattle.rowless_sketches.proofs.Vocabulary.{ℕ, ◌<◌, Initial, HasEndOf}
use Rattle.rowless_sketches.proofs.parts.Parts.has_initial_ends.Given as goal

-- the memory has the values of the initial writes so far
abbrev pub invariant-loop-l : goal.invariant-loop-l
invariant-loop-l l = (k : ℕ) → k < l.l → HasEndOf l.self l.shown l.memory (Initial k)
