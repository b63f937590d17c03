use Rattle.rowless_sketches.proofs.Vocabulary.{ℕ, ◌<◌, At, HasEndOf}
use Rattle.rowless_sketches.proofs.parts.Parts.thread_has_ends.Given as goal

-- the memory has the values of the accesses so far
abbrev pub invariant-loop-i : goal.invariant-loop-i
invariant-loop-i l = (k : ℕ) → k < l.i → HasEndOf l.self l.shown l.memory (At l.t k)
