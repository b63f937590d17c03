use Rattle.rowless_sketches.proofs.Vocabulary.{ℕ, ◌<◌, length, At, trace_in, HasEndOf}
use Rattle.rowless_sketches.proofs.parts.Parts.has_ends.Given as goal

-- the memory has the values of the accesses of the threads so far
abbrev pub invariant-loop-t : goal.invariant-loop-t
invariant-loop-t l = (k : ℕ) → k < l.t → (i : ℕ) → i < length (trace_in l.self k).accesses → HasEndOf l.self l.shown l.memory (At k i)
