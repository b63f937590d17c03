use Rattle.rowless_sketches.proofs.Vocabulary.{ℕ, ◌<◌, At, WritesTo}
use Rattle.rowless_sketches.proofs.parts.Parts.thread_writes.Given as goal

-- none of the accesses so far writes the location
abbrev pub invariant-loop-i : goal.invariant-loop-i
invariant-loop-i l = (k : ℕ) → k < l.i → WritesTo l.self (At l.t k) l.location → ⊥
