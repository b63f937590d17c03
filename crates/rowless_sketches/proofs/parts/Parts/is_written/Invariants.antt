use Rattle.rowless_sketches.proofs.Vocabulary.{ℕ, ◌<◌, IsWrittenBy}
use Rattle.rowless_sketches.proofs.parts.Parts.is_written.Given as goal

-- none of the threads so far writes the location
abbrev pub invariant-loop-t : goal.invariant-loop-t
invariant-loop-t l = (k : ℕ) → k < l.t → IsWrittenBy l.self k l.location → ⊥
