use Rattle.rowless_sketches.proofs.Vocabulary.{ℕ, ◌<◌, mode_in}
use Rattle.candidate_executions.specs.Settled.{IsOfOther, MayStillWrite}
use Rattle.rowless_sketches.proofs.parts.Parts.others_may_write.Given as goal

-- none of the threads so far may
abbrev pub invariant-loop-u : goal.invariant-loop-u
invariant-loop-u l = (k : ℕ) → k < l.u → IsOfOther k l.event × MayStillWrite l.self.program (mode_in l.self) l.self.chosen k l.location l.value → ⊥
