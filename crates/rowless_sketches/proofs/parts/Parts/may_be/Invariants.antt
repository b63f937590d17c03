use Rattle.rowless_sketches.proofs.Vocabulary.{ℕ, ◌<◌, IsOfThread, MayBeBy}
use Rattle.rowless_sketches.proofs.parts.Parts.may_be.Given as goal

-- no write of the threads so far does
abbrev pub invariant-loop-t : goal.invariant-loop-t
invariant-loop-t l = (k : ℕ) → k < l.t → MayBeBy l.self l.location l.value l.is (IsOfThread k) → ⊥
