use Rattle.rowless_sketches.proofs.Vocabulary.{◌≡◌, ℕ, ◌<◌, ◌≤◌, Some, slice_get}
use Rattle.candidate_executions.specs.Settled.{MayStore}
use Rattle.tso_program.specs.declared.instruction.Instr.{Instr}
use Rattle.rowless_sketches.proofs.settled.stores_from.Given as goal

-- none of the instructions so far may
abbrev pub invariant-loop-k : goal.invariant-loop-k
invariant-loop-k l = record {
  begun : l.place ≤ l.k;
  none : (j : ℕ) (x : Instr) → l.place ≤ j → j < l.k → slice_get l.code j ≡ Some x → MayStore x l.location l.value → ⊥;
}
