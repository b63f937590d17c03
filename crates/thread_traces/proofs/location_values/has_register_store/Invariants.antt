use Rattle.thread_traces.proofs.Vocabulary.{◌≡◌, ℕ, ◌<◌, Some, slice_get, Instr, StoresRegister}
use Rattle.thread_traces.proofs.location_values.has_register_store.Given as goal

-- none of the instructions so far stores a register there
abbrev pub invariant-loop-instr : goal.invariant-loop-instr
invariant-loop-instr l = (k : ℕ) (x : Instr) → k < l.instr-index → slice_get l.code k ≡ Some x → StoresRegister l.location x → ⊥
