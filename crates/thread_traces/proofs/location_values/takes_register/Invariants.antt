use Rattle.thread_traces.proofs.Vocabulary.{◌≡◌, ℕ, ◌<◌, Some, Instr, instr_at, StoresRegister}
use Rattle.thread_traces.proofs.location_values.takes_register.Given as goal

-- none of the threads so far stores a register there
abbrev pub invariant-loop-thread : goal.invariant-loop-thread
invariant-loop-thread l = (t k : ℕ) (x : Instr) → t < l.thread-index → instr_at l.threads t k ≡ Some x → StoresRegister l.location x → ⊥
