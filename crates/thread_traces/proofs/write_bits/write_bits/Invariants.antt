use Rattle.thread_traces.proofs.Vocabulary.{◌≡◌, ◌<◌, ℕ, Some, slice_get, Access, HasBit, write_bit}
use Rattle.thread_traces.proofs.write_bits.write_bits.Given as goal

-- the bits of what the accesses so far write are set
abbrev pub invariant-loop-access : goal.invariant-loop-access
invariant-loop-access l = (i : ℕ) (x : Access) (v : ℕ) → i < l.access-index → slice_get l.accesses i ≡ Some x → x.written ≡ Some v → HasBit l.written (write_bit x.location v)
