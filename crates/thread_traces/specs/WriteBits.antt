-- Which values a thread writes, as bits.
use Rattle.std.specs.Prelude.{◌≡◌, ◌+◌, ◌*◌, ◌%◌, ℕ, Bool, true, List, Some, slice_get}
use Rattle.candidate_executions.specs.declared.access.Access.{Access}
use Rattle.thread_traces.specs.declared.write_bits.TheConstants.{WRITE_BITS}

-- the bit of a value that is written to a location
abbrev pub write_bit : ℕ → ℕ → ℕ
write_bit location value = (value + 8 * location) % WRITE_BITS

-- the bit is set
abbrev pub HasBit : List Bool → ℕ → Type 0
HasBit bits k = slice_get bits k ≡ Some true

-- the bit of each value that the accesses write is set
abbrev pub HaveBits : List Access → List Bool → Type 0
HaveBits accesses bits = (i : ℕ) (x : Access) (v : ℕ) → slice_get accesses i ≡ Some x → x.written ≡ Some v → HasBit bits (write_bit x.location v)
