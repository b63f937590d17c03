use Rattle.inserted_text.specs.Internal.SameTests.{NameSameRegisters}
use Rattle.inserted_text.proofs.same_test.name_same_registers.Given as goal

-- both name the same registers of the threads so far
abbrev pub invariant-loop-thread : goal.invariant-loop-thread
invariant-loop-thread l = NameSameRegisters l.thread l.one l.other
