use Rattle.std.specs.Prelude.{◌≡◌}
use Rattle.tso_program.proofs.Vocabulary.{take}
use Rattle.tso_program.proofs.program.threads_apart.Given as goal

-- the copies are of the threads so far
abbrev pub invariant-loop-thread : goal.invariant-loop-thread
invariant-loop-thread l = l.copies.items ≡ take l.thread-index l.threads
