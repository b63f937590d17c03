use Rattle.litmus_reader.proofs.Vocabulary.{◌≡◌, take, replicate, fold, stored}
use Rattle.litmus_reader.proofs.program.memory_of.Given as goal

-- memory after the initial values so far
abbrev pub invariant-loop-atom : goal.invariant-loop-atom
invariant-loop-atom l = l.memory.items ≡ fold stored (replicate l.locations 0) (take l.atom-index l.atoms)
