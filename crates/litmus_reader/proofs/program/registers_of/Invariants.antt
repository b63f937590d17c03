use Rattle.litmus_reader.proofs.Vocabulary.{◌≡◌, take, replicate, fold, with_initial}
use Rattle.litmus_reader.proofs.program.registers_of.Given as goal

-- the registers after the initial values so far
abbrev pub invariant-loop-atom : goal.invariant-loop-atom
invariant-loop-atom l = l.registers.items ≡ fold with_initial (replicate l.threads (replicate 6 0)) (take l.atom-index l.atoms)
