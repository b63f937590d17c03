use Rattle.litmus_reader.proofs.Vocabulary.{take, FindAllAs}
use Rattle.litmus_reader.proofs.jumps.targets_of.Given as goal

-- the labels of the threads so far are found
abbrev pub invariant-loop-own : goal.invariant-loop-own
invariant-loop-own l = FindAllAs l.targets.items (take l.own-index l.labels)
