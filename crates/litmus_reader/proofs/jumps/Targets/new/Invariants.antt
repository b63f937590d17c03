use Rattle.litmus_reader.proofs.Vocabulary.{◌≡◌, [], take, fold, with_label}
use Rattle.litmus_reader.proofs.jumps.Targets.new.Given as goal

-- the labels so far are added
abbrev pub invariant-loop-label : goal.invariant-loop-label
invariant-loop-label l = l.targets ≡ fold with_label [] (take l.label-index l.labels)
