use Rattle.litmus_syntax.proofs.LabelLaws.{LabelsOnce}
use Rattle.litmus_syntax.proofs.label.first_repeated.Given as goal

abbrev pub invariant-loop-label : goal.invariant-loop-label
invariant-loop-label l = LabelsOnce l.labels l.label-index l.seen.keys
