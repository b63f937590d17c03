use Rattle.placed_text.proofs.Vocabulary.{List, Label}
use Rattle.std.specs.Prelude.{Contains}
use Rattle.placed_text.specs.Verdicts.{Decides}
use Rattle.placed_text.proofs.verdict.some_decides.Given as goal

-- each run that decides the condition is to come
abbrev pub invariant-loop-labels : goal.invariant-loop-labels
invariant-loop-labels l = (labels : List Label) → Contains l.runs labels → Decides l.litmus labels → Contains l.labels-iterator labels
