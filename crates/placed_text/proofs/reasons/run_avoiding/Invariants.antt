use Rattle.placed_text.proofs.Vocabulary.{List, Label}
use Rattle.std.specs.Prelude.{Contains}
use Rattle.tso_machine.specs.FenceLaws.{PassesNoGapOf}
use Rattle.placed_text.proofs.reasons.run_avoiding.Given as goal

-- the runs to come are of these, and each that passes no gap of the set is to come
abbrev pub invariant-loop-labels : goal.invariant-loop-labels
invariant-loop-labels l = record {
  here : (labels : List Label) → Contains l.labels-iterator labels → Contains l.runs labels;
  to_come : (labels : List Label) → Contains l.runs labels → PassesNoGapOf l.program l.gaps labels → Contains l.labels-iterator labels;
}
