use Rattle.documents.proofs.Vocabulary.{◌≡◌, List, map, take, StepPart, step_text, AreStepsOf}
use Rattle.documents.proofs.step.steps_array.Given as goal

-- the steps so far
abbrev pub invariant-loop-step : goal.invariant-loop-step
invariant-loop-step l = (parts : List StepPart) × AreStepsOf (map (λ step. step.label) (take l.step-index l.steps)) parts × (l.array ≡ map step_text parts)
