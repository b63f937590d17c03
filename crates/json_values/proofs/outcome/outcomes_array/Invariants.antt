use Rattle.json_values.proofs.Vocabulary.{◌≡◌, map, take, outcome_array}
use Rattle.json_values.proofs.outcome.outcomes_array.Given as goal

-- the outcomes so far
abbrev pub invariant-loop-outcome : goal.invariant-loop-outcome
invariant-loop-outcome l = l.array ≡ map (outcome_array l.names l.shown) (take l.outcome-index l.outcomes)
