use Rattle.thread_traces.proofs.Vocabulary.{◌≤◌, combination_count, values_at, CountSaysSoFar}
use Rattle.thread_traces.proofs.combinations.trace_combinations.Given as goal

-- the threads so far
abbrev pub invariant-loop-t : goal.invariant-loop-t
invariant-loop-t l =
    CountSaysSoFar l.ceiling l.combinations l.left (combination_count l.program (values_at l.values.items) l.t)
    × (l.left ≤ l.ceiling)
