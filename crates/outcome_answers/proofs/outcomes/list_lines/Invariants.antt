use Rattle.outcome_answers.proofs.Vocabulary.{◌≡◌, ◌++◌, take, outcome_lines}
use Rattle.outcome_answers.proofs.outcomes.list_lines.Given as goal

-- the outcomes so far are written, each with its run where there is one
abbrev pub invariant-loop-number : goal.invariant-loop-number
invariant-loop-number l = l.lines.items ≡ l.initial.lines.items ++ outcome_lines l.litmus.names l.shown (take l.number l.outcomes) l.list.runs
