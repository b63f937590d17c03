use Rattle.known_edges.proofs.Vocabulary.{◌<◌, ℕ, get_or, IsIn}
use Rattle.known_edges.proofs.numbered_traces.joined_all.Given as goal

-- the numbers of the rows so far have come
abbrev pub invariant-loop-row : goal.invariant-loop-row
invariant-loop-row l = (d e : ℕ) → d < l.row-index → IsIn (get_or l.rows d 0) e → IsIn l.all e
