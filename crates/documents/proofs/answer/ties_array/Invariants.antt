use Rattle.documents.proofs.Vocabulary.{◌≡◌}
use Rattle.documents.proofs.TiedGaps.{told_ties}
use Rattle.documents.proofs.answer.ties_array.Given as goal

-- the ties of the names so far
abbrev pub invariant-loop-name : goal.invariant-loop-name
invariant-loop-name l = l.array ≡ told_ties l.program.threads l.ties l.name
