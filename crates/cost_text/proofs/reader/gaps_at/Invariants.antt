use Rattle.cost_text.proofs.Vocabulary.{length}
use Rattle.cost_text.proofs.Gathered.{IsOnTheWay}
use Rattle.cost_text.proofs.reader.gaps_at.Given as goal

abbrev pub decreases-loop-place : goal.decreases-loop-place
decreases-loop-place l = length l.rest

-- the places so far are gathered
abbrev pub invariant-loop-place : goal.invariant-loop-place
invariant-loop-place l = IsOnTheWay l.program.threads l.entries l.text l.rest l.placed
