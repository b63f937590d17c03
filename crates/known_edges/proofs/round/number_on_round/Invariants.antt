use Rattle.known_edges.proofs.Vocabulary.{◌<◌, IsIn, ROW_BITS}
use Rattle.known_edges.proofs.round.number_on_round.Given as goal

abbrev pub invariant-loop-open : goal.invariant-loop-open
invariant-loop-open l = (l.d < ROW_BITS) × IsIn l.row l.d

abbrev pub decreases-loop-open : goal.decreases-loop-open
decreases-loop-open l = l.open
