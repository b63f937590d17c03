use Rattle.known_edges.proofs.Vocabulary.{◌<◌, ROW_BITS}
use Rattle.known_edges.proofs.NumberWalks.{IsWalk}
use Rattle.known_edges.proofs.round.walk.Given as goal

abbrev pub invariant-loop-path : goal.invariant-loop-path
invariant-loop-path l = (l.d < ROW_BITS) × IsWalk l.events l.relation l.row l.path.items l.d l.open

abbrev pub decreases-loop-path : goal.decreases-loop-path
decreases-loop-path l = l.open
