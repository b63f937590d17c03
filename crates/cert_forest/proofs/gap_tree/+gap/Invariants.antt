use Rattle.cert_forest.proofs.Vocabulary.{◌+◌, ◌*◌, spell_gap, gap_at}
use Rattle.cert_forest.proofs.PushedTrees.{PushedSoFar}
use Rattle.cert_forest.proofs.gap_tree.+gap.Given as goal

abbrev pub decreases-gap : goal.decreases-gap
decreases-gap l = 2 * l.depth

abbrev pub decreases-gaps : goal.decreases-gaps
decreases-gaps l = 2 * l.depth + 1

abbrev pub invariant-gaps-loop : goal.invariant-gaps-loop
invariant-gaps-loop l = PushedSoFar spell_gap (gap_at l.rule l.depth) l.count l.counter l.fn.nodes.items l.nodes.items l.bytes l.rest
