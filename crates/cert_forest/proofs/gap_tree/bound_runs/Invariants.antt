use Rattle.cert_forest.proofs.Vocabulary.{run_nodes, run_number_at}
use Rattle.cert_forest.proofs.PushedTrees.{PushedSoFar}
use Rattle.cert_forest.proofs.gap_tree.bound_runs.Given as goal

abbrev pub invariant-loop : goal.invariant-loop
invariant-loop l = PushedSoFar run_nodes run_number_at l.count l.counter l.fn.nodes.items l.nodes.items l.bytes l.rest
