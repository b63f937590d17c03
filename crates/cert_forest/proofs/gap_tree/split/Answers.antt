use Rattle.cert_forest.proofs.Vocabulary.{◌≤◌, arith, MAX_COUNT, count_exact}
use Rattle.cert_forest.proofs.gap_tree.split.Goals as goal

pub overflow_cast-result : goal.overflow_cast-result
overflow_cast-result c =
    let few : c.in_ok-count.count ≤ MAX_COUNT = (count_exact.takes c.in_ok-run.rest.now (c.in_ok-count.count, c.in_ok-count.rest.now) c.in_ok-count.ensures).1 in
    omega arith
