use Rattle.cert_forest.proofs.FlatRunLaws.{none_begun, none_left}
use Rattle.cert_forest.proofs.Vocabulary.{ap, length}
use Rattle.cert_forest.proofs.run_list.Runs.new.Goals as goal

pub invariant_of-result : goal.invariant_of-result
invariant_of-result c = none_begun c.new-2.result.items c.new.result.items c.new-2.ensures.items c.new.ensures.items

pub returns : goal.returns
returns c = none_left 0 c.new-2.result.items c.new.result.items (ap length c.new-2.ensures.items)
