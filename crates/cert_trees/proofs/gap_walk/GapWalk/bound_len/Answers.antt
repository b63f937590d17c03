use Rattle.cert_trees.proofs.Vocabulary.{ap, ◌∙◌, bound_len}
use Rattle.cert_trees.proofs.GapNodeLaws.{runs_are_first}
use Rattle.cert_trees.proofs.gap_walk.GapWalk.bound_len.Goals as goal

pub returns : goal.returns
returns c = c.runs_first.ensures ∙ runs_are_first c.self.inside.left.now c.self.invariant ∙ ap bound_len c.self.view_is
