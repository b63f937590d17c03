use Rattle.cert_trees.proofs.Vocabulary.{spell_gap, gap_trees_in}
use Rattle.cert_trees.proofs.{Spelled.one_tree_first, NodeLaws.one_tree, GapNodeLaws.gaps_back}
use Rattle.cert_trees.proofs.laws.nodes_spell_one_tree.Goals as goal

pub returns-clause-covers : goal.returns-clause-covers
returns-clause-covers c = one_tree

pub returns-clause-gaps : goal.returns-clause-gaps
returns-clause-gaps c = one_tree_first spell_gap gap_trees_in gaps_back
