use Rattle.search_core.proofs.Vocabulary.{ap, sym, ◌∙◌, Region}
use Rattle.search_core.proofs.tree.SearchTree.confirm_held.Goals as goal

pub confirm-requires-clause-of_node : goal.confirm-requires-clause-of_node
confirm-requires-clause-of_node c = λ node holds. c.requires.of_node ∙ ap (λ (n : Region). n.must) (sym (c.requires.in_hand.holds.only node holds))

pub unreachable-requires : goal.unreachable-requires
unreachable-requires c = c.in-Err.ensures.fault.1 c.requires.node c.requires.in_hand.holds.held
