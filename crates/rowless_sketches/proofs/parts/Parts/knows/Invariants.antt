use Rattle.rowless_sketches.proofs.Vocabulary.{◌≡◌, List, drop, Atom, Tree, Half, build, formula_tree, KnowsAll}
use Rattle.rowless_sketches.proofs.parts.Parts.knows.Given as goal

-- what is known of the part that was read last, and of the left operands that wait; the nodes that are left make the formula of them
abbrev pub invariant-loop-node : goal.invariant-loop-node
invariant-loop-node l = (f : Tree Atom) × ((hs : List Half) × (build f hs (drop l.node-index l.nodes) ≡ formula_tree l.nodes) × KnowsAll l.self (f, hs) l.value l.waiting.items)
