-- Nodes that are those of cover trees.
use Rattle.std.specs.Prelude.{◌≡◌, ℕ, ◌+◌, ◌≤◌, List, [], ◌∷◌, length}
use Rattle.cert_trees.specs.declared.node.Node.{Node}
use Rattle.cert_trees.specs.declared.node.Node.TheVariants as node
use Rattle.cert_trees.specs.Nodes.{trees_of, AreTrees}

-- the nodes spell so many trees
pub record SpellTrees (nodes : List Node) (count : ℕ) : Type 0 where
  pub are : AreTrees nodes
  pub many : count ≡ length (trees_of nodes)

-- with a node over so many of the trees there are this many
pub record AreLeftBy (count trees left : ℕ) : Type 0 where
  pub enough : count ≤ trees
  pub others : left + count ≡ trees + 1

-- the node is one of a cycle that has accesses
abbrev pub IsOfCycle : Node → Type 0
IsOfCycle (node.Earlier a b c) = Unit {0}
IsOfCycle (node.LastOne kind a) = Unit {0}
IsOfCycle (node.LastTwo kind a b) = Unit {0}
IsOfCycle (node.LastThree kind a b c) = Unit {0}
IsOfCycle x = ⊥

-- the first node is such a one
abbrev pub BeginWithCycle : List Node → Type 0
BeginWithCycle [] = ⊥
BeginWithCycle (x ∷ xs) = IsOfCycle x
