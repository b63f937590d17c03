-- Laws of the nodes of trees.
use Rattle.std.specs.Prelude.{◌≡◌, List, ◌++◌}
use Rattle.cert_trees.specs.declared.node.Node.{Node}
use Rattle.cert_trees.specs.declared.node.GapNode.{GapNode}
use Rattle.cert_trees.specs.Trees.{Cover, Gap}
use Rattle.cert_trees.specs.Nodes.{spell}
use Rattle.cert_trees.specs.GapNodes.{spell_gap}

-- the nodes of a tree spell no other one, and no other one's nodes begin with them
abbrev pub NodesSpellOneTree : Type 0
NodesSpellOneTree = (t u : Cover) (xs ys : List Node) → spell t ++ xs ≡ spell u ++ ys → (t ≡ u) × (xs ≡ ys)

abbrev pub GapNodesSpellOneTree : Type 0
GapNodesSpellOneTree = (t u : Gap) (xs ys : List GapNode) → spell_gap t ++ xs ≡ spell_gap u ++ ys → (t ≡ u) × (xs ≡ ys)
