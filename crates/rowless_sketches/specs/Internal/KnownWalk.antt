-- A walk over the nodes of a formula, with what is known of the part that was read last, and of the left operands that wait.
use Rattle.std.specs.Prelude.{◌≡◌, List, [], ◌∷◌, ◌++◌}
use Rattle.tso_program.specs.declared.atom.Atom.{Atom}
use Rattle.tso_program.specs.declared.node.FormulaNode.{FormulaNode}
use Rattle.tso_program.specs.declared.node.FormulaNode.TheVariants as node
use Rattle.tso_program.specs.Tree.{Tree}
use Rattle.tso_program.specs.Tree as tree
use Rattle.tso_program.specs.Nodes.{Half, AndOf, OrOf}
use Rattle.program_sketches.specs.declared.known_truth.Knowledge.{Knowledge}
use Rattle.program_sketches.specs.declared.known_truth.Left.{Left, TheVariants.OfAnd, TheVariants.OfOr}
use Rattle.program_sketches.specs.ProgramSketches.{ProgramSketch}
use Rattle.rowless_sketches.specs.Knowledge.{Knows}

-- the part that was read last, and the left operands that wait, after one node more
abbrev pub after_node : FormulaNode → Tree Atom → List Half → Tree Atom × List Half
after_node (node.Atom a) f hs = (tree.Atom a, hs)
after_node (node.Const b) f hs = (tree.Const b, hs)
after_node node.Not f hs = (tree.Not f, hs)
after_node node.And f hs = (f, AndOf f ∷ hs)
after_node node.Or f hs = (f, OrOf f ∷ hs)
after_node node.End f [] = (f, [])
after_node node.End f (AndOf g ∷ hs) = (tree.And g f, hs)
after_node node.End f (OrOf g ∷ hs) = (tree.Or g f, hs)

-- what is known of a left operand
abbrev pub KnowsLeft : ProgramSketch → Half → Left → Type 0
KnowsLeft s (AndOf f) (OfAnd k) = Knows s f k
KnowsLeft s (AndOf f) (OfOr k) = ⊥
KnowsLeft s (OrOf f) (OfAnd k) = ⊥
KnowsLeft s (OrOf f) (OfOr k) = Knows s f k

-- the last of the list is the left operand that waits for this one
abbrev pub KnowsWaiting : ProgramSketch → List Half → List Left → Type 0
KnowsWaiting s [] waiting = waiting ≡ []
KnowsWaiting s (h ∷ hs) waiting = (before : List Left) × ((left : Left) × (waiting ≡ before ++ left ∷ []) × KnowsLeft s h left × KnowsWaiting s hs before)

-- what is known of all of it
pub record KnowsAll (s : ProgramSketch) (at : Tree Atom × List Half) (value : Knowledge) (waiting : List Left) : Type 0 where
  pub read : Knows s at.0 value
  pub left : KnowsWaiting s at.1 waiting
