-- Nodes that are put after others.
use Rattle.std.specs.Prelude.{◌≡◌, Bool, true, false, List, ◌++◌}
use Rattle.tso_program.specs.declared.outcome.Outcome.{Outcome}
use Rattle.tso_program.specs.declared.shown.Shown.{Shown}
use Rattle.program_sketches.specs.ProgramSketches.{ProgramSketch}
use Rattle.cert_trees.specs.declared.node.Node.{Node}
use Rattle.cert_trees.specs.Trees.{Cover}
use Rattle.cert_trees.specs.Nodes.{spell}
use Rattle.cover_judge.specs.Judged.{IsValidAt}
use Rattle.cover_search.specs.Covers.{IsLeafAt, IsUnsettled}

-- the nodes of a tree with the property come after the old ones
pub record Pushes (P : Cover → Type 0) (old new : List Node) : Type 0 where
  pub tree : Cover
  pub is : P tree
  pub pushed : new ≡ old ++ spell tree

-- a leaf comes after the old nodes, or there is none
abbrev pub IfLeaf : ProgramSketch → Shown → List Outcome → List Node → List Node → Bool → Type 0
IfLeaf s shown outcomes old new true = Pushes (IsLeafAt s shown outcomes) old new
IfLeaf s shown outcomes old new false = IsUnsettled s shown outcomes × (new ≡ old)

-- the tree is valid at the sketch, and the nodes have moved; or all is as before
abbrev pub TakesPlace : ProgramSketch → Shown → List Outcome → Cover → List Node → List Node → List Node → Bool → Type 0
TakesPlace s shown outcomes tree old moved new true = IsValidAt s shown outcomes tree × (new ≡ moved)
TakesPlace s shown outcomes tree old moved new false = new ≡ old
