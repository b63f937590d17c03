-- The children of a region by some gaps: when trees are valid for them, and which node of the trees is the first wrong one.
use Rattle.std.specs.Prelude.{ℕ, List}
use Rattle.gap_sets.specs.Gaps.{SetOfGaps}
use Rattle.gap_sets.specs.Regions.{child_regions}
use Rattle.gap_sets.specs.declared.region.Region.{Region}
use Rattle.tso_program.specs.declared.question.Question.{Question}
use Rattle.tso_machine.specs.declared.label.Label.{Label}
use Rattle.cert_forest.specs.Trees.{Gap, gap_trees_of}
use Rattle.tree_laws.specs.GapTrees.{AreValidGaps}
use Rattle.cert_check.specs.GapDefects.{FirstWrongGapChild}

module _ (q : Question) (costs : List ℕ) (answer : SetOfGaps) (runs : List (List Label)) where
  -- the trees are valid for the children of the region by these gaps, in order
  abbrev pub AreValidIn : List Gap → Region → List ℕ → Type 0
  AreValidIn trees region gaps = AreValidGaps q costs answer runs (gap_trees_of trees) (child_regions region gaps)

  -- the tree of this number has the first wrong node, at this path from it
  abbrev pub IsWrongChildIn : List Gap → Region → List ℕ → ℕ → List ℕ → Type 0
  IsWrongChildIn trees region gaps number path = FirstWrongGapChild q costs answer runs (gap_trees_of trees) (child_regions region gaps) number path
