-- Which node of a gap tree is the first wrong one: a node is judged before its children, and the children in order.
use Rattle.std.specs.Prelude.{◌≡◌, ℕ, zero, suc, List, [], ◌∷◌, length}
use Rattle.gap_sets.specs.Gaps.{SetOfGaps}
use Rattle.gap_sets.specs.Regions.{child_regions}
use Rattle.gap_sets.specs.declared.region.Region.{Region}
use Rattle.tso_program.specs.declared.question.Question.{Question}
use Rattle.tso_machine.specs.declared.label.Label.{Label}
use Rattle.cert_forest.specs.Trees.{Gap, Split, Bound, GapTrees, NoGap, MoreGaps, count_gaps}
use Rattle.tree_laws.specs.GapTrees.{IsSplitBy, IsBoundBy, IsValidGap}

-- the run of this number doesn't split the region into so many
abbrev pub HasNoSplit : Question → List (List Label) → Region → ℕ → ℕ → Type 0
HasNoSplit q runs region number count = (gaps : List ℕ) → IsSplitBy q runs region number gaps → count ≡ length gaps → ⊥

module _ (q : Question) (costs : List ℕ) (answer : SetOfGaps) (runs : List (List Label)) where
  -- the root is wrong for the region, whatever its children say
  abbrev pub HasWrongGapRoot : Gap → Region → Type 0
  HasWrongGapRoot (Split number children) region = HasNoSplit q runs region number (count_gaps children)
  HasWrongGapRoot (Bound numbers) region = ¬ IsBoundBy q costs answer runs region numbers

  abbrev mutual
    -- The node at this path is wrong, and none before it is: each node above it is right, and the trees of the children before it are valid.
    pub FirstWrongGap : Gap → Region → List ℕ → Type 0
    FirstWrongGap (Split number children) region [] = HasWrongGapRoot (Split number children) region
    FirstWrongGap (Split number children) region (child ∷ path) =
        (gaps : List ℕ) × IsSplitBy q runs region number gaps × (count_gaps children ≡ length gaps)
        × FirstWrongGapChild children (child_regions region gaps) child path
    FirstWrongGap (Bound numbers) region [] = HasWrongGapRoot (Bound numbers) region
    FirstWrongGap (Bound numbers) region (child ∷ path) = ⊥

    -- the child of this number has the first wrong node, at this path from it
    pub FirstWrongGapChild : GapTrees → List Region → ℕ → List ℕ → Type 0
    FirstWrongGapChild NoGap regions child path = ⊥
    FirstWrongGapChild (MoreGaps tree trees) [] child path = ⊥
    FirstWrongGapChild (MoreGaps tree trees) (region ∷ regions) zero path = FirstWrongGap tree region path
    FirstWrongGapChild (MoreGaps tree trees) (region ∷ regions) (suc child) path = IsValidGap q costs answer runs tree region × FirstWrongGapChild trees regions child path
