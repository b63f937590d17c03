-- Trees that show that no better set of gaps serves: when they are valid, and what they mean (this project's own definitions; docs/definitions.md).
use Rattle.std.specs.Prelude.{◌≡◌, ◌↔◌, ℕ, ◌≤◌, true, false, List, [], ◌∷◌, Some, Contains, slice_get, length, All}
use Rattle.std.specs.List.{AllZip}
use Rattle.std.specs.List.Sorted.{IsStrictlyIncreasing}
use Rattle.std.specs.FinSet as set
use Rattle.gap_sets.specs.Gaps.{SetOfGaps}
use Rattle.gap_sets.specs.Order.{Better}
use Rattle.gap_sets.specs.Regions.{IsInRegion, child_regions}
use Rattle.gap_sets.specs.declared.region.Region.{Region}
use Rattle.tso_program.specs.declared.listing.Listing.{Listing}
use Rattle.tso_program.specs.declared.question.Question.{Question}
use Rattle.tso_program.specs.Listings.{gap_count}
use Rattle.tso_machine.specs.declared.label.Label.{Label}
use Rattle.tso_machine.specs.Outcomes.{PassesName, PassesNoNameOf, Serves, LeavesOutcome, AreGapsOf}
use Rattle.cert_forest.specs.Trees.{Gap, Split, Bound, GapTrees, NoGap, MoreGaps}
use Rattle.tree_laws.specs.Packings.{IsPacking, IsCheapestOf, with_gaps}

-- Sets and gaps are those of the ties' names.

-- the labels pass the gap, and it is outside `never`
abbrev pub IsOpenGap : Question → List Label → SetOfGaps → ℕ → Type 0
IsOpenGap q labels never gap = PassesName q labels gap × (set.contains never gap ≡ false)

-- one of the runs passes no gap of the set
abbrev pub SomePassesNone : Question → List (List Label) → SetOfGaps → Type 0
SomePassesNone q runs gaps = (labels : List Label) × Contains runs labels × PassesNoNameOf q gaps labels

module _ (q : Question) (runs : List (List Label)) where
  -- the run of this number passes no gap of `must`, and these are the gaps that it passes outside `never`, ascending
  pub record IsSplitBy (region : Region) (number : ℕ) (gaps : List ℕ) : Type 0 where
    pub labels : List Label
    pub is_run : slice_get runs number ≡ Some labels
    pub passes_none : (gap : ℕ) → set.contains region.must gap ≡ true → ¬ PassesName q labels gap
    pub ascending : IsStrictlyIncreasing gaps
    pub exact : (gap : ℕ) → Contains gaps gap ↔ IsOpenGap q labels region.never gap

module _ (q : Question) (costs : List ℕ) (answer : SetOfGaps) (runs : List (List Label)) where
  -- The runs of these numbers pass no gap of `must`, no two of them pass a common gap outside `never`, and `must` with the cheapest gap of each
  -- outside `never` is not better than the answer. Where a run passes no gap outside `never` there is no such set: no set of the region serves.
  pub record IsBoundBy (region : Region) (numbers : List ℕ) : Type 0 where
    pub gaps : List (List ℕ)
    pub each : AllZip (IsSplitBy q runs region) numbers gaps
    pub apart : IsPacking gaps
    pub not_better : (cheapest : List ℕ) → AllZip (IsCheapestOf costs) gaps cheapest → ¬ Better costs (with_gaps region.must cheapest) answer

  abbrev mutual
    -- the tree is valid for the region: a child for each gap that a run passes and that the sets may have, or runs that bound the region
    pub IsValidGap : Gap → Region → Type 0
    IsValidGap (Split number children) region = (gaps : List ℕ) × IsSplitBy q runs region number gaps × AreValidGaps children (child_regions region gaps)
    IsValidGap (Bound numbers) region = IsBoundBy region numbers

    -- as many trees as regions, each valid for its own
    pub AreValidGaps : GapTrees → List Region → Type 0
    AreValidGaps NoGap [] = Unit {0}
    AreValidGaps NoGap (region ∷ regions) = ⊥
    AreValidGaps (MoreGaps tree trees) [] = ⊥
    AreValidGaps (MoreGaps tree trees) (region ∷ regions) = IsValidGap tree region × AreValidGaps trees regions

  -- what a valid tree means: of each better set of the region one of the runs passes no gap
  abbrev pub SomeRunAvoidsEachBetter : Region → Type 0
  SomeRunAvoidsEachBetter region = (other : SetOfGaps) → AreGapsOf q.program other → IsInRegion region other → Better costs other answer → SomePassesNone q runs other

module _ (q : Question) (costs : List ℕ) (answer : SetOfGaps) where
  -- so, where the runs are foreign, each better set of the region leaves an outcome that no sequential run has
  abbrev pub EachBetterOfRegionLeavesOutcome : Region → Type 0
  EachBetterOfRegionLeavesOutcome region =
      (other : SetOfGaps) → AreGapsOf q.program other → IsInRegion region other → Better costs other answer → LeavesOutcome q other

  -- so no serving set of the region is better
  abbrev pub NoServingSetIsBetter : Region → Type 0
  NoServingSetIsBetter region = (other : SetOfGaps) → AreGapsOf q.program other → IsInRegion region other → Serves q other → ¬ Better costs other answer

-- each gap of the program has a cost, and none is 0
pub record HaveCosts (p : Listing) (costs : List ℕ) : Type 0 where
  pub one_each : length costs ≡ gap_count p.threads
  pub positive : All (λ cost. 1 ≤ cost) costs
