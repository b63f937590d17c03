-- Bounds by runs, of which some are judged.
use Rattle.std.specs.Prelude.{◌≡◌, ◌↔◌, ◌⊎◌, ℕ, ◌<◌, ◌≤◌, true, false, List, [], ◌∷◌, Contains, All, Option, Some, None, drop}
use Rattle.std.specs.List.{AllZip}
use Rattle.std.specs.FinSet as set
use Rattle.gap_sets.specs.Gaps.{SetOfGaps}
use Rattle.gap_sets.specs.Order.{cost_of, Better}
use Rattle.gap_sets.specs.Regions.{HasNoneOf}
use Rattle.gap_sets.specs.declared.region.Region.{Region}
use Rattle.tso_program.specs.declared.question.Question.{Question}
use Rattle.tso_machine.specs.declared.label.Label.{Label}
use Rattle.cert_forest.specs.Trees.{Gap, Split, Bound}
use Rattle.cert_forest.specs.GapNodes.{first_gap}
use Rattle.tree_laws.specs.Packings.{IsPacking, IsCheapestOf, with_gaps}
use Rattle.tree_laws.specs.GapTrees.{IsSplitBy}
use Rattle.cert_check.specs.declared.packing.Packing.{Packing}

-- the runs of a bound
abbrev pub runs_of : Gap → List ℕ
runs_of (Split number children) = []
runs_of (Bound numbers) = numbers

abbrev pub IsBoundTree : Gap → Type 0
IsBoundTree (Split number children) = ⊥
IsBoundTree (Bound numbers) = Unit {0}

-- the first tree, a bound, has no run left, and the walk is past it; or this is its next run, and the first tree is then the rest of the bound
abbrev pub IsNextRun : List Gap → Option ℕ → List Gap → Type 0
IsNextRun old None new = (runs_of (first_gap old) ≡ []) × (new ≡ drop 1 old)
IsNextRun old (Some run) new = (runs_of (first_gap old) ≡ run ∷ runs_of (first_gap new)) × IsBoundTree (first_gap new) × (drop 1 new ≡ drop 1 old)

-- the first gap is cheaper, or costs the same and is not greater
abbrev pub IsNoDearer : List ℕ → ℕ → ℕ → Type 0
IsNoDearer costs gap other = (cost_of costs gap < cost_of costs other) ⊎ ((cost_of costs gap ≡ cost_of costs other) × (gap ≤ other))

-- the best of two gaps
abbrev pub IsCheaper : List ℕ → ℕ → ℕ → ℕ → Type 0
IsCheaper costs first second best = ((best ≡ first) × IsNoDearer costs first second) ⊎ ((best ≡ second) × IsNoDearer costs second first)

-- the best of a gap and another, if there is one
abbrev pub IsCheaperOf : List ℕ → Option ℕ → ℕ → ℕ → Type 0
IsCheaperOf costs None gap best = best ≡ gap
IsCheaperOf costs (Some first) gap best = IsCheaper costs first gap best

-- the packing with one run more, which has these gaps
pub record IsPackedWith (costs : List ℕ) (packing : Packing) (gaps : List ℕ) (new : Packing) : Type 0 where
  pub packed : (gap : ℕ) → (set.contains new.gaps gap ≡ true) ↔ ((set.contains packing.gaps gap ≡ true) ⊎ Contains gaps gap)
  pub cheapest : new.has_none ≡ false → (packing.has_none ≡ false) × ((gap : ℕ) × IsCheapestOf costs gaps gap × (new.least ≡ set.insert packing.least gap))
  pub none : new.has_none ≡ true → (packing.has_none ≡ true) ⊎ (gaps ≡ [])

module _ (q : Question) (costs : List ℕ) (answer : SetOfGaps) (runs : List (List Label)) (region : Region) where
  -- The runs of these numbers bound the region together with those that are packed: they pass no gap of `must`, and no two of them pass a common gap
  -- outside `never`, nor a packed one; and the least set with the cheapest gap of each is not better than the answer. Where a packed run passes no gap outside `never` there is no
  -- such set.
  pub record IsBoundWith (packing : Packing) (numbers : List ℕ) : Type 0 where
    pub gaps : List (List ℕ)
    pub each : AllZip (IsSplitBy q runs region) numbers gaps
    pub apart : IsPacking gaps
    pub beside : All (HasNoneOf packing.gaps) gaps
    pub not_better : packing.has_none ≡ false → (cheapest : List ℕ) → AllZip (IsCheapestOf costs) gaps cheapest → ¬ Better costs (with_gaps packing.least cheapest) answer
