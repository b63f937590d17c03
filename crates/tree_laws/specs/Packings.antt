-- Packings: lists of gaps of which no two have a gap in common, and the best set that has a gap of each. A packing bounds every hitting set from
-- below (this project's own definitions).
use Rattle.std.specs.Prelude.{◌≡◌, ℕ, ◌<◌, ◌≤◌, true, List, [], ◌∷◌, Contains, length, All}
use Rattle.std.specs.FinSet as set
use Rattle.gap_sets.specs.Gaps.{SetOfGaps}
use Rattle.gap_sets.specs.Order.{cost_of}
use Rattle.gap_sets.specs.Regions.{HasNoneOf}
use Rattle.gap_sets.specs.declared.gap_set.TheConstants.{MAX_GAPS}

-- no gap is in two of the lists
abbrev pub IsPacking : List (List ℕ) → Type 0
IsPacking [] = Unit {0}
IsPacking (gaps ∷ others) = ((gap : ℕ) → Contains gaps gap → All (λ other. ¬ Contains other gap) others) × IsPacking others

-- it is one of the gaps, none of them is cheaper, and none that is as cheap comes before it
pub record IsCheapestOf (costs gaps : List ℕ) (gap : ℕ) : Type 0 where
  pub is_one : Contains gaps gap
  pub none_cheaper : (other : ℕ) → Contains gaps other → cost_of costs gap ≤ cost_of costs other
  pub first : (other : ℕ) → Contains gaps other → cost_of costs other ≡ cost_of costs gap → gap ≤ other

-- the set with these gaps too
abbrev pub with_gaps : SetOfGaps → List ℕ → SetOfGaps
with_gaps s [] = s
with_gaps s (gap ∷ gaps) = with_gaps (set.insert s gap) gaps

-- the set has one of the gaps
abbrev pub HasOneOf : SetOfGaps → List ℕ → Type 0
HasOneOf s gaps = (gap : ℕ) × Contains gaps gap × (set.contains s gap ≡ true)

-- each gap of the lists has a cost, and none is 0
pub record HavePositiveCosts (costs : List ℕ) (lists : List (List ℕ)) : Type 0 where
  pub few : length costs ≤ MAX_GAPS
  pub positive : All (λ cost. 1 ≤ cost) costs
  pub each : All (All (λ gap. gap < length costs)) lists

-- the set of gaps that have a cost holds each gap of `must`, which has no gap of the lists, and has a gap of each list
pub record MeetsEach (costs : List ℕ) (must : SetOfGaps) (lists : List (List ℕ)) (s : SetOfGaps) : Type 0 where
  pub have_costs : (gap : ℕ) → set.contains s gap ≡ true → gap < length costs
  pub holds : (gap : ℕ) → set.contains must gap ≡ true → set.contains s gap ≡ true
  pub beside : All (HasNoneOf must) lists
  pub meets : All (HasOneOf s) lists
