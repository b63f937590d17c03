-- Regions of sets of gaps: what they hold, and how a search splits them (this project's own; docs/definitions.md).
use Rattle.std.specs.Prelude.{◌≡◌, ℕ, Bool, true, false, not, List, [], ◌∷◌, Contains}
use Rattle.std.specs.List.{filter}
use Rattle.std.specs.FinSet as set
use Rattle.gap_sets.specs.Gaps.{SetOfGaps, numbers_of_set}
use Rattle.gap_sets.specs.declared.region.Region.{Region}

-- the set is in the region: it holds each gap of `must` and no gap of `never`
pub record IsInRegion (region : Region) (gaps : SetOfGaps) : Type 0 where
  pub holds : (gap : ℕ) → set.contains region.must gap ≡ true → set.contains gaps gap ≡ true
  pub avoids : (gap : ℕ) → set.contains region.never gap ≡ true → set.contains gaps gap ≡ false

-- the region of all sets
abbrev pub all_sets : Region
all_sets = record { must = set.empty; never = set.empty }

-- the sets of the region that hold the gap
abbrev pub with_gap : Region → ℕ → Region
with_gap region gap = record region { must = set.insert region.must gap }

-- the sets of the region that do not hold the gap
abbrev pub without_gap : Region → ℕ → Region
without_gap region gap = record region { never = set.insert region.never gap }

-- for each of the gaps in order, the sets that hold it and none of those before it
abbrev pub child_regions : Region → List ℕ → List Region
child_regions region [] = []
child_regions region (gap ∷ gaps) = with_gap region gap ∷ child_regions (without_gap region gap) gaps

-- the set has none of these gaps
abbrev pub HasNoneOf : SetOfGaps → List ℕ → Type 0
HasNoneOf gaps others = (gap : ℕ) → Contains others gap → set.contains gaps gap ≡ false

-- whether the sets may have the gap
abbrev pub is_free : SetOfGaps → ℕ → Bool
is_free never gap = not (set.contains never gap)

-- the gaps of the first set that are not in the second, ascending
abbrev pub open_gaps : SetOfGaps → SetOfGaps → List ℕ
open_gaps passed never = filter (is_free never) (numbers_of_set passed)
