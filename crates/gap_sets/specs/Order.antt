-- When one set of gaps is better than another (Bouajjani et al., ESOP 2013, for least sets of fences; which of two equally cheap sets is better is this project's own, docs/definitions.md).
use Rattle.std.specs.Prelude.{◌≡◌, ℕ, ◌<◌, ◌⊎◌, true, false, List, sum_by, slice_get, unwrap_or}
use Rattle.std.specs.FinSet as set
use Rattle.gap_sets.specs.Gaps.{SetOfGaps, numbers_of_set}

-- what a gap costs by a list of costs, nothing past the list
abbrev pub cost_of : List ℕ → ℕ → ℕ
cost_of costs gap = unwrap_or (slice_get costs gap) 0

-- the sum of the costs of the set's gaps
unfoldable pub total : List ℕ → SetOfGaps → ℕ
total costs s = sum_by (cost_of costs) (numbers_of_set s)

-- the least gap that is in exactly one of the sets is in the first
pub record HasLeastDifference (a b : SetOfGaps) : Type 0 where
  pub gap : ℕ
  pub in_first : set.contains a gap ≡ true
  pub not_in_second : set.contains b gap ≡ false
  pub alike_below : (k : ℕ) → k < gap → set.contains a k ≡ set.contains b k

-- it is cheaper, or equally cheap and the least gap that is in exactly one of them is in it
abbrev pub Better : List ℕ → SetOfGaps → SetOfGaps → Type 0
Better costs a b = (total costs a < total costs b) ⊎ ((total costs a ≡ total costs b) × HasLeastDifference a b)
