-- Sets of gap numbers (Bouajjani et al., ESOP 2013: sets of fences between instructions; the numbers are this project's own, docs/definitions.md).
use Rattle.std.specs.Prelude.{◌≡◌, ℕ, ◌<◌, Bool, true, ◌&&◌, List}
use Rattle.std.specs.List.{filter, range_with_len}
use Rattle.std.specs.Ordering.{nat_cmp}
use Rattle.std.specs.FinSet as set
use Rattle.gap_sets.specs.declared.gap_set.TheConstants.{MAX_GAPS}

-- a finite set of numbers
abbrev pub SetOfGaps : Type 0
SetOfGaps = set.FinSet nat_cmp

-- gap numbers are below `MAX_GAPS`
abbrev pub IsGapSet : SetOfGaps → Type 0
IsGapSet s = (gap : ℕ) → set.contains s gap ≡ true → gap < MAX_GAPS

-- the gaps of a set, ascending: the numbers below `MAX_GAPS` that it contains
unfoldable pub numbers_of_set : SetOfGaps → List ℕ
numbers_of_set s = filter (set.contains s) (range_with_len 0 MAX_GAPS)

-- whether each gap of one set is in the other
abbrev pub have_same_gaps : SetOfGaps → SetOfGaps → Bool
have_same_gaps s t = set.is_subset s t && set.is_subset t s
