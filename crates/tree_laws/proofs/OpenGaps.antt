-- The gaps of a set in order, and those of one set that are not in another.
use Rattle.tree_laws.proofs.Vocabulary.{◌≡◌, ◌↔◌, ℕ, ◌+◌, ◌<◌, ◌≤◌, true, false, get_or, length, Contains, ◌∙◌, arith, zero-add, not-true, not_from_false, IsStrictlyIncreasing-filter, range_with_len, IsStrictlyIncreasing, MAX_GAPS, SetOfGaps, IsGapSet}
use Rattle.tree_laws.proofs.Vocabulary.{numbers_of_set, is_free, open_gaps}
use Rattle.std.specs.FinSet as set
use Rattle.std.proofs.lemmas.List.FromFn.{length-range_with_len, get_or-range_with_len}
use Rattle.std.proofs.lemmas.List.Sums.{length-filter, count_by-le-length}
use Rattle.tree_laws.proofs.Filtered.{of_filter, to_filter}

-- each gap of a set is listed
pub listed : (s : SetOfGaps) (g : ℕ) → g < MAX_GAPS → set.contains s g ≡ true → Contains (numbers_of_set s) g
unfolding numbers_of_set
listed s g low there = to_filter (set.contains s) (range_with_len 0 MAX_GAPS) g
    (g, (let long = length-range_with_len 0 MAX_GAPS in omega arith), get_or-range_with_len 0 MAX_GAPS g g low ∙ zero-add g) there

pub unlisted : (s : SetOfGaps) (g : ℕ) → Contains (numbers_of_set s) g → set.contains s g ≡ true
unfolding numbers_of_set
unlisted s g here = (of_filter (set.contains s) (range_with_len 0 MAX_GAPS) g here).1

-- the open gaps are those of the first set that are not in the second
pub open_exact : (passed never : SetOfGaps) → IsGapSet passed → (g : ℕ) → Contains (open_gaps passed never) g ↔ ((set.contains passed g ≡ true) × (set.contains never g ≡ false))
open_exact passed never small g = (
  (λ here. (let both = of_filter (is_free never) (numbers_of_set passed) g here in (unlisted passed g both.0, not-true _ both.1))),
  (λ both. to_filter (is_free never) (numbers_of_set passed) g (listed passed g (small g both.0) both.0) (not_from_false _ both.1)),
)

-- they ascend
pub rising : (s : SetOfGaps) → IsStrictlyIncreasing (numbers_of_set s)
unfolding numbers_of_set
rising s = IsStrictlyIncreasing-filter (set.contains s) (range_with_len 0 MAX_GAPS) (λ k h. let a : get_or (range_with_len 0 MAX_GAPS) k 0 ≡ 0 + k = get_or-range_with_len 0 MAX_GAPS k 0 (omega arith) in
    let b : get_or (range_with_len 0 MAX_GAPS) (k + 1) 0 ≡ 0 + (k + 1) = get_or-range_with_len 0 MAX_GAPS (k + 1) 0 (omega arith) in omega arith)

pub open_ascending : (passed never : SetOfGaps) → IsStrictlyIncreasing (open_gaps passed never)
open_ascending passed never = IsStrictlyIncreasing-filter (is_free never) (numbers_of_set passed) (rising passed)

-- they are few
pub few_gaps : (s : SetOfGaps) → length (numbers_of_set s) ≤ MAX_GAPS
unfolding numbers_of_set
few_gaps s = omega (arith, length-filter (set.contains s) (range_with_len 0 MAX_GAPS), count_by-le-length (set.contains s) (range_with_len 0 MAX_GAPS), length-range_with_len 0 MAX_GAPS)

pub few_open : (passed never : SetOfGaps) → length (open_gaps passed never) ≤ MAX_GAPS
few_open passed never = omega (arith, few_gaps passed, length-filter (is_free never) (numbers_of_set passed), count_by-le-length (is_free never) (numbers_of_set passed))
