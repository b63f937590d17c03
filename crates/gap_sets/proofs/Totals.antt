-- What the gaps of a set cost together at most.
use Rattle.gap_sets.proofs.Vocabulary.{◌≡◌, ℕ, ◌+◌, ◌*◌, ◌≤◌, inl, inr, List, [], ◌∷◌, length, get_or, sum_by, unwrap_or, ap, ◌∙◌, arith, slice_get_cases, sum_by-cons, sum_by-le, length-filter, count_by-le-length, range_with_len, length-range_with_len}
use Rattle.gap_sets.proofs.Vocabulary.{IsCostList, SetOfGaps, numbers_of_set, cost_of, total, MAX_GAPS, MAX_COST}
use Rattle.std.specs.FinSet as set

-- no gap costs more than a million
cost_of-limit : (costs : List ℕ) (gap : ℕ) → IsCostList costs → cost_of costs gap ≤ MAX_COST
cost_of-limit costs gap list =
    elim (slice_get_cases costs gap).1 [
      | inl there ↦
          let small = (list.each gap there.0 there.1).1 in
          let is : cost_of costs gap ≡ there.0 = ap (λ o. unwrap_or o 0) there.2 in
          let same : get_or costs gap there.0 ≡ there.0 = there.3 in
          omega arith
      | inr past ↦ let is : cost_of costs gap ≡ 0 = ap (λ o. unwrap_or o 0) past.1 in omega arith
    ]

-- a set has at most MAX_GAPS gaps
length-gaps_in : (s : SetOfGaps) → length (numbers_of_set s) ≤ MAX_GAPS
unfolding numbers_of_set
length-gaps_in s =
    omega (arith, length-filter (set.contains s) (range_with_len 0 MAX_GAPS), count_by-le-length (set.contains s) (range_with_len 0 MAX_GAPS), length-range_with_len 0 MAX_GAPS)

-- at most MAX_GAPS gaps of a million each
sum-limit : (costs : List ℕ) (s : SetOfGaps) → IsCostList costs → sum_by (cost_of costs) (numbers_of_set s) ≤ MAX_GAPS * MAX_COST
sum-limit costs s list = omega (arith, sum_by-le (cost_of costs) MAX_COST (numbers_of_set s) (λ k d _. cost_of-limit costs _ list), length-gaps_in s)

-- what is added up so far and the next gap's cost are within the limit
pub next-limit : (costs : List ℕ) (s : SetOfGaps) (left rest : List ℕ) (gap sum : ℕ) → IsCostList costs
    → sum + sum_by (cost_of costs) left ≡ sum_by (cost_of costs) (numbers_of_set s) → left ≡ gap ∷ rest → sum + cost_of costs gap ≤ MAX_GAPS * MAX_COST
next-limit costs s left rest gap sum list so_far next =
    let parts : sum_by (cost_of costs) left ≡ cost_of costs gap + sum_by (cost_of costs) rest = ap (sum_by (cost_of costs)) next ∙ sum_by-cons (cost_of costs) gap rest in
    omega (arith, sum-limit costs s list)

-- where no gap is left the sum is whole
pub sum-whole : (costs : List ℕ) (s : SetOfGaps) (left : List ℕ) (sum : ℕ) → sum + sum_by (cost_of costs) left ≡ sum_by (cost_of costs) (numbers_of_set s) → left ≡ [] → sum ≡ total costs s
unfolding total
sum-whole costs s left sum so_far none = let parts : sum_by (cost_of costs) left ≡ 0 = ap (sum_by (cost_of costs)) none in omega arith

-- no total is above that of all gaps at the greatest cost
pub total-limit : (costs : List ℕ) (s : SetOfGaps) → IsCostList costs → total costs s ≤ MAX_GAPS * MAX_COST
unfolding total
total-limit costs s list = sum-limit costs s list
