-- What holds of the order on sets of gaps.
use Rattle.std.specs.Prelude.{◌≡◌, ◌≢◌, ℕ, ◌<◌, ◌≤◌, ◌⊎◌, true, List, [], ◌∷◌, length, All}
use Rattle.std.specs.FinSet as set
use Rattle.gap_sets.specs.Gaps.{SetOfGaps, IsGapSet}
use Rattle.gap_sets.specs.Order.{total, Better}

-- no set is better than itself
abbrev pub NoSetIsBetterThanItself : Type 0
NoSetIsBetterThanItself = (costs : List ℕ) (a : SetOfGaps) → ¬ Better costs a a

-- what is better than a better set is better
abbrev pub BetterIsTransitive : Type 0
BetterIsTransitive = (costs : List ℕ) (a b c : SetOfGaps) → Better costs a b → Better costs b c → Better costs a c

-- of two sets of gaps that differ one is better
abbrev pub BetterIsTotal : Type 0
BetterIsTotal = (costs : List ℕ) (a b : SetOfGaps) → IsGapSet a → IsGapSet b → (a ≡ b) ⊎ (Better costs a b ⊎ Better costs b a)

-- where each cost is at least 1 and each gap of a set has one, a proper subset is better than the set
abbrev pub ProperSubsetIsBetter : Type 0
ProperSubsetIsBetter =
    (costs : List ℕ) (a b : SetOfGaps)
    → All (λ cost. 1 ≤ cost) costs
    → IsGapSet b
    → ((gap : ℕ) → set.contains b gap ≡ true → gap < length costs)
    → set.is_subset a b ≡ true
    → a ≢ b
    → Better costs a b

-- the set of these gaps
abbrev pub these : List ℕ → SetOfGaps
these gaps = set.from_list gaps

-- three gaps of cost 1
abbrev pub ones : List ℕ
ones = 1 ∷ 1 ∷ 1 ∷ []

-- the definitions on a worked example: three gaps of cost 1
pub record ThreeGapsOfCostOne : Type 0 where
  pub two_of_three : total ones (these (0 ∷ 2 ∷ [])) ≡ 2
  pub lower_gap : Better ones (these (0 ∷ [])) (these (1 ∷ []))
  pub lower_second_gap : Better ones (these (0 ∷ 1 ∷ [])) (these (0 ∷ 2 ∷ []))
  pub no_gap : Better ones (these []) (these (0 ∷ []))
  pub itself : ¬ Better ones (these (0 ∷ [])) (these (0 ∷ []))
