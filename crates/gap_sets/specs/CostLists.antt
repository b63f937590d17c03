-- Lists of costs by gap number, and what is refused as one.
use Rattle.std.specs.Prelude.{◌≡◌, ◌↔◌, ℕ, ◌==◌, ◌≤◌, nat_lt, List, length, All, Option, Some, None, position, if◌then◌else◌}
use Rattle.std.specs.Option.{option_map, option_or}
use Rattle.gap_sets.specs.declared.costs.CostFault.{CostFault, TheVariants.Zero, TheVariants.TooLarge, TheVariants.TooMany}
use Rattle.gap_sets.specs.declared.gap_set.TheConstants.{MAX_GAPS}
use Rattle.gap_sets.specs.declared.costs.TheConstants.{MAX_COST}

-- at most MAX_GAPS gaps, each of a cost from 1 to 1,000,000
pub record IsCostList (costs : List ℕ) : Type 0 where
  pub few : length costs ≤ MAX_GAPS
  pub each : All (λ cost. (1 ≤ cost) × (cost ≤ MAX_COST)) costs

-- the first gap of cost 0
abbrev pub first_free : List ℕ → Option ℕ
first_free costs = position (λ cost. cost == 0) costs

-- the first gap that costs more than 1,000,000
abbrev pub first_too_large : List ℕ → Option ℕ
first_too_large costs = position (λ cost. nat_lt MAX_COST cost) costs

-- why a list of numbers is no list of costs: there are too many, else its first gap of cost 0, else its first gap whose cost is too large
abbrev pub first_cost_fault : List ℕ → Option CostFault
first_cost_fault costs =
    if nat_lt MAX_GAPS (length costs) then Some TooMany
    else option_or (option_map Zero (first_free costs)) (option_map TooLarge (first_too_large costs))

-- no refusal applies exactly within the limits
abbrev pub CostLimitsAreTheRefusals : Type 0
CostLimitsAreTheRefusals = (costs : List ℕ) → (first_cost_fault costs ≡ None) ↔ IsCostList costs
