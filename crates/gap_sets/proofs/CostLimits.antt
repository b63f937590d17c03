-- A list of costs without a fault is within the limits, and one within the limits has no fault.
use Rattle.gap_sets.proofs.Vocabulary.{◌≡◌, ℕ, ◌<◌, ◌≤◌, ◌==◌, Bool, true, false, cond, nat_lt, List, length, get_or, Option, None, Some, position, refl, ap, arith, not, position_or_len, fails_before_first, prefix_len_is, nat_tests, MAX_GAPS, MAX_COST}
use Rattle.gap_sets.proofs.Vocabulary.{IsCostList, first_free, first_too_large, first_cost_fault, CostLimitsAreTheRefusals}
use Rattle.std.specs.Option.{option_map, option_or}
use Rattle.gap_sets.specs.declared.costs.CostFault.{TheVariants.Zero, TheVariants.TooLarge, TheVariants.TooMany}

-- where no place below the end is found, the place is the end
past_the_end : (place len : ℕ) → cond (nat_lt place len) (Some place) None ≡ None → len ≤ place
past_the_end place len e =
    elim (nat_lt place len) as (λ b. nat_lt place len ≡ b → cond b (Some place) None ≡ None → len ≤ place) [
      | true ↦ λ _ s. cc
      | false ↦ λ t _. grind (arith, nat_tests)
    ] refl e

-- where no element passes a test, each fails it
none_passes : (p : ℕ → Bool) (xs : List ℕ) (k d : ℕ) → position p xs ≡ None → k < length xs → p (get_or xs k d) ≡ false
none_passes p xs k d none h = fails_before_first p xs k d (omega (arith, past_the_end (position_or_len p xs) (length xs) none))

-- no refusal applies, so none of its three causes
no_fault : (many : Bool) (free too_large : Option ℕ)
    → cond many (Some TooMany) (option_or (option_map Zero free) (option_map TooLarge too_large)) ≡ None
    → (many ≡ false) × (free ≡ None) × (too_large ≡ None)
no_fault false None None e = (refl, refl, refl)
no_fault many free too_large e = cc

few : (n : ℕ) → nat_lt MAX_GAPS n ≡ false → n ≤ MAX_GAPS
few n h = grind (arith, nat_tests)

-- what neither test finds is within the limits
in_range : (cost : ℕ) → (cost == 0) ≡ false → nat_lt MAX_COST cost ≡ false → (1 ≤ cost) × (cost ≤ MAX_COST)
in_range cost some small = (grind (arith, nat_tests), grind (arith, nat_tests))

-- the list is within the limits
pub IsCostList-from_no_fault : (costs : List ℕ) → first_cost_fault costs ≡ None → IsCostList costs
IsCostList-from_no_fault costs none =
    let parts = no_fault (nat_lt MAX_GAPS (length costs)) (first_free costs) (first_too_large costs) none in
    record {
      few = few (length costs) parts.0;
      each = λ k d h. in_range (get_or costs k d) (none_passes (λ cost. cost == 0) costs k d parts.1 h) (none_passes (λ cost. nat_lt MAX_COST cost) costs k d parts.2 h);
    }

not_less : (n : ℕ) → nat_lt n n ≡ false
not_less n = grind (arith, nat_tests)

-- where each element fails a test, none is found
pub none_found : (p : ℕ → Bool) (xs : List ℕ) → ((k : ℕ) → k < length xs → p (get_or xs k 0) ≡ false) → position p xs ≡ None
none_found p xs fail =
    let n : position_or_len p xs ≡ length xs = prefix_len_is (λ x. not (p x)) xs (length xs) 0 (omega arith) (λ k h. ap not (fail k h)) (λ h. absurd (omega arith)) in
    rw (n, not_less (length xs)) refl

pub not_free : (cost : ℕ) → (1 ≤ cost) × (cost ≤ MAX_COST) → (cost == 0) ≡ false
not_free cost within = let low = within.0 in grind (arith, nat_tests)

pub not_too_large : (cost : ℕ) → (1 ≤ cost) × (cost ≤ MAX_COST) → nat_lt MAX_COST cost ≡ false
not_too_large cost within = let high = within.1 in grind (arith, nat_tests)

pub not_too_many : (n : ℕ) → n ≤ MAX_GAPS → nat_lt MAX_GAPS n ≡ false
not_too_many n h = grind (arith, nat_tests)

-- a list within the limits has no fault
pub no_fault-from_IsCostList : (costs : List ℕ) → IsCostList costs → first_cost_fault costs ≡ None
no_fault-from_IsCostList costs within =
    let free : first_free costs ≡ None = none_found (λ c. c == 0) costs (λ k lt. not_free (get_or costs k 0) (within.each k 0 lt)) in
    let large : first_too_large costs ≡ None = none_found (λ c. nat_lt MAX_COST c) costs (λ k lt. not_too_large (get_or costs k 0) (within.each k 0 lt)) in
    rw (not_too_many (length costs) within.few, free, large) refl

pub limits_are_the_refusals : CostLimitsAreTheRefusals
limits_are_the_refusals costs = (IsCostList-from_no_fault costs, no_fault-from_IsCostList costs)
