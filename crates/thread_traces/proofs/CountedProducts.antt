-- Products of numbers that are counted up to a ceiling, of which so much is left.
use Rattle.std.proofs.Common.{ℕ, zero, suc, arith, ap, sym, ◌∙◌, ◌≡◌, ◌≤◌, ◌<◌, ◌+◌, ◌-◌, ◌*◌}
use Rattle.std.proofs.Math.Nat.{mul-suc, suc-mul, mul-le-mul, le-mul_of_pos_right}
use Rattle.thread_traces.specs.TraceCounts.{IsCountUpTo}

-- a product of numbers above 0 is no less than their sum less one
sum_within : (a b : ℕ) → 0 < a → 0 < b → a + b ≤ a * b + 1
sum_within zero b one more = omega (arith, one)
sum_within (suc a) zero one more = omega (arith, more)
sum_within (suc a) (suc b) one more = omega (arith, mul-suc (suc a) b, suc-mul a b)

-- a product above 0 has no factor 0
factors : (a b : ℕ) → 0 < a * b → (0 < a) × (0 < b)
factors zero b above = (omega (arith, above), omega (arith, above))
factors (suc a) zero above = (omega arith, omega (arith, above))
factors (suc a) (suc b) above = (omega arith, omega arith)

-- where no trace is counted there is none
none_counted : (most m : ℕ) → IsCountUpTo (most + 1) m 0 → m ≡ 0
none_counted most m counted = sym (counted.exact (omega arith))

-- a product that is 0 is that of the numbers
pub nothing : (count n most m traces : ℕ) → (count ≡ 0 → n ≡ 0) → IsCountUpTo (most + 1) m traces → count * traces ≡ 0 → 0 ≡ n * m
nothing zero n most m traces none counted is = omega arith ∙ ap (λ x. x * m) (sym (none (omega arith)))
nothing (suc a) n most m zero none counted is = omega arith ∙ ap (λ x. n * x) (sym (none_counted most m counted))
nothing (suc a) n most m (suc b) none counted is = omega (arith, is, sum_within (suc a) (suc b) (omega arith) (omega arith))

-- with no more traces than are left, more than are left then take a product above the ceiling
pub still_left : (ceiling count left traces : ℕ) → (0 < count → ceiling < count + left) → traces ≤ left → 0 < count * traces → ceiling < count * traces + (left - (traces - 1))
still_left ceiling count left traces above within some =
    let both = factors count traces some in
    omega (arith, above both.0, within, both.1, sum_within count traces both.0 both.1)

-- with more traces than are left a product is above the ceiling
pub above_all : (ceiling count left m traces : ℕ) → (0 < count → ceiling < count + left) → IsCountUpTo (left + 1) m traces → left < traces → 0 < count * traces → ceiling < count * traces
above_all ceiling count left m traces above counted more some =
    let both = factors count traces some in
    omega (arith, above both.0, counted.within, more, sum_within count traces both.0 both.1)

-- a product is above what its factors are above
pub above_still : (ceiling count traces : ℕ) → ceiling < count → 0 < traces → ceiling < count * traces
above_still ceiling count traces above some = omega (arith, above, le-mul_of_pos_right {m = traces} count some)

-- a product of numbers that are reached is reached
pub reached : (count n m most traces : ℕ) → count ≤ n → IsCountUpTo most m traces → count * traces ≤ n * m
reached count n m most traces there counted = mul-le-mul there counted.there

-- a product of exact numbers is exact
pub exact : (count n left m traces : ℕ) → count ≡ n → IsCountUpTo (left + 1) m traces → traces ≤ left → count * traces ≡ n * m
exact count n left m traces is counted within = ap (λ x. x * traces) is ∙ ap (λ x. n * x) (counted.exact (omega (arith, within)))
