use Rattle.std.proofs.Common.{ℕ, arith, ap, sym, subst, inl, inr, ◌∙◌, ◌⊎◌, ◌*◌, ◌+◌, ◌-◌, ◌<◌, ◌≤◌, ◌≡◌}
use Rattle.thread_traces.specs.TraceCounts.{IsCountUpTo, CountSaysSoFar}
use Rattle.thread_traces.proofs.CountedProducts.{above_all, above_still, exact, nothing, reached, still_left}
use Rattle.thread_traces.proofs.combinations.joined.Goals as goal
use Rattle.thread_traces.proofs.combinations.joined.Goals.{in-Exactly, in-AtLeast}

-- of a number that is exact so far
exactly : (ceiling left traces n m count product : ℕ) → (count ≡ n) × (0 < count → ceiling < count + left) → IsCountUpTo (left + 1) m traces → product ≡ count * traces
    → (traces ≤ left) ⊎ ((left < traces) × (product ≡ 0)) → (product ≡ n * m) × (0 < product → ceiling < product + (left - (traces - 1)))
exactly ceiling left traces n m count product said counted is (inl within) = (
  is ∙ exact count n left m traces said.0 counted within,
  λ some. subst (λ x. ceiling < x + (left - (traces - 1))) (sym is) (still_left ceiling count left traces said.1 within (subst (λ x. 0 < x) is some)),
)
exactly ceiling left traces n m count product said counted is (inr none) =
    (none.1 ∙ nothing count n left m traces (λ zero. sym said.0 ∙ zero) counted (sym is ∙ none.1), λ some. omega (arith, some, none.1))

-- of a number above the ceiling: none of one more thread's traces are counted
at_least : (ceiling left traces n m count product : ℕ) → (ceiling < count) × (count ≤ n) → IsCountUpTo (left + 1) m traces → product ≡ count * traces
    → (traces ≤ 0) ⊎ ((0 < traces) × (product ≡ 0)) → (product ≡ n * m) × (0 < product → ceiling < product + (left - (traces - 1)))
at_least ceiling left traces n m count product said counted is (inl within) =
    let few : traces ≡ 0 = omega (arith, within) in
    let none : product ≡ 0 = is ∙ (ap (λ x. count * x) few ∙ omega arith) in
    (none ∙ nothing count n left m traces (λ zero. omega (arith, zero, said.0)) counted (sym is ∙ none), λ some. omega (arith, some, none))
at_least ceiling left traces n m count product said counted is (inr none) =
    (none.1 ∙ nothing count n left m traces (λ zero. omega (arith, zero, said.0)) counted (sym is ∙ none.1), λ some. omega (arith, some, none.1))

pub returns-in-Some : goal.returns-in-Some
returns-in-Some c = λ ceiling n m low said counted. elim c.match-combinations.branch [
  | in-Exactly w ↦ exactly ceiling c.args.left c.args.traces n m w.in-Exactly.count c.in-Some.product (subst (λ x. CountSaysSoFar ceiling x c.args.left n) w.in-Exactly.is said) counted
      (c.in-Some.ensures.1 ∙ ap (λ p. p.0 * c.args.traces) w.count-is) (subst (λ p. (c.args.traces ≤ p.1) ⊎ ((p.1 < c.args.traces) × (c.in-Some.product ≡ 0))) w.count-is c.if-product-eq0.either)
  | in-AtLeast w ↦ at_least ceiling c.args.left c.args.traces n m w.in-AtLeast.count c.in-Some.product (subst (λ x. CountSaysSoFar ceiling x c.args.left n) w.in-AtLeast.is said) counted
      (c.in-Some.ensures.1 ∙ ap (λ p. p.0 * c.args.traces) w.count-is) (subst (λ p. (c.args.traces ≤ p.1) ⊎ ((p.1 < c.args.traces) × (c.in-Some.product ≡ 0))) w.count-is c.if-product-eq0.either)
]

-- of a number that is exact so far, with more traces than are left
exactly_over : (ceiling left traces n m count product : ℕ) → (count ≡ n) × (0 < count → ceiling < count + left) → IsCountUpTo (left + 1) m traces → product ≡ count * traces
    → left < traces → 0 < product → (ceiling < product) × (product ≤ n * m)
exactly_over ceiling left traces n m count product said counted is more some = (
  subst (λ x. ceiling < x) (sym is) (above_all ceiling count left m traces said.1 counted more (subst (λ x. 0 < x) is some)),
  subst (λ x. x ≤ n * m) (sym is) (reached count n m (left + 1) traces (omega (arith, said.0)) counted),
)

-- of a number above the ceiling
at_least_over : (ceiling left traces n m count product : ℕ) → (ceiling < count) × (count ≤ n) → IsCountUpTo (left + 1) m traces → product ≡ count * traces
    → 0 < traces → (ceiling < product) × (product ≤ n * m)
at_least_over ceiling left traces n m count product said counted is some = (
  subst (λ x. ceiling < x) (sym is) (above_still ceiling count traces said.0 some),
  subst (λ x. x ≤ n * m) (sym is) (reached count n m (left + 1) traces said.1 counted),
)

pub returns-in-Some-2 : goal.returns-in-Some-2
returns-in-Some-2 c = λ ceiling n m low said counted. elim c.match-combinations.branch [
  | in-Exactly w ↦ exactly_over ceiling c.args.left c.args.traces n m w.in-Exactly.count c.in-Some.product (subst (λ x. CountSaysSoFar ceiling x c.args.left n) w.in-Exactly.is said) counted
      (c.in-Some.ensures.1 ∙ ap (λ p. p.0 * c.args.traces) w.count-is) (subst (λ p. p.1 < c.args.traces) w.count-is c.if-product-eq0.false.0) (omega (arith, c.if-product-eq0.false.1))
  | in-AtLeast w ↦ at_least_over ceiling c.args.left c.args.traces n m w.in-AtLeast.count c.in-Some.product (subst (λ x. CountSaysSoFar ceiling x c.args.left n) w.in-AtLeast.is said) counted
      (c.in-Some.ensures.1 ∙ ap (λ p. p.0 * c.args.traces) w.count-is) (subst (λ p. p.1 < c.args.traces) w.count-is c.if-product-eq0.false.0)
]
