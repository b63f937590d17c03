-- The order of outcomes is a strict one: those that compare equal are equal.
use Rattle.tso_program.proofs.Vocabulary.{◌≡◌, ◌↔◌, true, List, [], ◌∷◌, refl, sym, ap, ◌∙◌, IsTotalOrder, slice_cmp, nat_cmp, ordering_then, ordering_reverse, is_eq, Outcome, Equal-is}
use Rattle.std.specs.declared.cmp.Ordering.{Ordering, TheVariants.Less, TheVariants.Equal}
use Rattle.std.proofs.lemmas.Cmp.{nat_cmp_total, lists_total, on_total, then_total, tied_itself}
use Rattle.std.proofs.lemmas.Map.Lookups.{CmpEqualImpliesEq, exact_unsigned}
use Rattle.tso_program.specs.Ordered.{outcome_cmp}

both_equal : (a b : Ordering) → ordering_then a b ≡ Equal → (a ≡ Equal) × (b ≡ Equal)
both_equal Equal b e = (refl, e)
both_equal a b e = absurd cc

exact_lists : {K : Type 0} (R : K → K → Ordering) → CmpEqualImpliesEq R → (xs ys : List K) → slice_cmp R xs ys ≡ Equal → xs ≡ ys
exact_lists R exact [] [] e = refl
exact_lists R exact (x ∷ xs) (y ∷ ys) e =
    let parts = both_equal (R x y) (slice_cmp R xs ys) e in
    ap (λ z. z ∷ xs) (exact x y parts.0) ∙ ap (λ zs. y ∷ zs) (exact_lists R exact xs ys parts.1)
exact_lists R exact xs ys e = absurd cc

-- outcomes that compare equal are equal
pub exact_outcomes : (a b : Outcome) → outcome_cmp a b ≡ Equal → a ≡ b
exact_outcomes a b e =
    let parts = both_equal (slice_cmp (slice_cmp nat_cmp) a.registers b.registers) (slice_cmp nat_cmp a.memory b.memory) e in
    let registers = exact_lists (slice_cmp nat_cmp) (exact_lists nat_cmp exact_unsigned) a.registers b.registers parts.0 in
    let memory = exact_lists nat_cmp exact_unsigned a.memory b.memory parts.1 in
    λ i. record { registers = registers i; memory = memory i }

-- the order is total
pub outcomes_ordered : IsTotalOrder outcome_cmp
outcomes_ordered = then_total (on_total (λ (o : Outcome). o.registers) (lists_total (lists_total nat_cmp_total))) (on_total (λ (o : Outcome). o.memory) (lists_total nat_cmp_total))

-- an outcome compares equal to itself
pub equal_itself : (o : Outcome) → outcome_cmp o o ≡ Equal
equal_itself o = tied_itself outcomes_ordered o

-- the order's test of two outcomes
pub same_by_order : (a b : Outcome) → (is_eq (outcome_cmp a b) ≡ true) ↔ (a ≡ b)
same_by_order a b = (
  (λ found. exact_outcomes a b ((Equal-is (outcome_cmp a b)).0 found)),
  (λ same. ap is_eq (ap (outcome_cmp a) (sym same) ∙ equal_itself a)),
)

-- of two outcomes one comes first
pub one_way : (a b : Outcome) → outcome_cmp a b ≡ Less → outcome_cmp b a ≡ Less → ⊥
one_way a b e f = (let g = outcomes_ordered.antisymm a b in let h : Less ≡ ordering_reverse Less = sym e ∙ g ∙ ap ordering_reverse f in cc)
