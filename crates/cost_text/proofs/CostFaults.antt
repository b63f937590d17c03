-- The first fault of the costs, where one more entry gives its gaps what no gap may cost.
use Rattle.cost_text.proofs.Vocabulary.{◌≡◌, ◌==◌, ◌∙◌, ℕ, ◌<◌, ◌≤◌, Bool, true, false, List, [], ◌∷◌, ◌++◌, length, get_or, Some, None, Result, Ok, Err, refl, sym, ap, arith, inl, inr, nat_lt, nat_le, position, not, position_or_len, eqb-true, eqb-false}
use Rattle.cost_text.proofs.Vocabulary.{leb-true, leb-false, eq-eqb, ne_eqb, cases_Bool, lt-ltb, CostFault, Entry, NoGapTwice, is_of, least_of, costs_of, cost_or_fault, MAX_GAPS, IsCostList, first_free, first_cost_fault, none_found, not_free, not_too_large, not_too_many}
use Rattle.std.proofs.lemmas.List.Sums.{prefix_len_is}
use Rattle.gap_sets.specs.declared.costs.CostFault.{TheVariants.Zero, TheVariants.TooLarge}
use Rattle.cost_text.proofs.Once.{least_below, least_there}
use Rattle.cost_text.proofs.CostLaws.{IsCost, cost_there, others_within, same_length, few_gaps}

-- the first element that passes a test
position_is : (p : ℕ → Bool) (xs : List ℕ) (i : ℕ) → i < length xs → p (get_or xs i 0) ≡ true → ((k : ℕ) → k < i → p (get_or xs k 0) ≡ false) → position p xs ≡ Some i
position_is p xs i lt passes before =
    let n : position_or_len p xs ≡ i = prefix_len_is (λ x. not (p x)) xs i 0 (omega arith) (λ k h. ap not (before k h)) (λ h. ap not passes) in
    rw (n, lt-ltb i (length xs) lt) refl

-- what a gap may cost, and what it may not
pub data IsJudged (gap cost : ℕ) (r : Result ℕ CostFault) : Type 0 where
  fine : 1 ≤ cost → cost ≤ 1000000 → r ≡ Ok cost → IsJudged gap cost r
  free : cost ≡ 0 → r ≡ Err (Zero gap) → IsJudged gap cost r
  large : 1000000 < cost → r ≡ Err (TooLarge gap) → IsJudged gap cost r

pub judged : (gap cost : ℕ) → IsJudged gap cost (cost_or_fault gap cost)
judged gap cost =
    elim (cases_Bool (nat_le cost 1000000)) [
      | inl small ↦
          elim (cases_Bool (cost == 0)) [
            | inl zero_cost ↦ free (eqb-true cost 0 zero_cost) (rw (small, zero_cost) refl)
            | inr some ↦ let not_zero = eqb-false cost 0 some in fine (omega (arith, not_zero)) (leb-true cost 1000000 small) (rw (small, some) refl)
          ]
      | inr over ↦ large (leb-false cost 1000000 over) (rw over refl)
    ]

module _ (gaps : ℕ) (entries : List Entry) (e : Entry) (once : NoGapTwice (entries ++ e ∷ [])) (within : IsCostList (costs_of gaps entries)) (below : (gap : ℕ) → is_of gap e ≡ true → gap < gaps) (some : (gap : ℕ) × (is_of gap e ≡ true)) where
  few : gaps ≤ MAX_GAPS
  few = few_gaps gaps entries e once within

  -- its name is one of its gaps
  of_name : is_of (least_of e.gaps 255) e ≡ true
  of_name = least_there e.gaps 255 some.0 some.1 (omega (arith, few, below some.0 some.1))

  name_below : least_of e.gaps 255 < gaps
  name_below = below (least_of e.gaps 255) of_name

  -- and the least
  before : (k : ℕ) → k < least_of e.gaps 255 → is_of k e ≡ false
  before k lt = elim (cases_Bool (is_of k e)) [ inl of_gap ↦ absurd (omega (arith, lt, least_below e.gaps 255 k of_gap)) | inr other ↦ other ]

  there : (k : ℕ) → is_of k e ≡ true → get_or (costs_of gaps (entries ++ e ∷ [])) k 0 ≡ e.cost
  there k of_gap = cost_there gaps entries e once within k 0 (below k of_gap) of_gap

  elsewhere : (k : ℕ) → k < gaps → is_of k e ≡ false → IsCost (get_or (costs_of gaps (entries ++ e ∷ [])) k 0)
  elsewhere k lt other = others_within gaps entries e once within k 0 lt other

  long : length (costs_of gaps (entries ++ e ∷ [])) ≡ gaps
  long = same_length gaps entries e once within

  not_many : nat_lt MAX_GAPS (length (costs_of gaps (entries ++ e ∷ []))) ≡ false
  not_many = not_too_many _ (omega (arith, long, few))

  -- the first gap of a test that its cost alone passes
  found : (p : ℕ → Bool) → p e.cost ≡ true → ((c : ℕ) → IsCost c → p c ≡ false) → position p (costs_of gaps (entries ++ e ∷ [])) ≡ Some (least_of e.gaps 255)
  found p passes fail =
      position_is p (costs_of gaps (entries ++ e ∷ [])) (least_of e.gaps 255) (omega (arith, long, name_below)) (ap p (there (least_of e.gaps 255) of_name) ∙ passes)
      (λ k lt. fail _ (elsewhere k (omega (arith, lt, name_below)) (before k lt)))

  none_free : (e.cost == 0) ≡ false → first_free (costs_of gaps (entries ++ e ∷ [])) ≡ None
  none_free costs =
      none_found (λ c. c == 0) (costs_of gaps (entries ++ e ∷ [])) (λ k lt. elim (cases_Bool (is_of k e)) [
        | inl of_gap ↦ ap (λ (c : ℕ). c == 0) (there k of_gap) ∙ costs
        | inr other ↦ not_free _ (elsewhere k (omega (arith, lt, long)) other)
      ])

  pub first_fault : (why : CostFault) → cost_or_fault (least_of e.gaps 255) e.cost ≡ Err why → first_cost_fault (costs_of gaps (entries ++ e ∷ [])) ≡ Some why
  first_fault why is = by_kind (judged (least_of e.gaps 255) e.cost)
    where
      by_kind : IsJudged (least_of e.gaps 255) e.cost (cost_or_fault (least_of e.gaps 255) e.cost) → first_cost_fault (costs_of gaps (entries ++ e ∷ [])) ≡ Some why
      by_kind (fine some small r) = let bad = sym r ∙ is in absurd cc
      by_kind (free zero_cost r) = let named = sym r ∙ is in rw (not_many, found (λ c. c == 0) (eq-eqb e.cost 0 zero_cost) not_free) cc
      by_kind (large over r) = let named = sym r ∙ is in rw (not_many, none_free (ne_eqb e.cost 0 (λ z. absurd (omega (arith, z, over)))), found (λ c. nat_lt 1000000 c) (lt-ltb 1000000 e.cost over) not_too_large) cc
