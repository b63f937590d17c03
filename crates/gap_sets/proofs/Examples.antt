-- The definitions on three gaps of cost 1.
use Rattle.gap_sets.proofs.Vocabulary.{◌≡◌, ℕ, ◌<◌, inl, inr, true, false, List, [], ◌∷◌, nat_eq, sum_by, refl, sym, ap, ◌∙◌, arith, filter, range_with_len, list_any, numbers_of_set, total, cost_of, HasLeastDifference, MAX_GAPS, ThreeGapsOfCostOne, these}
use Rattle.gap_sets.proofs.Vocabulary.{ones}
use Rattle.std.specs.FinSet as set
use Rattle.gap_sets.proofs.{Orders.not_itself, Ranges.filter_alike}

-- what a listed set costs, by its list
pub total-these : (costs gaps : List ℕ) → total costs (these gaps) ≡ sum_by (cost_of costs) (filter (λ q. list_any (λ y. nat_eq y q) gaps) (range_with_len 0 MAX_GAPS))
unfolding total numbers_of_set
total-these costs gaps = ap (sum_by (cost_of costs)) (filter_alike _ _ 0 MAX_GAPS (λ q _ _. set.contains-from_list_nat gaps q))

-- the first number in one list alone
listed : (xs ys : List ℕ) (gap : ℕ) → list_any (λ y. nat_eq y gap) xs ≡ true → list_any (λ y. nat_eq y gap) ys ≡ false
    → ((k : ℕ) → k < gap → list_any (λ y. nat_eq y k) xs ≡ list_any (λ y. nat_eq y k) ys) → HasLeastDifference (these xs) (these ys)
listed xs ys gap here not_there alike = record {
  gap = gap;
  in_first = set.contains-from_list_nat xs gap ∙ here;
  not_in_second = set.contains-from_list_nat ys gap ∙ not_there;
  alike_below = λ k h. set.contains-from_list_nat xs k ∙ alike k h ∙ sym (set.contains-from_list_nat ys k);
}

-- no number but 0 is below 1
only_zero : (k : ℕ) → k < 1 → k ≡ 0
only_zero k h = omega arith

-- each part, by the lists
pub three_gaps_of_cost_one : ThreeGapsOfCostOne
three_gaps_of_cost_one = record {
  two_of_three = total-these ones (0 ∷ 2 ∷ []);
  lower_gap = inr (total-these ones (0 ∷ []) ∙ sym (total-these ones (1 ∷ [])), listed (0 ∷ []) (1 ∷ []) 0 refl refl (λ k h. absurd (omega arith)));
  lower_second_gap = inr (
    total-these ones (0 ∷ 1 ∷ []) ∙ sym (total-these ones (0 ∷ 2 ∷ [])),
    listed (0 ∷ 1 ∷ []) (0 ∷ 2 ∷ []) 1 refl refl (λ k h. rw (only_zero k h) refl),
  );
  no_gap = inl (omega (arith, total-these ones [], total-these ones (0 ∷ [])));
  itself = not_itself ones (these (0 ∷ []));
}
