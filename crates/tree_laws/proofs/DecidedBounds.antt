-- What bounds a region is determined by the runs: one list of gaps for each, and one cheapest gap of each.
use Rattle.std.specs.List.{AllZip}
use Rattle.tree_laws.proofs.Vocabulary.{◌≡◌, ℕ, List, [], ◌∷◌, refl, subst, arith, Region, Better, Question, Label, IsSplitBy}
use Rattle.tree_laws.specs.Packings.{IsPacking, IsCheapestOf, with_gaps}
use Rattle.tree_laws.specs.Laws.{TheCheapestAreOneList, TheBoundIsDecided}
use Rattle.tree_laws.proofs.OneList.{one_list_of_gaps}

pub one_cheapest : (costs gaps : List ℕ) (a b : ℕ) → IsCheapestOf costs gaps a → IsCheapestOf costs gaps b → a ≡ b
one_cheapest costs gaps a b one other =
    let below = one.none_cheaper b other.is_one in
    let above = other.none_cheaper a one.is_one in
    let up_to = one.first b other.is_one (omega arith) in
    let from = other.first a one.is_one (omega arith) in
    omega arith

pub cheapest_are_one : TheCheapestAreOneList
cheapest_are_one costs [] [] [] one other = refl
cheapest_are_one costs (gaps ∷ lists) (x ∷ xs) (y ∷ ys) (one, ones) (other, others) =
    λ i. one_cheapest costs gaps x y one other i ∷ cheapest_are_one costs lists xs ys ones others i
cheapest_are_one costs [] [] (y ∷ ys) one other = absurd other
cheapest_are_one costs [] (x ∷ xs) ys one other = absurd one
cheapest_are_one costs (gaps ∷ lists) [] ys one other = absurd one
cheapest_are_one costs (gaps ∷ lists) (x ∷ xs) [] one other = absurd other

module _ (q : Question) (runs : List (List Label)) (n : Region) where
  lists_are_one : (numbers : List ℕ) (xs ys : List (List ℕ)) → AllZip (IsSplitBy q runs n) numbers xs → AllZip (IsSplitBy q runs n) numbers ys → xs ≡ ys
  lists_are_one [] [] [] one other = refl
  lists_are_one [] [] (y ∷ ys) one other = absurd other
  lists_are_one [] (x ∷ xs) ys one other = absurd one
  lists_are_one (number ∷ numbers) [] ys one other = absurd one
  lists_are_one (number ∷ numbers) (x ∷ xs) [] one other = absurd other
  lists_are_one (number ∷ numbers) (x ∷ xs) (y ∷ ys) (one, ones) (other, others) =
      λ i. one_list_of_gaps q runs n number x y one other i ∷ lists_are_one numbers xs ys ones others i

pub bound_is_decided : TheBoundIsDecided
bound_is_decided q costs answer runs n numbers gaps each = (
  (λ bound. subst
      (λ (lists : List (List ℕ)). IsPacking lists × ((cheapest : List ℕ) → AllZip (IsCheapestOf costs) lists cheapest → ¬ Better costs (with_gaps n.must cheapest) answer))
      (lists_are_one q runs n numbers bound.gaps gaps bound.each each) (bound.apart, bound.not_better)),
  (λ (apart, not_better). record { gaps = gaps; each = each; apart = apart; not_better = not_better }),
)
