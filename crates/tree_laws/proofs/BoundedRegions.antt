-- Where runs bound a region, of each better set of it one of them passes no gap. Where they are foreign, it leaves an outcome that no sequential run has.
use Rattle.std.specs.Prelude.{All}
use Rattle.std.specs.List.{AllZip}
use Rattle.tree_laws.proofs.Vocabulary.{◌≡◌, ◌⊎◌, ℕ, ◌<◌, List, [], ◌∷◌, length, Contains, sym, inl, inr, arith, refl, subst, All-nil, All-cons, All-weaker, All-contains_itself, SetOfGaps, HasNoneOf, IsInRegion, Region, Better, Question, IsWithinLimits, Label}
use Rattle.tree_laws.proofs.Vocabulary.{HaveCosts, IsSplitBy, SomePassesNone, SomeRunAvoidsEachBetter}
use Rattle.std.specs.FinSet as set
use Rattle.gap_sets.proofs.Spreading.{no_greater}
use Rattle.tso_program.proofs.Gaps.{gap_below}
use Rattle.tree_laws.specs.GapTrees.{IsBoundBy}
use Rattle.tree_laws.specs.Packings.{IsCheapestOf, with_gaps, HasOneOf}
use Rattle.tree_laws.specs.Laws.{ABoundByRunsLeavesNoBetter, NoRunsBoundByMust}
use Rattle.tree_laws.proofs.{Regions.true_or_false, AvoidedGaps.avoided_leaves, PassedGaps.missed, CheapestGaps.one_or_none, CheapestGaps.cheapest_of_each}
use Rattle.tree_laws.proofs.{BetterSets.few_costs, BetterSets.each_costs, BetterSets.better_still, BestOfEach.the_best_of_each}

module _ (q : Question) (runs : List (List Label)) (n : Region) where
  abbrev AreSplitBy : List ℕ → List (List ℕ) → Type 0
  AreSplitBy numbers lists = AllZip (IsSplitBy q runs n) numbers lists

  -- a run passes no gap of a set of the region, or the set has a gap of each
  missed_or_met : (other : SetOfGaps) → IsInRegion n other → (numbers : List ℕ) (lists : List (List ℕ)) → AreSplitBy numbers lists → SomePassesNone q runs other ⊎ All (HasOneOf other) lists
  missed_or_met other inside [] [] each = inr (All-nil (HasOneOf other))
  missed_or_met other inside (number ∷ numbers) (gaps ∷ lists) (split, each) = elim (one_or_none other gaps) [
    | inr none ↦ inl (missed q runs n number gaps split other inside none)
    | inl has ↦ elim (missed_or_met other inside numbers lists each) [ inl one ↦ inl one | inr meets ↦ inr (All-cons (HasOneOf other) gaps lists has meets) ]
  ]
  missed_or_met other inside numbers lists each = absurd each

  -- the gaps of the runs are not in `must`
  beside_must : (numbers : List ℕ) (lists : List (List ℕ)) → AreSplitBy numbers lists → All (HasNoneOf n.must) lists
  beside_must [] [] each = All-nil (HasNoneOf n.must)
  beside_must (number ∷ numbers) (gaps ∷ lists) (split, each) = All-cons (HasNoneOf n.must) gaps lists none (beside_must numbers lists each)
    where
      none : HasNoneOf n.must gaps
      none gap here = elim (true_or_false (set.contains n.must gap)) [
        | inl there ↦ absurd (split.passes_none gap there ((split.exact gap).0 here).0)
        | inr missing ↦ missing
      ]
  beside_must numbers lists each = absurd each

  -- they are gaps of the program
  have_costs : (costs : List ℕ) → HaveCosts q.program costs → (numbers : List ℕ) (lists : List (List ℕ)) → AreSplitBy numbers lists → All (All (λ gap. gap < length costs)) lists
  have_costs costs have [] [] each = All-nil (All (λ gap. gap < length costs))
  have_costs costs have (number ∷ numbers) (gaps ∷ lists) (split, each) = All-cons (All (λ gap. gap < length costs)) gaps lists below (have_costs costs have numbers lists each)
    where
      has_cost : (gap : ℕ) → Contains gaps gap → gap < length costs
      has_cost gap here = let (tied, is, (t, i, number_is, passed)) = ((split.exact gap).0 here).0 in omega (arith, no_greater q.ties tied, is, gap_below q.program.threads t i tied number_is, have.one_each)

      below : All (λ gap. gap < length costs) gaps
      below = All-weaker (Contains gaps) (λ gap. gap < length costs) has_cost gaps (All-contains_itself gaps)
  have_costs costs have numbers lists each = absurd each

pub bound_avoids : (q : Question) (costs : List ℕ) (answer : SetOfGaps) (runs : List (List Label)) (n : Region) (numbers : List ℕ) → IsWithinLimits q.program.threads q.program.memory → HaveCosts q.program costs → IsBoundBy q costs answer runs n numbers →
    SomeRunAvoidsEachBetter q costs answer runs n
bound_avoids q costs answer runs n numbers within have bound other of_program inside better = elim (missed_or_met q runs n other inside numbers bound.gaps bound.each) [
  | inl one ↦ one
  | inr meets ↦
      let (cheapest, are) = cheapest_of_each costs other bound.gaps meets in
      let no_worse = the_best_of_each costs n.must other bound.gaps cheapest (record {
        few = few_costs q.program costs within have;
        positive = have.positive;
        each = have_costs q runs n costs have numbers bound.gaps bound.each;
      }) bound.apart (record {
        have_costs = each_costs q.program costs within have other of_program;
        holds = inside.holds;
        beside = beside_must q runs n numbers bound.gaps bound.each;
        meets = meets;
      }) are in
      absurd (bound.not_better cheapest are (better_still costs (with_gaps n.must cheapest) other answer no_worse better))
]

pub bounded : ABoundByRunsLeavesNoBetter
bounded q costs answer runs n numbers within have foreign bound other of_program inside better =
    avoided_leaves q runs other foreign (bound_avoids q costs answer runs n numbers within have bound other of_program inside better)

-- ---- without runs

no_gaps_of : (q : Question) (runs : List (List Label)) (n : Region) (lists : List (List ℕ)) → AllZip (IsSplitBy q runs n) [] lists → lists ≡ []
no_gaps_of q runs n [] each = refl
no_gaps_of q runs n (gaps ∷ lists) each = absurd each

still_must : (costs : List ℕ) (answer must : SetOfGaps) → ¬ Better costs must answer → (cheapest : List ℕ) → AllZip (IsCheapestOf costs) [] cheapest → ¬ Better costs (with_gaps must cheapest) answer
still_must costs answer must not_better [] are better = not_better better
still_must costs answer must not_better (gap ∷ gaps) are better = are

pub by_must : NoRunsBoundByMust
by_must q costs answer runs n = (
  (λ bound. bound.not_better [] (subst (λ (lists : List (List ℕ)). AllZip (IsCheapestOf costs) lists []) (sym (no_gaps_of q runs n bound.gaps bound.each)) tt)),
  (λ not_better. record { gaps = []; each = tt; apart = tt; not_better = still_must costs answer n.must not_better }),
)
