-- Store buffering: the two runs that pass one gap each bound all sets.
use Rattle.std.specs.Prelude.{All as EachOf}
use Rattle.std.specs.List.{AllZip}
use Rattle.std.specs.FinSet as set
use Rattle.tree_laws.proofs.Vocabulary.{◌≡◌, ℕ, zero, suc, ◌<◌, false, List, [], ◌∷◌, Some, slice_get, Contains, refl, sym, subst, inl, inr, arith, All-nil, All-cons, nat_cmp, SetOfGaps, Better, all_sets, Label, PassesName, IsSplitBy, costs, not_itself, second_waits, first_waits}
use Rattle.tree_laws.specs.Packings.{IsCheapestOf, with_gaps}
use Rattle.tree_laws.specs.GapTrees.{IsBoundBy}
use Rattle.tree_laws.proofs.{Lists.none_here, Lists.first_or_later, Lists.first_is_here, Lists.each_more}
use Rattle.tree_laws.proofs.StoreBufferingCovered.{question}
use Rattle.tree_laws.proofs.StoreBufferingRuns.{runs, passed_below, second_passed, first_passed, first_not_passed, second_not_passed}
use Rattle.tree_laws.proofs.StoreBufferingGaps.{both_gaps, not_empty, one_ascends, only_one}

-- a run that passes this gap alone
passes_alone : (labels : List Label) (number g : ℕ) → slice_get runs number ≡ Some labels → PassesName question labels g → ((gap : ℕ) → PassesName question labels gap → Contains (g ∷ []) gap) →
    IsSplitBy question runs all_sets number (g ∷ [])
passes_alone labels number g is passed alone = record {
  labels = labels;
  is_run = is;
  passes_none = λ gap there found. not_empty gap there;
  ascending = one_ascends g;
  exact = λ gap. (each_more (λ (h : ℕ). PassesName question labels h × (set.contains (set.empty {R = nat_cmp}) h ≡ false)) g [] (passed, set.contains-empty nat_cmp g) (λ h here. absurd (none_here h here)) gap, λ found. alone gap found.0);
}

second_alone : (gap : ℕ) → PassesName question second_waits gap → Contains (1 ∷ []) gap
second_alone gap passed = only_one gap (passed_below second_waits gap passed) (λ e. first_not_passed (subst (PassesName question second_waits) e passed))

only_zero : (gap : ℕ) → gap < 2 → (gap ≡ 1 → ⊥) → Contains (0 ∷ []) gap
only_zero zero h differ = first_is_here 0 []
only_zero (suc zero) h differ = absurd (differ refl)
only_zero (suc (suc gap)) h differ = absurd (omega arith)

first_alone : (gap : ℕ) → PassesName question first_waits gap → Contains (0 ∷ []) gap
first_alone gap passed = only_zero gap (passed_below first_waits gap passed) (λ e. second_not_passed (subst (PassesName question first_waits) e passed))

-- the only gap of a list
the_only : (g gap : ℕ) → Contains (g ∷ []) gap → g ≡ gap
the_only g gap here = elim (first_or_later g [] gap here) [ inl e ↦ e | inr rest ↦ absurd (none_here gap rest) ]

not_better : (cheapest : List ℕ) → AllZip (IsCheapestOf costs) ((1 ∷ []) ∷ ((0 ∷ []) ∷ [])) cheapest → ¬ Better costs (with_gaps set.empty cheapest) both_gaps
not_better [] each better = each
not_better (a ∷ []) each better = each.1
not_better (a ∷ (b ∷ [])) (one, (other, tt)) better =
    let a_is = the_only 1 a one.is_one in
    let b_is = the_only 0 b other.is_one in
    let P : SetOfGaps → Type 0 = λ s. Better costs s both_gaps in
    not_itself costs both_gaps (subst (λ (g : ℕ). P (set.insert (set.insert set.empty 1) g)) (sym b_is) (subst (λ (g : ℕ). P (set.insert (set.insert set.empty g) b)) (sym a_is) better))
not_better (a ∷ (b ∷ (c ∷ cs))) each better = each.1.1

pub bounded : IsBoundBy question costs both_gaps runs all_sets (1 ∷ 2 ∷ [])
bounded = record {
  gaps = (1 ∷ []) ∷ ((0 ∷ []) ∷ []);
  each = (passes_alone second_waits 1 1 refl second_passed second_alone, (passes_alone first_waits 2 0 refl first_passed first_alone, tt));
  apart = (λ gap here. none_of gap (the_only 1 gap here), (λ gap here. none_later gap, tt));
  not_better = not_better;
}
  where
    none_of : (gap : ℕ) → 1 ≡ gap → EachOf (λ (others : List ℕ). ¬ Contains others gap) ((0 ∷ []) ∷ [])
    none_of gap is = All-cons (λ (others : List ℕ). ¬ Contains others gap) (0 ∷ []) [] (λ there. let zero_is = the_only 0 gap there in omega arith) (All-nil (λ (others : List ℕ). ¬ Contains others gap))

    none_later : (gap : ℕ) → EachOf (λ (others : List ℕ). ¬ Contains others gap) []
    none_later gap = All-nil (λ (others : List ℕ). ¬ Contains others gap)
