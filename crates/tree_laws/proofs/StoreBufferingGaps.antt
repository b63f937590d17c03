-- Store buffering: its gap tree is valid.
use Rattle.tree_laws.proofs.Vocabulary.{◌≡◌, ◌||◌, ℕ, zero, suc, ◌<◌, Bool, true, false, [], ◌∷◌, Contains, refl, sym, ap, ◌∙◌, subst, inl, inr, arith, IsStrictlyIncreasing, nat_cmp, eq_by_cmp, nat_cmp_total, SetOfGaps, Better, all_sets, with_gap}
use Rattle.tree_laws.proofs.Vocabulary.{without_gap, Region, these, waiting_stores, PassesName, IsSplitBy, IsValidGap, costs, not_itself, second_waits, first_waits, gap_tree}
use Rattle.std.specs.FinSet as set
use Rattle.tree_laws.proofs.{Lists.none_here, Lists.first_or_later, Lists.first_is_here, Regions.new_or_old}
use Rattle.tree_laws.proofs.StoreBufferingValues.{zero_one, in_zero_one, of_zero_one}
use Rattle.tree_laws.proofs.StoreBufferingRuns.{runs, passed_below, both_passed, second_passed, first_not_passed, second_not_passed}
use Rattle.tree_laws.proofs.StoreBufferingCovered.{question, ascending as two_ascend}
use Rattle.tree_laws.proofs.MovedGaps.{put_in}
use Rattle.tree_laws.proofs.BoundedRegions.{by_must}

abbrev pub both_gaps : SetOfGaps
both_gaps = these (0 ∷ 1 ∷ [])

-- nothing is in the empty set
pub not_empty : (gap : ℕ) → set.contains (set.empty {R = nat_cmp}) gap ≡ true → ⊥
not_empty gap h = let no_way : true ≡ false = sym h ∙ set.contains-empty nat_cmp gap in cc

none_ascend : IsStrictlyIncreasing []
none_ascend k h = absurd (omega arith)

pub one_ascends : (gap : ℕ) → IsStrictlyIncreasing (gap ∷ [])
one_ascends gap k h = absurd (omega arith)

below_two : (gap : ℕ) → Contains zero_one gap → gap < 2
below_two gap here = elim (of_zero_one gap here) [ inl e ↦ omega arith | inr e ↦ omega arith ]

split_at_root : IsSplitBy question runs all_sets 0 zero_one
split_at_root = record {
  labels = waiting_stores;
  is_run = refl;
  passes_none = λ gap there passed. not_empty gap there;
  ascending = two_ascend;
  exact = λ gap. ((λ here. (both_passed gap (below_two gap here), set.contains-empty nat_cmp gap)), (λ passed. in_zero_one gap (passed_below waiting_stores gap passed.0)));
}

-- the sets that hold the first gap
abbrev with_first : Region
with_first = with_gap all_sets 0

pub only_one : (gap : ℕ) → gap < 2 → (gap ≡ 0 → ⊥) → Contains (1 ∷ []) gap
only_one zero h differ = absurd (differ refl)
only_one (suc zero) h differ = first_is_here 1 []
only_one (suc (suc gap)) h differ = absurd (omega arith)

split_with_first : IsSplitBy question runs with_first 1 (1 ∷ [])
split_with_first = record {
  labels = second_waits;
  is_run = refl;
  passes_none = λ gap there passed. elim (new_or_old set.empty 0 gap there) [
    | inl e ↦ first_not_passed (subst (PassesName question second_waits) (sym e) passed)
    | inr old ↦ not_empty gap old
  ];
  ascending = one_ascends 1;
  exact = λ gap. (there gap, λ passed. only_one gap (passed_below second_waits gap passed.0) (λ e. first_not_passed (subst (PassesName question second_waits) e passed.0)));
}
  where
    there : (gap : ℕ) → Contains (1 ∷ []) gap → PassesName question second_waits gap × (set.contains (set.empty {R = nat_cmp}) gap ≡ false)
    there gap here = elim (first_or_later 1 [] gap here) [
      | inl e ↦ (subst (PassesName question second_waits) e second_passed, set.contains-empty nat_cmp gap)
      | inr rest ↦ absurd (none_here gap rest)
    ]

-- the sets that hold the second gap and not the first
abbrev without_first : Region
without_first = with_gap (without_gap all_sets 0) 1

split_without_first : IsSplitBy question runs without_first 2 []
split_without_first = record {
  labels = first_waits;
  is_run = refl;
  passes_none = λ gap there passed. elim (new_or_old set.empty 1 gap there) [
    | inl e ↦ second_not_passed (subst (PassesName question first_waits) (sym e) passed)
    | inr old ↦ not_empty gap old
  ];
  ascending = none_ascend;
  exact = λ gap. ((λ here. absurd (none_here gap here)), λ passed. absurd (none gap (passed_below first_waits gap passed.0) passed.0 passed.1));
}
  where
    none : (gap : ℕ) → gap < 2 → PassesName question first_waits gap → set.contains (set.insert (set.empty {R = nat_cmp}) 0) gap ≡ false → ⊥
    none zero h passed free = let no_way : true ≡ false = sym (put_in set.empty 0) ∙ free in cc
    none (suc zero) h passed free = second_not_passed passed
    none (suc (suc gap)) h passed free = omega arith

-- the order of insertion makes no difference
swapped : (a b c : Bool) → (a || (b || c)) ≡ (b || (a || c))
swapped true true c = refl
swapped a b c = refl

same_gaps : set.insert (set.insert set.empty 0) 1 ≡ both_gaps
same_gaps = set.same_set nat_cmp_total set.nat_cmp-IsAntisymmetric _ _ (λ q.
    set.contains-insert nat_cmp_total (set.insert set.empty 0) 1 q
    ∙ ap (λ b. eq_by_cmp nat_cmp q 1 || b) (set.contains-insert nat_cmp_total set.empty 0 q)
    ∙ swapped (eq_by_cmp nat_cmp q 1) (eq_by_cmp nat_cmp q 0) (set.contains set.empty q)
    ∙ ap (λ b. eq_by_cmp nat_cmp q 0 || b) (sym (set.contains-insert nat_cmp_total set.empty 1 q))
    ∙ sym (set.contains-insert nat_cmp_total (set.insert set.empty 1) 0 q))

not_better : ¬ Better costs (set.insert (set.insert set.empty 0) 1) both_gaps
not_better better = not_itself costs both_gaps (subst (λ (s : SetOfGaps). Better costs s both_gaps) same_gaps better)

-- the sets that hold both gaps
abbrev with_both : Region
with_both = with_gap with_first 1

pub gap_tree_is_valid : IsValidGap question costs both_gaps runs gap_tree all_sets
gap_tree_is_valid = (zero_one, split_at_root, ((1 ∷ [], split_with_first, ((by_must question costs both_gaps runs with_both).1 not_better, tt)), (([], split_without_first, tt), tt)))
