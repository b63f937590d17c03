-- Where a set is not better than the answer, no set that holds it is.
use Rattle.tree_laws.proofs.Vocabulary.{◌≡◌, ◌≢◌, ◌⊎◌, ℕ, ◌<◌, ◌≤◌, Bool, true, false, List, length, refl, sym, ◌∙◌, subst, inl, inr, arith, nat_cmp_total, Better, MAX_GAPS, Listing, IsWithinLimits, AreGapsOf, HaveCosts, SetOfGaps, have_same_gaps, chained}
use Rattle.tree_laws.proofs.Vocabulary.{gap_count}
use Rattle.std.specs.Prelude.{All}
use Rattle.std.specs.FinSet as set
use Rattle.gap_sets.specs.SameGaps.{have_same_gaps-same}
use Rattle.gap_sets.proofs.Subsets.{cheaper}

-- two sets are the same or not
same_or_not : (a b : SetOfGaps) → (a ≡ b) ⊎ (a ≢ b)
same_or_not a b = by_test (have_same_gaps a b) refl
  where
    by_test : (r : Bool) → have_same_gaps a b ≡ r → (a ≡ b) ⊎ (a ≢ b)
    by_test true e = inl ((have_same_gaps-same a b).0 e)
    by_test false e = inr (λ q. let no : true ≡ false = sym ((have_same_gaps-same a b).1 q) ∙ e in cc)

-- a subset of a set of gaps that have costs is the set, or better
pub no_worse : (costs : List ℕ) (part whole : SetOfGaps) → length costs ≤ MAX_GAPS → All (λ cost. 1 ≤ cost) costs → ((gap : ℕ) → set.contains whole gap ≡ true → gap < length costs) →
    ((gap : ℕ) → set.contains part gap ≡ true → set.contains whole gap ≡ true) → (part ≡ whole) ⊎ Better costs part whole
no_worse costs part whole few positive below held = elim (same_or_not part whole) [
  | inl same ↦ inl same
  | inr differ ↦ inr (cheaper costs part whole positive (λ gap there. omega (arith, below gap there)) below (set.contains-is_subset nat_cmp_total part whole held) differ)
]

-- what is no worse than a better set is better
pub better_still : (costs : List ℕ) (a b c : SetOfGaps) → (a ≡ b) ⊎ Better costs a b → Better costs b c → Better costs a c
better_still costs a b c (inl same) better = subst (λ (s : SetOfGaps). Better costs s c) (sym same) better
better_still costs a b c (inr first) better = chained costs a b c first better

module _ (p : Listing) (costs : List ℕ) (within : IsWithinLimits p.threads p.memory) (have : HaveCosts p costs) where
  pub few_costs : length costs ≤ MAX_GAPS
  few_costs = let few : gap_count p.threads ≤ MAX_GAPS = within.few_gaps in omega (arith, have.one_each)

  -- each gap of the program has a cost
  pub each_costs : (s : SetOfGaps) → AreGapsOf p s → (gap : ℕ) → set.contains s gap ≡ true → gap < length costs
  each_costs s of_program gap there = let below : gap < gap_count p.threads = of_program gap there in omega (arith, have.one_each)

  -- a set of the program's gaps is not better than one of its subsets
  pub still_better : (part whole answer : SetOfGaps) → AreGapsOf p whole → ((gap : ℕ) → set.contains part gap ≡ true → set.contains whole gap ≡ true) →
      Better costs whole answer → Better costs part answer
  still_better part whole answer of_program held = better_still costs part whole answer (no_worse costs part whole few_costs have.positive (each_costs whole of_program) held)
