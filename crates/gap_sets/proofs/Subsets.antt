-- A proper subset is cheaper than the set.
use Rattle.gap_sets.proofs.Vocabulary.{◌≡◌, ◌≢◌, ℕ, ◌<◌, ◌≤◌, inl, inr, Bool, true, false, All, List, length, refl, arith, unwrap_or-slice_get, nat_cmp_total, SetOfGaps, IsGapSet, numbers_of_set, total, cost_of, MAX_GAPS, ProperSubsetIsBetter}
use Rattle.std.specs.FinSet as set
use Rattle.gap_sets.proofs.{Ranges.sum-lt, Tests.first_difference, Tests.alike_beyond}

-- of two tests of which one passes only with the other, that differ
left_out : (v w : Bool) → (v ≡ true → w ≡ true) → v ≢ w → (v ≡ false) × (w ≡ true)
left_out true false within differ = let no = within refl in cc
left_out false true within differ = (refl, refl)
left_out v w within differ = absurd (differ refl)

-- a set that is not equal to one that holds it leaves a gap of it out
missed : (a b : SetOfGaps) → IsGapSet b → ((gap : ℕ) → set.contains a gap ≡ true → set.contains b gap ≡ true) → a ≢ b
    → (gap : ℕ) × (set.contains a gap ≡ false) × (set.contains b gap ≡ true)
missed a b small within differ =
    elim (first_difference (set.contains a) (set.contains b) MAX_GAPS) [
      | inl alike ↦ absurd (differ (set.same_set nat_cmp_total set.nat_cmp-IsAntisymmetric a b (alike_beyond (set.contains a) (set.contains b) MAX_GAPS alike (λ k there. small k (within k there)) small)))
      | inr found ↦
          let sides = left_out _ _ (within found.0) found.1 in
          (found.0, sides.0, sides.1)
    ]

-- a gap of the list costs at least 1
costs_some : (costs : List ℕ) (gap : ℕ) → All (λ cost. 1 ≤ cost) costs → gap < length costs → 1 ≤ cost_of costs gap
costs_some costs gap each h = let is = unwrap_or-slice_get costs gap 0 in let some = each gap 0 h in omega arith

-- a proper subset is cheaper
pub cheaper : ProperSubsetIsBetter
unfolding total numbers_of_set
cheaper costs a b each small covered subset differ =
    let within : (gap : ℕ) → set.contains a gap ≡ true → set.contains b gap ≡ true = λ gap there. set.is_subset-contains nat_cmp_total a b subset gap there in
    let gap = missed a b small within differ in
    inl (sum-lt (cost_of costs) (set.contains a) (set.contains b) 0 MAX_GAPS gap.0 within (omega arith) (omega (arith, small gap.0 gap.2)) gap.1 gap.2 (costs_some costs gap.0 each (covered gap.0 gap.2)))
