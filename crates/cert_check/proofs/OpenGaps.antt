-- The gaps of one set that are not in another: how many they are, and which.
use Rattle.cert_check.proofs.Vocabulary.{◌≡◌, ◌↔◌, ℕ, true, false, not, ◌&&◌, length, Contains, sym, ap, ◌∙◌, and_parts, and_from, not-true}
use Rattle.cert_check.proofs.Vocabulary.{not_from_false, nat_cmp_total, MAX_GAPS, listed, unlisted, SetOfGaps, IsGapSet, numbers_of_set}
use Rattle.std.specs.FinSet as set
use Rattle.gap_sets.specs.SameGaps.{alike}
use Rattle.gap_sets.proofs.Counted.{len-from_list}
use Rattle.tree_laws.proofs.Filtered.{has_any, any_has}

-- ---- how many they are

-- a set is that of the gaps that it lists
of_listed : (s : SetOfGaps) → IsGapSet s → set.from_list (numbers_of_set s) ≡ s
of_listed s small = set.same_set nat_cmp_total set.nat_cmp-IsAntisymmetric (set.from_list (numbers_of_set s)) s (λ g.
    set.contains-from_list_nat (numbers_of_set s) g
    ∙ alike _ (set.contains s g) (λ any. unlisted s g (has_any (numbers_of_set s) g any)) (λ there. any_has (numbers_of_set s) g (listed s g (small g there) there)))

-- and it has as many gaps as it lists
pub as_many_listed : (s : SetOfGaps) → IsGapSet s → set.len s ≡ length (numbers_of_set s)
unfolding numbers_of_set
as_many_listed s small = ap (λ (t : SetOfGaps). set.len t) (sym (of_listed s small)) ∙ len-from_list (set.contains s) 0 MAX_GAPS

-- ---- which they are

module _ (passed never gaps : SetOfGaps) (is : gaps ≡ set.difference passed never) (small : IsGapSet gaps) where
  contains_open : (g : ℕ) → set.contains gaps g ≡ (set.contains passed g && not (set.contains never g))
  contains_open g = ap (λ s. set.contains s g) is ∙ set.contains-difference nat_cmp_total passed never g

  -- the gaps of the first set that are not in the second
  pub listed_exact : (g : ℕ) → Contains (numbers_of_set gaps) g ↔ ((set.contains passed g ≡ true) × (set.contains never g ≡ false))
  listed_exact g = (
    (λ here. (let parts = and_parts (set.contains passed g) (not (set.contains never g)) (sym (contains_open g) ∙ unlisted gaps g here) in (parts.0, not-true _ parts.1))),
    (λ (there, free). (let has : set.contains gaps g ≡ true = contains_open g ∙ and_from (set.contains passed g) (not (set.contains never g)) there (not_from_false _ free) in listed gaps g (small g has) has)),
  )
