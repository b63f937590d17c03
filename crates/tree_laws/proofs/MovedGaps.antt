-- What a set costs with one gap more, and a set that has one gap in place of another.
use Rattle.std.proofs.Common.{◌≡◌, ◌≢◌, ℕ, zero, suc, ◌+◌, ◌<◌, ◌≤◌, ◌||◌, ◌&&◌, Bool, true, false, not, List, ◌∷◌, cond, sum_by, refl, sym, ap, ◌∙◌, inl, inr, arith}
use Rattle.std.proofs.lemmas.Bool.{cases_lt}
use Rattle.std.proofs.lemmas.Bool.Decides.{nat_tests}
use Rattle.std.specs.Cmp.{nat_cmp_total}
use Rattle.std.specs.List.{filter, range_with_len}
use Rattle.std.specs.Ordering.{eq_by_cmp, nat_cmp}
use Rattle.std.specs.FinSet as set
use Rattle.gap_sets.specs.Gaps.{SetOfGaps}
unfoldable use Rattle.gap_sets.specs.Gaps.{numbers_of_set}
use Rattle.gap_sets.specs.Order.{cost_of, HasLeastDifference, Better}
unfoldable use Rattle.gap_sets.specs.Order.{total}
use Rattle.gap_sets.specs.declared.gap_set.TheConstants.{MAX_GAPS}
use Rattle.gap_sets.proofs.Ranges.{filter_alike, sum-cond}

-- tests that differ at one number of the range alone
sum_more : (f : ℕ → ℕ) (p r : ℕ → Bool) (a n gap : ℕ) → ((q : ℕ) → q ≢ gap → p q ≡ r q) → a ≤ gap → gap < a + n → p gap ≡ false → r gap ≡ true →
    sum_by f (filter r (range_with_len a n)) ≡ f gap + sum_by f (filter p (range_with_len a n))
sum_more f p r a zero gap alike low high out here = absurd (omega arith)
sum_more f p r a (suc n) gap alike low high out here =
    let left = sum-cond f (p a) a (filter p (range_with_len (a + 1) n)) in
    let right = sum-cond f (r a) a (filter r (range_with_len (a + 1) n)) in
    elim (cases_lt a gap) [
      | inl later ↦
          let rest = sum_more f p r (a + 1) n gap alike (omega arith) (omega arith) out here in
          let same : cond (p a) (f a) 0 ≡ cond (r a) (f a) 0 = ap (λ t. cond t (f a) 0) (alike a (λ e. omega arith)) in
          omega arith
      | inr now ↦
          let is : a ≡ gap = omega arith in
          let rest : sum_by f (filter p (range_with_len (a + 1) n)) ≡ sum_by f (filter r (range_with_len (a + 1) n)) =
          ap (sum_by f) (filter_alike p r (a + 1) n (λ q above below. alike q (λ e. omega arith))) in
          let none : cond (p a) (f a) 0 ≡ 0 = rw is (ap (λ t. cond t (f gap) 0) out) in
          let one : cond (r a) (f a) 0 ≡ f gap = rw is (ap (λ t. cond t (f gap) 0) here) in
          omega arith
    ]

-- a set that has one gap more costs that much more
pub one_more : (costs : List ℕ) (less more : SetOfGaps) (gap : ℕ) → ((q : ℕ) → q ≢ gap → set.contains less q ≡ set.contains more q) → gap < MAX_GAPS →
    set.contains less gap ≡ false → set.contains more gap ≡ true → total costs more ≡ cost_of costs gap + total costs less
unfolding total numbers_of_set
one_more costs less more gap alike low out here = sum_more (cost_of costs) (set.contains less) (set.contains more) 0 MAX_GAPS gap alike (omega arith) (omega arith) out here

-- ---- what is in a set after a gap is put in or taken out

tied : (q g : ℕ) → q ≡ g → eq_by_cmp nat_cmp q g ≡ true
tied q g e = grind (arith, nat_tests)

untied : (q g : ℕ) → q ≢ g → eq_by_cmp nat_cmp q g ≡ false
untied q g differ = grind (arith, nat_tests)

pub put_in : (s : SetOfGaps) (gap : ℕ) → set.contains (set.insert s gap) gap ≡ true
put_in s gap = set.contains-insert nat_cmp_total s gap gap ∙ ap (λ b. b || set.contains s gap) (tied gap gap refl)

pub put_in_beside : (s : SetOfGaps) (gap q : ℕ) → q ≢ gap → set.contains (set.insert s gap) q ≡ set.contains s q
put_in_beside s gap q differ = set.contains-insert nat_cmp_total s gap q ∙ ap (λ b. b || set.contains s q) (untied q gap differ)

taken_out : (s : SetOfGaps) (gap : ℕ) → set.contains (set.remove s gap) gap ≡ false
taken_out s gap = set.contains-remove nat_cmp_total s gap gap ∙ ap (λ b. not b && set.contains s gap) (tied gap gap refl)

taken_out_beside : (s : SetOfGaps) (gap q : ℕ) → q ≢ gap → set.contains (set.remove s gap) q ≡ set.contains s q
taken_out_beside s gap q differ = set.contains-remove nat_cmp_total s gap q ∙ ap (λ b. not b && set.contains s q) (untied q gap differ)

-- ---- a set with one gap in place of another

abbrev pub in_place_of : SetOfGaps → ℕ → ℕ → SetOfGaps
in_place_of s old new = set.insert (set.remove s old) new

pub in_place : (s : SetOfGaps) (old new : ℕ) → set.contains (in_place_of s old new) new ≡ true
in_place s old new = put_in (set.remove s old) new

pub beside_both : (s : SetOfGaps) (old new q : ℕ) → q ≢ old → q ≢ new → set.contains (in_place_of s old new) q ≡ set.contains s q
beside_both s old new q not_old not_new = put_in_beside (set.remove s old) new q not_new ∙ taken_out_beside s old q not_old

module _ (costs : List ℕ) (s : SetOfGaps) (old new : ℕ) (has : set.contains s old ≡ true) (lacks : set.contains s new ≡ false) (low : old < MAX_GAPS) (new_low : new < MAX_GAPS) where
  differ : old ≢ new
  differ e = let no : true ≡ false = sym has ∙ ap (set.contains s) e ∙ lacks in cc

  costs_as : total costs (in_place_of s old new) + cost_of costs old ≡ total costs s + cost_of costs new
  costs_as =
      let without = set.remove s old in
      let before = one_more costs without s old (taken_out_beside s old) low (taken_out s old) has in
      let after = one_more costs without (in_place_of s old new) new (λ q other. sym (put_in_beside without new q other)) new_low
      (taken_out_beside s old new (λ e. differ (sym e)) ∙ lacks) (in_place s old new) in
      omega arith

  least : new < old → HasLeastDifference (in_place_of s old new) s
  least before = record {
    gap = new;
    in_first = in_place s old new;
    not_in_second = lacks;
    alike_below = λ k h. beside_both s old new k (λ e. omega arith) (λ e. omega arith);
  }

  -- a gap in place of one that is dearer, or as dear and later
  pub better_in_place : cost_of costs new ≤ cost_of costs old → (cost_of costs old ≡ cost_of costs new → new ≤ old) → Better costs (in_place_of s old new) s
  better_in_place no_dearer no_later = elim (cases_lt (cost_of costs new) (cost_of costs old)) [
    | inl cheaper ↦ inl (omega (arith, costs_as))
    | inr as_dear ↦
        let same : cost_of costs old ≡ cost_of costs new = omega arith in
        let up_to = no_later same in
        inr (omega (arith, costs_as), least (let apart = differ in omega arith))
  ]
