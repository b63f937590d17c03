-- Sets that have the same gaps are equal.
use Rattle.std.proofs.Common.{◌≡◌, ◌↔◌, Bool, true, false, ◌&&◌, refl, sym, subst, ◌∙◌}
use Rattle.std.specs.Cmp.{nat_cmp_total, IsEquivalence, IsPartialEquivalence, equiv}
use Rattle.std.specs.FinSet as set
use Rattle.gap_sets.specs.Gaps.{SetOfGaps, have_same_gaps}

-- both parts of a test that passes
both : (v w : Bool) → (v && w) ≡ true → (v ≡ true) × (w ≡ true)
both true true e = (refl, refl)
both true false e = cc
both false w e = cc

-- the parts may change places
swapped : (v w : Bool) → (v && w) ≡ (w && v)
swapped true true = refl
swapped true false = refl
swapped false true = refl
swapped false false = refl

-- tests of which each passes with the other are equal
pub alike : (v w : Bool) → (v ≡ true → w ≡ true) → (w ≡ true → v ≡ true) → v ≡ w
alike true w there back = sym (there refl)
alike false true there back = back refl
alike false false there back = refl

-- sets of which each holds the other are equal
pub same_gaps : (s t : SetOfGaps) → have_same_gaps s t ≡ true → s ≡ t
same_gaps s t alike_here =
    let within = both (set.is_subset s t) (set.is_subset t s) alike_here in
    set.same_set nat_cmp_total set.nat_cmp-IsAntisymmetric s t (λ q. alike _ _ (set.is_subset-contains nat_cmp_total s t within.0 q) (set.is_subset-contains nat_cmp_total t s within.1 q))

-- a set holds itself
within_itself : (s : SetOfGaps) → set.is_subset s s ≡ true
within_itself s = set.contains-is_subset nat_cmp_total s s (λ q there. there)

itself : (s : SetOfGaps) → have_same_gaps s s ≡ true
itself s = rw (within_itself s) refl

-- the test says that the sets are equal
pub have_same_gaps-same : (s t : SetOfGaps) → (have_same_gaps s t ≡ true) ↔ (s ≡ t)
have_same_gaps-same s t = (same_gaps s t, λ e. let P : SetOfGaps → Type 0 = λ u. have_same_gaps s u ≡ true in subst P e (itself s))

-- what `==` on sets asks for
pub have_same_gaps-IsPartialEquivalence : IsPartialEquivalence have_same_gaps
have_same_gaps-IsPartialEquivalence = record {
  symm = λ s t. swapped (set.is_subset s t) (set.is_subset t s);
  trans = λ s t u one two. (have_same_gaps-same s u).1 (same_gaps s t one ∙ same_gaps t u two);
}

-- and what equality asks for
pub have_same_gaps-IsEquivalence : IsEquivalence have_same_gaps
have_same_gaps-IsEquivalence = equiv have_same_gaps-IsPartialEquivalence itself
