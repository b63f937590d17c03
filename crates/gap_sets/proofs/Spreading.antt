-- What sets of names stand for.
use Rattle.gap_sets.proofs.Vocabulary.{◌≡◌, ◌≢◌, ℕ, zero, suc, ◌+◌, ◌<◌, ◌≤◌, ◌==◌, ◌⊎◌, length, inl, inr, Bool, true, false, not, ◌&&◌, ◌||◌, List, [], ◌∷◌, Option, Some, None, min, refl, sym, ap, ◌∙◌, arith, nat_cmp, eq_by_cmp, nat_cmp_total, nat_tests, eqb_tells, SetOfGaps}
use Rattle.std.proofs.Common.{slice_get, subst}
use Rattle.std.proofs.lemmas.Bool.{cases_lt}
use Rattle.std.specs.Option.{option_map_or}
use Rattle.std.specs.FinSet as set
use Rattle.gap_sets.specs.Ties.{name_of, with_if, spread, spread_from, IsAllowed}
use Rattle.gap_sets.specs.TieLaws.{ASetStandsForTheGapsOfItsNames, ANameIsNoGreater}
use Rattle.gap_sets.proofs.WordSets.{is_same}

-- the set has the gap where it is to have it
with_here : (v : Bool) (gap : ℕ) (s : SetOfGaps) → set.contains (with_if v gap s) gap ≡ v
with_here true gap s = set.contains-insert nat_cmp_total s gap gap ∙ (let one : eq_by_cmp nat_cmp gap gap ≡ true = grind (arith, nat_tests) in rw one refl)
with_here false gap s = set.contains-remove nat_cmp_total s gap gap ∙ (let one : eq_by_cmp nat_cmp gap gap ≡ true = grind (arith, nat_tests) in rw one refl)

-- of every other gap it stays as it is
with_there : (v : Bool) (gap : ℕ) (s : SetOfGaps) (q : ℕ) → q ≢ gap → set.contains (with_if v gap s) q ≡ set.contains s q
with_there v gap s q differ = elim (eqb_tells q gap) [ inl same ↦ absurd (differ same.1) | inr other ↦ by_test v (is_same q gap ∙ other.0) ]
  where
    by_test : (v : Bool) → eq_by_cmp nat_cmp q gap ≡ false → set.contains (with_if v gap s) q ≡ set.contains s q
    by_test true apart = set.contains-insert nat_cmp_total s gap q ∙ ap (λ w. w || set.contains s q) apart
    by_test false apart = set.contains-remove nat_cmp_total s gap q ∙ ap (λ w. not w && set.contains s q) apart

-- gaps before the list stay as they are
before : (ties : List ℕ) (names s : SetOfGaps) (at q : ℕ) → q < at → set.contains (spread_from at ties names s) q ≡ set.contains s q
before [] names s at q less = refl
before (name ∷ ties) names s at q less =
    before ties names (with_if (set.contains names (min at name)) at s) (at + 1) q (omega (arith, less))
    ∙ with_there (set.contains names (min at name)) at s q (λ is. omega (arith, is, less))

-- a gap of the list is there where its name is
from : (ties : List ℕ) (names s : SetOfGaps) (at i q : ℕ) → q ≡ at + i
    → set.contains (spread_from at ties names s) q ≡ option_map_or (λ name. set.contains names (min q name)) (slice_get ties i) (set.contains s q)
from [] names s at i q is = refl
from (name ∷ ties) names s at zero q is =
    let here : q ≡ at = omega (arith, is) in
    before ties names (with_if (set.contains names (min at name)) at s) (at + 1) q (omega (arith, is))
    ∙ subst (λ g. set.contains (with_if (set.contains names (min at name)) at s) g ≡ set.contains names (min g name)) (sym here) (with_here (set.contains names (min at name)) at s)
from (name ∷ ties) names s at (suc i) q is =
    from ties names (with_if (set.contains names (min at name)) at s) (at + 1) i q (omega (arith, is))
    ∙ ap (option_map_or (λ name. set.contains names (min q name)) (slice_get ties i)) (with_there (set.contains names (min at name)) at s q (λ same. omega (arith, same, is)))

-- a set of names stands for exactly the gaps whose name is in it
pub spread_contains : ASetStandsForTheGapsOfItsNames
spread_contains ties names gap = from ties names names 0 gap gap (omega arith) ∙ by_name (slice_get ties gap)
  where
    by_name : (o : Option ℕ) → option_map_or (λ name. set.contains names (min gap name)) o (set.contains names gap) ≡ set.contains names (option_map_or (min gap) o gap)
    by_name None = refl
    by_name (Some name) = refl

-- a name is no greater than the gap
pub no_greater : ANameIsNoGreater
no_greater ties gap = by_name (slice_get ties gap)
  where
    by_name : (o : Option ℕ) → option_map_or (min gap) o gap ≤ gap
    by_name None = omega arith
    by_name (Some name) = omega arith

-- a gap is one of the list, or its own name
pub past_the_list : (ties : List ℕ) (gap : ℕ) → (gap < length ties) ⊎ (name_of ties gap ≡ gap)
past_the_list [] gap = inr refl
past_the_list (name ∷ ties) zero = inl (omega arith)
past_the_list (name ∷ ties) (suc gap) = elim (cases_lt (suc gap) (suc (length ties))) [ inl low ↦ inl low | inr high ↦ inr (ap (λ o. option_map_or (min (suc gap)) o (suc gap)) (none_there ties gap (omega arith))) ]
  where
    none_there : (xs : List ℕ) (k : ℕ) → length xs ≤ k → slice_get xs k ≡ None
    none_there [] k high = refl
    none_there (x ∷ xs) zero high = absurd (omega arith)
    none_there (x ∷ xs) (suc k) high = none_there xs k (omega arith)
