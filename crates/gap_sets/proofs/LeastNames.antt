-- Of two allowed sets the first has the least gap of the difference exactly where this holds of their names.
use Rattle.gap_sets.proofs.Vocabulary.{◌≡◌, ◌≢◌, ℕ, inl, inr, true, false, List, sym, ap, ◌∙◌, arith, eqb_tells, false_from_ne_true, SetOfGaps, HasLeastDifference}
use Rattle.std.specs.FinSet as set
use Rattle.gap_sets.specs.Ties.{name_of, names_in, AreTies, IsAllowed}
use Rattle.gap_sets.specs.TieLaws.{TheLeastDifferenceIsAName}
use Rattle.gap_sets.proofs.{Spreading.spread_contains, Spreading.no_greater, Naming.names_contain, Allowed.named_by_itself}

module _ (ties : List ℕ) (are : AreTies ties) where
  -- an allowed set has a gap exactly where its names have the gap's
  by_name : (a : SetOfGaps) → IsAllowed ties a → (gap : ℕ) → set.contains a gap ≡ set.contains (names_in ties a) (name_of ties gap)
  by_name a allowed gap = ap (λ (s : SetOfGaps). set.contains s gap) (sym allowed) ∙ spread_contains ties (names_in ties a) gap

  -- each name names itself
  is_own : (a : SetOfGaps) (name : ℕ) → set.contains (names_in ties a) name ≡ true → name_of ties name ≡ name
  is_own a name held = let (gap, there, is) = (names_contain ties a name).0 held in ap (name_of ties) (sym is) ∙ named_by_itself ties are gap ∙ is

  -- and is in the set
  own_name : (a : SetOfGaps) → IsAllowed ties a → (name : ℕ) → name_of ties name ≡ name → set.contains a name ≡ set.contains (names_in ties a) name
  own_name a allowed name own = by_name a allowed name ∙ ap (set.contains (names_in ties a)) own

  no_name : (a : SetOfGaps) (gap : ℕ) → name_of ties gap ≢ gap → set.contains (names_in ties a) gap ≡ false
  no_name a gap differs = false_from_ne_true (set.contains (names_in ties a) gap) (λ held. differs (is_own a gap held))

  -- sets that are alike at a gap have names that are
  alike_names : (a b : SetOfGaps) → IsAllowed ties a → IsAllowed ties b → (gap : ℕ) → set.contains a gap ≡ set.contains b gap → set.contains (names_in ties a) gap ≡ set.contains (names_in ties b) gap
  alike_names a b first second gap same = elim (eqb_tells (name_of ties gap) gap) [
    | inl own ↦ sym (own_name a first gap own.1) ∙ same ∙ own_name b second gap own.1
    | inr other ↦ no_name a gap other.1 ∙ sym (no_name b gap other.1)
  ]

  down : (a b : SetOfGaps) → IsAllowed ties a → IsAllowed ties b → HasLeastDifference a b → HasLeastDifference (names_in ties a) (names_in ties b)
  down a b first second d = record {
    gap = name_of ties d.gap;
    in_first = sym (by_name a first d.gap) ∙ d.in_first;
    not_in_second = sym (by_name b second d.gap) ∙ d.not_in_second;
    alike_below = λ k less. alike_names a b first second k (d.alike_below k (omega (arith, less, no_greater ties d.gap)));
  }

  up : (a b : SetOfGaps) → IsAllowed ties a → IsAllowed ties b → HasLeastDifference (names_in ties a) (names_in ties b) → HasLeastDifference a b
  up a b first second d =
      let own = is_own a d.gap d.in_first in
      record {
        gap = d.gap;
        in_first = own_name a first d.gap own ∙ d.in_first;
        not_in_second = own_name b second d.gap own ∙ d.not_in_second;
        alike_below = λ k less. by_name a first k ∙ d.alike_below (name_of ties k) (omega (arith, less, no_greater ties k)) ∙ sym (by_name b second k);
      }

-- both ways
pub least_difference : TheLeastDifferenceIsAName
least_difference ties a b are first second = (down ties are a b first second, up ties are a b first second)
