-- Sets that have of each tie all gaps or none, and the names of what names stand for.
use Rattle.gap_sets.proofs.Vocabulary.{◌≡◌, ◌≢◌, ℕ, ◌≤◌, inl, inr, true, not, ◌&&◌, List, Option, Some, None, min, refl, sym, ap, ◌∙◌, arith, nat_cmp, nat_cmp_total, eqb_tells, SetOfGaps}
use Rattle.std.proofs.Common.{slice_get}
use Rattle.std.specs.Option.{option_map_or}
use Rattle.std.specs.FinSet as set
use Rattle.gap_sets.specs.Ties.{name_of, spread, names_in, AreTies}
use Rattle.gap_sets.specs.TieLaws.{WhatNamesStandForIsAllowed, NamesAreThoseOfWhatTheyStandFor}
use Rattle.gap_sets.specs.SameGaps.{alike}
use Rattle.gap_sets.proofs.{WordSets.is_same, Spreading.spread_contains, Naming.names_contain}

-- what names stand for is allowed
pub spread_allowed : WhatNamesStandForIsAllowed
spread_allowed ties names = set.same_set nat_cmp_total set.nat_cmp-IsAntisymmetric (spread ties (names_in ties gaps)) gaps
    (λ gap. spread_contains ties (names_in ties gaps) gap ∙ alike _ _ (there gap) (λ held. (names_contain ties gaps (name_of ties gap)).1 (gap, held, refl)))
  where
    gaps : SetOfGaps
    gaps = spread ties names

    there : (gap : ℕ) → set.contains (names_in ties gaps) (name_of ties gap) ≡ true → set.contains gaps gap ≡ true
    there gap held =
        let (other, in_gaps, same) = (names_contain ties gaps (name_of ties gap)).0 held in
        spread_contains ties names gap ∙ ap (set.contains names) (sym same) ∙ sym (spread_contains ties names other) ∙ in_gaps

-- names of ties are the names of what they stand for
pub names_of_spread : NamesAreThoseOfWhatTheyStandFor
names_of_spread ties names are each = set.same_set nat_cmp_total set.nat_cmp-IsAntisymmetric (names_in ties (spread ties names)) names
    (λ name. alike _ _ (there name) (λ held. (names_contain ties (spread ties names) name).1 (name, spread_contains ties names name ∙ ap (set.contains names) (each name held) ∙ held, each name held)))
  where
    there : (name : ℕ) → set.contains (names_in ties (spread ties names)) name ≡ true → set.contains names name ≡ true
    there name held =
        let (gap, in_gaps, same) = (names_contain ties (spread ties names) name).0 held in
        ap (set.contains names) (sym same) ∙ sym (spread_contains ties names gap) ∙ in_gaps

-- a name names itself
pub named_by_itself : (ties : List ℕ) → AreTies ties → (gap : ℕ) → name_of ties (name_of ties gap) ≡ name_of ties gap
named_by_itself ties are gap = by_name (slice_get ties gap) refl
  where
    listed : (at name : ℕ) → slice_get ties at ≡ Some name → name ≤ at → name_of ties at ≡ name
    listed at name is low = let least : min at name ≡ name = omega arith in ap (λ o. option_map_or (min at) o at) is ∙ least

    by_name : (o : Option ℕ) → slice_get ties gap ≡ o → name_of ties (name_of ties gap) ≡ name_of ties gap
    by_name None is = let own : name_of ties gap ≡ gap = ap (λ o. option_map_or (min gap) o gap) is in ap (name_of ties) own
    by_name (Some name) is =
        let (low, itself) = are.least gap name is in
        let own : name_of ties gap ≡ name = listed gap name is low in
        ap (name_of ties) own ∙ listed name name itself (omega arith) ∙ sym own

-- a number that names no tie stands for nothing
pub stands_for_nothing : (ties : List ℕ) → AreTies ties → (names : SetOfGaps) (gap : ℕ) → name_of ties gap ≢ gap → spread ties (set.remove names gap) ≡ spread ties names
stands_for_nothing ties are names gap differs = set.same_set nat_cmp_total set.nat_cmp-IsAntisymmetric (spread ties (set.remove names gap)) (spread ties names)
    (λ other. spread_contains ties (set.remove names gap) other ∙ beside (name_of ties other) (named_by_itself ties are other) ∙ sym (spread_contains ties names other))
  where
    beside : (name : ℕ) → name_of ties name ≡ name → set.contains (set.remove names gap) name ≡ set.contains names name
    beside name itself = elim (eqb_tells name gap) [
      | inl same ↦ (let is : name ≡ gap = same.1 in absurd (differs (ap (name_of ties) (sym is) ∙ itself ∙ is)))
      | inr other ↦ set.contains-remove nat_cmp_total names gap name ∙ ap (λ b. not b && set.contains names name) (is_same name gap ∙ other.0)
    ]
