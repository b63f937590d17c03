-- What holds of ties.
use Rattle.std.specs.Prelude.{◌≡◌, ◌↔◌, ℕ, ◌≤◌, true, List, [], ◌∷◌}
use Rattle.std.specs.FinSet as set
use Rattle.gap_sets.specs.Gaps.{SetOfGaps}
use Rattle.gap_sets.specs.Order.{HasLeastDifference, cost_of, total}
use Rattle.gap_sets.specs.Laws.{these, ones}
use Rattle.gap_sets.specs.Ties.{name_of, AreTies, spread, names_in, IsAllowed}

-- without ties a set is what it stands for, its names are its gaps, and each set is allowed
pub record WithoutTiesNothingChanges : Type 0 where
  pub name : (gap : ℕ) → name_of [] gap ≡ gap
  pub spreads : (names : SetOfGaps) → spread [] names ≡ names
  pub names : (gaps : SetOfGaps) → names_in [] gaps ≡ gaps
  pub allowed : (gaps : SetOfGaps) → IsAllowed [] gaps

-- a set of names stands for exactly the gaps whose name is in it
abbrev pub ASetStandsForTheGapsOfItsNames : Type 0
ASetStandsForTheGapsOfItsNames = (ties : List ℕ) (names : SetOfGaps) (gap : ℕ) → set.contains (spread ties names) gap ≡ set.contains names (name_of ties gap)

-- the names of a set are those of its gaps
abbrev pub TheNamesOfASetAreThoseOfItsGaps : Type 0
TheNamesOfASetAreThoseOfItsGaps = (ties : List ℕ) (gaps : SetOfGaps) (name : ℕ) →
    (set.contains (names_in ties gaps) name ≡ true) ↔ ((gap : ℕ) × (set.contains gaps gap ≡ true) × (name_of ties gap ≡ name))

-- a name is no greater than the gap
abbrev pub ANameIsNoGreater : Type 0
ANameIsNoGreater = (ties : List ℕ) (gap : ℕ) → name_of ties gap ≤ gap

-- what names stand for is allowed; and where each is the name of a tie, they are the names of what they stand for
abbrev pub WhatNamesStandForIsAllowed : Type 0
WhatNamesStandForIsAllowed = (ties : List ℕ) (names : SetOfGaps) → IsAllowed ties (spread ties names)

abbrev pub NamesAreThoseOfWhatTheyStandFor : Type 0
NamesAreThoseOfWhatTheyStandFor = (ties : List ℕ) (names : SetOfGaps) → AreTies ties → ((name : ℕ) → set.contains names name ≡ true → name_of ties name ≡ name) →
    names_in ties (spread ties names) ≡ names

-- of two allowed sets the first has the least gap of the difference exactly where this holds of their names
abbrev pub TheLeastDifferenceIsAName : Type 0
TheLeastDifferenceIsAName = (ties : List ℕ) (a b : SetOfGaps) → AreTies ties → IsAllowed ties a → IsAllowed ties b →
    HasLeastDifference a b ↔ HasLeastDifference (names_in ties a) (names_in ties b)

-- what names stand for costs no more than they do, where each of them costs at least what it stands for
abbrev pub GapsCostNoMoreThanTheirNames : Type 0
GapsCostNoMoreThanTheirNames = (ties costs tied : List ℕ) (names : SetOfGaps) →
    ((name : ℕ) → set.contains names name ≡ true → total costs (spread ties (these (name ∷ []))) ≤ cost_of tied name) →
    total costs (spread ties names) ≤ total tied names

-- the definitions on a worked example: of four gaps the first and the third are tied
pub record FirstAndThirdAreTied : Type 0 where
  pub name : name_of (0 ∷ 1 ∷ 0 ∷ []) 2 ≡ 0
  pub other_name : name_of (0 ∷ 1 ∷ 0 ∷ []) 3 ≡ 3
  pub spread_name : spread (0 ∷ 1 ∷ 0 ∷ []) (these (0 ∷ 3 ∷ [])) ≡ these (0 ∷ 2 ∷ 3 ∷ [])
  pub half : names_in (0 ∷ 1 ∷ 0 ∷ []) (these (2 ∷ [])) ≡ these (0 ∷ [])
  pub once : total ones (names_in (0 ∷ 1 ∷ 0 ∷ []) (these (0 ∷ 2 ∷ []))) ≡ 1
