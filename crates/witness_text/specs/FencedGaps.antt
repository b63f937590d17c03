-- Gaps by their places.
use Rattle.std.specs.Prelude.{◌≡◌, ◌↔◌, ℕ, true, List, ◌∷◌, ◌++◌, All, Contains, Option, Some, None, IsSome}
use Rattle.std.specs.FinSet as set
use Rattle.gap_sets.specs.Gaps.{SetOfGaps}
use Rattle.tso_program.specs.declared.listing.Thread.{Thread}
use Rattle.tso_program.specs.Listings.{gap_number}

-- where a gap lies: a thread, and the instruction after the gap
abbrev pub GapPlace : Type 0
GapPlace = ℕ × ℕ

-- the number of the gap at a place, if there is one
abbrev pub gap_at_place : List Thread → GapPlace → Option ℕ
gap_at_place threads place = gap_number threads place.0 place.1

-- a gap lies at the place
abbrev pub IsGap : List Thread → GapPlace → Type 0
IsGap threads place = IsSome (gap_at_place threads place)

-- the gap of this number lies at one of the places
abbrev pub IsAtOneOf : List Thread → List GapPlace → ℕ → Type 0
IsAtOneOf threads places gap = (place : GapPlace) × Contains places place × (gap_at_place threads place ≡ Some gap)

-- a gap lies at each of the places, and the set has these gaps and no others
pub record AreGapsAt (threads : List Thread) (places : List GapPlace) (gaps : SetOfGaps) : Type 0 where
  pub each : All (IsGap threads) places
  pub exact : (gap : ℕ) → (set.contains gaps gap ≡ true) ↔ IsAtOneOf threads places gap

-- no gap lies at this one of the places, and one at each before it
pub record IsFirstWithoutGap (threads : List Thread) (places : List GapPlace) (place : GapPlace) : Type 0 where
  pub before : List GapPlace
  pub after : List GapPlace
  pub there : places ≡ before ++ place ∷ after
  pub each : All (IsGap threads) before
  pub none : gap_at_place threads place ≡ None
