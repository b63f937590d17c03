-- Where the gaps of a program lie.
use Rattle.std.specs.Prelude.{◌≡◌, ◌↔◌, ℕ, List, [], ◌∷◌, ◌++◌, Some}
use Rattle.std.specs.Option.{option_map_or}
use Rattle.std.specs.List.{flat_map}
use Rattle.std.specs.Fmt.{decimal}
use Rattle.gap_sets.specs.Gaps.{SetOfGaps, numbers_of_set}
use Rattle.tso_program.specs.declared.listing.Thread.{Thread}
use Rattle.tso_program.specs.Listings.{gap_number, gap_place}

-- a place as it is printed: ` t:k`
abbrev pub place_text : ℕ × ℕ → List ℕ
place_text place = 32 ∷ decimal place.0 ++ 58 ∷ decimal place.1

-- the gap of this number as it is printed
abbrev pub gap_text : List Thread → ℕ → List ℕ
gap_text threads gap = option_map_or place_text (gap_place threads gap) []

-- gaps as they are printed, ascending
abbrev pub gaps_text : List Thread → SetOfGaps → List ℕ
gaps_text threads gaps = flat_map (gap_text threads) (numbers_of_set gaps)

-- a gap is printed with the thread and the instruction of its number
abbrev pub PrintedPlacesAreTheGaps : Type 0
PrintedPlacesAreTheGaps = (threads : List Thread) (gap t k : ℕ) → (gap_place threads gap ≡ Some (t, k)) ↔ (gap_number threads t k ≡ Some gap)
