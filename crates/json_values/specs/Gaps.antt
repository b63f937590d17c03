-- Gaps by their places, as JSON.
use Rattle.std.specs.Prelude.{ℕ, List, [], ◌∷◌, ◌++◌, map}
use Rattle.std.specs.Fmt.{decimal}
use Rattle.std.specs.Option.{option_map_or}
use Rattle.gap_sets.specs.Gaps.{SetOfGaps, numbers_of_set}
use Rattle.tso_program.specs.declared.listing.Thread.{Thread}
use Rattle.tso_program.specs.Listings.{gap_place}
use Rattle.json_text.specs.Texts.{quoted, array_text}

-- `t:k`
abbrev pub place_name : ℕ × ℕ → List ℕ
place_name place = decimal place.0 ++ 58 ∷ decimal place.1

-- the gap of this number by its place
abbrev pub gap_name : List Thread → ℕ → List ℕ
gap_name threads gap = option_map_or place_name (gap_place threads gap) []

abbrev pub quoted_gap : List Thread → ℕ → List ℕ
quoted_gap threads gap = quoted (gap_name threads gap)

-- gaps by their places, ascending
abbrev pub gaps_array : List Thread → SetOfGaps → List ℕ
gaps_array threads gaps = array_text (map (quoted_gap threads) (numbers_of_set gaps))
