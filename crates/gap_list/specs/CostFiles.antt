-- The cost file of all gaps of a program.
use Rattle.std.specs.Prelude.{ℕ, ◌==◌, List, [], ◌∷◌, ◌++◌, map, slice_get, if◌then◌else◌}
use Rattle.std.specs.Option.{option_map_or}
use Rattle.std.specs.List.{flat_map, list_all, range_with_len}
use Rattle.std.specs.Fmt.{decimal}
use Rattle.std.specs.FinSet as set
use Rattle.gap_sets.specs.Gaps.{SetOfGaps, numbers_of_set}
use Rattle.gap_sets.specs.Order.{cost_of}
use Rattle.gap_sets.specs.Ties.{name_of, spread}
use Rattle.gap_sets.specs.declared.ties.TiedCosts.{TiedCosts}
use Rattle.tso_program.specs.declared.listing.Thread.{Thread}
use Rattle.tso_program.specs.Listings.{gap_count, gap_place}

-- `t:k `
abbrev pub place_and_blank : ℕ × ℕ → List ℕ
place_and_blank place = decimal place.0 ++ 58 ∷ decimal place.1 ++ 32 ∷ []

-- the place of a gap, if the program has it
abbrev pub gap_and_blank : List Thread → ℕ → List ℕ
gap_and_blank threads gap = option_map_or place_and_blank (gap_place threads gap) []

-- the places of gaps, ascending
abbrev pub places_text : List Thread → SetOfGaps → List ℕ
places_text threads gaps = flat_map (gap_and_blank threads) (numbers_of_set gaps)

-- the line of the tie that the gap of this number names: its gaps, and what it costs
abbrev pub tie_text : List Thread → TiedCosts → ℕ → List ℕ
tie_text threads costs gap =
    option_map_or (λ cost. places_text threads (spread costs.ties (set.insert set.empty gap)) ++ decimal cost ++ 10 ∷ []) (slice_get costs.costs gap) []

-- where it names one
abbrev pub entry_text : List Thread → TiedCosts → ℕ → List ℕ
entry_text threads costs gap = if name_of costs.ties gap == gap then tie_text threads costs gap else []

-- a line for each tie
abbrev pub cost_file_text : List Thread → TiedCosts → List ℕ
cost_file_text threads costs = flat_map (entry_text threads costs) (range_with_len 0 (gap_count threads))

-- ---- how the file is read

-- what a gap costs: as much as the least gap of its tie
abbrev pub cost_read : TiedCosts → ℕ → ℕ
cost_read costs gap = cost_of costs.costs (name_of costs.ties gap)

-- the names of so many gaps; none where each gap is a tie of its own
abbrev pub ties_read : ℕ → List ℕ → List ℕ
ties_read gaps ties = if list_all (λ gap. name_of ties gap == gap) (range_with_len 0 gaps) then [] else map (name_of ties) (range_with_len 0 gaps)

-- the costs and ties of so many gaps, as a cost file says them
abbrev pub as_read : ℕ → TiedCosts → TiedCosts
as_read gaps costs = record { costs = map (cost_read costs) (range_with_len 0 gaps); ties = ties_read gaps costs.ties }
