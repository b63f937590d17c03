-- The list of a program's gaps, as it is printed.
use Rattle.std.specs.Prelude.{◌≡◌, ℕ, List, [], ◌∷◌, ◌++◌, Option, Some, None, codes, nat_lt, slice_get, if◌then◌else◌}
use Rattle.std.specs.Option.{option_map_or}
use Rattle.std.specs.List.{flat_map, range_with_len}
use Rattle.std.specs.Fmt.{decimal}
use Rattle.std.specs.FinSet as set
use Rattle.text_tokens.specs.Pieces.{text_of}
use Rattle.gap_sets.specs.Gaps.{SetOfGaps, numbers_of_set}
use Rattle.gap_sets.specs.Ties.{name_of, spread}
use Rattle.gap_sets.specs.declared.ties.TiedCosts.{TiedCosts}
use Rattle.tso_program.specs.declared.instruction.Instr.{Instr}
use Rattle.tso_program.specs.declared.listing.Thread.{Thread}
use Rattle.tso_program.specs.declared.listing.Listing.{Listing}
use Rattle.tso_program.specs.Listings.{gap_count, gap_place, instr_at}
use Rattle.litmus_reader.specs.declared.litmus.Litmus.{Litmus}
use Rattle.litmus_text.specs.Spelling.{code_pieces}
use Rattle.litmus_text.specs.Canonical.{code_named, litmus_fenced_at, own_labels}
use Rattle.gap_list.specs.declared.text_lines.TextLines.{TextLines}
use Rattle.gap_list.specs.Lines.{line_at}

-- an instruction of thread t, as it is written with no gap fenced
abbrev pub code_text : Litmus Listing → ℕ → Instr → List ℕ
code_text source t code = text_of (code_pieces (code_named source.names.locations (own_labels (litmus_fenced_at set.empty source).labels t) code))

-- instruction k of thread t
abbrev pub instruction_part : Litmus Listing → ℕ → ℕ → List ℕ
instruction_part source t k = option_map_or (code_text source t) (instr_at source.program.threads t k) []

-- ` t:k`, if the program has the gap
abbrev pub gap_part : List Thread → ℕ → List ℕ
gap_part threads gap = option_map_or (λ place. 32 ∷ decimal place.0 ++ 58 ∷ decimal place.1) (gap_place threads gap) []

-- so each gap, ascending
abbrev pub gaps_part : List Thread → SetOfGaps → List ℕ
gaps_part threads gaps = flat_map (gap_part threads) (numbers_of_set gaps)

-- the other gaps of a gap's tie
abbrev pub others_of : List ℕ → ℕ → SetOfGaps
others_of ties gap = set.remove (spread ties (set.insert set.empty (name_of ties gap))) gap

abbrev pub with_others : List Thread → SetOfGaps → List ℕ
with_others threads others = if nat_lt 0 (set.len others) then codes " with" ++ gaps_part threads others else []

abbrev pub others_part : List Thread → List ℕ → ℕ → List ℕ
others_part threads ties gap = with_others threads (others_of ties gap)

-- what a gap costs, and the other gaps of its tie, where costs are given
abbrev pub cost_part : List Thread → Option TiedCosts → ℕ → List ℕ
cost_part threads None gap = []
cost_part threads (Some costs) gap = option_map_or (λ cost. codes " cost " ++ decimal cost) (slice_get costs.costs gap) [] ++ others_part threads costs.ties gap

-- `t:k line L INSTRUCTION`, and the cost where costs are given
abbrev pub place_line : Litmus Listing → Option TiedCosts → ℕ → ℕ → ℕ × ℕ → List ℕ
place_line source costs gap line place =
    decimal place.0 ++ 58 ∷ decimal place.1 ++ codes " line " ++ decimal line ++ 32 ∷ instruction_part source place.0 place.1 ++ cost_part source.program.threads costs gap ++ 10 ∷ []

-- the line of a gap
abbrev pub gap_line : Litmus Listing → Option TiedCosts → TextLines → ℕ → List ℕ
gap_line source costs lines gap =
    option_map_or (λ place. place_line source costs gap (line_at lines place.0 place.1) place) (gap_place source.program.threads gap) []

-- the lines of all gaps, by the lines of the text in which their instructions stand
abbrev pub gap_list : Litmus Listing → Option TiedCosts → TextLines → List ℕ
gap_list source costs lines = flat_map (gap_line source costs lines) (range_with_len 0 (gap_count source.program.threads))

-- The list of the gaps; of the lines of the text that it names, nothing is said.
abbrev pub IsGapList : Litmus Listing → Option TiedCosts → List ℕ → Type 0
IsGapList source costs text = (lines : TextLines) × (text ≡ gap_list source costs lines)
