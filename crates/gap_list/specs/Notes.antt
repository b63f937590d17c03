-- The lines of the gaps of a set, as a terminal shows them.
use Rattle.std.specs.Prelude.{◌≡◌, ℕ, List, [], ◌∷◌, ◌++◌, codes, if◌then◌else◌}
use Rattle.std.specs.Option.{option_map_or}
use Rattle.std.specs.List.{flat_map, range_with_len}
use Rattle.std.specs.Fmt.{decimal}
use Rattle.std.specs.FinSet as set
use Rattle.gap_sets.specs.Gaps.{SetOfGaps}
use Rattle.tso_program.specs.declared.listing.Listing.{Listing}
use Rattle.tso_program.specs.Listings.{gap_count, gap_place}
use Rattle.litmus_reader.specs.declared.litmus.Litmus.{Litmus}
use Rattle.gap_list.specs.declared.text_lines.TextLines.{TextLines}
use Rattle.gap_list.specs.Lines.{line_at}
use Rattle.gap_list.specs.Lists.{instruction_part}

-- `t:k line L, before INSTRUCTION`
abbrev pub place_note : Litmus Listing → ℕ → ℕ × ℕ → List ℕ
place_note source line place =
    decimal place.0 ++ 58 ∷ decimal place.1 ++ codes " line " ++ decimal line ++ codes ", before " ++ instruction_part source place.0 place.1 ++ 10 ∷ []

-- the line of a gap, where it is in the set
abbrev pub note_part : Litmus Listing → SetOfGaps → TextLines → ℕ → List ℕ
note_part source gaps lines gap =
    if set.contains gaps gap then option_map_or (λ place. place_note source (line_at lines place.0 place.1) place) (gap_place source.program.threads gap) [] else []

-- the lines of the set's gaps, ascending, by the lines of the text in which their instructions stand
abbrev pub fence_notes : Litmus Listing → SetOfGaps → TextLines → List ℕ
fence_notes source gaps lines = flat_map (note_part source gaps lines) (range_with_len 0 (gap_count source.program.threads))

-- The lines of the set's gaps; of the lines of the text that they name, nothing is said.
abbrev pub AreFenceNotes : Litmus Listing → SetOfGaps → List ℕ → Type 0
AreFenceNotes source gaps text = (lines : TextLines) × (text ≡ fence_notes source gaps lines)
