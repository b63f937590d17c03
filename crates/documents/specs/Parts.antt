-- What documents say of programs and answers.
use Rattle.std.specs.Prelude.{◌≡◌, ℕ, Bool, true, false, List, [], ◌∷◌, ◌++◌, codes, length, map, nat_lt, slice_index}
use Rattle.std.specs.Fmt.{decimal}
use Rattle.std.specs.List.{filter, range_with_len}
use Rattle.std.specs.Option.{option_map_or}
use Rattle.gap_sets.specs.Gaps.{SetOfGaps}
use Rattle.gap_sets.specs.Order.{total}
use Rattle.gap_sets.specs.Ties.{names_in, spread}
use Rattle.gap_sets.specs.declared.ties.TiedCosts.{TiedCosts}
use Rattle.std.specs.FinSet as set
use Rattle.tso_program.specs.declared.listing.Listing.{Listing}
use Rattle.tso_program.specs.declared.listing.Thread.{Thread}
use Rattle.tso_program.specs.declared.shown.Shown.{Shown, TheVariants.All, TheVariants.Only, TheVariants.Truth}
use Rattle.tso_program.specs.Listings.{gap_count, gap_place}
use Rattle.report.specs.Litmus.{Litmus}
use Rattle.gap_list.specs.declared.text_lines.TextLines.{TextLines}
use Rattle.gap_list.specs.Lines.{line_at}
use Rattle.json_text.specs.Texts.{quoted, array_text, member, object_text, truth_text}
use Rattle.json_text.specs.Values.{IsJson}
use Rattle.json_values.specs.Gaps.{gaps_array, quoted_gap}

-- ---- the answer

-- the line of the text in which the instruction after a gap stands
abbrev pub gap_line : TextLines → List Thread → ℕ → ℕ
gap_line lines threads gap = option_map_or (λ place. line_at lines place.0 place.1) (gap_place threads gap) 0

-- a gap with what it costs, and its line
abbrev pub gap_value : List Thread → TextLines → ℕ → ℕ → List ℕ
gap_value threads lines gap cost =
    object_text (member (codes "gap") (quoted_gap threads gap) ∷ member (codes "cost") (decimal cost) ∷ member (codes "line") (decimal (gap_line lines threads gap)) ∷ [])

-- each gap, ascending
abbrev pub costs_array : List Thread → TextLines → List ℕ → List ℕ
costs_array threads lines costs = array_text (map (λ gap. gap_value threads lines gap (slice_index costs gap)) (range_with_len 0 (length costs)))

-- whether values that are named tell outcomes apart
abbrev pub is_observed : Shown → Bool
is_observed All = false
is_observed (Only names) = true
is_observed (Truth f) = false

-- that the truth of the condition's formula tells outcomes apart, where it does
abbrev pub condition_members : Shown → List (List ℕ)
condition_members All = []
condition_members (Only names) = []
condition_members (Truth f) = member (codes "condition") (truth_text true) ∷ []

-- the set, what it costs, a tie once, and what tells outcomes apart, where not all does
abbrev pub set_members : Listing → Shown → TiedCosts → SetOfGaps → List (List ℕ)
set_members p shown costs gaps =
    member (codes "set") (gaps_array p.threads gaps) ∷ member (codes "cost") (decimal (total costs.costs (names_in costs.ties gaps))) ∷ member (codes "observed") (truth_text (is_observed shown)) ∷ condition_members shown

-- what tells outcomes apart, in one word
abbrev pub compared : Shown → List ℕ
compared All = codes "all"
compared (Only names) = codes "observed"
compared (Truth f) = codes "condition"

abbrev pub compares_member : Shown → List ℕ
compares_member shown = member (codes "compares") (quoted (compared shown))

abbrev pub answer_value : Listing → Shown → TiedCosts → SetOfGaps → List ℕ
answer_value p shown costs gaps = object_text (set_members p shown costs gaps ++ compares_member shown ∷ [])

-- the gaps of each tie of several gaps, by their places
abbrev pub ties_array : List Thread → List ℕ → List ℕ
ties_array threads ties =
    array_text (map (gaps_array threads) (filter (λ tie. nat_lt 1 (set.len tie)) (map (λ name. spread ties (set.insert set.empty name)) (range_with_len 0 (gap_count threads)))))

-- which gaps go together, where some do
abbrev pub tie_members : List Thread → List ℕ → List (List ℕ)
tie_members threads [] = []
tie_members threads (name ∷ ties) = member (codes "ties") (ties_array threads (name ∷ ties)) ∷ []

abbrev pub answer_members : Listing → TextLines → Shown → TiedCosts → SetOfGaps → List (List ℕ)
answer_members p lines shown costs gaps =
    member (codes "gaps") (costs_array p.threads lines costs.costs) ∷ member (codes "answer") (answer_value p shown costs gaps) ∷ tie_members p.threads costs.ties

-- ---- the program

-- what is said of a program
pub record ProgramPart : Type 0 where
  pub test : List ℕ
  pub condition : List ℕ
  pub locations : List ℕ
  pub registers : List ℕ
  pub initial : List ℕ
  pub threads : List ℕ

abbrev pub program_members : ProgramPart → List (List ℕ)
program_members part =
    member (codes "test") part.test ∷ member (codes "condition") part.condition ∷ member (codes "locations") part.locations
    ∷ member (codes "registers") part.registers ∷ member (codes "initial") part.initial ∷ member (codes "threads") part.threads ∷ []

-- the test's name is that of the text, the locations are its locations, by number, and the rest is JSON
pub record IsProgram (source : Litmus Listing) (part : ProgramPart) : Type 0 where
  pub test : part.test ≡ quoted source.name
  pub condition : IsJson part.condition
  pub locations : part.locations ≡ array_text (map quoted source.names.locations)
  pub registers : IsJson part.registers
  pub initial : IsJson part.initial
  pub threads : IsJson part.threads

-- the second members are the first and those of a program
pub record TellsProgram (source : Litmus Listing) (before after : List (List ℕ)) : Type 0 where
  pub part : ProgramPart
  pub is : IsProgram source part
  pub added : after ≡ before ++ program_members part
