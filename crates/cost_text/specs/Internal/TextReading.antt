-- How the lines of a cost file are read.
use Rattle.std.specs.Prelude.{◌≡◌, ◌≢◌, ◌==◌, ◌≤◌, ◌||◌, ℕ, Bool, true, false, min, List, [], ◌∷◌, ◌++◌, Contains, map, find, nat_le, Option, None, is_some, Result, Ok, Err, if◌then◌else◌}
use Rattle.std.specs.List.{list_all, range_with_len, AllPairs}
use Rattle.std.specs.Option.{option_map_or}
use Rattle.std.specs.FinSet as set
use Rattle.gap_sets.specs.declared.costs.CostFault.{CostFault, TheVariants.Zero, TheVariants.TooLarge}
use Rattle.gap_sets.specs.CostLists.{IsCostList}
use Rattle.tso_program.specs.declared.listing.Thread.{Thread}
use Rattle.tso_program.specs.Listings.{gap_count, gap_number}
use Rattle.cost_text.specs.declared.line.PlaceText.{PlaceText}
use Rattle.cost_text.specs.declared.line.CostLine.{CostLine}
use Rattle.cost_text.specs.declared.entry.CostEntry.{CostEntry}
use Rattle.cost_text.specs.declared.entry.PlacedGaps.{PlacedGaps}
use Rattle.cost_text.specs.CostLines.{Place}
use Rattle.cost_text.specs.CostTexts.{Entry, AreAt, IsCostEntry, GiveCosts, NoGapTwice, gaps_of, least_of, costs_of}
use Rattle.cost_text.specs.Internal.LineReading.{PlaceDigits, LineDigits, ReadsLine, after_line_spaces}

-- ---- lines

-- the digits of a place, without where they lie in memory
abbrev pub digits_of : PlaceText → PlaceDigits
digits_of place = record { thread = place.thread.now; instruction = place.instruction.now }

-- the places of the line begin the text, and these are the digits of its cost
pub record IsLineOf (line : List ℕ) (said : CostLine) : Type 0 where
  pub digits : LineDigits
  pub reads : ReadsLine line digits
  pub places : said.places.now ≡ after_line_spaces line
  pub cost : said.cost.now ≡ digits.cost

-- what a gap may cost, or why it may not cost that
abbrev pub cost_or_fault : ℕ → ℕ → Result ℕ CostFault
cost_or_fault gap cost = if nat_le cost 1000000 then (if cost == 0 then Err (Zero gap) else Ok cost) else Err (TooLarge gap)

-- ---- entries as they are kept

-- an entry as it is kept: the set of its gaps, and its name
abbrev pub kept : Entry → CostEntry
kept e = record { gaps = set.from_list e.gaps; name = least_of e.gaps 255; cost = e.cost }

-- the entry of a gap
abbrev pub entry_at : List CostEntry → ℕ → Option CostEntry
entry_at entries gap = find (λ e. set.contains e.gaps gap) entries

-- what a gap costs
abbrev pub cost_in : List CostEntry → ℕ → ℕ
cost_in entries gap = option_map_or (λ e. e.cost) (entry_at entries gap) 1

-- the name of a gap
abbrev pub name_in : List CostEntry → ℕ → ℕ
name_in entries gap = option_map_or (λ e. e.name) (entry_at entries gap) gap

-- the names of so many gaps
abbrev pub names_in : ℕ → List CostEntry → List ℕ
names_in gaps entries = map (name_in entries) (range_with_len 0 gaps)

-- whether each of so many gaps is its own name
abbrev pub has_no_ties : ℕ → List CostEntry → Bool
has_no_ties gaps entries = list_all (λ gap. name_in entries gap == gap) (range_with_len 0 gaps)

-- ---- the gaps of a line

-- no gap
abbrev pub no_gaps : PlacedGaps
no_gaps = record { gaps = set.empty; name = 255; is_repeated = false }

-- one more gap of a line that comes after these entries
abbrev pub with_gap : List CostEntry → PlacedGaps → ℕ → PlacedGaps
with_gap entries placed gap = record {
  gaps = set.insert placed.gaps gap;
  name = min gap placed.name;
  is_repeated = placed.is_repeated || (set.contains placed.gaps gap || is_some (entry_at entries gap));
}

-- these gaps of a line, after these entries
pub record ArePlaced (entries : List Entry) (gaps : List ℕ) (placed : PlacedGaps) : Type 0 where
  pub gaps_are : placed.gaps ≡ set.from_list gaps
  pub name_is : placed.name ≡ least_of gaps 255
  pub once : placed.is_repeated ≡ false → AllPairs (λ a b. a ≢ b) (gaps_of entries ++ gaps)
  pub twice : placed.is_repeated ≡ true → AllPairs (λ a b. a ≢ b) (gaps_of entries ++ gaps) → ⊥

-- the gaps at these places, whatever entries are kept
pub record AreGathered (threads : List Thread) (table : List CostEntry) (places : List Place) (placed : PlacedGaps) : Type 0 where
  pub gaps : List ℕ
  pub at : AreAt threads places gaps
  pub are : (entries : List Entry) → table ≡ map kept entries → NoGapTwice entries → ArePlaced entries gaps placed

-- at one of these places no gap is
pub record LacksGap (threads : List Thread) (places : List Place) : Type 0 where
  pub place : Place
  pub named : Contains places place
  pub no_gap : gap_number threads place.thread place.instruction ≡ None

-- ---- the table of the lines so far

-- these entries are kept: none names a gap twice, and they are within the limits
pub record IsCostTable (threads : List Thread) (entries : List Entry) (table : List CostEntry) : Type 0 where
  pub table_is : table ≡ map kept entries
  pub once : NoGapTwice entries
  pub within : IsCostList (costs_of (gap_count threads) entries)

-- an entry of gaps that no entry names yet, within the limits
pub record IsNewEntry (threads : List Thread) (entries : List Entry) (line : List ℕ) (found : CostEntry) : Type 0 where
  pub entry : Entry
  pub is : IsCostEntry threads line entry
  pub found_is : found ≡ kept entry
  pub new : NoGapTwice (entries ++ entry ∷ [])
  pub some : 1 ≤ entry.cost
  pub within : entry.cost ≤ 1000000

-- the table has what the lines say
pub record IsTableOfLines (threads : List Thread) (lines : List (List ℕ)) (table : List CostEntry) : Type 0 where
  pub entries : List Entry
  pub given : GiveCosts threads lines entries
  pub table_is : table ≡ map kept entries
