-- Ties: sets of gaps that are fenced together or not at all (this project's own; docs/definitions.md).
use Rattle.std.specs.Prelude.{◌≡◌, ℕ, ◌+◌, ◌≤◌, min, Bool, true, false, List, [], ◌∷◌, Some, slice_get, length, map}
use Rattle.std.specs.Option.{option_map_or}
use Rattle.std.specs.FinSet as set
use Rattle.gap_sets.specs.Gaps.{SetOfGaps}
use Rattle.gap_sets.specs.declared.gap_set.TheConstants.{MAX_GAPS}

-- A tie is named by its least gap, and a list has the name of each gap's tie. A gap past the list is a tie of its own, so without a list each gap is.

-- the name of a gap's tie: what the list has, where that is no greater than the gap
abbrev pub name_of : List ℕ → ℕ → ℕ
name_of ties gap = option_map_or (min gap) (slice_get ties gap) gap

-- the list names each of its gaps by a gap that is no greater, and that names itself
pub record AreTies (ties : List ℕ) : Type 0 where
  pub few : length ties ≤ MAX_GAPS
  pub least : (gap name : ℕ) → slice_get ties gap ≡ Some name → (name ≤ gap) × (slice_get ties name ≡ Some name)

-- the set with the gap, or without it
abbrev pub with_if : Bool → ℕ → SetOfGaps → SetOfGaps
with_if true gap s = set.insert s gap
with_if false gap s = set.remove s gap

-- from this gap on each gap of the list is in the set exactly where its name is among the names
abbrev pub spread_from : ℕ → List ℕ → SetOfGaps → SetOfGaps → SetOfGaps
spread_from gap [] names s = s
spread_from gap (name ∷ ties) names s = spread_from (gap + 1) ties names (with_if (set.contains names (min gap name)) gap s)

-- the gaps of the ties with these names
abbrev pub spread : List ℕ → SetOfGaps → SetOfGaps
spread ties names = spread_from 0 ties names names

-- the names of the ties of these gaps
abbrev pub names_in : List ℕ → SetOfGaps → SetOfGaps
names_in ties gaps = set.from_list (map (name_of ties) (set.items gaps))

-- the set has of each tie all gaps or none
abbrev pub IsAllowed : List ℕ → SetOfGaps → Type 0
IsAllowed ties gaps = spread ties (names_in ties gaps) ≡ gaps
