-- Where a node stands in the record of a search: a walk from the root, at each split to the child of the first gap that the node's sets must have.
use Rattle.std.specs.Prelude.{◌≡◌, ℕ, ◌+◌, List, Option, Some, None, slice_get}
use Rattle.std.specs.Option.{option_map}
use Rattle.std.specs.List.{position_from}
use Rattle.std.specs.FinSet as set
use Rattle.gap_sets.specs.Gaps.{SetOfGaps}
use Rattle.gap_sets.specs.Regions.{open_gaps}
use Rattle.gap_sets.specs.declared.region.Region.{Region}
use Rattle.search_core.specs.declared.entry.Entry.{Entry}
use Rattle.search_core.specs.declared.entry.Status.{Status, TheVariants.Split}

-- which of the gaps that the run passes and the sets may have is the first one that they must have
abbrev pub number_of_child : SetOfGaps → SetOfGaps → SetOfGaps → Option ℕ
number_of_child passed never must = position_from (set.contains must) 0 (open_gaps passed never)

-- the place of the child of the first gap that the node's sets must have
abbrev pub child_by : Status → SetOfGaps → SetOfGaps → Option ℕ
child_by (Split run first) never must = option_map (λ number. first + number) (number_of_child run.passed never must)
child_by status never must = None

abbrev pub child_in : Option Entry → Region → Option ℕ
child_in None n = None
child_in (Some e) n = child_by e.status e.node.never n.must

abbrev pub child_of : List Entry → ℕ → Region → Option ℕ
child_of entries place n = child_in (slice_get entries place) n

-- the walk leads from one place to another, where it ends
pub data WalkLeads (entries : List Entry) (n : Region) : ℕ → ℕ → Type 0 where
  ends : (place : ℕ) → child_of entries place n ≡ None → WalkLeads entries n place place
  goes : (place child end : ℕ) → child_of entries place n ≡ Some child → WalkLeads entries n child end → WalkLeads entries n place end

-- the node stands at no other place
abbrev pub StandsOnlyAt : List Entry → Region → ℕ → Type 0
StandsOnlyAt entries n place = (p : ℕ) (e : Entry) → slice_get entries p ≡ Some e → e.node ≡ n → p ≡ place
