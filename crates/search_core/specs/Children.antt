-- The children of a node that is split.
use Rattle.std.specs.Prelude.{List}
use Rattle.gap_sets.specs.Gaps.{SetOfGaps}
use Rattle.gap_sets.specs.Regions.{child_regions, open_gaps}
use Rattle.gap_sets.specs.declared.region.Region.{Region}

-- the regions of a node's children, where it is split by a run that passes these gaps: for each that the sets may have, those that have it and none of the earlier ones
abbrev pub children : Region → SetOfGaps → List Region
children n passed = child_regions n (open_gaps passed n.never)
