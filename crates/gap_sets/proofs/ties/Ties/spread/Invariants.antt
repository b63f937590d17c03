-- What holds while the gaps of names are gathered.
use Rattle.gap_sets.proofs.Vocabulary.{◌≡◌, ℕ}
use Rattle.std.proofs.Common.{drop, length}
use Rattle.gap_sets.specs.Ties.{spread, spread_from}
use Rattle.gap_sets.proofs.ties.Ties.spread.Given as goal

-- from here on what is left of the list makes the set
abbrev pub invariant-loop-gap : goal.invariant-loop-gap
invariant-loop-gap l = spread_from l.gap (drop l.gap l.name-items) l.names l.gaps ≡ spread l.name-items l.names
