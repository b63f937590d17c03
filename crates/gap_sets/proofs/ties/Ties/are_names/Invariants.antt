-- What holds while names are looked at.
use Rattle.gap_sets.proofs.Vocabulary.{◌≡◌, ◌<◌, ◌≤◌, ℕ}
use Rattle.std.proofs.Common.{Some, slice_get, length}
use Rattle.gap_sets.proofs.ties.Ties.are_names.Given as goal

-- the names before this gap are those of ties
abbrev pub invariant-loop-gap : goal.invariant-loop-gap
invariant-loop-gap l = (gap name : ℕ) → gap < l.gap → slice_get l.names gap ≡ Some name → (name ≤ gap) × (slice_get l.names name ≡ Some name)
