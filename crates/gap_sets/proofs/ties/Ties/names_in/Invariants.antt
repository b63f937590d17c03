-- What holds while the names of gaps are gathered.
use Rattle.gap_sets.proofs.Vocabulary.{◌≡◌, ℕ, ◌||◌, numbers_of_set}
use Rattle.std.proofs.Common.{map}
use Rattle.std.specs.FinSet as set
use Rattle.gap_sets.specs.Ties.{name_of}
use Rattle.gap_sets.proofs.Naming.{has}
use Rattle.gap_sets.proofs.ties.Ties.names_in.Given as goal

-- the names so far, and those of the gaps to come
abbrev pub invariant-loop-gap : goal.invariant-loop-gap
invariant-loop-gap l =
    (n : ℕ) → (set.contains l.names n || has (map (name_of l.self) l.gap-iterator) n) ≡ has (map (name_of l.self) (numbers_of_set l.gaps)) n
