use Rattle.cost_text.proofs.Vocabulary.{ℕ, List, length, PlaceDigits, ReadsPlaces}
use Rattle.cost_text.proofs.line.after_places.Given as goal

abbrev pub decreases-loop-after : goal.decreases-loop-after
decreases-loop-after l = length l.rest

-- what is read from here on is read from the beginning on
abbrev pub invariant-loop-after : goal.invariant-loop-after
invariant-loop-after l = (places : List PlaceDigits) (end : List ℕ) → ReadsPlaces l.rest places end → (all : List PlaceDigits) × ReadsPlaces l.bytes all end
