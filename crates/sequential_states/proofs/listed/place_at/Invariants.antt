use Rattle.sequential_states.proofs.Vocabulary.{ℕ, ◌<◌, IsPlaceAt}
use Rattle.sequential_states.proofs.listed.place_at.Given as goal

-- it is none of the places so far
abbrev pub invariant-loop-place : goal.invariant-loop-place
invariant-loop-place l = (place : ℕ) → place < l.place → IsPlaceAt l.listed l.t l.k place → ⊥
