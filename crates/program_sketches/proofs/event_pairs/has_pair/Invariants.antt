use Rattle.program_sketches.proofs.Vocabulary.{◌≡◌, ℕ, ◌<◌, get_or}
use Rattle.program_sketches.proofs.event_pairs.has_pair.Given as goal

-- none of the pairs so far is this one
abbrev pub invariant-loop-pair : goal.invariant-loop-pair
invariant-loop-pair l = (k : ℕ) → k < l.pair-index → get_or l.pairs k (l.first, l.second) ≡ (l.first, l.second) → ⊥
