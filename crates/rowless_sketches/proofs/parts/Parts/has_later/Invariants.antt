use Rattle.rowless_sketches.proofs.Vocabulary.{◌≡◌, ℕ, ◌<◌, get_or, Event}
use Rattle.rowless_sketches.proofs.parts.Parts.has_later.Given as goal

-- none of the chosen pairs so far puts a write after this one
abbrev pub invariant-loop-pair : goal.invariant-loop-pair
invariant-loop-pair l = (k : ℕ) (d : Event) → k < l.pair-index → get_or l.pair-items k (l.event, d) ≡ (l.event, d) → ⊥
