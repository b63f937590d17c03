use Rattle.rowless_sketches.proofs.Vocabulary.{◌≡◌, ℕ, ◌<◌, get_or, Event}
use Rattle.rowless_sketches.proofs.parts.Parts.source.Given as goal

-- none of the chosen sources so far is this read's
abbrev pub invariant-loop-chosen : goal.invariant-loop-chosen
invariant-loop-chosen l = (k : ℕ) (s : Event) → k < l.chosen-index → get_or l.chosen-items k (l.read, s) ≡ (l.read, s) → ⊥
