use Rattle.rowless_sketches.proofs.Vocabulary.{◌≡◌, ℕ, ◌<◌, ◌==◌, At, IsLastWith}
use Rattle.rowless_sketches.proofs.parts.Parts.may_be_by.Given as goal

-- none of the accesses so far does
abbrev pub invariant-loop-i : goal.invariant-loop-i
invariant-loop-i l = (k : ℕ) → k < l.i → ((w : ℕ) × IsLastWith l.self l.location w (At l.t k) × ((w == l.value) ≡ l.is)) → ⊥
