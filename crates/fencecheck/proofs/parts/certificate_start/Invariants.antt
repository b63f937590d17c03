use Rattle.fencecheck.proofs.Vocabulary.{◌<◌, ℕ, StartsAt}
use Rattle.fencecheck.proofs.parts.certificate_start.Given as goal

-- no certificate starts before this place
abbrev pub invariant-loop-place : goal.invariant-loop-place
invariant-loop-place l = (earlier : ℕ) → earlier < l.place → StartsAt l.bytes earlier → ⊥
